use Rattle.std.proofs.Common.{◌≡◌, true, Some, sym, subst, ◌∙◌}
use Rattle.std.specs.Prelude.{nat_lt}
use Rattle.std.proofs.lemmas.Bool.{lt-ltb}
use Rattle.nop_types.specs.declared.limits.TheConstants.{WINDOW}
use Rattle.nop_types.specs.Tables.{Account, is_new_to}
use Rattle.client_table.proofs.AccountLemmas.{above_is_new}
use Rattle.client_table.proofs.account.Account.is_new.Goals as goal

pub returns-then-id-self : goal.returns-then-id-self
returns-then-id-self c =
    let a : Account = record { greatest = c.self.inside.greatest; kept = c.self.inside.kept.items } in
    let new : is_new_to WINDOW (Some a) c.args.id ≡ true =
    above_is_new a c.args.id c.self.invariant.0 c.if-id-self.true in
    subst (λ (x : Account). nat_lt c.self.inside.greatest c.args.id ≡ is_new_to WINDOW (Some x) c.args.id) c.self.view_is
    (lt-ltb c.self.inside.greatest c.args.id c.if-id-self.true ∙ sym new)
