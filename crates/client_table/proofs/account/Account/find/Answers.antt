use Rattle.std.proofs.Common.{◌≡◌, ◌+◌, ◌-◌, length, refl, ap, subst, ◌∙◌, arith}
use Rattle.std.specs.Prelude.{Some, option_map}
use Rattle.std.specs.Option.{option_copied}
use Rattle.nop_types.specs.Tables.{Account, result_in}
use Rattle.client_table.proofs.AccountLemmas.{found_result, last_is_found}
use Rattle.client_table.proofs.account.Account.find.Goals as goal

pub returns-then-last-id : goal.returns-then-last-id
returns-then-last-id c =
    let a : Account = record { greatest = c.self.inside.greatest; kept = c.self.inside.kept.items } in
    let some = c.in-Some.ensures.variant.0 refl in
    let is = c.self.inside.kept.ok.0 in
    let len : (c.self.inside.kept.len - 1) + 1 ≡ length a.kept = omega (arith, some, is) in
    subst (λ (x : Account). Some c.in-Some.last.now.result ≡ result_in x.kept c.args.id) c.self.view_is
    (last_is_found a (c.self.inside.kept.len - 1) c.args.id c.in-Some.last.now c.self.invariant.0 len c.in-Some.ensures.lookup c.if-last-id.true)

pub returns : goal.returns
returns c =
    let a : Account = record { greatest = c.self.inside.greatest; kept = c.self.inside.kept.items } in
    subst (λ (x : Account). option_map (λ k. k.result) (option_copied c.first_result.result) ≡ result_in x.kept c.args.id) c.self.view_is
    (ap (option_map (λ k. k.result)) c.first_result.ensures ∙ found_result a.kept c.args.id)
