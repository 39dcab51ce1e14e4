use Rattle.std.proofs.Common.{◌≡◌, ◌+◌, length, ap, subst, ◌∙◌, arith}
use Rattle.std.specs.Prelude.{count_by, nat_lt}
use Rattle.std.specs.List.{position}
use Rattle.std.specs.Option.{unwrap_or}
use Rattle.nop_types.specs.declared.limits.TheConstants.{WINDOW}
use Rattle.nop_types.specs.Tables.{Account}
use Rattle.client_table.specs.Accounts.{is_far}
use Rattle.client_table.proofs.AccountLemmas.{far_are_first}
use Rattle.client_table.proofs.account.Account.count_far.Goals as goal

pub returns-clause-count : goal.returns-clause-count
returns-clause-count c =
    let a : Account = record { greatest = c.self.inside.greatest; kept = c.self.inside.kept.items } in
    let near : c.first_near.result ≡ position (λ k. nat_lt c.args.greatest (k.id + WINDOW)) a.kept =
    c.first_near.ensures in
    let len : c.len.result ≡ length a.kept = (let same = c.len.ensures in let is = c.self.inside.kept.ok.0 in omega (arith, same, is)) in
    subst (λ (x : Account). c.unwrap_or.result ≡ count_by (is_far c.args.greatest) x.kept) c.self.view_is
    (c.unwrap_or.ensures ∙ ap (unwrap_or c.first_near.result) len ∙ ap (λ o. unwrap_or o (length a.kept)) near ∙ far_are_first a c.args.greatest c.self.invariant.0)
