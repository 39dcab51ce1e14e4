use Rattle.std.proofs.Common.{◌≡◌, ℕ, ◌++◌, ◌∷◌, [], length, ap, ◌∙◌, arith}
use Rattle.std.specs.Prelude.{insert}
use Rattle.std.specs.Option.{unwrap_or}
use Rattle.client_table.proofs.AccountLemmas.{goes_at, goes_last}
use Rattle.client_table.proofs.account.put.Goals as goal

pub returns-then-answered-greatest-clause-items : goal.returns-then-answered-greatest-clause-items
returns-then-answered-greatest-clause-items c =
    let above = c.if-answered-greatest.true in
    let pushed : c.push_back_reserved.new.self.items ≡ c.args.kept.now.items ++ c.args.answered ∷ [] = c.push_back_reserved.ensures.items in
    pushed ∙ goes_last c.args.answered c.args.greatest c.args.kept.now.items c.requires.others (omega (arith, above))

pub returns-clause-items : goal.returns-clause-items
returns-clause-items c =
    let r = goes_at c.args.answered c.args.kept.now.items in
    let len : c.len.result ≡ length c.args.kept.now.items =
    (let same = c.len.ensures in let is = c.args.kept.now.ok.0 in omega (arith, same, is)) in
    let place : c.unwrap_or-place.result ≡ r.0 =
    c.unwrap_or-place.ensures ∙ ap (unwrap_or c.first_above.result) len
    ∙ ap (λ o. unwrap_or o (length c.args.kept.now.items)) c.first_above.ensures ∙ r.1 in
    rw c.unwrap.ensures at c.insert.ensures.items
    ∙ ap (λ (n : ℕ). insert c.args.kept.now.items n c.args.answered) place ∙ r.2
