use Rattle.std.proofs.Common.{◌≡◌, ◌≤◌, ap, length, subst, sym, ◌∙◌, arith}
use Rattle.std.proofs.lemmas.List.{take_all}
use Rattle.client_table.specs.Answers.{Ascend}
use Rattle.client_table.proofs.SavedLemmas.{entries-table_of}
use Rattle.client_table.proofs.accounts.Accounts.saved.Goals as goal

pub returns : goal.returns
returns c =
    let long : length c.deref-entry-items.result.now ≡ length c.args.self.now =
    ap length (c.deref-entry-items.ensures.value ∙ c.self.view_is) in
    let end = c.loop-entry-test.false in
    let all : length c.args.self.now ≤ c.loop-entry.entry-index = omega (arith, end, long) in
    c.loop-entry.invariant ∙ take_all c.loop-entry.entry-index c.args.self.now all
    ∙ sym (entries-table_of c.args.self.now (subst Ascend c.self.view_is c.self.invariant))
