use Rattle.std.proofs.Common.{◌≡◌, None, ap, length, subst, sym, ◌∙◌, arith, rules}
use Rattle.std.specs.Option.{option_copied}
use Rattle.std.specs.FinMap as finite
use Rattle.nop_types.specs.Tables.{kept_for}
use Rattle.client_table.specs.Answers.{Ascend, table_of}
use Rattle.client_table.proofs.SavedLemmas.{len-table_of}
use Rattle.client_table.proofs.accounts.Accounts.takes.Goals as goal

pub returns-in-None : goal.returns-in-None
returns-in-None c =
    let none : kept_for (table_of c.args.self.now) c.args.client ≡ None =
    sym c.find.ensures ∙ ap option_copied c.in-None.is in
    let all = len-table_of c.args.self.now (subst Ascend c.self.view_is c.self.invariant) in
    let long : length c.self.inside.entries.items ≡ length c.args.self.now = ap length c.self.view_is in
    let count : c.len.result ≡ finite.len (table_of c.args.self.now) =
    (let is = c.len.ensures in let same = c.self.inside.entries.ok.0 in omega (arith, is, same, all, long)) in
    rw (none, ← count) (search rules)
