use Rattle.std.proofs.Common.{sym}
use Rattle.client_table.proofs.EntryLemmas.{account_at, none_kept}
use Rattle.client_table.proofs.accounts.Accounts.find.Goals as goal

pub returns-in-Ok : goal.returns-in-Ok
returns-in-Ok c =
    sym (account_at c.self.inside.entries.items c.args.self.now c.self.view_is c.self.invariant c.args.client c.in-Ok.place
    c.in-Ok.ensures.found c.index.result.now c.index.ensures)

pub returns-in-Err : goal.returns-in-Err
returns-in-Err c = sym (none_kept c.args.self.now c.args.client c.in-Err.field-0 c.in-Err.ensures.absent)
