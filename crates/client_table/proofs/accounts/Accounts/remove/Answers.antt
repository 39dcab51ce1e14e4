use Rattle.std.proofs.Common.{subst, ap, sym, ◌∙◌}
use Rattle.std.specs.FinMap as finite
use Rattle.client_table.specs.Answers.{Entries, IsAt, table_of}
use Rattle.client_table.proofs.EntryLemmas.{table_remove, table_unchanged}
use Rattle.client_table.proofs.accounts.Accounts.remove.Goals as goal

pub returns-in-Ok : goal.returns-in-Ok
returns-in-Ok c =
    let at = subst (λ (es : Entries). IsAt es c.args.client c.in-Ok.place) (sym c.self.view_is) c.in-Ok.ensures.found in
    ap table_of c.remove-entry.ensures.items
    ∙ table_remove c.self.inside.entries.items c.self.invariant c.args.client c.in-Ok.place at
    ∙ ap (λ (es : Entries). finite.remove (table_of es) c.args.client) c.self.view_is

pub returns-in_default : goal.returns-in_default
returns-in_default c = table_unchanged c.args.self.now c.args.client c.in_default.field-0 c.in_default.ensures.absent
