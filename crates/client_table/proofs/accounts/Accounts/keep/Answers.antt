use Rattle.std.proofs.Common.{Option, Some, sym, ap, subst, ◌∙◌}
use Rattle.std.specs.Prelude.{IsTrue}
use Rattle.std.specs.FinMap as finite
use Rattle.nop_types.specs.declared.limits.TheConstants.{WINDOW}
use Rattle.nop_types.specs.Tables.{Account, account_with, is_new_to}
use Rattle.client_table.specs.Answers.{Entries, IsGapFor, table_of}
use Rattle.client_table.specs.Table.{removed_for}
use Rattle.client_table.proofs.EntryLemmas.{account_at, ascend_insert, none_kept, table_insert, table_written}
use Rattle.client_table.proofs.accounts.Accounts.keep.Goals as goal

pub keep-requires : goal.keep-requires
keep-requires c =
    let here = account_at c.self.inside.entries.items c.args.self.now c.self.view_is c.self.invariant c.args.client c.in-Ok.place
    c.in-Ok.ensures.found c.index_mut.result.now c.index_mut.ensures.value in
    subst (λ (o : Option Account). IsTrue (is_new_to WINDOW o c.args.answered.id)) here c.requires

pub returns-in_ok-keep-in-Ok-clause-ok : goal.returns-in_ok-keep-in-Ok-clause-ok
returns-in_ok-keep-in-Ok-clause-ok c =
    let here = account_at c.self.inside.entries.items c.args.self.now c.self.view_is c.self.invariant c.args.client c.in-Ok.place
    c.in-Ok.ensures.found c.index_mut.result.now c.index_mut.ensures.value in
    table_written c.self.inside.entries.items c.args.self.now c.self.view_is c.self.invariant c.args.client c.in-Ok.place
    c.in-Ok.ensures.found c.index_mut.result.now c.index_mut.ensures.value c.keep.new.self
    ∙ ap (finite.insert (table_of c.args.self.now) c.args.client)
    (c.in_ok-keep-in-Ok.ensures.account ∙ ap (λ (o : Option Account). account_with WINDOW o c.args.answered) (sym here))

pub returns-in_ok-keep-in-Ok-clause-removed : goal.returns-in_ok-keep-in-Ok-clause-removed
returns-in_ok-keep-in-Ok-clause-removed c =
    let here = account_at c.self.inside.entries.items c.args.self.now c.self.view_is c.self.invariant c.args.client c.in-Ok.place
    c.in-Ok.ensures.found c.index_mut.result.now c.index_mut.ensures.value in
    ap Some c.in_ok-keep-in-Ok.ensures.removed ∙ ap (λ (o : Option Account). removed_for o c.args.answered.id) (sym here)

pub invariant_of-self-in-Err : goal.invariant_of-self-in-Err
invariant_of-self-in-Err c =
    rw c.in_ok-insert-in-Err.ensures.items
    (ascend_insert _ _ _ (rw c.self.view_is c.in-Err.ensures.absent) _ c.self.invariant)

pub returns-in_ok-insert-in-Err-clause-ok : goal.returns-in_ok-insert-in-Err-clause-ok
returns-in_ok-insert-in-Err-clause-ok c =
    let gap = subst (λ (es : Entries). IsGapFor es c.args.client c.in-Err.place) (sym c.self.view_is) c.in-Err.ensures.absent in
    let none = none_kept c.args.self.now c.args.client c.in-Err.place c.in-Err.ensures.absent in
    ap table_of c.in_ok-insert-in-Err.ensures.items
    ∙ table_insert c.self.inside.entries.items c.args.client c.in-Err.place gap c.in_ok-account-in-Err.account
    ∙ ap (λ (es : Entries). finite.insert (table_of es) c.args.client c.in_ok-account-in-Err.account) c.self.view_is
    ∙ ap (finite.insert (table_of c.args.self.now) c.args.client)
    (c.in_ok-account-in-Err.ensures ∙ ap (λ (o : Option Account). account_with WINDOW o c.args.answered) (sym none))

pub returns-in_ok-insert-in-Err-clause-removed : goal.returns-in_ok-insert-in-Err-clause-removed
returns-in_ok-insert-in-Err-clause-removed c =
    ap (λ (o : Option Account). removed_for o c.args.answered.id)
    (sym (none_kept c.args.self.now c.args.client c.in-Err.place c.in-Err.ensures.absent))
