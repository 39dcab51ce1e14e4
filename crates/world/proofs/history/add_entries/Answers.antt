use Rattle.std.proofs.Common.{◌≡◌, ◌+◌, ◌++◌, ◌∷◌, [], List, take, sym, ap, ◌∙◌, append_assoc, append-nil}
use Rattle.std.proofs.lemmas.List.{take_all}
use Rattle.nop_types.specs.declared.request.Entry.{Entry}
use Rattle.nop_types.specs.declared.request.Request.{Request}
use Rattle.nop_types.specs.Histories.{history_of, new_in}
use Rattle.execution_laws.proofs.Members.{history_of_next_entry}
use Rattle.world.specs.Ids.{table_after}
use Rattle.world.proofs.IdLemmas.{take_next}
use Rattle.world.proofs.history.add_entries.Goals as goal

pub loop-entry-init : goal.loop-entry-init
loop-entry-init c log has is = (has ∙ ap table_after (sym (append-nil log)), is ∙ ap history_of (sym (append-nil log)))

pub loop-entry-preserved : goal.loop-entry-preserved
loop-entry-preserved c log has is =
    let so_far = c.loop-entry.invariant log has is in
    let before = log ++ take c.loop-entry.entry-index c.args.entries.now in
    let e = c.entry-item.result in
    let next : log ++ take (c.loop-entry.entry-index + 1) c.args.entries.now ≡ before ++ e ∷ [] =
    ap (λ (es : List Entry). log ++ es) (take_next c.args.entries.now c.loop-entry.entry-index e c.loop-entry-test.true c.entry-item.is)
    ∙ sym (append_assoc log (take c.loop-entry.entry-index c.args.entries.now) (e ∷ [])) in
    let added = c.in_ok-add_entry.ensures in (
      added.next before so_far.0 ∙ ap table_after (sym next),
      added.members before so_far.0
          ∙ ap (λ (rs : List Request). rs ++ new_in before e) so_far.1 ∙ sym (ap history_of next ∙ history_of_next_entry before e),
    )

pub returns : goal.returns
returns c log has is =
    let so_far = c.loop-entry.invariant log has is in
    let all : log ++ take c.loop-entry.entry-index c.args.entries.now ≡ log ++ c.args.entries.now =
    ap (λ (es : List Entry). log ++ es) (take_all c.loop-entry.entry-index c.args.entries.now c.loop-entry-test.false) in
    (so_far.0 ∙ ap table_after all, so_far.1 ∙ ap history_of all)
