use Rattle.std.proofs.Common.{◌≡◌, Bool, true, List, [], ◌∷◌, ◌++◌, Option, Some, cond, length, filter, ap, sym, ◌∙◌, arith}
use Rattle.std.specs.Prelude.{◌==◌}
use Rattle.std.specs.Option.{option_copied}
use Rattle.nop_types.specs.declared.request.Entry.{Entry}
use Rattle.nop_types.specs.declared.peer.Change.{Change}
use Rattle.nop_types.specs.Checkpoints.{Checkpoint}
use Rattle.nop_types.specs.Logs.{Trimmed, above}
use Rattle.nop_types.specs.Views.{is_view}
use Rattle.log_merge.specs.Given.{rests}
use Rattle.log_merge.specs.Merging.{best}
use Rattle.log_merge.specs.Pairs.{of_logs}
use Rattle.log_merge.proofs.Descending.{of_all, rests_more, taken, taken_more, length-of_logs, none_left, of_sorted_changes}
use Rattle.log_merge.proofs.Descending.{taken_best, merged_of_best}
use Rattle.log_merge.proofs.moving.merge_moved.Goals as goal

pub loop-change-preserved-then-is : goal.loop-change-preserved-then-is
loop-change-preserved-then-is c =
    let view = c.args.view in
    let counts : Change → Bool = λ d. is_view d.last_normal view in
    let is_of_view = c.is.ensures in
    let change = c.in-Some-pop.change in
    let here : counts change ≡ true = cc in
    let slot = c.sync_point-sync_point.result in
    let sender = c.in-Some.best.now.sender in
    let so_far = c.loop-change.entries.items in
    let checkpoint = c.loop-change.checkpoint in
    let rest = c.pop.new.self.items in
    let popped : c.loop-change.changes.items ≡ rest ++ change ∷ [] = c.in-Some-pop.ensures.items in
    let both : c.of_logs-entries.result.items ≡ of_logs (above Trimmed change.log slot) so_far =
    c.of_logs-entries.ensures ∙ ap (λ (l : List Entry). of_logs l so_far) c.split_above-own.ensures.entries in
    let most = ap length both ∙ length-of_logs (above Trimmed change.log slot) so_far in
    let own = ap length c.split_above-own.ensures.entries in
    let one = c.one_of-checkpoint.ensures in
    let brought : c.one_of-checkpoint.result ≡ cond (change.sender == sender) change.log.checkpoint checkpoint = cc in
    record {
      merged = ap (λ (l : List Entry). of_all (rests view slot rest) l) both
          ∙ rests_more view slot rest change so_far here
          ∙ ap (λ (ds : List Change). of_all (rests view slot ds) so_far) (sym popped)
          ∙ c.loop-change.invariant.merged;
      taken = ap (λ (o : Option Checkpoint). taken sender (filter counts rest) o) brought
          ∙ taken_more counts sender rest change checkpoint here
          ∙ ap (λ (ds : List Change). taken sender (filter counts ds) checkpoint) (sym popped)
          ∙ c.loop-change.invariant.taken;
      room = omega (arith, most, own, c.split_above-own.ensures.room, c.loop-change.invariant.room);
      limit = omega (arith, most, own, c.split_above-own.ensures.limit, c.loop-change.invariant.limit);
    }

pub returns : goal.returns
returns c =
    let view = c.args.view in
    let counts : Change → Bool = λ d. is_view d.last_normal view in
    let slot = c.sync_point-sync_point.result in
    let g = c.in-Some.best.now in
    let none = none_left c.loop-change.changes.items (omega (arith, c.in_default-pop.ensures.cases.0)) in
    let entries =
    ap (λ (ds : List Change). of_all (rests view slot ds) c.loop-change.entries.items) (sym none)
    ∙ c.loop-change.invariant.merged
    ∙ of_sorted_changes view slot c.args.changes.items c.sort_by_sender.new.changes.items c.requires c.sort_by_sender.ensures.same
    c.in_ok-sort_by_sender.ensures.ascend in
    let found : best (filter counts c.args.changes.items) ≡ Some g =
    ap (λ (ds : List Change). best (filter counts ds)) (sym c.deref.ensures.value)
    ∙ sym c.best.ensures
    ∙ ap option_copied c.in-Some.is in
    let checkpoint =
    ap (λ (ds : List Change). taken g.sender (filter counts ds) c.loop-change.checkpoint) (sym none)
    ∙ c.loop-change.invariant.taken
    ∙ taken_best counts c.args.changes.items c.sort_by_sender.new.changes.items g c.requires c.sort_by_sender.ensures.same found in
    c.new-2.ensures
    ∙ merged_of_best (filter counts c.args.changes.items) g slot c.loop-change.checkpoint c.loop-change.entries.items found
    c.sync_point-sync_point.ensures checkpoint entries
