use Rattle.std.proofs.Common.{◌≡◌, ◌++◌, ◌∷◌, [], length, Some, refl, arith, rules}
use Rattle.std.specs.Prelude.{slice_get}
use Rattle.std.proofs.lemmas.Option.{slice_get_read}
use Rattle.nop_types.specs.CheckpointedLogs.{beginning}
use Rattle.executor.specs.Running.{execution}
use Rattle.executor.proofs.ExecutedLemmas.{executed_next, fit_push, fit_still}
use Rattle.executor.proofs.moves.advance.Goals as goal

pub loop-entries-preserved : goal.loop-entries-preserved
loop-entries-preserved g c =
    let m = g.H.Host.meaning in
    let x = execution (g.H.Host.state c.loop-entries.host) c.loop-entries.table in
    let y = execution (g.H.Host.state c.enter.new.host) c.enter.new.table in
    let old = c.loop-entries.undos.items in
    let log = c.args.log.now in
    let begun = beginning m log.checkpoint in
    let pushed : c.push_reserved.new.self.items ≡ c.loop-entries.undos.items ++ c.in_ok-slot_undo.slot_undo ∷ [] = search rules in
    let len : length c.loop-entries.undos.items ≡ c.len-in-loop-entries.result = search rules in
    let at : slice_get log.entries (length c.loop-entries.undos.items) ≡ Some c.index-entries-len.result =
    rw len (slice_get_read log.entries (length log.entries) c.len-in-loop-entries.result c.index-entries-len.result refl (omega arith)
    (rw c.entries-entries.ensures.entries at c.index-entries-len.is)) in
    record {
      stays = search rules;
      within = search rules;
      run =
          rw pushed
          (executed_next m g.H.Host.undo_of begun log.entries x y old c.index-entries-len.result c.in_ok-slot_undo.slot_undo
          c.loop-entries.invariant.run at c.in_ok-slot_undo.ensures.execution c.in_ok-slot_undo.ensures.slot_undo);
      fits = rw pushed (fit_push (g.H.Host.fits c.enter.new.host) old c.in_ok-slot_undo.slot_undo
          (fit_still (g.H.Host.fits c.loop-entries.host)
          (g.H.Host.fits c.enter.new.host) c.in_ok-slot_undo.ensures.still_fits old c.loop-entries.invariant.fits)
          c.in_ok-slot_undo.ensures.fits);
    }
