use Rattle.std.proofs.Common.{◌≡◌, ◌<◌, ◌++◌, ◌∷◌, [], ℕ, length, List, map, arith, Some, sym, ◌∙◌, ap}
use Rattle.std.specs.Prelude.{slice_get}
use Rattle.std.proofs.lemmas.Option.{slice_get_within}
use Rattle.nop_types.specs.declared.input.Tick.{Tick}
use Rattle.udp_node.specs.declared.firing.Timer.{Timer}
use Rattle.udp_node.specs.Timing.{armed}
use Rattle.udp_node.proofs.FoldLemmas.{armed_more, all_taken}
use Rattle.world.specs.Lookups.{timers_of}
use Rattle.one_box.proofs.attaching.first_timers.Goals as goal

pub loop-tick-preserved : goal.loop-tick-preserved
loop-tick-preserved g c =
    let ts : List (Tick × ℕ) = timers_of c.args.world.now.state c.args.actor in
    let x : Tick × ℕ = (c.in-Some.tick, c.in-Some.period) in
    let old : List Timer = c.loop-tick.timers.items in
    let got : slice_get ts c.loop-tick.i ≡ Some x = sym c.timer.ensures ∙ c.in-Some.is in
    let within : c.loop-tick.i < length ts = slice_get_within ts c.loop-tick.i x got in
    record {
      within = omega (arith, within);
      first = c.in_ok-push.ensures.items ∙ ap (λ (t : Timer). old ++ t ∷ []) c.armed.ensures
          ∙ ap (λ (all : List Timer). all ++ armed c.args.now x ∷ []) c.loop-tick.invariant.first
          ∙ sym (armed_more c.args.now ts c.loop-tick.i x got);
    }

pub returns : goal.returns
returns g c =
    let e = all_taken (timers_of c.args.world.now.state c.args.actor) c.loop-tick.i (sym c.timer.ensures ∙ c.in_default.is) in
    c.loop-tick.invariant.first ∙ ap (map (armed c.args.now)) e
