use Rattle.std.proofs.Common.{◌≡◌, ℕ, suc, ◌+◌, ◌-◌, [], ◌∷◌, ◌++◌, sym, subst, arith}
use Rattle.rand_pcg.specs.Lcg.{Lcg}
use Rattle.schedule_text.specs.declared.event.Event.{Event}
use Rattle.nop_types.specs.Checkpoints.{KeepsTo}
use Rattle.network.specs.LineCounts.{is_send, is_accept}
use Rattle.replay.specs.Generating.{DrawnTo}
use Rattle.replay.proofs.Drawn.{begins, drawn_next, count_by_both}
use Rattle.replay.proofs.generated.count_all.Goals as goal

pub loop-done-init : goal.loop-done-init
loop-done-init g c =
    let m = g.H.Host.meaning in
    let b = c.in_ok-first_drawn.ensures in
    let e : Event = c.in_ok-first_drawn.field-0.event in
    record {
      events = e ∷ [];
      lines = b.are;
      to = subst (λ (h : Lcg). DrawnTo m c.args.number c.args.count (c.args.count - 1) (e ∷ []) c.first_drawn.new.world.state h b.are)
          (sym c.generator-words.ensures)
          (begins m c.args.number c.args.count e c.first_drawn.new.world.state b.are c.requires.least b.event b.happened);
      sends_are = omega (arith, c.in_ok-counts.ensures.sends, b.shown.sends);
      accepts_are = omega (arith, c.in_ok-counts.ensures.accepts, b.shown.accepts);
    }

pub loop-done-preserved : goal.loop-done-preserved
loop-done-preserved g c =
    let m = g.H.Host.meaning in
    let keeps : KeepsTo m g.H.Host.is_sound = search (g.met.H.Host) in
    let k = c.loop-done.invariant in
    let d = c.in_ok-next_drawn.ensures in
    let e : Event = c.in_ok-next_drawn.field-0.event in
    let left : ℕ = c.args.count - (c.loop-done._done + 1) in
    let more : c.args.count - c.loop-done._done ≡ suc left = omega (arith, c.loop-done-test.true) in
    let to : DrawnTo m c.args.number c.args.count (suc left) k.events c.loop-done.world.state c.loop-done.words k.lines =
    subst (λ (n : ℕ). DrawnTo m c.args.number c.args.count n k.events c.loop-done.world.state c.loop-done.words k.lines) more k.to in
    let s = count_by_both is_send k.lines d.are in
    let a = count_by_both is_accept k.lines d.are in
    record {
      events = k.events ++ e ∷ [];
      lines = k.lines ++ d.are;
      to = drawn_next m g.H.Host.is_sound keeps c.args.number c.args.count left k.events c.loop-done.world.state c.loop-done.words k.lines e
          c.next_drawn.new.world.state c.next_drawn.new.words d.are to d.draws;
      sends_are = omega (arith, k.sends_are, c.in_ok-counts-2.ensures.sends, d.shown.sends, s);
      accepts_are = omega (arith, k.accepts_are, c.in_ok-counts-2.ensures.accepts, d.shown.accepts, a);
    }
