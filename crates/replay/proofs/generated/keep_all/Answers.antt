use Rattle.std.proofs.Common.{◌≡◌, ℕ, suc, ◌+◌, ◌-◌, List, [], ◌∷◌, ◌++◌, sym, subst, arith}
use Rattle.rand_pcg.specs.Lcg.{Lcg}
use Rattle.schedule_text.specs.declared.event.Event.{Event}
use Rattle.nop_types.specs.Checkpoints.{KeepsTo}
use Rattle.replay.specs.Generating.{DrawnTo}
use Rattle.replay.proofs.Drawn.{begins, drawn_next, events_first}
use Rattle.replay.proofs.generated.keep_all.Goals as goal

pub loop-done-init : goal.loop-done-init
loop-done-init g c =
    let m = g.H.Host.meaning in
    let b = c.in_ok-first_drawn.ensures in
    let e : Event = c.in_ok-first_drawn.field-0.event in
    let items : c.keep.new.events.items ≡ e ∷ [] =
    events_first _ _ e c.requires.none c.in_ok-keep.ensures in
    record {
      lines = b.are;
      to = subst (λ (xs : List Event). DrawnTo m c.args.number c.args.count (c.args.count - 1) xs c.first_drawn.new.world.state
          c.generator-words.result b.are) (sym items)
          (subst (λ (h : Lcg). DrawnTo m c.args.number c.args.count (c.args.count - 1) (e ∷ []) c.first_drawn.new.world.state h b.are)
          (sym c.generator-words.ensures)
          (begins m c.args.number c.args.count e c.first_drawn.new.world.state b.are c.requires.least b.event b.happened));
    }

pub loop-done-preserved : goal.loop-done-preserved
loop-done-preserved g c =
    let m = g.H.Host.meaning in
    let keeps : KeepsTo m g.H.Host.is_sound = search (g.met.H.Host) in
    let k = c.loop-done.invariant in
    let d = c.in_ok-next_drawn.ensures in
    let e : Event = c.in_ok-next_drawn.field-0.event in
    let left : ℕ = c.args.count - (c.loop-done._done + 1) in
    let more : c.args.count - c.loop-done._done ≡ suc left = omega (arith, c.loop-done-test.true) in
    let to : DrawnTo m c.args.number c.args.count (suc left) c.loop-done.events.items c.loop-done.world.state c.loop-done.words k.lines =
    subst
    (λ (n : ℕ). DrawnTo m c.args.number c.args.count n c.loop-done.events.items c.loop-done.world.state c.loop-done.words k.lines)
    more k.to in
    record {
      lines = k.lines ++ d.are;
      to = subst (λ (xs : List Event). DrawnTo m c.args.number c.args.count left xs c.next_drawn.new.world.state
          c.next_drawn.new.words (k.lines ++ d.are)) (sym {A = List Event} c.in_ok-keep-2.ensures)
          (drawn_next m g.H.Host.is_sound keeps c.args.number c.args.count left c.loop-done.events.items c.loop-done.world.state c.loop-done.words k.lines e
          c.next_drawn.new.world.state c.next_drawn.new.words d.are to d.draws);
    }
