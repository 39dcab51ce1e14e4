use Rattle.std.proofs.Common.{◌≡◌, ◌++◌}
use Rattle.gate_core.specs.Gates.{tell_all}
use Rattle.gate_core.proofs.gate_state.GateState.tell_all.Given as goal

-- telling the rest from here is telling all from the start
abbrev pub invariant-loop-one : goal.invariant-loop-one
invariant-loop-one l =
    record {
      state : (tell_all l.fn.came l.one-iterator.rest.items l.self).0 ≡ (tell_all l.fn.came l.fn.told.items l.fn.self).0;
      acts : l.acts.items ++ (tell_all l.fn.came l.one-iterator.rest.items l.self).1
          ≡ l.fn.acts.items ++ (tell_all l.fn.came l.fn.told.items l.fn.self).1;
    }
