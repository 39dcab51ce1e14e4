-- What each row of a controller's step table is in the protocol.
use Rattle.std.specs.Prelude.{◌≡◌, ◌==◌, ℕ, cond, List, [], ◌∷◌, ◌++◌}
use Rattle.lemmas.specs.Functions.{put}
use Rattle.nop_types.specs.Given.{Given}
use Rattle.nop_types.specs.Meaning.{Meaning}
use Rattle.nop_types.specs.declared.output.Out.{Out}
use Rattle.session_control.specs.declared.state.ControllerState.{ControllerState}
use Rattle.session_control.specs.ControllerSteps.{IsWithin, next}
use Rattle.protocol.specs.Conf.{Conf, Control, Install}
use Rattle.protocol.specs.Invariant.{Inv}
use Rattle.refinement.specs.Datagrams.{MayCome}
use Rattle.refinement.specs.Steps.{LeadsTo}

-- what the protocol keeps of a controller
abbrev pub control_of : ControllerState → Control
control_of s = record { session = s.session; current = s.current; confirmed = s.confirmed }

-- the session that a step gives out: where it is another than before
abbrev pub given_out : (old new : ControllerState) → List Install
given_out s t = cond (t.session == s.session) [] (record { sequencer = t.current; session = t.session } ∷ [])

-- the controller k has this state, and these sessions are given out; all else is as it was
abbrev pub with_controller : Conf → ℕ → ControllerState → List Install → Conf
with_controller c k s installs = record c { controllers = put c.controllers k (control_of s); installs = installs ++ c.installs }

abbrev pub ControllerReaches : {S : Type 0} → Meaning S → ℕ → Conf → ℕ → ControllerState → ControllerState × List Out → Type 0
ControllerReaches m f c k s e = LeadsTo m f c (with_controller c k e.0 (given_out s e.0)) e.1

-- whatever may come to a controller that is in its ranges, so that it gives out only sessions of its own
abbrev pub ControllersReach : {S : Type 0} → Meaning S → Type 0
ControllersReach m = (f : ℕ) (c : Conf) (s : ControllerState) (i : Given) → Inv m f c → c.controllers s.number ≡ control_of s → IsWithin s
    → MayCome c i → ControllerReaches m f c s.number s (next s i)
