-- Runs of inputs, and what is stamped in them.
use Rattle.std.specs.Prelude.{ℕ, List, [], ◌∷◌, ◌++◌, Option, Some, None, Result, Ok}
use Rattle.nop_types.specs.Given.{Given, Packet}
use Rattle.nop_types.specs.declared.output.Out.{Out}
use Rattle.nop_types.specs.declared.output.Out.TheVariants as outs
use Rattle.nop_types.specs.declared.output.Dest.TheVariants.{Replicas}
use Rattle.nop_types.specs.declared.request.Request.{Request}
use Rattle.nop_types.specs.declared.datagram.Stamped.{Stamped}
use Rattle.nop_types.specs.declared.datagram.Datagram.{Datagram}
use Rattle.nop_types.specs.declared.datagram.Datagram.TheVariants as datagrams
use Rattle.oum_codec.specs.declared.bad.Bad.{Bad}
use Rattle.oum_codec.specs.Reading.{reading}
use Rattle.oum_codec.specs.Spelling.{spelling}
use Rattle.sequencer.specs.declared.state.SequencerState.{SequencerState}
use Rattle.sequencer.specs.SequencerSteps.{stamped_by, after_stamp, next}

-- the state after some inputs, and all outputs in order
abbrev pub run : SequencerState → List Given → SequencerState × List Out
run s [] = (s, [])
run s (i ∷ is) = ((run (next s i).0 is).0, (next s i).1 ++ (run (next s i).0 is).1)

abbrev pub one_or_none : Option Stamped → List Stamped
one_or_none None = []
one_or_none (Some p) = p ∷ []

abbrev pub stamp_at : SequencerState → Result Datagram Bad → List Stamped
stamp_at s (Ok (datagrams.Request r)) = one_or_none (stamped_by s r)
stamp_at s _ = []

-- the packet that an input is stamped as, if it is a request
abbrev pub stamp_in : SequencerState → Given → List Stamped
stamp_in s (Packet bytes) = stamp_at s (reading bytes)
stamp_in s _ = []

-- what is asked of a sequencer: a step, or a call of `stamp`
pub data Call : Type 0 where
  Step : (input : Given) → Call
  Stamp : (request : Request) → Call

abbrev pub stamp_by : SequencerState → Call → List Stamped
stamp_by s (Step input) = stamp_in s input
stamp_by s (Stamp request) = one_or_none (stamped_by s request)

abbrev pub after_call : SequencerState → Call → SequencerState
after_call s (Step input) = (next s input).0
after_call s (Stamp request) = after_stamp s

-- the packets that are stamped in some calls, in order
abbrev pub stamps : SequencerState → List Call → List Stamped
stamps s [] = []
stamps s (c ∷ cs) = stamp_by s c ++ stamps (after_call s c) cs

abbrev pub spelled : Stamped → List ℕ
spelled p = spelling (datagrams.Stamped p)

-- the bytes that are sent to all replicas
abbrev pub to_replicas : List Out → List (List ℕ)
to_replicas [] = []
to_replicas (outs.Send Replicas bytes ∷ os) = bytes ∷ to_replicas os
to_replicas (_ ∷ os) = to_replicas os
