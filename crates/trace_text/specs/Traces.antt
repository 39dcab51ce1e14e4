-- The lines of a trace: what each step of an actor took, and what it gave. Each line has its end.
use Rattle.std.specs.Prelude.{ℕ, List, [], ◌∷◌, ◌++◌, codes, decimal, filter_map, Option, Some, None, option_map}
use Rattle.std.specs.Prelude.{option_to_list}
use Rattle.nop_types.specs.Configuration.{Configuration}
use Rattle.nop_types.specs.Given.{Given, Packet, Ticked, Submit, Read}
use Rattle.nop_types.specs.declared.input.Tick.TheVariants as ticks
use Rattle.nop_types.specs.declared.output.Actor.{Actor}
use Rattle.nop_types.specs.declared.output.Actor.TheVariants as actors
use Rattle.nop_types.specs.declared.output.Out.{Out}
use Rattle.nop_types.specs.declared.output.Out.TheVariants as outs
use Rattle.schedule_text.specs.EventText.{tick_text}
use Rattle.transcript_text.specs.LineText.{line_of}
use Rattle.transcript_text.specs.Transcript.{actor_text, dest_text, hex_text, observer_text, counts_line}

-- ---- what a step took

-- the op that was submitted among these outputs
abbrev pub submitted : List Out → Option Given
submitted [] = None
submitted (outs.Submitted r ∷ os) = Some (Submit r.op)
submitted (_ ∷ os) = submitted os

-- the read that was begun among them, or else this
abbrev pub asked_or : Given → List Out → Given
asked_or x [] = x
asked_or x (outs.Reading client id observer key ∷ os) = Read observer key
asked_or x (_ ∷ os) = asked_or x os

-- what a step took as a trace has it, from what the actor was given and what it gave: at the tick Next a client takes the first op that
-- waits, and where it submits none, nothing; at the tick Retry it may take a read
abbrev pub taken : Given → List Out → Option Given
taken (Ticked ticks.Next) os = submitted os
taken (Ticked ticks.Retry) os = Some (asked_or (Ticked ticks.Retry) os)
taken x os = Some x

-- the fields behind the actor; the tick Next has none
abbrev pub in_fields : Given → Option (List (List ℕ))
in_fields (Packet bytes) = Some (codes "packet" ∷ hex_text bytes ∷ [])
in_fields (Submit op) = Some (codes "submit" ∷ hex_text op ∷ [])
in_fields (Read observer key) = Some (codes "read" ∷ observer_text observer ∷ hex_text key ∷ [])
in_fields (Ticked ticks.Next) = None
in_fields (Ticked (ticks.Install sequencer)) = Some (codes "install" ∷ actor_text (actors.Sequencer sequencer) ∷ [])
in_fields (Ticked tick) = Some (codes "tick" ∷ tick_text tick ∷ [])

abbrev pub in_text : Actor → List (List ℕ) → List ℕ
in_text actor fields = line_of (codes "in") (actor_text actor ∷ fields)

abbrev pub in_line : Actor → Given → Option (List ℕ)
in_line actor x = option_map (in_text actor) (in_fields x)

-- ---- what it gave

-- the fields behind the actor; that a client was busy, and what left a log, are not in a trace
abbrev pub out_fields : Out → Option (List (List ℕ))
out_fields (outs.Send dest bytes) = Some (codes "send" ∷ dest_text dest ∷ hex_text bytes ∷ [])
out_fields (outs.Submitted r) = Some (codes "submit" ∷ decimal r.id ∷ hex_text r.op ∷ [])
out_fields (outs.Accepted client id result) = Some (codes "accept" ∷ decimal id ∷ hex_text result ∷ [])
out_fields (outs.Reading client id observer key) = Some (codes "read" ∷ decimal id ∷ observer_text observer ∷ hex_text key ∷ [])
out_fields (outs.Answered client id observer position result) =
    Some (codes "answer" ∷ decimal id ∷ observer_text observer ∷ decimal position ∷ hex_text result ∷ [])
out_fields _ = None

abbrev pub out_text : Actor → List (List ℕ) → List ℕ
out_text actor fields = line_of (codes "out") (actor_text actor ∷ fields)

abbrev pub out_line : Actor → Out → Option (List ℕ)
out_line actor out = option_map (out_text actor) (out_fields out)

-- the outputs that have a line, in order
abbrev pub out_lines : Actor → List Out → List (List ℕ)
out_lines actor os = filter_map (out_line actor) os

-- ---- a step

-- where an actor took nothing there are none
abbrev pub step_lines : Actor → Option Given → List Out → List (List ℕ)
step_lines actor None os = []
step_lines actor (Some x) os = option_to_list (in_line actor x) ++ out_lines actor os

-- those of a step, from what the actor was given and what it gave
abbrev pub trace_lines : Actor → Given → List Out → List (List ℕ)
trace_lines actor x os = step_lines actor (taken x os) os

-- ---- the first line of a schedule

-- which a whole trace begins with; a header of form 1 has no count of controllers, and form 3 alone has one of observers
unfoldable pub header_line : ℕ → Configuration → List ℕ
header_line form c = counts_line (codes "nopaxos") form c
