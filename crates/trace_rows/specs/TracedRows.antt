-- The rows of a step.
use Rattle.std.specs.Prelude.{◌≡◌, ℕ, ◌<◌, ◌^◌, ⊤, List, [], ◌∷◌, ◌++◌, map, filter_map, Option, Some, None, option_map, option_to_list}
use Rattle.std.specs.List.{AllByRecursion}
use Rattle.nop_types.specs.Given.{Given, Packet, Ticked, Submit, Read}
use Rattle.nop_types.specs.declared.input.Tick.TheVariants as ticks
use Rattle.nop_types.specs.declared.limits.TheConstants.{MAX_CONTROLLERS, MAX_DATAGRAM_BYTES, MAX_OP_BYTES, MAX_RESULT_BYTES}
use Rattle.nop_types.specs.declared.output.Actor.{Actor}
use Rattle.nop_types.specs.declared.output.Actor.TheVariants as actors
use Rattle.nop_types.specs.declared.output.Dest.{Dest}
use Rattle.nop_types.specs.declared.output.Dest.TheVariants as dests
use Rattle.nop_types.specs.declared.output.Out.{Out}
use Rattle.nop_types.specs.declared.output.Out.TheVariants as outs
use Rattle.trace_rows.specs.Reading.{row_of}
use Rattle.trace_rows.specs.Rows.{AnswerFits, BytesFit, IdFits, KeyFits, row_text}
use Rattle.trace_rows.specs.declared.row.Gave.{Gave}
use Rattle.trace_rows.specs.declared.row.Gave.TheVariants as gaves
use Rattle.trace_rows.specs.declared.row.Name.{Name}
use Rattle.trace_rows.specs.declared.row.Name.TheVariants as names
use Rattle.trace_rows.specs.declared.row.Number.TheVariants.{Is}
use Rattle.trace_rows.specs.declared.row.Row.{Row}
use Rattle.trace_rows.specs.declared.row.Row.TheVariants as rows
use Rattle.trace_rows.specs.declared.row.Taken.{Taken}
use Rattle.trace_rows.specs.declared.row.Taken.TheVariants as ins
use Rattle.trace_rows.specs.declared.row.To.{To}
use Rattle.trace_rows.specs.declared.row.To.TheVariants as tos
use Rattle.trace_text.specs.Traces.{taken, trace_lines}

-- ---- which rows they are

abbrev pub name_as : Actor → Name
name_as (actors.Replica i) = names.Replica (Is i)
name_as (actors.Sequencer i) = names.Sequencer (Is i)
name_as (actors.Client i) = names.Client (Is i)
name_as (actors.Controller k) = names.Controller k
name_as (actors.Observer i) = names.Observer (Is i)

abbrev pub to_as : Dest → To
to_as dests.Replicas = tos.Replicas
to_as dests.Sequencers = tos.Sequencers
to_as (dests.One actor) = tos.One (name_as actor)

-- the tick Next is no row
abbrev pub taken_as : Given → Option Taken
taken_as (Packet bytes) = Some (ins.Packet bytes)
taken_as (Submit op) = Some (ins.Submit op)
taken_as (Read observer key) = Some (ins.Read (Is observer) key)
taken_as (Ticked ticks.Next) = None
taken_as (Ticked (ticks.Install sequencer)) = Some (ins.Install (Is sequencer))
taken_as (Ticked tick) = Some (ins.Tick tick)

abbrev pub gave_as : Out → Option Gave
gave_as (outs.Send dest bytes) = Some (gaves.Send (to_as dest) bytes)
gave_as (outs.Submitted r) = Some (gaves.Submit r.id r.op)
gave_as (outs.Accepted client id result) = Some (gaves.Accept id result)
gave_as (outs.Reading client id observer key) = Some (gaves.Read id (Is observer) key)
gave_as (outs.Answered client id observer position result) = Some (gaves.Answer id (Is observer) position result)
gave_as _ = None

abbrev pub in_row : Actor → Given → Option Row
in_row actor x = option_map (rows.In (name_as actor)) (taken_as x)

abbrev pub out_row : Actor → Out → Option Row
out_row actor out = option_map (rows.Out (name_as actor)) (gave_as out)

abbrev pub step_rows : Actor → Option Given → List Out → List Row
step_rows actor None os = []
step_rows actor (Some x) os = option_to_list (in_row actor x) ++ filter_map (out_row actor) os

-- those of a step, from what the actor was given and what it gave
abbrev pub traced_rows : Actor → Given → List Out → List Row
traced_rows actor x os = step_rows actor (taken x os) os

-- ---- the ranges of what an actor takes and gives

abbrev pub ActorFits : Actor → Type 0
ActorFits (actors.Replica i) = i < 2 ^ 64
ActorFits (actors.Sequencer i) = i < 2 ^ 64
ActorFits (actors.Client i) = i < 2 ^ 64
ActorFits (actors.Controller k) = k < MAX_CONTROLLERS
ActorFits (actors.Observer i) = i < 2 ^ 64

abbrev pub DestFits : Dest → Type 0
DestFits (dests.One actor) = ActorFits actor
DestFits _ = ⊤

abbrev pub GivenFits : Given → Type 0
GivenFits (Packet bytes) = BytesFit MAX_DATAGRAM_BYTES bytes
GivenFits (Submit op) = BytesFit MAX_OP_BYTES op
GivenFits (Read observer key) = (observer < 2 ^ 64) × KeyFits key
GivenFits (Ticked (ticks.Install sequencer)) = sequencer < 2 ^ 64
GivenFits (Ticked tick) = ⊤

abbrev pub OutFits : Out → Type 0
OutFits (outs.Send dest bytes) = DestFits dest × BytesFit MAX_DATAGRAM_BYTES bytes
OutFits (outs.Submitted r) = IdFits r.id × BytesFit MAX_OP_BYTES r.op
OutFits (outs.Accepted client id result) = IdFits id × BytesFit MAX_RESULT_BYTES result
OutFits (outs.Reading client id observer key) = IdFits id × (observer < 2 ^ 64) × KeyFits key
OutFits (outs.Answered client id observer position result) = AnswerFits id (Is observer) position result
OutFits _ = ⊤

-- ---- what is traced is read again

abbrev pub row_line : Row → List ℕ
row_line row = row_text row ++ 10 ∷ []

abbrev pub IsReadAgain : Row → Type 0
IsReadAgain row = row_of (row_text row) ≡ Some row

-- the lines of a step are those of its rows, and each of them is read as that row
pub record AreReadAgain (actor : Actor) (x : Given) (os : List Out) : Type 0 where
  pub lines : trace_lines actor x os ≡ map row_line (traced_rows actor x os)
  pub read : AllByRecursion IsReadAgain (traced_rows actor x os)
