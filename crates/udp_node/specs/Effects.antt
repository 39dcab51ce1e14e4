-- What a node does outside, in order: the calls on its link, and the lines that it writes.
use Rattle.std.specs.Prelude.{◌≡◌, ℕ, ◌<◌, List, [], ◌∷◌, ◌++◌, length, map, take, Bool, true, false, Option, Result, Ok, Err}
use Rattle.std.specs.List.{concat, flat_map}
use Rattle.std.specs.Io.KnownBytes.{Appends}
use Rattle.nop_types.specs.Given.{Given}
use Rattle.nop_types.specs.declared.output.Actor.{Actor}
use Rattle.nop_types.specs.declared.output.Out.{Out}
use Rattle.nop_types.specs.declared.output.Out.TheVariants as outs
use Rattle.outside.specs.Prefixes.{AppendsPrefix}
use Rattle.outside.specs.declared.errors.DeviceError.{DeviceError}
use Rattle.outside.specs.declared.errors.DeviceError.TheVariants.{Failed, NoMemory}
use Rattle.outside.specs.declared.link.LinkCall.{LinkCall}
use Rattle.outside.specs.declared.link.LinkCall.TheVariants.{Polled}
use Rattle.trace_text.specs.Traces.{trace_lines}
use Rattle.transcript_text.specs.Transcript.{submit_line, accept_line, read_line, answer_line}
use Rattle.udp_node.specs.declared.address.Address.{Address}
use Rattle.udp_node.specs.Ports.{datagrams_to}
use Rattle.udp_node.specs.Sends.{LinkSide, Sends}

-- some bytes of a line were written
pub record WrotePrefix (line : List ℕ) (before now : Option (List ℕ)) : Type 0 where
  pub count : ℕ
  pub appended : Appends before now (take count line)

-- what the sink held stays, and some text was written after it
abbrev pub WroteText : Option (List ℕ) → Option (List ℕ) → Type 0
WroteText before now = (text : List ℕ) × Appends before now text

-- a line was written, or not all of it
abbrev pub Writes : {T : Type 0} → List ℕ → Result T DeviceError → Option (List ℕ) → Option (List ℕ) → Type 0
Writes line (Ok t) before now = Appends before now line
Writes line (Err Failed) before now = AppendsPrefix before now line
Writes line (Err NoMemory) before now = WrotePrefix line before now

-- a call on the link, or a text that is written: a line, or all lines of a step
pub data Effect : Type 0 where
  Call : LinkCall → Effect
  Line : List ℕ → Effect

-- what an output asks of the outside
abbrev pub effects_of : Address → Out → List Effect
effects_of at (outs.Send dest bytes) = map Call (datagrams_to at dest bytes)
effects_of at (outs.Submitted r) = Line (submit_line r) ∷ []
effects_of at (outs.Accepted client id result) = Line (accept_line client id result) ∷ []
effects_of at (outs.Reading client id observer key) = Line (read_line client id observer key) ∷ []
effects_of at (outs.Answered client id observer position result) = Line (answer_line client id observer position result) ∷ []
effects_of at _ = []

abbrev pub effects : Address → List Out → List Effect
effects at os = flat_map (effects_of at) os

-- the sends alone
abbrev pub sends_of : Address → Out → List Effect
sends_of at (outs.Send dest bytes) = map Call (datagrams_to at dest bytes)
sends_of at _ = []

abbrev pub sends_in : Address → List Out → List Effect
sends_in at os = flat_map (sends_of at) os

-- a step of the core: what it took, and what it gave
pub record Step : Type 0 where
  pub given : Given
  pub outs : List Out

-- the lines of a step in a trace, as one text
abbrev pub step_text : Actor → Step → List ℕ
step_text own x = concat (trace_lines own x.given x.outs)

-- What a step asks of the outside. A node that is traced writes all lines of the step in place of the others, and sends then.
abbrev pub step_effects : (trace : Bool) → Address → Step → List Effect
step_effects false at x = effects at x.outs
step_effects true at x = Line (step_text at.own x) ∷ sends_in at x.outs

-- an act of a node: it polls its link, or its core takes a step
pub data Act : Type 0 where
  Polling : Act
  Stepping : Step → Act

-- the steps among them
abbrev pub steps_in : List Act → List Step
steps_in [] = []
steps_in (Polling ∷ acts) = steps_in acts
steps_in (Stepping x ∷ acts) = x ∷ steps_in acts

-- what an act asks of the outside, by what a step asks
abbrev pub act_effects : (Step → List Effect) → Act → List Effect
act_effects asks Polling = Call Polled ∷ []
act_effects asks (Stepping x) = asks x

abbrev pub effects_by : (Step → List Effect) → List Act → List Effect
effects_by asks acts = flat_map (act_effects asks) acts

-- the calls on the link, in order
abbrev pub calls : List Effect → List LinkCall
calls [] = []
calls (Call c ∷ es) = c ∷ calls es
calls (Line l ∷ es) = calls es

-- the lines, one after another
abbrev pub lines : List Effect → List ℕ
lines [] = []
lines (Call c ∷ es) = lines es
lines (Line l ∷ es) = l ++ lines es

-- the line that comes first, if one does
abbrev pub first_line : List Effect → List ℕ
first_line [] = []
first_line (Call c ∷ es) = []
first_line (Line l ∷ es) = l

-- all of it was done, from what the sink held before to what it holds now
pub record Done (es : List Effect) (a b : LinkSide) (before now : Option (List ℕ)) : Type 0 where
  pub sends : Sends (calls es) a b
  pub lines : Appends before now (lines es)

-- only a front of it was done, and of the line that comes next some bytes were written
pub record Stopped (es : List Effect) (a b : LinkSide) (before now : Option (List ℕ)) : Type 0 where
  pub prefix : List Effect
  pub rest : List Effect
  pub split : es ≡ prefix ++ rest
  pub count : ℕ
  pub sends : Sends (calls prefix) a b
  pub lines : Appends before now (lines prefix ++ take count (first_line rest))

-- a line comes next, and not all of it was written
pub record StoppedInLine (es : List Effect) (a b : LinkSide) (before now : Option (List ℕ)) : Type 0 where
  pub stopped : Stopped es a b before now
  pub below : stopped.count < length (first_line stopped.rest)

-- an error ended it
abbrev pub Stops : List Effect → DeviceError → LinkSide → LinkSide → Option (List ℕ) → Option (List ℕ) → Type 0
Stops es Failed a b before now = StoppedInLine es a b before now
Stops es NoMemory a b before now = Stopped es a b before now

abbrev pub Carries : {T : Type 0} → List Effect → Result T DeviceError → LinkSide → LinkSide → Option (List ℕ) → Option (List ℕ) → Type 0
Carries es (Ok t) a b before now = Done es a b before now
Carries es (Err e) a b before now = Stops es e a b before now
