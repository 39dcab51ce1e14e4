-- What a step of a client's reads does: one of five things.
use Rattle.std.specs.Prelude.{◌≡◌, ℕ, List, [], ◌∷◌, true, false, Some, None}
use Rattle.nop_types.specs.Given.{Given, Packet, Ticked, Submit, Read}
use Rattle.nop_types.specs.Lists.{Has}
use Rattle.nop_types.specs.declared.input.Tick.{Tick}
use Rattle.nop_types.specs.declared.input.Tick.TheVariants as ticks
use Rattle.nop_types.specs.declared.output.Out.{Out}
use Rattle.nop_types.specs.declared.output.Out.TheVariants.{Busy}
use Rattle.nop_types.specs.declared.datagram.Answer.{Answer}
use Rattle.client_reads.specs.declared.state.Reading.{Reading}
use Rattle.client_reads.specs.declared.state.Reads.{Reads}
use Rattle.client_reads.specs.ReadSteps.{begin, can_read, end, is_expected, reading_of, sent}
use Rattle.client_reads.specs.Ignoring.{is_tick_for}
use Rattle.client_reads.specs.Runs.{answer_of}

-- what comes asks nothing of the reads
pub data HasNothing (s : Reads) (x : Given) : Type 0 where
  -- a packet that brings no answer to the read that waits
  BringsNoAnswer : (bytes : List ℕ) → x ≡ Packet bytes → ((a : Answer) → Has (answer_of x) a → is_expected s a ≡ false) → HasNothing s x
  -- the tick Retry, where none waits
  WaitsForNone : x ≡ Ticked ticks.Retry → s.pending ≡ None → HasNothing s x
  -- a tick for others
  IsForOthers : (tick : Tick) → x ≡ Ticked tick → is_tick_for tick ≡ false → HasNothing s x
  -- an op
  IsForRequests : (op : List ℕ) → x ≡ Submit op → HasNothing s x

-- the answer is to this read of the client with this number
pub record Answers (number : ℕ) (r : Reading) (a : Answer) : Type 0 where
  pub client : a.client ≡ number
  pub id : a.id ≡ r.id
  pub observer : a.observer ≡ r.observer

-- the new state, and what is given
pub data Row (s : Reads) (x : Given) : Reads × List Out → Type 0 where
  Rests : HasNothing s x → Row s x (s, [])
  SaysBusy : (observer : ℕ) (key : List ℕ) → x ≡ Read observer key → can_read s ≡ false → Row s x (s, Busy s.number ∷ [])
  -- a key is asked for
  Asks : (observer : ℕ) (key : List ℕ) → x ≡ Read observer key → can_read s ≡ true → Row s x (begin s (reading_of s observer key))
  -- the read that waits is sent again
  Repeats : (r : Reading) → x ≡ Ticked ticks.Retry → s.pending ≡ Some r → Row s x (s, sent s.number r ∷ [])
  -- it is answered
  Ends : (r : Reading) (a : Answer) → Has (answer_of x) a → s.pending ≡ Some r → Answers s.number r a → Row s x (end s a)
