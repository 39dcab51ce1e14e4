-- The step table of a client's reads.
use Rattle.std.specs.Prelude.{ℕ, ◌+◌, ◌-◌, ◌^◌, ◌<◌, ◌≤◌, length, IfSome, List, [], ◌∷◌, Bool, true, false, Option, Some, None, Result, Ok}
use Rattle.std.specs.Prelude.{is_none, nat_lt, ◌==◌, ◌&&◌}
use Rattle.nop_types.specs.declared.limits.TheConstants.{MAX_KEY_BYTES}
use Rattle.nop_types.specs.Given.{Given, Packet, Ticked, Submit, Read}
use Rattle.nop_types.specs.declared.input.Tick.{Tick}
use Rattle.nop_types.specs.declared.input.Tick.TheVariants as ticks
use Rattle.nop_types.specs.declared.output.Out.{Out}
use Rattle.nop_types.specs.declared.output.Out.TheVariants as outs
use Rattle.nop_types.specs.declared.output.Out.TheVariants.{Send, Busy, Answered}
use Rattle.nop_types.specs.declared.output.Dest.TheVariants.{One}
use Rattle.nop_types.specs.declared.output.Actor.TheVariants.{Observer}
use Rattle.nop_types.specs.declared.datagram.Answer.{Answer}
use Rattle.nop_types.specs.declared.datagram.Datagram.{Datagram}
use Rattle.nop_types.specs.declared.datagram.Datagram.TheVariants as datagrams
use Rattle.oum_codec.specs.declared.bad.Bad.{Bad}
use Rattle.oum_codec.specs.Reading.{reading}
use Rattle.oum_codec.specs.Spelling.{spelling}
use Rattle.client_reads.specs.declared.state.Reading.{Reading}
use Rattle.client_reads.specs.declared.state.Reads.{Reads}

-- ids count from 1
pub record ReadingFits (r : Reading) : Type 0 where
  pub id_low : 1 ≤ r.id
  pub id : r.id < 2 ^ 64
  pub some : 1 ≤ length r.key
  pub most : length r.key ≤ MAX_KEY_BYTES

-- within the limits
pub record IsWithin (s : Reads) : Type 0 where
  pub number : s.number < 2 ^ 32
  pub last_id : s.last_id < 2 ^ 64
  pub pending : IfSome s.pending ReadingFits

abbrev pub opening : ℕ → Reads
opening number = record { number = number; last_id = 0; pending = None }

-- the read of the client with this number, to its observer
abbrev pub sent : (number : ℕ) → Reading → Out
sent number r = Send (One (Observer r.observer)) (spelling (datagrams.Read (record { client = number; id = r.id; key = r.key })))

-- ---- a key is asked for

-- no read waits, and an id is left
abbrev pub can_read : Reads → Bool
can_read s = is_none s.pending && nat_lt s.last_id (2 ^ 64 - 1)

abbrev pub reading_of : Reads → (observer : ℕ) → (key : List ℕ) → Reading
reading_of s observer key = record { id = s.last_id + 1; observer = observer; key = key }

abbrev pub asked : Reads → Reading → Reads
asked s r = record s { last_id = s.last_id + 1; pending = Some r }

abbrev pub begin : Reads → Reading → Reads × List Out
begin s r = (asked s r, outs.Reading s.number r.id r.observer r.key ∷ sent s.number r ∷ [])

abbrev pub ask_if : Bool → Reads → Reading → Reads × List Out
ask_if true s r = begin s r
ask_if false s r = (s, Busy s.number ∷ [])

abbrev pub ask : Reads → (observer : ℕ) → (key : List ℕ) → Reads × List Out
ask s observer key = ask_if (can_read s) s (reading_of s observer key)

-- ---- an answer comes

-- it is for this client, the id that waits, and says that it is from the observer that was asked
abbrev pub is_answer_to : (number : ℕ) → Option Reading → Answer → Bool
is_answer_to number None a = false
is_answer_to number (Some r) a = (a.client == number) && ((a.id == r.id) && (a.observer == r.observer))

abbrev pub is_expected : Reads → Answer → Bool
is_expected s a = is_answer_to s.number s.pending a

abbrev pub ended : Reads → Reads
ended s = record s { pending = None }

abbrev pub end : Reads → Answer → Reads × List Out
end s a = (ended s, Answered s.number a.id a.observer a.position a.result ∷ [])

abbrev pub answer_if : Bool → Reads → Answer → Reads × List Out
answer_if true s a = end s a
answer_if false s a = (s, [])

abbrev pub answer : Reads → Answer → Reads × List Out
answer s a = answer_if (is_expected s a) s a

-- ---- the tick Retry

abbrev pub sent_again : (number : ℕ) → Option Reading → List Out
sent_again number None = []
sent_again number (Some r) = sent number r ∷ []

-- the read that waits is sent again
abbrev pub retry : Reads → Reads × List Out
retry s = (s, sent_again s.number s.pending)

-- ---- all rows

abbrev pub on_datagram : Reads → Result Datagram Bad → Reads × List Out
on_datagram s (Ok (datagrams.Answer a)) = answer s a
on_datagram s _ = (s, [])

abbrev pub on_tick : Reads → Tick → Reads × List Out
on_tick s ticks.Retry = retry s
on_tick s _ = (s, [])

unfoldable pub next : Reads → Given → Reads × List Out
next s (Packet bytes) = on_datagram s (reading bytes)
next s (Ticked tick) = on_tick s tick
next s (Submit op) = (s, [])
next s (Read observer key) = ask s observer key

-- ---- the end

-- no read waits
abbrev pub is_done : Reads → Bool
is_done s = is_none s.pending
