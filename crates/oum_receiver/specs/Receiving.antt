-- The receiver as plain data, and what each call does to it.
use Rattle.std.specs.Prelude.{ℕ, refl, ◌+◌, ◌≤◌, ◌<◌, ◌==◌, ◌||◌, Bool, nat_lt, nat_le, IfSome, if◌then◌else◌}
use Rattle.std.specs.Coded.{Coded, code_by, coded×, coded_ℕ}
use Rattle.std.specs.FinMap as finite
use Rattle.nop_types.specs.declared.limits.TheConstants.{MAX_QUEUED, NUMBER_END}
use Rattle.nop_types.specs.declared.request.Request.{Request}
use Rattle.nop_types.specs.declared.datagram.Stamped.{Stamped}
use Rattle.nop_types.specs.Ranges.{RequestFits}
use Rattle.oum_receiver.specs.declared.verdict.Verdict.{Verdict}
use Rattle.oum_receiver.specs.declared.verdict.Verdict.TheVariants.{Queued, Old, Terminated, Full}
use Rattle.oum_receiver.specs.Front.{Front, front_at}
use Rattle.oum_receiver.specs.Requests.{Requests, requests_code, is_from}

-- the session, the message number that is handed up next, and the queued requests by message number
pub record Receiving : Type 0 where
  pub session : ℕ
  pub next : ℕ
  pub queued : Requests

-- by which a proof tells two receivers apart
abbrev pub receiving_code : Coded Receiving
receiving_code =
    code_by (ℕ × (ℕ × Requests)) (coded× coded_ℕ (coded× coded_ℕ requests_code)) (λ r. (r.session, (r.next, r.queued)))
    (λ p. record { session = p.0; next = p.1.0; queued = p.1.1 }) (λ _. refl)

-- what holds of a request that is queued at a number
pub record QueuedFits (next number : ℕ) (request : Request) : Type 0 where
  pub low : next ≤ number
  pub high : number < NUMBER_END
  pub fits : RequestFits request

-- what holds of each receiver
pub record IsSound (r : Receiving) : Type 0 where
  pub next : r.next ≤ NUMBER_END
  pub few : finite.len r.queued ≤ MAX_QUEUED
  pub each : (number : ℕ) → IfSome (finite.get r.queued number) (QueuedFits r.next number)

-- at a session and a next number, with an empty queue
abbrev pub opened : ℕ → ℕ → Receiving
opened session next = record { session = session; next = next; queued = finite.empty }

-- whether a packet is of an older session, or its number was passed or is queued
abbrev pub is_old : Receiving → Stamped → Bool
is_old r packet = nat_lt packet.session r.session || (nat_lt packet.number r.next || finite.contains_key r.queued packet.number)

-- a later session, an old packet, a full queue, or none of these: the first that holds
unfoldable pub verdict_of : Receiving → Stamped → Verdict
verdict_of r packet =
    if nat_lt r.session packet.session then Terminated packet.session
    else (if is_old r packet then Old
    else (if nat_le MAX_QUEUED (finite.len r.queued) then Full else Queued))

-- after a verdict on a packet, which is queued by that verdict alone
abbrev pub judged : Verdict → Receiving → Stamped → Receiving
judged Queued r packet = record r { queued = finite.insert r.queued packet.number packet.request }
judged _ r packet = r

-- after the offer of a packet
abbrev pub offered : Receiving → Stamped → Receiving
offered r packet = judged (verdict_of r packet) r packet

-- what is in front: nothing where the queue is empty, else the request at the next number, or a drop where none is there
abbrev pub front_of : Receiving → Front
front_of r = front_at (finite.len r.queued == 0) (finite.get r.queued r.next)

-- after the front was taken
abbrev pub front_taken : Receiving → Receiving
front_taken r = record r { next = r.next + 1; queued = finite.remove r.queued r.next }

-- with another next number, up or down, and what is queued from it on
abbrev pub advanced : Receiving → ℕ → Receiving
advanced r next = record r { next = next; queued = finite.retain_keys r.queued (is_from next) }
