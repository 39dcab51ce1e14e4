-- What a link does with the parts of all ports, by lanes: ports of one remainder are one.
use Rattle.std.specs.Prelude.{◌≡◌, ◌⊎◌, ◌<◌, ◌≤◌, ℕ, zero, suc, ◌%◌, Bool, true, false, if◌then◌else◌, List, length, slice_index_or, slice_set, Some}
use Rattle.resending.specs.declared.acks.Ack.{Ack}
use Rattle.resending.specs.declared.flow.TheConstants.{MOST_AT_ONCE}
use Rattle.resending.specs.declared.lanes.TheConstants.{LANES}
use Rattle.resending.specs.Acks.{reading}
use Rattle.resending.specs.Sending.{Outgoing, acknowledged, admitted, advanced, at_time, has_room, is_admitted, opening, resent}
use Rattle.resending.specs.Sending.{turn_begun, turned_away}

-- the first part that waits goes, where the port has room for it
abbrev pub one_sent : Outgoing → Outgoing
one_sent f = if has_room f then advanced f else f

-- so many go, one after the other
abbrev pub sent : ℕ → Outgoing → Outgoing
sent zero f = f
sent (suc n) f = one_sent (sent n f)

-- the first n of those in flight go again, where they are due
abbrev pub all_resent : ℕ → Outgoing → Outgoing
all_resent zero f = f
all_resent (suc n) f = resent n (all_resent n f)

-- what is due goes again
abbrev pub resent_due : Outgoing → Outgoing
resent_due f = all_resent (length f.flight) f

-- a turn: what is due goes again, and then some that wait, at most so many
abbrev pub IsTurn : ℕ → Outgoing → Outgoing → Type 0
IsTurn now old new = (n : ℕ) × ((n ≤ MOST_AT_ONCE) × (new ≡ sent n (resent_due (turn_begun now old))))

-- a part that is to be sent is refused, also for want of memory; or it waits behind the others, and the first of all goes, if one may
abbrev pub Goes : ℕ → List ℕ → Outgoing → Outgoing → Bool → Type 0
Goes port bytes old new answer =
    ((new ≡ turned_away bytes old) × (answer ≡ false))
    ⊎ ((is_admitted bytes old ≡ true)
    × ((new ≡ admitted port bytes old) ⊎ (new ≡ one_sent (admitted port bytes old))))

-- ---- all lanes

abbrev pub flow_to : ℕ → List Outgoing → Outgoing
flow_to port flows = slice_index_or flows (port % LANES) opening

-- the same with this one for the port, and each other lane as it was
abbrev pub with_flow_to : ℕ → Outgoing → List Outgoing → List Outgoing
with_flow_to port flow flows = slice_set flows (port % LANES) flow

-- a turn of each
abbrev pub AreTurns : ℕ → List Outgoing → List Outgoing → Type 0
AreTurns now old new =
    (length new ≡ length old)
    × ((i : ℕ) → i < length old → IsTurn now (slice_index_or old i opening) (slice_index_or new i opening))

-- a part goes at a time, and changes the lane of its port alone
abbrev pub AdmitsPart : ℕ → List ℕ → List Outgoing → List Outgoing → Bool → Type 0
AdmitsPart port bytes old new answer =
    (now : ℕ) × ((flow : Outgoing) × (Goes port bytes (at_time now (flow_to port old)) flow answer
    × (new ≡ with_flow_to port flow old)))

-- an acknowledgement that came from a port takes out of flight what it names
pub record HeedsAck (from : ℕ) (bytes : List ℕ) (old new : List Outgoing) : Type 0 where
  pub ack : Ack
  pub is : reading bytes ≡ Some ack
  pub now : ℕ
  pub heeded : new ≡ with_flow_to from (acknowledged from ack (at_time now (flow_to from old))) old
