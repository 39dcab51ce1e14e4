-- The open requests of a client, those that were submitted and not yet accepted, and what it keeps for them. Only this crate sees into these
-- words: what holds of them, and what each row does to them, is said by laws.
use Rattle.std.specs.Prelude.{◌≡◌, ◌↔◌, ℕ, ◌+◌, ◌<◌, length, List, Bool, true, nat_lt, ◌&&◌}
use Rattle.nop_types.specs.declared.limits.TheConstants.{WINDOW}
use Rattle.nop_types.specs.Lists.{Has}
use Rattle.nop_types.specs.declared.request.Request.{Request}
use Rattle.nop_types.specs.declared.datagram.Reply.{Reply}
use Rattle.client_quorum.specs.Opens.{are_near, has_id, replies_for, requests_of}
use Rattle.client_quorum.specs.declared.state.ClientState.{ClientState}

-- the oldest first
unfoldable pub open_requests : ClientState → List Request
open_requests s = requests_of s.open_

abbrev pub IsOpen : ClientState → Request → Type 0
IsOpen s q = Has (open_requests s) q

-- one more may be open beside them: fewer are than a window has, and the next id is near that of each
unfoldable pub has_room : ClientState → Bool
has_room s = nat_lt (length s.open_) WINDOW && are_near s.open_ s.last_id

-- one has this id
unfoldable pub is_open : ClientState → ℕ → Bool
is_open s id = has_id s.open_ id

-- the replies that are kept for the one that has this id
unfoldable pub kept_for : ClientState → ℕ → List Reply
kept_for s id = replies_for s.open_ id

-- what holds of the words in any state: an id is open where a request has it, replies are kept for no other id, and where there is room
-- for one more, fewer are open than a window has, and the next id is near that of each
pub record WordsAgree (s : ClientState) : Type 0 where
  pub ids : (id : ℕ) → is_open s id ≡ true ↔ ((q : Request) × IsOpen s q × (q.id ≡ id))
  pub kept : (id : ℕ) (p : Reply) → Has (kept_for s id) p → is_open s id ≡ true
  pub fewer : has_room s ≡ true → length (open_requests s) < WINDOW
  pub near : has_room s ≡ true → (q : Request) → IsOpen s q → s.last_id + 1 < q.id + WINDOW
