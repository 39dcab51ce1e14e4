-- What a step of a client does: one of six things; and what becomes of its open requests and of what it keeps for them.
use Rattle.std.specs.Prelude.{◌≡◌, ◌⊎◌, ℕ, ◌+◌, List, [], ◌∷◌, ◌++◌, map, filter, true, false, not, Option, Some, None, ◌==◌}
use Rattle.nop_types.specs.Given.{Given, Packet, Ticked, Submit, Read}
use Rattle.nop_types.specs.Lists.{Has}
use Rattle.nop_types.specs.declared.input.Tick.{Tick}
use Rattle.nop_types.specs.declared.input.Tick.TheVariants as ticks
use Rattle.nop_types.specs.declared.output.Out.{Out}
use Rattle.nop_types.specs.declared.output.Out.TheVariants.{Accepted, Busy}
use Rattle.nop_types.specs.declared.request.Request.{Request}
use Rattle.nop_types.specs.declared.datagram.Reply.{Reply}
use Rattle.client_quorum.specs.declared.state.ClientState.{ClientState}
use Rattle.client_quorum.specs.ClientSteps.{accepts, begin, can_submit, is_expected, kept, request_of, sent}
use Rattle.client_quorum.specs.Ignoring.{is_tick_for}
use Rattle.client_quorum.specs.KeptReplies.{keep_reply, quorum_of}
use Rattle.client_quorum.specs.OpenRequests.{kept_for, open_requests}
use Rattle.client_quorum.specs.Opens.{recent_at}
use Rattle.client_quorum.specs.Runs.{reply_of}

-- ---- one of six things

-- where the op comes from that becomes a request, and what then waits
abbrev pub ComesFrom : ClientState → Given → List ℕ → List (List ℕ) → Type 0
ComesFrom s x op waiting = ((x ≡ Ticked ticks.Next) × (s.waiting ≡ op ∷ waiting)) ⊎ ((x ≡ Submit op) × (s.waiting ≡ waiting))

-- the leader's reply, where this one makes what is kept for its request a quorum
abbrev pub quorum_with : ClientState → Reply → Option Reply
quorum_with s p = quorum_of s.config.replicas (kept_for (kept s p) p.id) p.view p.slot

-- what comes asks nothing of the client
pub data HasNothing (s : ClientState) (x : Given) : Type 0 where
  -- a packet that brings no reply to an open request
  BringsNoReply : (bytes : List ℕ) → x ≡ Packet bytes → ((p : Reply) → Has (reply_of x) p → is_expected s p ≡ false) → HasNothing s x
  -- the tick Next, where no op can be submitted, or none waits
  HasNoRoom : x ≡ Ticked ticks.Next → can_submit s ≡ false → HasNothing s x
  HasNoOp : x ≡ Ticked ticks.Next → s.waiting ≡ [] → HasNothing s x
  -- a tick for others
  IsForOthers : (tick : Tick) → x ≡ Ticked tick → is_tick_for tick ≡ false → HasNothing s x
  IsRead : (observer : ℕ) (key : List ℕ) → x ≡ Read observer key → HasNothing s x

-- the new state, and what is given
pub data Row (s : ClientState) (x : Given) : ClientState × List Out → Type 0 where
  Rests : HasNothing s x → Row s x (s, [])
  SaysBusy : (op : List ℕ) → x ≡ Submit op → can_submit s ≡ false → Row s x (s, Busy s.number ∷ [])
  -- an op is submitted
  Opens : (op : List ℕ) (waiting : List (List ℕ)) → can_submit s ≡ true → ComesFrom s x op waiting
      → Row s x (begin (record s { waiting = waiting }) (request_of s op))
  -- each open request is sent again
  Repeats : x ≡ Ticked ticks.Retry → Row s x (s, map sent (open_requests s))
  -- a reply is kept
  Keeps : (p : Reply) → Has (reply_of x) p → is_expected s p ≡ true → quorum_with s p ≡ None → Row s x (kept s p, [])
  -- and with it a result is accepted
  Accepts : (p leaders : Reply) → Has (reply_of x) p → is_expected s p ≡ true → quorum_with s p ≡ Some leaders
      → Row s x (accepts (kept s p) p.id leaders, Accepted s.number p.id leaders.result ∷ [])

-- ---- what becomes of the open requests

-- the request is open too, the last of them
pub record IsOpened (s t : ClientState) (r : Request) : Type 0 where
  pub last_id : t.last_id ≡ s.last_id + 1
  pub requests : open_requests t ≡ open_requests s ++ r ∷ []
  pub kept : (id : ℕ) → kept_for t id ≡ kept_for s id
  pub recent : t.recent ≡ recent_at t.last_id s.recent

-- the reply is kept for its request
pub record IsKept (s t : ClientState) (p : Reply) : Type 0 where
  pub last_id : t.last_id ≡ s.last_id
  pub requests : open_requests t ≡ open_requests s
  pub here : kept_for t p.id ≡ keep_reply (kept_for s p.id) p
  pub others : (id : ℕ) → (id ≡ p.id → ⊥) → kept_for t id ≡ kept_for s id
  pub recent : t.recent ≡ s.recent

-- the request of the id, and no other, is no longer open, and has the result of the leader's reply
pub record IsClosed (s t : ClientState) (id : ℕ) (leaders : Reply) : Type 0 where
  pub last_id : t.last_id ≡ s.last_id
  pub requests : open_requests t ≡ filter (λ q. not (q.id == id)) (open_requests s)
  pub here : kept_for t id ≡ []
  pub others : (k : ℕ) → (k ≡ id → ⊥) → kept_for t k ≡ kept_for s k
  pub recent : t.recent ≡ s.recent ++ record { id = id; slot = leaders.slot; result = leaders.result } ∷ []
