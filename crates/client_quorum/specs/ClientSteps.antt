-- The step table of a client's requests.
use Rattle.std.specs.Prelude.{ℕ, ◌+◌, ◌-◌, ◌^◌, ◌<◌, List, map, [], ◌∷◌, ◌++◌, Bool, true, false, Option, Some, None, Result, Ok, nat_lt, ◌==◌, ◌&&◌}
use Rattle.std.specs.List.{AllByRecursion}
use Rattle.nop_types.specs.Configuration.{Configuration}
use Rattle.nop_types.specs.Given.{Given, Packet, Ticked, Submit}
use Rattle.nop_types.specs.declared.input.Tick.{Tick}
use Rattle.nop_types.specs.declared.input.Tick.TheVariants as ticks
use Rattle.nop_types.specs.declared.output.Out.{Out}
use Rattle.nop_types.specs.declared.output.Out.TheVariants.{Send, Submitted, Accepted, Busy}
use Rattle.nop_types.specs.declared.output.Dest.TheVariants.{Sequencers}
use Rattle.nop_types.specs.declared.request.Request.{Request}
use Rattle.nop_types.specs.declared.datagram.Reply.{Reply}
use Rattle.nop_types.specs.declared.datagram.Datagram.{Datagram}
use Rattle.nop_types.specs.declared.datagram.Datagram.TheVariants as datagrams
use Rattle.oum_codec.specs.declared.bad.Bad.{Bad}
use Rattle.oum_codec.specs.Reading.{reading}
use Rattle.oum_codec.specs.Spelling.{spelling}
use Rattle.client_quorum.specs.KeptReplies.{quorum_of}
use Rattle.client_quorum.specs.OpenRequests.{has_room, is_open, kept_for, open_requests}
use Rattle.client_quorum.specs.Opens.{AcceptFits, OpenFits, closed, is_empty, recent_at, with_reply}
use Rattle.client_quorum.specs.declared.state.ClientState.{ClientState}

-- within the limits
pub record IsWithin (s : ClientState) : Type 0 where
  pub last_id : s.last_id < 2 ^ 64
  pub open_ : AllByRecursion OpenFits s.open_
  pub recent : AllByRecursion AcceptFits s.recent

abbrev pub opening : Configuration → ℕ → List (List ℕ) → ClientState
opening config number ops =
    record { config = config; number = number; last_id = 0; open_ = []; recent = []; waiting = ops }

-- the request, to all sequencers
abbrev pub sent : Request → Out
sent r = Send Sequencers (spelling (datagrams.Request r))

-- ---- an op is submitted

-- there is room for one more open request, and an id is left
abbrev pub can_submit : ClientState → Bool
can_submit s = has_room s && nat_lt s.last_id (2 ^ 64 - 1)

abbrev pub request_of : ClientState → List ℕ → Request
request_of s op = record { client = s.number; id = s.last_id + 1; op = op }

-- the request is open, and an acceptance that is now a window behind is forgotten
abbrev pub submitted : ClientState → Request → ClientState
submitted s r = record s {
  last_id = s.last_id + 1;
  open_ = s.open_ ++ record { request = r; replies = [] } ∷ [];
  recent = recent_at (s.last_id + 1) s.recent;
}

abbrev pub begin : ClientState → Request → ClientState × List Out
begin s r = (submitted s r, Submitted r ∷ sent r ∷ [])

abbrev pub submit_if : Bool → ClientState → Request → ClientState × List Out
submit_if true s r = begin s r
submit_if false s r = (s, Busy s.number ∷ [])

abbrev pub submit : ClientState → List ℕ → ClientState × List Out
submit s op = submit_if (can_submit s) s (request_of s op)

-- ---- the tick Next

abbrev pub first_of : List (List ℕ) → Option (List ℕ)
first_of [] = None
first_of (op ∷ ops) = Some op

abbrev pub after_first : List (List ℕ) → List (List ℕ)
after_first [] = []
after_first (op ∷ ops) = ops

-- the first waiting op, if one waits
abbrev pub submit_first : Option (List ℕ) → ClientState → ClientState × List Out
submit_first None s = (s, [])
submit_first (Some op) s = begin (record s { waiting = after_first s.waiting }) (request_of s op)

abbrev pub submit_waiting_if : Bool → ClientState → ClientState × List Out
submit_waiting_if true s = submit_first (first_of s.waiting) s
submit_waiting_if false s = (s, [])

abbrev pub submit_waiting : ClientState → ClientState × List Out
submit_waiting s = submit_waiting_if (can_submit s) s

-- ---- a reply comes

-- it is for this client, an open id, and from a replica of the configuration
abbrev pub is_expected : ClientState → Reply → Bool
is_expected s p = (p.client == s.number) && (is_open s p.id && nat_lt p.replica s.config.replicas)

abbrev pub kept : ClientState → Reply → ClientState
kept s p = record s { open_ = with_reply s.open_ p }

-- the result of the leader's reply is that of the id
abbrev pub accepts : ClientState → ℕ → Reply → ClientState
accepts s id p = record s {
  open_ = closed s.open_ id;
  recent = s.recent ++ record { id = id; slot = p.slot; result = p.result } ∷ [];
}

abbrev pub accept_if : ClientState → ℕ → Option Reply → ClientState × List Out
accept_if s id None = (s, [])
accept_if s id (Some p) = (accepts s id p, Accepted s.number id p.result ∷ [])

abbrev pub accept : ClientState → Reply → ClientState × List Out
accept s p = accept_if s p.id (quorum_of s.config.replicas (kept_for s p.id) p.view p.slot)

abbrev pub reply_if : Bool → ClientState → Reply → ClientState × List Out
reply_if true s p = accept (kept s p) p
reply_if false s p = (s, [])

abbrev pub reply : ClientState → Reply → ClientState × List Out
reply s p = reply_if (is_expected s p) s p

-- ---- the tick Retry

-- each open request is sent again
abbrev pub retry : ClientState → ClientState × List Out
retry s = (s, map sent (open_requests s))

-- ---- all rows

abbrev pub on_datagram : ClientState → Result Datagram Bad → ClientState × List Out
on_datagram s (Ok (datagrams.Reply p)) = reply s p
on_datagram s _ = (s, [])

abbrev pub on_tick : ClientState → Tick → ClientState × List Out
on_tick s ticks.Next = submit_waiting s
on_tick s ticks.Retry = retry s
on_tick s _ = (s, [])

unfoldable pub next : ClientState → Given → ClientState × List Out
next s (Packet bytes) = on_datagram s (reading bytes)
next s (Ticked tick) = on_tick s tick
next s (Submit op) = submit s op
next s _ = (s, [])

-- ---- timers, and the end

-- with their periods in milliseconds
abbrev pub timers : List (Tick × ℕ)
timers = (ticks.Next, 0) ∷ (ticks.Retry, 200) ∷ []

-- nothing is open or waiting
abbrev pub is_done : ClientState → Bool
is_done s = is_empty (open_requests s) && is_empty s.waiting
