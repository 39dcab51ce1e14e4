-- What holds of the words for open requests, and what each row does to them.
use Rattle.std.proofs.Common.{◌≡◌, ℕ, ◌+◌, ◌<◌, true, refl, ap, List, [], arith, length}
use Rattle.std.specs.Prelude.{◌==◌, ◌&&◌, nat_lt}
use Rattle.std.proofs.lemmas.Bool.{and_parts, ltb-true}
use Rattle.nop_types.specs.Configuration.{Configuration}
use Rattle.nop_types.specs.declared.limits.TheConstants.{WINDOW}
use Rattle.nop_types.specs.Lists.{Has}
use Rattle.nop_types.specs.declared.request.Request.{Request}
use Rattle.nop_types.specs.declared.datagram.Reply.{Reply}
use Rattle.client_quorum.specs.declared.state.ClientState.{ClientState}
use Rattle.client_quorum.specs.ClientSteps.{accepts, is_expected, kept, opening, submitted}
use Rattle.client_quorum.specs.KeptReplies.{keep_reply, quorum_of}
use Rattle.client_quorum.specs.OpenRequests.{open_requests, IsOpen, has_room, is_open, kept_for, WordsAgree}
use Rattle.client_quorum.specs.Opens.{are_near}
use Rattle.client_quorum.specs.Rows.{quorum_with, IsOpened, IsKept, IsClosed}
use Rattle.client_quorum.proofs.Opens.{any_has, has_any, replies_open, near_each, few_requests, opened_requests, opened_replies}
use Rattle.client_quorum.proofs.Opens.{kept_requests, kept_here, kept_others, closed_requests, closed_here, closed_others}

-- ---- what holds of the words

pub open_has : (s : ClientState) (id : ℕ) → is_open s id ≡ true → (q : Request) × IsOpen s q × (q.id ≡ id)
unfolding is_open open_requests
open_has s id e = any_has id s.open_ e

pub has_open : (s : ClientState) (id : ℕ) → ((q : Request) × IsOpen s q × (q.id ≡ id)) → is_open s id ≡ true
unfolding is_open open_requests
has_open s id (q, has, e) = has_any id s.open_ q has e

pub kept_is_open : (s : ClientState) (id : ℕ) (p : Reply) → Has (kept_for s id) p → is_open s id ≡ true
unfolding is_open kept_for
kept_is_open s id p has = replies_open id s.open_ p has

pub room_is_left : (s : ClientState) → has_room s ≡ true → length (open_requests s) < WINDOW
unfolding has_room open_requests
room_is_left s room =
    let both = and_parts (nat_lt (length s.open_) WINDOW) (are_near s.open_ s.last_id) room in
    let fewer = ltb-true (length s.open_) WINDOW both.0 in
    let as_many = few_requests s.open_ in
    omega (arith, fewer, as_many)

pub room_is_near : (s : ClientState) → has_room s ≡ true → (q : Request) → IsOpen s q → s.last_id + 1 < q.id + WINDOW
unfolding has_room open_requests
room_is_near s room =
    let both = and_parts (nat_lt (length s.open_) WINDOW) (are_near s.open_ s.last_id) room in
    near_each s.open_ s.last_id both.1

pub words_agree : (s : ClientState) → WordsAgree s
words_agree s = record {
  ids = λ id. (open_has s id, has_open s id);
  kept = kept_is_open s;
  fewer = room_is_left s;
  near = room_is_near s;
}

pub opening_opens_none : (config : Configuration) (number : ℕ) (ops : List (List ℕ)) → open_requests (opening config number ops) ≡ []
unfolding open_requests
opening_opens_none config number ops = refl

pub opening_keeps_none : (config : Configuration) (number : ℕ) (ops : List (List ℕ)) (id : ℕ) → kept_for (opening config number ops) id ≡ []
unfolding kept_for
opening_keeps_none config number ops id = refl

-- ---- what rows do to them

pub opens : (s : ClientState) (r : Request) (waiting : List (List ℕ)) → IsOpened s (submitted (record s { waiting = waiting }) r) r
unfolding open_requests kept_for
opens s r waiting = record {
  last_id = refl;
  requests = opened_requests s.open_ (record { request = r; replies = [] });
  kept = opened_replies s.open_ r;
  recent = refl;
}

pub keeps : (s : ClientState) (p : Reply) → is_open s p.id ≡ true → IsKept s (kept s p) p
unfolding is_open open_requests kept_for
keeps s p e = record {
  last_id = refl;
  requests = kept_requests s.open_ p;
  here = kept_here s.open_ p e;
  others = kept_others s.open_ p;
  recent = refl;
}

pub closes : (s : ClientState) (id : ℕ) (p : Reply) → IsClosed s (accepts s id p) id p
unfolding open_requests kept_for
closes s id p = record {
  last_id = refl;
  requests = closed_requests s.open_ id;
  here = closed_here s.open_ id;
  others = closed_others s.open_ id;
  recent = refl;
}

-- ---- an expected reply

pub expected_is_open : (s : ClientState) (p : Reply) → is_expected s p ≡ true → is_open s p.id ≡ true
expected_is_open s p e =
    let mine = and_parts (p.client == s.number) (is_open s p.id && nat_lt p.replica s.config.replicas) e in
    (and_parts (is_open s p.id) (nat_lt p.replica s.config.replicas) mine.1).0

-- what is kept for its request then
pub quorum_here : (s : ClientState) (p : Reply) → is_expected s p ≡ true
    → quorum_with s p ≡ quorum_of s.config.replicas (keep_reply (kept_for s p.id) p) p.view p.slot
quorum_here s p e =
    ap (λ (l : List Reply). quorum_of s.config.replicas l p.view p.slot) (keeps s p (expected_is_open s p e)).here
