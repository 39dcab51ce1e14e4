-- Lists of open requests, and of the acceptances of the last ids.
use Rattle.std.specs.Prelude.{ℕ, ◌+◌, ◌≤◌, length, List, [], ◌∷◌, Bool, true, false, Option, nat_lt, ◌==◌, cond, filter, find, map, not}
use Rattle.std.specs.List.{list_all, list_any}
use Rattle.nop_types.specs.declared.limits.TheConstants.{MAX_RESULT_BYTES, WINDOW}
use Rattle.nop_types.specs.Ranges.{RequestFits}
use Rattle.nop_types.specs.declared.output.Accept.{Accept}
use Rattle.nop_types.specs.declared.request.Request.{Request}
use Rattle.nop_types.specs.declared.datagram.Reply.{Reply}
use Rattle.client_quorum.specs.KeptReplies.{AreKept, keep_reply}
use Rattle.client_quorum.specs.declared.open_requests.Open.{Open}

abbrev pub is_empty : {A : Type 0} → List A → Bool
is_empty [] = true
is_empty (x ∷ xs) = false

-- ---- open requests, the oldest first

-- the request is in its ranges, and so are the replies that are kept for it
pub record OpenFits (o : Open) : Type 0 where
  pub request : RequestFits o.request
  pub replies : AreKept o.replies

abbrev pub requests_of : List Open → List Request
requests_of os = map (λ o. o.request) os

-- one has this id
abbrev pub has_id : List Open → ℕ → Bool
has_id os id = list_any (λ o. o.request.id == id) os

-- the id after the last one is less than a window above that of each
abbrev pub are_near : List Open → ℕ → Bool
are_near os last_id = list_all (λ o. nat_lt (last_id + 1) (o.request.id + WINDOW)) os

-- the replies that are kept for the one of this id
abbrev pub replies_for : List Open → ℕ → List Reply
replies_for [] id = []
replies_for (o ∷ os) id = cond (o.request.id == id) o.replies (replies_for os id)

-- the reply is kept for the one of its id
abbrev pub with_reply : List Open → Reply → List Open
with_reply [] p = []
with_reply (o ∷ os) p = cond (o.request.id == p.id) (record o { replies = keep_reply o.replies p } ∷ os) (o ∷ with_reply os p)

-- none of this id is left
abbrev pub closed : List Open → ℕ → List Open
closed os id = filter (λ o. not (o.request.id == id)) os

-- ---- acceptances, the first that came first

-- the result is within its limit
abbrev pub AcceptFits : Accept → Type 0
AcceptFits a = length a.result ≤ MAX_RESULT_BYTES

-- those of ids less than a window behind the last one
abbrev pub recent_at : ℕ → List Accept → List Accept
recent_at last_id accepts = filter (λ a. nat_lt last_id (a.id + WINDOW)) accepts

-- that of an id
abbrev pub accepted_in : List Accept → ℕ → Option Accept
accepted_in accepts id = find (λ a. a.id == id) accepts
