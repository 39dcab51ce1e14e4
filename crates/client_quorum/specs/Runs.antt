-- Runs of a client over any inputs, and what they give.
use Rattle.std.specs.Prelude.{◌≡◌, ℕ, ◌+◌, ⊤, List, [], ◌∷◌, ◌++◌, Result, Ok, filter, not, ◌==◌, length, ◌/◌}
use Rattle.std.specs.Prelude.{◌≤◌, ◌<◌}
use Rattle.nop_types.specs.declared.limits.TheConstants.{WINDOW}
use Rattle.nop_types.specs.Given.{Given, Packet, Submit}
use Rattle.nop_types.specs.Lists.{Has}
use Rattle.nop_types.specs.Views.{leader_of}
use Rattle.nop_types.specs.declared.view.View.{View}
use Rattle.nop_types.specs.declared.output.Accept.{Accept}
use Rattle.nop_types.specs.declared.output.Out.{Out}
use Rattle.nop_types.specs.declared.output.Out.TheVariants.{Send, Submitted, Accepted, Busy}
use Rattle.nop_types.specs.declared.request.Request.{Request}
use Rattle.nop_types.specs.declared.datagram.Reply.{Reply}
use Rattle.nop_types.specs.declared.datagram.Datagram.{Datagram}
use Rattle.nop_types.specs.declared.datagram.Datagram.TheVariants as datagrams
use Rattle.oum_codec.specs.declared.bad.Bad.{Bad}
use Rattle.oum_codec.specs.Reading.{reading}
use Rattle.client_quorum.specs.declared.state.ClientState.{ClientState}
use Rattle.client_quorum.specs.ClientSteps.{next, sent}
use Rattle.client_quorum.specs.KeptReplies.{HasOneEach, matches}

-- the state after some inputs
abbrev pub after : ClientState → List Given → ClientState
after s [] = s
after s (x ∷ xs) = after (next s x).0 xs

-- what they give, in order
abbrev pub gave : ClientState → List Given → List Out
gave s [] = []
gave s (x ∷ xs) = (next s x).1 ++ gave (next s x).0 xs

-- ---- quorums

-- f + 1 of n = 2f + 1 replies are of this view and slot, and the leader's is one of them, with the result
pub record HasQuorum (n : ℕ) (kept : List Reply) (view : View) (slot : ℕ) (result : List ℕ) : Type 0 where
  pub enough : n / 2 + 1 ≤ length (filter (matches view slot) kept)
  pub leaders : Reply
  pub member : Has kept leaders
  pub at_view : leaders.view ≡ view
  pub at_slot : leaders.slot ≡ slot
  pub leads : leaders.replica ≡ leader_of view n
  pub tagged : leaders.tag ≡ 1
  pub brings : leaders.result ≡ result

-- the reply that a packet is, if it is one
abbrev pub reply_in : Result Datagram Bad → List Reply
reply_in (Ok (datagrams.Reply p)) = p ∷ []
reply_in _ = []

abbrev pub reply_of : Given → List Reply
reply_of (Packet bytes) = reply_in (reading bytes)
reply_of _ = []

-- the replies that came, in order
abbrev pub replies_of : List Given → List Reply
replies_of [] = []
replies_of (x ∷ xs) = reply_of x ++ replies_of xs

-- of a replica below n, for this client and id, at this view and slot
pub record IsReplyFor (n client id : ℕ) (view : View) (slot : ℕ) (p : Reply) : Type 0 where
  pub within : p.replica < n
  pub of_client : p.client ≡ client
  pub of_id : p.id ≡ id
  pub at_view : p.view ≡ view
  pub at_slot : p.slot ≡ slot

-- f + 1 different replicas replied for the client and id at one view and slot, the leader of that view with the result
pub record IsAgreed (n : ℕ) (came : List Reply) (client id : ℕ) (result : List ℕ) : Type 0 where
  pub view : View
  pub slot : ℕ
  pub replies : List Reply
  pub enough : n / 2 + 1 ≤ length replies
  pub one_each : HasOneEach replies
  pub received : (p : Reply) → Has replies p → Has came p
  pub fits : (p : Reply) → Has replies p → IsReplyFor n client id view slot p
  pub leaders : Reply
  pub member : Has replies leaders
  pub leads : leaders.replica ≡ leader_of view n
  pub tagged : leaders.tag ≡ 1
  pub brings : leaders.result ≡ result

-- ---- a window of requests

-- beside these there is room for the request of the next id: fewer are held than a window has, and that id is near each of theirs
pub record LeavesRoom (held : List Request) (last : ℕ) : Type 0 where
  pub fewer : length held < WINDOW
  pub near : (q : Request) → Has held q → last + 1 < q.id + WINDOW

-- one of them has this id
abbrev pub Holds : List Request → ℕ → Type 0
Holds held id = (q : Request) × Has held q × (q.id ≡ id)

-- all but those of this id
abbrev pub without : List Request → ℕ → List Request
without held id = filter (λ q. not (q.id == id)) held

-- one of them is sent
abbrev pub SendsOne : List Request → Out → Type 0
SendsOne held out = (q : Request) × Has held q × (out ≡ sent q)

-- with these requests held open, and this id the last one: a request is submitted under the next id where there is room, what is sent is
-- one of those that are held, and each of them is accepted once
abbrev pub TakesTurns : ℕ → List Request → ℕ → List Out → Type 0
TakesTurns number held last [] = ⊤
TakesTurns number held last (Submitted r ∷ outs) =
    LeavesRoom held last × (r.client ≡ number) × (r.id ≡ last + 1) × TakesTurns number (held ++ r ∷ []) (last + 1) outs
TakesTurns number held last (Send dest bytes ∷ outs) = SendsOne held (Send dest bytes) × TakesTurns number held last outs
TakesTurns number held last (Accepted client id result ∷ outs) =
    Holds held id × (client ≡ number) × TakesTurns number (without held id) last outs
TakesTurns number held last (Busy client ∷ outs) = (client ≡ number) × TakesTurns number held last outs
TakesTurns number held last (_ ∷ outs) = ⊥

-- an acceptance that is kept, after these outputs: it was given, for one of the last ids, and was agreed on at its slot
pub record IsRecent (n number last_id : ℕ) (outs : List Out) (came : List Reply) (a : Accept) : Type 0 where
  pub given : Has outs (Accepted number a.id a.result)
  pub near : last_id < a.id + WINDOW
  pub agreed : IsAgreed n came number a.id a.result
  pub at_slot : agreed.slot ≡ a.slot

-- ---- ops

-- the ops that are submitted, in order
abbrev pub ops_of : List Out → List (List ℕ)
ops_of [] = []
ops_of (Submitted r ∷ outs) = r.op ∷ ops_of outs
ops_of (_ ∷ outs) = ops_of outs

-- how many requests are accepted
abbrev pub accept_count : List Out → ℕ
accept_count [] = 0
accept_count (Accepted client id result ∷ outs) = 1 + accept_count outs
accept_count (_ ∷ outs) = accept_count outs

-- no op comes from outside
abbrev pub HasNoSubmit : List Given → Type 0
HasNoSubmit [] = ⊤
HasNoSubmit (Submit op ∷ xs) = ⊥
HasNoSubmit (_ ∷ xs) = HasNoSubmit xs

-- xs ends with these
abbrev pub EndsWith : List (List ℕ) → List (List ℕ) → Type 0
EndsWith xs rest = (prefix : List (List ℕ)) × (xs ≡ prefix ++ rest)
