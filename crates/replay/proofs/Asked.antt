-- Each reply of a run is for a client that submitted a request.
use Rattle.std.proofs.Common.{◌≡◌, ◌≤◌, ◌+◌, ◌*◌, ℕ, zero, suc, Bool, true, false, Option, Some, None, length}
use Rattle.std.proofs.Common.{refl, sym, ap, subst, ◌∙◌, arith}
use Rattle.std.proofs.Common.{List, [], ◌∷◌, ◌++◌, inl, inr, drop}
use Rattle.std.specs.Prelude.{max}
use Rattle.nop_types.specs.declared.request.Request.{Request}
use Rattle.nop_types.specs.declared.request.Entry.{Entry}
use Rattle.nop_types.specs.declared.request.Entry.TheVariants.{NoOp, Req}
use Rattle.nop_types.specs.declared.datagram.Reply.{Reply}
use Rattle.nop_types.specs.Configuration.{Configuration}
use Rattle.nop_types.specs.Execution.{result_at}
use Rattle.nop_types.specs.Lines.{Line}
use Rattle.nop_types.specs.Lists.{Has}
use Rattle.nop_types.specs.Meaning.{Meaning}
use Rattle.lemmas.specs.Functions.{put}
use Rattle.lemmas.proofs.Functions.{put-here}
use Rattle.lemmas.proofs.Members.{Has-none, Has-one, Has-rest, Has-push, Has-append_left, Has-append_cases}
use Rattle.protocol.specs.Conf.{Conf, Effect, WasSubmitted, opening, after}
use Rattle.protocol.specs.Invariant.{Inv}
use Rattle.protocol.specs.LocalState.{LocalState, leads}
use Rattle.protocol.specs.Moves as moves
use Rattle.protocol.specs.Replies.{leader_reply, reply_if, reply_to, reply_for, replies_to, replies_above}
use Rattle.protocol.specs.Runs as runs
use Rattle.protocol.specs.Runs.{Act, Move, effect, happens, run, May, MayAll}
use Rattle.protocol.proofs.Runs.{moves_keep}

-- ---- replies of one replica

-- the client has a request in the log
record HasRequest (log : List Entry) (client : ℕ) : Type 0 where
  request : Request
  has : Has log (Req request)
  of : request.client ≡ client

-- each reply is for a client with a request in the log
abbrev ReplyFrom : List Entry → List Reply → Type 0
ReplyFrom log ys = (y : Reply) → Has ys y → HasRequest log y.client

no_reply : (log : List Entry) → ReplyFrom log []
no_reply log y h = absurd (Has-none y h)

one_reply : (log : List Entry) (r : Request) (x : Reply) → Has log (Req r) → x.client ≡ r.client → ReplyFrom log (x ∷ [])
one_reply log r x has of y h =
    let same : y ≡ x = Has-one y x h in
    record { request = r; has = has; of = sym of ∙ ap (λ (z : Reply). z.client) (sym same) }

module _ {S : Type 0} (m : Meaning S) (p : LocalState) (log : List Entry) where
  leader_from : (k : ℕ) (r : Request) (o : Option (List ℕ)) → Has log (Req r) → ReplyFrom log (leader_reply p k r o)
  leader_from k r None has = no_reply log
  leader_from k r (Some result) has = one_reply log r _ has refl

  if_from : (b : Bool) (k : ℕ) (r : Request) → Has log (Req r) → ReplyFrom log (reply_if m b p k r)
  if_from true k r has = leader_from k r (result_at m p.log k) has
  if_from false k r has = one_reply log r _ has refl

  reply_from : (k : ℕ) (r : Request) → Has log (Req r) → ReplyFrom log (reply_to m p k r)
  reply_from k r has = if_from (leads p) k r has

  entry_from : (k : ℕ) (e : Entry) → Has log e → ReplyFrom log (reply_for m p k e)
  entry_from k NoOp has = no_reply log
  entry_from k (Req r) has = reply_from k r has

  both_from : (xs ys : List Reply) → ReplyFrom log xs → ReplyFrom log ys → ReplyFrom log (xs ++ ys)
  both_from xs ys f g y h = elim (Has-append_cases xs ys y h) [ inl i ↦ f y i | inr i ↦ g y i ]

  entries_from : (k : ℕ) (es : List Entry) → ((e : Entry) → Has es e → Has log e) → ReplyFrom log (replies_to m p k es)
  entries_from k [] all = no_reply log
  entries_from k (e ∷ es) all =
      both_from (reply_for m p k e) (replies_to m p (k + 1) es) (entry_from k e (all e (zero, refl)))
      (entries_from (k + 1) es (λ x i. all x (Has-rest x e es i)))

has_behind : {A : Type 0} (xs : List A) (n : ℕ) (x : A) → Has (drop n xs) x → Has xs x
has_behind xs zero x h = h
has_behind [] (suc n) x h = absurd (Has-none x h)
has_behind (y ∷ xs) (suc n) x h = Has-rest x y xs (has_behind xs n x h)

above_from : {S : Type 0} (m : Meaning S) (p : LocalState) (k : ℕ) → ReplyFrom p.log (replies_above m p k)
above_from m p k = entries_from m p p.log (k + 1) (drop k p.log) (λ e h. has_behind p.log k e h)

-- what a replica does is answered for requests of the log that it has then
act_from : {S : Type 0} (m : Meaning S) (p : LocalState) (a : Act) → ReplyFrom (effect m p a).state.log (effect m p a).replies
act_from m p (runs.TakeFront r) = reply_from m (moves.logged p r) (moves.logged p r).log (length p.log + 1) r (Has-push p.log (Req r))
act_from m p (runs.Fill r) =
    reply_from m (moves.appended p (Req r)) (moves.appended p (Req r)).log (length p.log + 1) r (Has-push p.log (Req r))
act_from m p (runs.Enter v) = enter_from (leads (moves.entered p v)) (moves.entered p v)
  where
    enter_from : (b : Bool) (q : LocalState) → ReplyFrom (moves.enter_as b q).state.log (moves.enter_as b q).replies
    enter_from true q = no_reply _
    enter_from false q = no_reply _
act_from m p (runs.OpenView g) = above_from m _ (effect m p (runs.OpenView g)).state.sync.sync_point
act_from m p (runs.Adopt v x z l) = above_from m _ (moves.adopted p v x z l).sync.sync_point
act_from m p (runs.Overlay z l) = above_from m _ (max (length p.log) (moves.overlaid p z l).sync.sync_point)
act_from m p _ = no_reply _

-- ---- all replies

-- a request of the client was submitted
pub record HasAsked (lines : List Line) (client : ℕ) : Type 0 where
  pub request : Request
  pub submitted : WasSubmitted lines request
  pub of : request.client ≡ client

abbrev pub AllAsked : Conf → Type 0
AllAsked c = (y : Reply) → Has c.replies y → HasAsked c.lines y.client

asked_still : (lines more : List Line) (client : ℕ) → HasAsked lines client → HasAsked (lines ++ more) client
asked_still lines more client h = record { request = h.request; submitted = Has-append_left lines more _ h.submitted; of = h.of }

module _ {S : Type 0} (m : Meaning S) (f : ℕ) where
  -- a replica's log has requests that were submitted
  logged_asked : (c : Conf) (r client : ℕ) → Inv m f c → r + 1 ≤ 2 * f + 1 → HasRequest (c.replicas r).log client → HasAsked c.lines client
  logged_asked c r client inv low h = record {
    request = h.request;
    submitted = (inv.logs r _ _ (inv.current r (omega (arith, low)))).submitted h.request h.has;
    of = h.of;
  }

  act_asked : (c : Conf) (r : ℕ) (a : Act) → Inv m f (happens m f c (runs.Acts r a)) → r + 1 ≤ 2 * f + 1 → AllAsked c
      → AllAsked (happens m f c (runs.Acts r a))
  act_asked c r a inv low old y h =
      let e : Effect = effect m (c.replicas r) a in
      let there : put c.replicas r e.state r ≡ e.state = put-here c.replicas r e.state in
      elim (Has-append_cases e.replies c.replies y h) [
        | inl now ↦ logged_asked (after f c r e) r y.client inv low
            (subst (λ (p : LocalState). HasRequest p.log y.client) (sym there) (act_from m (c.replicas r) a y now))
        | inr before ↦ old y before
      ]

  move_asked : (c : Conf) (x : Move) → Inv m f (happens m f c x) → May f c x → AllAsked c → AllAsked (happens m f c x)
  move_asked c (runs.Acts r a) inv may old = act_asked c r a inv (omega (arith, may.0)) old
  move_asked c (runs.Submit k op waiting) inv may old = λ y h. asked_still c.lines _ y.client (old y h)
  move_asked c (runs.Accept k p leaders) inv may old = λ y h. asked_still c.lines _ y.client (old y h)
  move_asked c (runs.AddLines more) inv may old = λ y h. asked_still c.lines more y.client (old y h)
  move_asked c _ inv may old = old

  pub moves_asked : (c : Conf) (xs : List Move) → Inv m f c → MayAll m f c xs → AllAsked c → AllAsked (run m f c xs)
  moves_asked c [] inv may old = old
  moves_asked c (x ∷ xs) inv may old =
      let next : Inv m f (happens m f c x) = (moves_keep m f c (x ∷ []) inv (may.0, tt)).0 in
      moves_asked (happens m f c x) xs next may.1 (move_asked c x next may.0 old)

pub none_asked : (config : Configuration) → AllAsked (opening config)
none_asked config y h = absurd (Has-none y h)
