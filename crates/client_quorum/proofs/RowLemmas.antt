-- Each step of a client is a row.
use Rattle.std.proofs.Common.{◌≡◌, zero, suc, Bool, true, false, Option, Some, None, refl, sym, inl, inr, ℕ, List, [], ◌∷◌, subst, map}
use Rattle.std.proofs.lemmas.Option.{none-some}
use Rattle.std.specs.Prelude.{Result, Ok}
use Rattle.nop_types.specs.Given.{Given, Packet, Ticked, Submit, Read}
use Rattle.nop_types.specs.Lists.{Has}
use Rattle.nop_types.specs.declared.input.Tick.{Tick}
use Rattle.nop_types.specs.declared.input.Tick.TheVariants as ticks
use Rattle.nop_types.specs.declared.output.Out.TheVariants.{Submitted, Accepted}
use Rattle.nop_types.specs.declared.request.Request.{Request}
use Rattle.nop_types.specs.declared.datagram.Reply.{Reply}
use Rattle.nop_types.specs.declared.datagram.Datagram.{Datagram}
use Rattle.nop_types.specs.declared.datagram.Datagram.TheVariants as datagrams
use Rattle.oum_codec.specs.declared.bad.Bad.{Bad}
use Rattle.oum_codec.specs.Reading.{reading}
use Rattle.lemmas.proofs.Members.{Has-none, Has-one}
use Rattle.client_quorum.specs.declared.state.ClientState.{ClientState}
use Rattle.client_quorum.specs.ClientSteps.{next, on_tick, on_datagram, can_submit, request_of, submit_if, first_of}
use Rattle.client_quorum.specs.ClientSteps.{after_first, submit_first, submit_waiting_if, is_expected, kept, accept_if, reply_if, sent}
use Rattle.client_quorum.specs.Rows.{BringsNoReply, HasNoRoom, HasNoOp, IsForOthers, IsRead, quorum_with}
use Rattle.client_quorum.specs.Rows.{Row, Rests, SaysBusy, Opens, Repeats, Keeps, Accepts}
use Rattle.client_quorum.specs.Runs.{reply_in, reply_of}

module _ (s : ClientState) (x : Given) where
  submit_row : (op : List ℕ) → x ≡ Submit op → (b : Bool) → can_submit s ≡ b → Row s x (submit_if b s (request_of s op))
  submit_row op is true e = Opens op s.waiting e (inr (is, refl))
  submit_row op is false e = SaysBusy op is e

  first_row : x ≡ Ticked ticks.Next → can_submit s ≡ true → (ops : List (List ℕ)) → s.waiting ≡ ops → Row s x (submit_first (first_of ops) s)
  first_row is may [] e = Rests (HasNoOp is e)
  first_row is may (op ∷ ops) e =
      let left : s.waiting ≡ op ∷ after_first s.waiting = rw e refl in
      Opens op (after_first s.waiting) may (inl (is, left))

  waiting_row : x ≡ Ticked ticks.Next → (b : Bool) → can_submit s ≡ b → Row s x (submit_waiting_if b s)
  waiting_row is true e = first_row is e s.waiting refl
  waiting_row is false e = Rests (HasNoRoom is e)

  accept_row : (p : Reply) → Has (reply_of x) p → is_expected s p ≡ true → (o : Option Reply) → quorum_with s p ≡ o
      → Row s x (accept_if (kept s p) p.id o)
  accept_row p has e None quorum = Keeps p has e quorum
  accept_row p has e (Some leaders) quorum = Accepts p leaders has e quorum

  -- the packet brings this reply, and no other
  reply_row : (bytes : List ℕ) → x ≡ Packet bytes → (p : Reply) → reply_of x ≡ p ∷ [] → (b : Bool) → is_expected s p ≡ b
      → Row s x (reply_if b s p)
  reply_row bytes is p brings true e =
      let has : Has (reply_of x) p = subst (λ (ps : List Reply). Has ps p) (sym brings) (zero, refl) in
      accept_row p has e (quorum_with s p) refl
  reply_row bytes is p brings false e =
      Rests (BringsNoReply bytes is (λ k h.
      subst (λ (r : Reply). is_expected s r ≡ false) (sym (Has-one k p (subst (λ (ps : List Reply). Has ps k) brings h))) e))

  tick_row : (tick : Tick) → x ≡ Ticked tick → Row s x (on_tick s tick)
  tick_row ticks.Next is = waiting_row is (can_submit s) refl
  tick_row ticks.Retry is = Repeats is
  tick_row other is = Rests (IsForOthers other is refl)

  packet_row : (bytes : List ℕ) → x ≡ Packet bytes → (d : Result Datagram Bad) → reply_of x ≡ reply_in d → Row s x (on_datagram s d)
  packet_row bytes is (Ok (datagrams.Reply p)) brings = reply_row bytes is p brings (is_expected s p) refl
  packet_row bytes is _ brings =
      Rests (BringsNoReply bytes is (λ k h. absurd (Has-none k (subst (λ (ps : List Reply). Has ps k) brings h))))

pub row_of : (s : ClientState) (x : Given) → Row s x (next s x)
unfolding next
row_of s (Packet bytes) = packet_row s (Packet bytes) bytes refl (reading bytes) refl
row_of s (Ticked tick) = tick_row s (Ticked tick) tick refl
row_of s (Submit op) = submit_row s (Submit op) op refl (can_submit s) refl
row_of s (Read observer key) = Rests (IsRead observer key refl)

-- ---- what is sent accepts nothing

pub sent_none : (qs : List Request) (client id : ℕ) (result : List ℕ) → Has (map sent qs) (Accepted client id result) → ⊥
sent_none [] client id result h = Has-none (Accepted client id result) h
sent_none (q ∷ qs) client id result (zero, e) = absurd cc
sent_none (q ∷ qs) client id result (suc i, e) = sent_none qs client id result (i, e)

pub begun_none : (r : Request) (client id : ℕ) (result : List ℕ) → Has (Submitted r ∷ sent r ∷ []) (Accepted client id result) → ⊥
begun_none r client id result (zero, e) = absurd cc
begun_none r client id result (suc zero, e) = absurd cc
begun_none r client id result (suc (suc i), e) = none-some (Accepted client id result) e
