-- What comes to a replica of a whole world whose logs can be trimmed does the same over its trimmed log.
use Rattle.std.proofs.Common.{◌≡◌, ℕ, Option, Some, None, refl, subst, sym, ap, ◌∙◌}
use Rattle.std.specs.Prelude.{slice_get, Result, Ok}
use Rattle.nop_types.specs.Given.{Given}
use Rattle.nop_types.specs.Given as given
use Rattle.nop_types.specs.Checkpoints.{KeepsTo}
use Rattle.nop_types.specs.Lists.{Has}
use Rattle.nop_types.specs.Meaning.{Meaning}
use Rattle.nop_types.specs.declared.datagram.Datagram.{Datagram}
use Rattle.nop_types.specs.declared.datagram.Datagram.TheVariants as datagrams
use Rattle.nop_types.specs.declared.peer.Body.{Body}
use Rattle.nop_types.specs.declared.peer.Body.TheVariants as bodies
use Rattle.nop_types.specs.declared.peer.Peer.{Peer}
use Rattle.oum_codec.specs.declared.bad.Bad.{Bad}
use Rattle.oum_codec.specs.Reading.{reading}
use Rattle.replica_rows.specs.Messages.{Arrival, PeerMessage, Ticked}
use Rattle.trimmed_rows.specs.Premises.{MessageIsWithin, ArrivesWithin}
use Rattle.trimmed_rows.proofs.Rows.{rows_trim}
use Rattle.world.specs.Seats.{Seated}
use Rattle.whole_world.specs.Trimming.{log_in_body, CanTrim, RowsTrim}
use Rattle.whole_world.specs.Whole.{WholeReplica, WholeWorld, Letter, Brings, Timer, Junk, Equal, Message}
use Rattle.whole_world.specs.Whole.{input_of, arrival_read, arrival_given, arrival_of}
use Rattle.whole_world.proofs.Coming.{messages_were_sent}

-- datagrams bring no messages of replicas
read_is_no_message : (r : Result Datagram Bad) (y : Peer) → arrival_read r ≡ Some (PeerMessage y) → ⊥
read_is_no_message (Ok (datagrams.Stamped x)) y e = absurd cc
read_is_no_message _ y e = absurd cc

pub given_is_no_message : (o : Option Given) (y : Peer) → arrival_given o ≡ Some (PeerMessage y) → ⊥
given_is_no_message None y e = absurd cc
given_is_no_message (Some (given.Packet bytes)) y e = read_is_no_message (reading bytes) y e
given_is_no_message (Some _) y e = absurd cc

module _ {S : Type 0} (m : Meaning S) (w : WholeWorld) (can : CanTrim m w) (i : ℕ) (p : Seated WholeReplica)
    (at : slice_get w.replicas i ≡ Some p) where
  -- what a letter tells is within
  letter_within : (x : Letter) (b : Body) → Has w.letters x → x.peer.body ≡ b → MessageIsWithin m p.state.state x.peer b
  letter_within x (bodies.ViewChange u n l) has body =
      (can.within.whole x l has (ap log_in_body body), λ g other view gathers. can.starts.with_letter i p x u n l g at has other body view gathers)
  letter_within x (bodies.StartView n l) has body = (can.within.whole x l has (ap log_in_body body), can.within.letters x l has (ap log_in_body body))
  letter_within x (bodies.SyncPrepare l) has body = (can.within.whole x l has (ap log_in_body body), can.within.letters x l has (ap log_in_body body))
  letter_within x _ has body = tt

  message_within : (q n : ℕ) (a : Arrival) → arrival_of w (Message q n) ≡ Some a → ArrivesWithin m p.state.state a
  message_within q n a e =
      let t = messages_were_sent w q n a e in
      let x = t.2 in
      subst (ArrivesWithin m p.state.state) (sym t.1)
      (subst (λ (y : Peer). MessageIsWithin m p.state.state y y.body) x.peer (letter_within x.letter x.letter.peer.body x.has refl))

  -- a packet and a tick bring no log
  no_message : (a : Arrival) → ((y : Peer) → a ≡ PeerMessage y → ⊥) → ArrivesWithin m p.state.state a
  no_message (PeerMessage y) h = absurd (h y refl)
  no_message _ h = tt

  within : (x : Brings) (a : Arrival) → arrival_of w x ≡ Some a → ArrivesWithin m p.state.state a
  within (Timer tick) a e = let same : Ticked tick ≡ a = cc in subst (ArrivesWithin m p.state.state) same tt
  within (Junk bytes) a e = no_message a (λ y message. given_is_no_message (input_of w.sent (Junk bytes)) y (e ∙ ap (λ (b : Arrival). Some b) message))
  within (Equal bytes) a e = no_message a (λ y message. given_is_no_message (input_of w.sent (Equal bytes)) y (e ∙ ap (λ (b : Arrival). Some b) message))
  within (Message q n) a e = message_within q n a e
  within _ a e = absurd cc

pub rows_trim_where : {S : Type 0} (m : Meaning S) (IsSound : S → Type 0) (keeps : KeepsTo m IsSound) (w : WholeWorld) → CanTrim m w
    → RowsTrim m w
rows_trim_where m IsSound keeps w can i p x a at e =
    rows_trim m IsSound keeps p.state.state a (can.within.replicas i p at) (within m w can i p at x a e)
