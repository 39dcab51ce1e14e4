-- The move `open_gap`.
use Rattle.std.proofs.Common.{◌≡◌, ℕ, suc, ◌+◌, ◌*◌, ◌<◌, Bool, true, false, Some, refl, sym, ap, subst, ◌∙◌, arith, inl, inr, length, List}
use Rattle.std.proofs.Common.{[], ◌∷◌, ◌++◌}
use Rattle.std.specs.Prelude.{◌⊎◌, ◌==◌, nat_le}
use Rattle.nop_types.specs.declared.view.View.{View}
use Rattle.nop_types.specs.declared.replica_state.Vote.{Vote}
use Rattle.nop_types.specs.declared.replica_state.Vote.TheVariants.{Settled, Waiting}
use Rattle.nop_types.specs.declared.request.Entry.{Entry}
use Rattle.nop_types.specs.declared.request.Entry.TheVariants.{NoOp}
use Rattle.nop_types.specs.Lists.{Has}
use Rattle.nop_types.specs.Meaning.{Meaning}
use Rattle.nop_types.specs.Views.{leader_of}
use Rattle.slot_votes.specs.Agreement.{Agreement, begun}
use Rattle.slot_votes.specs.Votes.{vote_of}
use Rattle.oum_receiver.specs.Receiving.{advanced}
use Rattle.oum_receiver.proofs.Stamps.{advanced_stamped}
use Rattle.lemmas.proofs.Members.{Has-first, Has-none}
use Rattle.std.proofs.lemmas.Bool.{eqb-true}
use Rattle.protocol.specs.Conf.{Conf, after}
use Rattle.protocol.specs.Invariant.{Waits, Own, Inv}
use Rattle.protocol.specs.LocalState.{LocalState, max_faults}
use Rattle.protocol.specs.Moves.{say_all, say_unless, open_gap, MayOpenGap, unless_settled, waiting}
use Rattle.protocol.specs.Said.{GapCommit, says}
use Rattle.protocol.proofs.Appends.{append_keeps}
use Rattle.protocol.proofs.Growing.{Kept}
use Rattle.protocol.proofs.Places.{leads_it}
use Rattle.protocol.proofs.Saying.{said_unless}
use Rattle.protocol.proofs.Votes.{none_needed, is_settled}
use Rattle.protocol.proofs.Facts.{push_length, next_slot, half_of}
use Rattle.protocol.specs.Conf as conf
use Rattle.protocol.proofs.Spoken.{unless_spoken}

module _ {S : Type 0} (m : Meaning S) (f : ℕ) (c : Conf) (r : ℕ) (inv : Inv m f c) (within : r < 2 * f + 1) where
  abbrev p : LocalState
  p = c.replicas r

  own : Own f c r p
  own = inv.own r within

  pub open_gap_keeps : MayOpenGap p → Kept m f c (after f c r (open_gap p))
  open_gap_keeps may =
      append_keeps m f c r inv within NoOp (advanced p.receiver (p.next + 1)) (waiting (begun (length p.log + 1) (max_faults p)))
      (say_all p (GapCommit (length p.log + 1))) [] (record {
        normal = may.may_lead.normal;
        closed = λ a. may.none_waits;
        stamped = λ y e. absurd cc;
        noop = λ e other. absurd (other (mine ∙ ap (λ (w : View). leader_of w (2 * f + 1)) (sym view)));
        announced = λ e a. announces (max_faults p == 0) refl;
        session = refl;
        number = refl;
        queued = λ stamps h. advanced_stamped stamps p.receiver (p.next + 1) h;
        waits = waits (vote_of (max_faults p) []);
        last = λ a none e. settled (is_settled (begun (length p.log + 1) (max_faults p)) (vote_of (max_faults p) []) none);
      }) (unless_spoken (max_faults p == 0) p (GapCommit (length p.log + 1)))
      (λ d ev had. said_unless f d p (GapCommit (length p.log + 1)) (record {
        sender = own.number ∙ mine;
        lead = l;
        leads = subst (λ (i : ℕ). d.past.log i p.view ≡ Some l) mine (subst (λ (w : View). d.past.log r w ≡ Some l) view had);
        entry = next_slot p.log NoOp;
      }) (max_faults p == 0)) (λ d had y i. absurd (Has-none y i))
    where
      l : List Entry
      l = p.log ++ NoOp ∷ []

      view : p.last_normal ≡ p.view
      view = own.place.normal may.may_lead.normal

      mine : r ≡ leader_of p.view (2 * f + 1)
      mine = leads_it m f c r inv within may.may_lead.leads

      count : max_faults p ≡ f
      count = half_of f p.replicas own.replicas

      announces : (b : Bool) → (max_faults p == 0) ≡ b
          → (f ≡ 0) ⊎ Has (say_unless b p (GapCommit (length p.log + 1))) (says r p.last_normal (GapCommit (suc (length p.log))))
      announces true e = inl (sym count ∙ eqb-true (max_faults p) 0 e)
      announces false e = inr (Has-first _ _ [] (let n : suc (length p.log) ≡ length p.log + 1 = omega arith in
          λ i. record { sender = sym own.number i; view = view i; word = GapCommit (n i) }))

      waits : (v : Vote) (g : Agreement) → unless_settled (begun (length p.log + 1) (max_faults p)) v ≡ Some g
          → Waits f c.said r p.view p.status l g
      waits Settled g e = absurd cc
      waits Waiting g e =
          let same : begun (length p.log + 1) (max_faults p) ≡ g = cc in
          subst (Waits f c.said r p.view p.status l) same (record {
            count = count;
            normal = may.may_lead.normal;
            leads = mine;
            last = omega (arith, push_length p.log NoOp);
            noop = next_slot p.log NoOp;
            once = λ q. omega arith;
            within = λ q i. absurd (omega (arith, i));
            apart = λ q i a. omega (arith, i);
            voted = λ q i. absurd (omega (arith, i));
          })

      settled : vote_of (max_faults p) [] ≡ Settled → conf.Settled f c.said p.view (suc (length p.log))
      settled e =
          let none : max_faults p ≡ 0 = none_needed (max_faults p) (nat_le (max_faults p) 0) refl e in
          record {
            members = [];
            enough = omega (arith, none, count);
            once = λ q. omega arith;
            within = λ q i. absurd (omega (arith, i));
            apart = λ q i a. omega (arith, i);
            holds = λ q i. absurd (omega (arith, i));
          }
