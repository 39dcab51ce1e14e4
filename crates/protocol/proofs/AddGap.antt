-- The move `add_gap`.
use Rattle.std.proofs.Common.{◌≡◌, ℕ, suc, ◌+◌, ◌*◌, ◌<◌, false, Some, refl, sym, subst, arith, length, [], ◌∷◌, ◌++◌}
use Rattle.nop_types.specs.declared.view.View.{View}
use Rattle.nop_types.specs.declared.request.Entry.TheVariants.{NoOp}
use Rattle.nop_types.specs.Lists.{slot_of}
use Rattle.nop_types.specs.Meaning.{Meaning}
use Rattle.oum_receiver.specs.Receiving.{advanced}
use Rattle.oum_receiver.proofs.Stamps.{advanced_stamped}
use Rattle.started_views.specs.Past.{LeaderHad}
use Rattle.lemmas.proofs.Members.{Has-none}
use Rattle.protocol.specs.Conf.{Conf, after}
use Rattle.protocol.specs.Invariant.{Own, Inv}
use Rattle.protocol.specs.LocalState.{LocalState, leader}
use Rattle.protocol.specs.Moves.{say, add_gap, MayAddGap}
use Rattle.protocol.specs.Said.{GapCommit, GapRep, says}
use Rattle.protocol.specs.Truth.{LeaderHas}
use Rattle.protocol.proofs.Appends.{append_keeps}
use Rattle.protocol.proofs.Growing.{Kept}
use Rattle.protocol.proofs.Places.{follows_it, follows_last}
use Rattle.protocol.proofs.Saying.{said_unless, answered}
use Rattle.protocol.proofs.Facts.{next_slot}
use Rattle.protocol.proofs.Spoken.{one_spoken}

module _ {S : Type 0} (m : Meaning S) (f : ℕ) (c : Conf) (r : ℕ) (inv : Inv m f c) (within : r < 2 * f + 1) where
  abbrev p : LocalState
  p = c.replicas r

  own : Own f c r p
  own = inv.own r within

  pub add_gap_keeps : MayAddGap c p → Kept m f c (after f c r (add_gap p))
  add_gap_keeps may =
      append_keeps m f c r inv within NoOp (advanced p.receiver (p.next + 1)) p.gap (say p (GapRep (length p.log + 1))) [] (record {
        normal = may.normal;
        closed = λ a. absurd (follows_last m f c r inv within may a);
        stamped = λ y e. absurd cc;
        noop = λ e other.
            let t : LeaderHas f c (leader p) p.view (length p.log + 1) NoOp =
            inv.said (says (leader p) p.view (GapCommit (length p.log + 1))) may.said in
            let n : length p.log + 1 ≡ suc (length p.log) = omega arith in (
              t.lead,
              subst (λ (w : View). LeaderHad f c.past w t.lead) (sym view) t.leads,
              subst
                  (λ (i : ℕ). slot_of t.lead i ≡ Some NoOp) n t.entry,
            );
        announced = λ e a. absurd (follows_last m f c r inv within may a);
        session = refl;
        number = refl;
        queued = λ stamps h. advanced_stamped stamps p.receiver (p.next + 1) h;
        waits = λ g e. absurd (follows_it m f c r inv within may.follows (own.gap.waits g e).leads);
        last = λ a none e. absurd (follows_it m f c r inv within may.follows a);
      }) (one_spoken p (GapRep (length p.log + 1)))
      (λ d ev had. said_unless f d p (GapRep (length p.log + 1))
      (answered m f c r inv within d ev (p.log ++ NoOp ∷ []) (length p.log + 1) may had (next_slot p.log NoOp)) false)
      (λ d had y i. absurd (Has-none y i))
    where
      view : p.last_normal ≡ p.view
      view = own.place.normal may.normal
