-- The move `write_gap`.
use Rattle.std.proofs.Common.{◌≡◌, ℕ, ◌+◌, ◌*◌, ◌<◌, false, Some, refl, sym, subst, arith, inl, inr, []}
use Rattle.nop_types.specs.declared.view.View.{View}
use Rattle.nop_types.specs.declared.request.Entry.{Entry}
use Rattle.nop_types.specs.declared.request.Entry.TheVariants.{NoOp}
use Rattle.nop_types.specs.Lists.{slot_of}
use Rattle.nop_types.specs.Meaning.{Meaning}
use Rattle.nop_types.specs.Slots.{set_slot}
use Rattle.started_views.specs.Past.{LeaderHad}
use Rattle.lemmas.proofs.Members.{Has-none}
use Rattle.started_views.proofs.Logs.{toward_write}
use Rattle.lemmas.proofs.Slots.{slot_of-within, length-set_slot, slot_of-set_here, slot_of-set_cases}
use Rattle.protocol.specs.Conf.{Conf, after}
use Rattle.protocol.specs.Invariant.{Own, Inv}
use Rattle.protocol.specs.LocalState.{LocalState, leader}
use Rattle.protocol.specs.Moves.{say, write_gap, MayWriteGap}
use Rattle.protocol.specs.Said.{GapCommit, GapRep, says}
use Rattle.protocol.specs.Truth.{LeaderHas}
use Rattle.protocol.proofs.Growing.{Kept}
use Rattle.protocol.proofs.Turning.{turn_keeps}
use Rattle.protocol.proofs.Places.{follows_last}
use Rattle.protocol.proofs.Saying.{said_unless, answered}
use Rattle.protocol.proofs.Spoken.{one_spoken}

module _ {S : Type 0} (m : Meaning S) (f : ℕ) (c : Conf) (r : ℕ) (inv : Inv m f c) (within : r < 2 * f + 1) where
  abbrev p : LocalState
  p = c.replicas r

  own : Own f c r p
  own = inv.own r within

  pub write_gap_keeps : (k : ℕ) → MayWriteGap c p k → Kept m f c (after f c r (write_gap p k))
  write_gap_keeps k may =
      turn_keeps m f c r inv within (set_slot p.log k NoOp) p.next p.receiver p.sync (say p (GapRep k)) [] (record {
        normal = may.may_follow.normal;
        follows = follows_last m f c r inv within may.may_follow;
        lead = t.lead;
        leads = subst (λ (w : View). LeaderHad f c.past w t.lead) (sym (own.place.normal may.may_follow.normal)) t.leads;
        toward = toward_write t.lead p.log k NoOp t.entry;
        from = λ i x h. elim (slot_of-set_cases p.log k NoOp i x h) [
          | inl (a, b) ↦ inr (subst (λ (j : ℕ). slot_of t.lead j ≡ Some x) (sym a)
              (subst (λ (y : Entry). slot_of t.lead k ≡ Some y) (sym b) t.entry))
          | inr old ↦ inl old
        ];
        counted = omega (arith, length-set_slot p.log k NoOp);
        session = refl;
        number = own.queue.front may.may_follow.normal;
        queued = λ stamps h. h;
      }) (one_spoken p (GapRep k))
      (λ d ev had. said_unless f d p (GapRep k) (answered m f c r inv within d ev (set_slot p.log k NoOp) k may.may_follow had
      (slot_of-set_here p.log k NoOp (slot_of-within t.lead k NoOp t.entry).0 may.within)) false) (λ d had y i. absurd (Has-none y i))
    where
      t : LeaderHas f c (leader p) p.view k NoOp
      t = inv.said (says (leader p) p.view (GapCommit k)) may.may_follow.said
