-- The move `overlay`.
use Rattle.std.specs.Prelude.{max}
use Rattle.std.proofs.Common.{◌≡◌, ℕ, ◌+◌, ◌*◌, ◌<◌, false, refl, sym, subst, arith, inl, inr, length, List}
use Rattle.std.specs.Prelude.{◌-◌}
use Rattle.nop_types.specs.declared.view.View.{View}
use Rattle.nop_types.specs.declared.request.Entry.{Entry}
use Rattle.nop_types.specs.Meaning.{Meaning}
use Rattle.nop_types.specs.Slots.{laid}
use Rattle.oum_receiver.specs.Receiving.{advanced}
use Rattle.oum_receiver.proofs.Stamps.{advanced_stamped}
use Rattle.started_views.specs.Past.{LeaderHad}
use Rattle.started_views.proofs.Logs.{toward_laid}
use Rattle.lemmas.proofs.Slots.{slot_of-prefix, length-laid, slot_of-laid_cases}
use Rattle.slot_votes.specs.Synchronisation.{raised, taken}
use Rattle.protocol.specs.Conf.{Conf, after}
use Rattle.protocol.specs.Invariant.{Own, Inv}
use Rattle.protocol.specs.LocalState.{LocalState, leader}
use Rattle.protocol.specs.Moves.{say, overlaid, overlay, MayOverlay}
use Rattle.protocol.specs.Replies.{replies_above}
use Rattle.protocol.specs.Said.{SyncPrepare, SyncRep, says}
use Rattle.protocol.specs.Truth.{Prepared}
use Rattle.protocol.proofs.Growing.{Kept}
use Rattle.protocol.proofs.Replying.{above_true}
use Rattle.protocol.proofs.Turning.{turn_keeps}
use Rattle.protocol.proofs.Places.{follows_last, by_number}
use Rattle.protocol.proofs.Saying.{said_unless}
use Rattle.protocol.proofs.Spoken.{one_spoken}

module _ {S : Type 0} (m : Meaning S) (f : ℕ) (c : Conf) (r : ℕ) (inv : Inv m f c) (within : r < 2 * f + 1) where
  abbrev p : LocalState
  p = c.replicas r

  own : Own f c r p
  own = inv.own r within

  pub overlay_keeps : (z : ℕ) (l : List Entry) → MayOverlay c p z l → Kept m f c (after f c r (overlay m p z l))
  overlay_keeps z l may =
      turn_keeps m f c r inv within (laid l p.log) n (advanced p.receiver n) (raised (taken p.sync (length l)) z)
      (say p (SyncRep (length l))) (replies_above m (overlaid p z l) (max (length p.log) (overlaid p z l).sync.sync_point)) (record {
        normal = may.normal;
        follows = follows_last m f c r inv within may;
        lead = t.lead;
        leads = subst (λ (w : View). LeaderHad f c.past w t.lead) (sym view) t.leads;
        toward = toward_laid t.lead l p.log t.begins;
        from = λ i x h. elim (slot_of-laid_cases l p.log i x h) [
          | inl new ↦ inr (slot_of-prefix l t.lead i x t.begins new)
          | inr old ↦ inl old
        ];
        counted = omega (arith, length-laid l p.log);
        session = refl;
        number = refl;
        queued = λ stamps h. advanced_stamped stamps p.receiver n h;
      }) (one_spoken p (SyncRep (length l))) (λ d ev had. said_unless f d p (SyncRep (length l)) tt false)
      (λ d had. above_true m f d (overlaid p z l) own.replicas (by_number m f c r inv within d (laid l p.log) view had)
      (max (length p.log) (overlaid p z l).sync.sync_point))
    where
      n : ℕ
      n = p.next + (length l - length p.log)

      view : p.last_normal ≡ p.view
      view = own.place.normal may.normal

      t : Prepared f c (leader p) p.view l
      t = inv.said (says (leader p) p.view (SyncPrepare z l)) may.said
