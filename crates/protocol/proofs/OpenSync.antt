-- The move `open_sync`.
use Rattle.std.proofs.Common.{◌≡◌, ℕ, ◌+◌, ◌*◌, ◌<◌, Some, sym, ap, subst, ◌∙◌, arith, length}
use Rattle.std.specs.Prelude.{◌==◌}
use Rattle.nop_types.specs.declared.view.View.{View}
use Rattle.nop_types.specs.Meaning.{Meaning}
use Rattle.nop_types.specs.Views.{leader_of}
use Rattle.started_views.specs.Past.{HadLog}
use Rattle.lemmas.proofs.Prefixes.{IsPrefixOf-refl}
use Rattle.protocol.specs.Conf.{Conf, after}
use Rattle.protocol.specs.Evolves.{Evolves}
use Rattle.protocol.specs.Invariant.{Own, Inv}
use Rattle.protocol.specs.LocalState.{LocalState, max_faults}
use Rattle.protocol.specs.Moves.{open_sync, MayOpenSync}
use Rattle.protocol.specs.Said.{SyncPrepare}
use Rattle.protocol.specs.Truth.{Prepared}
use Rattle.protocol.proofs.Growing.{Kept}
use Rattle.protocol.proofs.Stays.{own_lasts}
use Rattle.protocol.proofs.Places.{leads_it}
use Rattle.protocol.proofs.Saying.{said_unless, speaks, not_both}
use Rattle.protocol.proofs.Spoken.{unless_spoken}

module _ {S : Type 0} (m : Meaning S) (f : ℕ) (c : Conf) (r : ℕ) (inv : Inv m f c) (within : r < 2 * f + 1) where
  abbrev p : LocalState
  p = c.replicas r

  own : Own f c r p
  own = inv.own r within

  pub open_sync_keeps : MayOpenSync p → Kept m f c (after f c r (open_sync p))
  open_sync_keeps may = speaks m f c r inv within (open_sync p).state.sync (open_sync p).said
      (λ n. absurd (not_both may.may_lead.normal n)) (unless_spoken (max_faults p == 0) p (SyncPrepare p.sync.sync_point p.log))
      (λ d ev had. said_unless f d p (SyncPrepare p.sync.sync_point p.log) (prepared d ev had) (max_faults p == 0))
    where
      view : p.last_normal ≡ p.view
      view = own.place.normal may.may_lead.normal

      mine : r ≡ leader_of p.view (2 * f + 1)
      mine = leads_it m f c r inv within may.may_lead.leads

      prepared : (d : Conf) → Evolves f c d → HadLog d.past r p.last_normal p.log → Prepared f d p.number p.view p.log
      prepared d ev had =
          let o : Own f d r p = own_lasts m f c d ev r p own in
          let base : p.base ≡ length o.place.start.log = o.place.base (mine ∙ ap (λ (w : View). leader_of w (2 * f + 1)) (sym view)) in
          record {
            sender = own.number ∙ mine;
            start = o.place.start;
            is_start = subst (λ (w : View). d.past.start w ≡ Some o.place.start) view o.place.is_start;
            lead = p.log;
            leads = subst (λ (i : ℕ). d.past.log i p.view ≡ Some p.log) mine (subst (λ (w : View). d.past.log r w ≡ Some p.log) view had);
            begins = IsPrefixOf-refl p.log;
            settled = λ a e. o.gap.last mine may.may_lead.normal may.no_gap (omega (arith, a, base)) e;
          }
