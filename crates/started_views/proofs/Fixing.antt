-- What fixes a prefix.
use Rattle.std.proofs.Common.{◌≡◌, ℕ, ◌<◌, ◌≤◌, length, Some, sym, ap, ◌∙◌, arith, inl, inr}
use Rattle.std.proofs.lemmas.Bool.{cases_lt}
use Rattle.nop_types.specs.declared.request.Entry.TheVariants.{NoOp, Req}
use Rattle.nop_types.specs.Lists.{slot_of}
use Rattle.started_views.specs.Quorums.{Quorum}
use Rattle.started_views.specs.Settled.{Reached, HadNoOp}
use Rattle.started_views.specs.Fixes.{HadSame, SyncFixes, AcceptFixes}
use Rattle.started_views.proofs.Logs.{same_slot, same_refl}
use Rattle.started_views.proofs.Quorums.{quorum_weaker, others_and_leader}

pub sync_fixes : SyncFixes
sync_fixes f past w m s h =
    let same : Quorum f (HadSame past w s m) = others_and_leader f w (HadSame past w s m) (m, h.leads, same_refl s m h.within) h.others in
    record {
      leads = h.leads;
      within = h.within;
      reached = quorum_weaker f (HadSame past w s m) (Reached past w s) (λ r g. (g.0, g.1, g.2.left)) same;
      noops =
          λ k x is above le e.
          quorum_weaker f (HadSame past w s m) (HadNoOp past w k) (λ r g. (g.0, g.1, same_slot s g.0 m k NoOp g.2 le e)) same;
    }

pub accept_fixes : AcceptFixes
accept_fixes f past w m s h =
    record {
      leads = h.leads;
      within = h.within;
      reached = h.reached;
      noops = λ k x is above le e. others_and_leader f w (HadNoOp past w k) (m, h.leads, e) (h.noops k x is above (below k le e) e);
    }
  where
    -- no NO-OP is in the slot of the request
    below : (k : ℕ) → k ≤ s → slot_of m k ≡ Some NoOp → k < length m
    below k le e =
        elim (cases_lt k s) [
          | inl l ↦ omega (arith, l, h.within)
          | inr g ↦
              let same : k ≡ s = omega (arith, le, g) in
              let bad : Some NoOp ≡ Some (Req h.request) = sym e ∙ ap (λ (i : ℕ). slot_of m i) same ∙ h.last in
              absurd cc
        ]
