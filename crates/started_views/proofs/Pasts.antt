-- What is fixed and what is lost in the worked pasts.
use Rattle.std.proofs.Common.{◌≡◌, ℕ, zero, suc, ◌+◌, ◌*◌, ◌<◌, ◌≤◌, false, [], ◌∷◌, ◌++◌, length, take, Some, refl, ap, subst, arith}
use Rattle.std.proofs.lemmas.Bool.Decides.{nat_tests}
use Rattle.nop_types.specs.declared.view.View.{View}
use Rattle.nop_types.specs.declared.request.Entry.TheVariants.{NoOp, Req}
use Rattle.nop_types.specs.Lists.{IsPrefixOf, slot_of}
use Rattle.nop_types.specs.Views.{first_view, outranks}
use Rattle.lemmas.proofs.Slots.{slot_of-prefix}
use Rattle.started_views.specs.Past.{Entered, HadLog}
use Rattle.started_views.specs.Quorums.{counts, Quorum}
use Rattle.started_views.specs.Settled.{Reached, HadNoOp, Fixed, MainLog}
use Rattle.started_views.specs.Worked.{second_view, request_of, leader_log, follower_log, worked_last_normal, settled_past, unsettled_past}
use Rattle.started_views.specs.Worked.{overrun_past}
use Rattle.started_views.proofs.Worked.{Logged, Leader, Follower, Other, Next, logged, views_apart}

-- ---- quorums of the replicas 0 and 1

member_low : (k : ℕ) → 1 ≤ counts k (0 ∷ 1 ∷ []) → k < 2
member_low k h = grind (arith, nat_tests)

both_are_quorum : (P : ℕ → Type 0) → P 0 → P 1 → Quorum 1 P
both_are_quorum P a b =
    record {
      members = 0 ∷ 1 ∷ [];
      enough = omega arith;
      once = λ k. grind (arith, nat_tests);
      within = λ k h. omega (arith, member_low k h);
      holds = λ k h. each k (member_low k h);
    }
  where
    each : (k : ℕ) → k < 2 → P k
    each zero l = a
    each (suc zero) l = b
    each (suc (suc k)) l = absurd (omega arith)

-- ---- the settled gap

pub settled_fixed : Fixed 1 settled_past first_view leader_log 2
settled_fixed =
    record {
      leads = refl;
      within = omega arith;
      reached = both_are_quorum (Reached settled_past first_view 2) (leader_log, refl, omega arith) (follower_log NoOp, refl, omega arith);
      noops = λ k x is above le e. noops k le e;
    }
  where
    noops : (k : ℕ) → k ≤ 2 → slot_of leader_log k ≡ Some NoOp → Quorum 1 (HadNoOp settled_past first_view k)
    noops zero le e = absurd cc
    noops (suc zero) le e = absurd cc
    noops (suc (suc zero)) le e =
        both_are_quorum (HadNoOp settled_past first_view 2) (leader_log, refl, refl) (follower_log NoOp, refl, refl)
    noops (suc (suc (suc k))) le e = absurd (omega (arith, le))

pub settled_main : MainLog 1 worked_last_normal settled_past second_view (follower_log NoOp ++ NoOp ∷ [])
settled_main = record { held = (1, omega arith, refl); greatest = λ r l. ranks r l; current = refl }
  where
    ranks : (r : ℕ) → r < 2 * 1 + 1 → outranks (worked_last_normal r) second_view ≡ false
    ranks zero l = refl
    ranks (suc zero) l = refl
    ranks (suc (suc r)) l = refl

-- the leader alone had three slots in the first view
pub third_alone : (r : ℕ) → Reached settled_past first_view 3 r → r ≡ 0
third_alone r (l, had, long) = at (logged NoOp r first_view l had)
  where
    at : Logged NoOp r first_view l → r ≡ 0
    at (Leader w q is) = q
    at (Follower w q is) = absurd (omega (arith, long, ap length is))
    at (Other w q is) = absurd (omega (arith, long, ap length is))
    at (Next w q is) = absurd (views_apart w)

pub third_lost : IsPrefixOf (take 3 leader_log) (follower_log NoOp) → ⊥
third_lost h = let e = slot_of-prefix (take 3 leader_log) (follower_log NoOp) 3 (Req (request_of 3)) h refl in absurd cc

-- ---- the gap that is not settled

pub unsettled_reached : Quorum 1 (Reached unsettled_past first_view 2)
unsettled_reached =
    both_are_quorum (Reached unsettled_past first_view 2) (leader_log, refl, omega arith) (
      follower_log (Req (request_of 2)),
      refl,
      omega arith,
    )

pub noop_alone : (r : ℕ) → HadNoOp unsettled_past first_view 2 r → r ≡ 0
noop_alone r (l, had, e) = at (logged (Req (request_of 2)) r first_view l had)
  where
    at : Logged (Req (request_of 2)) r first_view l → r ≡ 0
    at (Leader w q is) = q
    at (Follower w q is) =
        absurd (let g : slot_of (follower_log (Req (request_of 2))) 2 ≡ Some NoOp = subst (λ t. slot_of t 2 ≡ Some NoOp) is e in cc)
    at (Other w q is) =
        absurd (let g : slot_of (follower_log (Req (request_of 2))) 2 ≡ Some NoOp = subst (λ t. slot_of t 2 ≡ Some NoOp) is e in cc)
    at (Next w q is) = absurd (views_apart w)

pub noop_lost : IsPrefixOf (take 2 leader_log) (follower_log (Req (request_of 2))) → ⊥
noop_lost h = let e = slot_of-prefix (take 2 leader_log) (follower_log (Req (request_of 2))) 2 NoOp h refl in absurd cc

-- ---- a log that goes on in a view that its replica left

pub overrun_fixed : Fixed 1 overrun_past first_view leader_log 3
overrun_fixed =
    record {
      leads = refl;
      within = omega arith;
      reached = both_are_quorum (Reached overrun_past first_view 3) (leader_log, refl, omega arith) (leader_log, refl, omega arith);
      noops = λ k x is above le e. both_are_quorum (HadNoOp overrun_past first_view k) (leader_log, refl, e) (leader_log, refl, e);
    }

pub overrun_entry : ((r : ℕ) (v : View) (e : Entered) → overrun_past.entry r v ≡ Some e → HadLog overrun_past r e.last_normal e.log) → ⊥
overrun_entry h =
    let e : Some leader_log ≡ Some (follower_log NoOp) =
    h 1 second_view (record { last_normal = first_view; next = 3; sync_point = 0; log = follower_log NoOp }) refl in
    absurd cc
