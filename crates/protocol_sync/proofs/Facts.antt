-- General facts on logs and quorums.
use Rattle.std.proofs.Common.{◌≡◌, ℕ, ◌+◌, ◌*◌, ◌<◌, ◌≤◌, Some, refl, ap, subst, ◌∙◌, inl, inr, arith, length, List, ◌∷◌}
use Rattle.std.proofs.lemmas.Bool.{cases_eq, cases_lt}
use Rattle.std.proofs.lemmas.Bool.Decides.{nat_tests}
use Rattle.nop_types.specs.declared.request.Entry.{Entry}
use Rattle.nop_types.specs.Lists.{Has, IsPrefixOf, slot_of}
use Rattle.started_views.specs.Logs.{SameTo}
use Rattle.started_views.specs.Quorums.{counts, Quorum}
use Rattle.lemmas.proofs.Members.{Has-first}
use Rattle.started_views.proofs.Quorums.{counts_cases}
use Rattle.lemmas.proofs.Slots.{slot_of-some, slot_of-prefix}
use Rattle.protocol.proofs.Facts.{counts_has}
use Rattle.lemmas.proofs.Options.{same_Some-at}

-- ---- logs

-- two logs have the same first 0 slots
pub same_none : (l k : List Entry) → SameTo 0 l k
same_none l k = record { left = omega arith; right = omega arith; same = refl }

-- a slot that a prefix of a log has
pub slot_in_prefix : {A : Type 0} (l k : List A) (i : ℕ) (x : A) → IsPrefixOf l k → 0 < i → i ≤ length l → slot_of k i ≡ Some x
    → slot_of l i ≡ Some x
slot_in_prefix l k i x is low high e =
    let y = slot_of-some l i low high in
    y.1 ∙ ap Some (same_Some-at (slot_of k i) y.0 x (slot_of-prefix l k i y.0 is y.1) e)

-- ---- quorums

-- a quorum has another member beside it
module _ (f r : ℕ) (P : ℕ → Type 0) (within : r < 2 * f + 1) (holds : P r) (q : Quorum f P) where
  once : counts r q.members ≡ 0 → (k : ℕ) → counts k (r ∷ q.members) ≤ 1
  once none k = elim (cases_eq r k) [
    | inl e ↦ (let here : counts k q.members ≡ 0 = subst (λ (i : ℕ). counts i q.members ≡ 0) e none in grind (arith, nat_tests, here))
    | inr n ↦ (let rest = q.once k in grind (arith, nat_tests, n, rest))
  ]

  pub quorum_with : (x : Quorum f P) × Has x.members r
  quorum_with = elim (cases_lt 0 (counts r q.members)) [
    | inl there ↦ (q, counts_has q.members r (omega (arith, there)))
    | inr none ↦ (
      record {
        members = r ∷ q.members;
        enough = omega (arith, q.enough);
        once = once (omega (arith, none));
        within = λ k h. elim (counts_cases k r q.members h) [ inl e ↦ subst (λ (i : ℕ). i < 2 * f + 1) e within | inr g ↦ q.within k g ];
        holds = λ k h. elim (counts_cases k r q.members h) [ inl e ↦ subst P e holds | inr g ↦ q.holds k g ];
      },
      Has-first r r q.members refl,
    )
  ]
