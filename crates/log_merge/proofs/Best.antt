-- The best of the changes: of the greatest sync point, and of those of the lowest sender.
use Rattle.std.proofs.Common.{◌≡◌, ◌≤◌, ◌<◌, ◌+◌, ℕ, Bool, true, false, cond, List, [], ◌∷◌, length, drop, filter, Option, Some, None}
use Rattle.std.proofs.Common.{ap, sym, ◌∙◌, subst, refl, arith, inl, inr, get_or}
use Rattle.std.proofs.lemmas.List.{drop_more}
use Rattle.std.proofs.lemmas.Bool.Decides.{nat_tests}
use Rattle.nop_types.specs.declared.peer.Change.{Change}
use Rattle.lemmas.proofs.Members.{Has-first, Has-rest, Has-none, Has-cases}
use Rattle.log_merge.specs.Merging.{precedes, better, best, IsBest}
use Rattle.log_merge.specs.Given.{better_of}

precedes-true : (c d : Change) → precedes c d ≡ true
    → (d.log.sync_point ≤ c.log.sync_point) × (d.log.sync_point ≡ c.log.sync_point → c.sender ≤ d.sender)
precedes-true c d e = (grind (arith, nat_tests, e), λ same. grind (arith, nat_tests, e, same))

precedes-false : (c d : Change) → precedes c d ≡ false
    → (c.log.sync_point ≤ d.log.sync_point) × (c.log.sync_point ≡ d.log.sync_point → d.sender ≤ c.sender)
precedes-false c d e = (grind (arith, nat_tests, e), λ same. grind (arith, nat_tests, e, same))

-- one more change, which the best of the others precedes, or which precedes it
best_more : (c : Change) (cs : List Change) (d : Change) → IsBest cs d → IsBest (c ∷ cs) (cond (precedes c d) c d)
best_more c cs d h = on (precedes c d) refl
  where
    on : (b : Bool) → precedes c d ≡ b → IsBest (c ∷ cs) (cond b c d)
    on true e = let p = precedes-true c d e in record {
      member = Has-first c c cs refl;
      greatest = λ x g. elim (Has-cases x c cs g) [
        | inl same ↦ omega (arith, ap (λ (t : Change). t.log.sync_point) same)
        | inr rest ↦ omega (arith, h.greatest x rest, p.0)
      ];
      lowest = λ x g at. elim (Has-cases x c cs g) [
        | inl same ↦ omega (arith, ap (λ (t : Change). t.sender) same)
        | inr rest ↦
            let point : x.log.sync_point ≡ d.log.sync_point = omega (arith, h.greatest x rest, p.0, at) in
            omega (arith, h.lowest x rest point, p.1 (omega (arith, point, at)))
      ];
    }
    on false e = let p = precedes-false c d e in record {
      member = Has-rest d c cs h.member;
      greatest = λ x g. elim (Has-cases x c cs g) [
        | inl same ↦ omega (arith, ap (λ (t : Change). t.log.sync_point) same, p.0)
        | inr rest ↦ h.greatest x rest
      ];
      lowest = λ x g at. elim (Has-cases x c cs g) [
        | inl same ↦
            omega (arith, ap (λ (t : Change). t.sender) same, p.1 (omega (arith, ap (λ (t : Change). t.log.sync_point) same, at)))
        | inr rest ↦ h.lowest x rest at
      ];
    }

pub best_is_best : (cs : List Change) (g : Change) → best cs ≡ Some g → IsBest cs g
best_is_best [] g e = absurd cc
best_is_best (c ∷ cs) g e =
    let same : better c (best cs) ≡ g = cc in
    subst (IsBest (c ∷ cs)) same (on cs (best cs) refl (λ d is. best_is_best cs d is))
  where
    on : (ds : List Change) (o : Option Change) → best ds ≡ o → ((d : Change) → best ds ≡ Some d → IsBest ds d)
        → IsBest (c ∷ ds) (better c o)
    on ds (Some d) is rest = best_more c ds d (rest d is)
    on [] None is rest = record {
      member = Has-first c c [] refl;
      greatest = λ x g. elim (Has-cases x c [] g) [
        | inl same ↦ omega (arith, ap (λ (t : Change). t.log.sync_point) same)
        | inr none ↦ absurd (Has-none x none)
      ];
      lowest = λ x g at. elim (Has-cases x c [] g) [
        | inl same ↦ omega (arith, ap (λ (t : Change). t.sender) same)
        | inr none ↦ absurd (Has-none x none)
      ];
    }
    on (d ∷ ds) None is rest = absurd cc

pub best_of_none : (cs : List Change) → best cs ≡ None → cs ≡ []
best_of_none [] e = refl
best_of_none (c ∷ cs) e = absurd cc

-- ---- one change after another

-- the best so far, or the best of the rest
abbrev pub with_best : Option Change → Option Change → Option Change
with_best None o = o
with_best (Some b) o = Some (better b o)

better_both : (b c d : Change) → cond (precedes (cond (precedes b c) b c) d) (cond (precedes b c) b c) d
    ≡ cond (precedes b (cond (precedes c d) c d)) b (cond (precedes c d) c d)
better_both b c d = on (precedes b c) (precedes c d) (precedes b d) refl refl refl
  where
    on : (x y z : Bool) → precedes b c ≡ x → precedes c d ≡ y → precedes b d ≡ z
        → cond (precedes (cond x b c) d) (cond x b c) d ≡ cond (precedes b (cond y c d)) b (cond y c d)
    on true true z e f g =
        let p = precedes-true b c e in
        let q = precedes-true c d f in
        let r : precedes b d ≡ true = grind (arith, nat_tests, p, q) in
        rw (r, e) refl
    on true false z e f g = refl
    on false true z e f g = rw (e, f) refl
    on false false z e f g =
        let p = precedes-false b c e in
        let q = precedes-false c d f in
        let r : precedes b d ≡ false = grind (arith, nat_tests, p, q, e, f) in
        rw (r, f) refl

better_assoc : (b c : Change) (o : Option Change) → better (better b (Some c)) o ≡ better b (Some (better c o))
better_assoc b c None = refl
better_assoc b c (Some d) = better_both b c d

pub better_more : (b : Option Change) (c : Change) (o : Option Change) → Some (better (better_of b c) o) ≡ with_best b (Some (better c o))
better_more None c o = refl
better_more (Some b) c o = ap (λ (x : Change). Some x) (better_assoc b c o)

more_at : (x : Bool) (b : Option Change) (c : Change) (cs : List Change)
    → with_best (cond x (Some (better_of b c)) b) (best cs) ≡ with_best b (best (cond x (c ∷ cs) cs))
more_at true b c cs = better_more b c (best cs)
more_at false b c cs = refl

-- one change more, taken where it counts
pub best_step : (p : Change → Bool) (cs : List Change) (i : ℕ) (c : Change) (b n : Option Change) → i < length cs
    → c ≡ get_or cs i c → n ≡ cond (p c) (Some (better_of b c)) b
    → with_best n (best (filter p (drop (i + 1) cs))) ≡ with_best b (best (filter p (drop i cs)))
best_step p cs i c b n within is e =
    let rest : drop i cs ≡ c ∷ drop (i + 1) cs =
    drop_more cs i c within ∙ ap (λ (d : Change). d ∷ drop (i + 1) cs) (sym is) in
    ap (λ (o : Option Change). with_best o (best (filter p (drop (i + 1) cs)))) e
    ∙ more_at (p c) b c (filter p (drop (i + 1) cs))
    ∙ ap (λ (ds : List Change). with_best b (best (filter p ds))) (sym rest)
