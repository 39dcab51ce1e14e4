-- Where clients and ids are submitted, one line more.
use Rattle.std.proofs.Common.{◌≡◌, ℕ, suc, Bool, true, false, cond, List, Option, Some, None, refl, sym, ap, subst, ◌∙◌, arith, inl, inr}
use Rattle.std.specs.Prelude.{◌⊎◌, ◌==◌, slice_get}
use Rattle.std.proofs.lemmas.Bool.{cases_lt, eq-eqb, eqb-true, and_parts}
use Rattle.execution_laws.proofs.Ids.{IsOf-refl}
use Rattle.lemmas.proofs.Options.{same_Some-at}
use Rattle.nop_types.specs.Legality.{IsOf}
use Rattle.nop_types.specs.Lines.{Line, Submit}
use Rattle.nop_types.specs.declared.request.Request.{Request}
use Rattle.pairs.specs.Submitted.{same_pair, SubmitsAt, IsNoted}

same_both : (a b : ℕ) (p : ℕ × ℕ) → a ≡ p.0 → b ≡ p.1 → (a, b) ≡ p
same_both a b (c, d) e f = cc

same_pair-true : (p q : ℕ × ℕ) → same_pair p q ≡ true → p ≡ q
same_pair-true (a, b) (c, d) h =
    let e = and_parts (a == c) (b == d) h in
    same_both a b (c, d) (eqb-true a c e.0) (eqb-true b d e.1)

same_pair-refl : (p : ℕ × ℕ) → same_pair p p ≡ true
same_pair-refl (a, b) = rw (eq-eqb a a refl, eq-eqb b b refl) refl

pub nothing_noted : (f : ℕ × ℕ → Option ℕ) (lines : List Line) → ((p : ℕ × ℕ) → f p ≡ None) → IsNoted lines 0 f
nothing_noted f lines none = record {
  found = λ p i e. absurd (let v : Some i ≡ None = sym e ∙ none p in cc);
  missing = λ p e i h. omega (arith, h.before);
}

module _ (lines : List Line) (k : ℕ) where
  submits_on : (p : ℕ × ℕ) (i : ℕ) → SubmitsAt lines k p i → SubmitsAt lines (suc k) p i
  submits_on p i h = record { before = omega (arith, h.before); request = h.request; line = h.line; same = h.same }

  submits_back : (p : ℕ × ℕ) (i : ℕ) → SubmitsAt lines (suc k) p i
      → SubmitsAt lines k p i ⊎ ((r : Request) × (slice_get lines k ≡ Some (Submit r)) × IsOf p.0 p.1 r)
  submits_back p i h = elim (cases_lt i k) [
    | inl less ↦ inl (record { before = less; request = h.request; line = h.line; same = h.same })
    | inr more ↦
        let e : i ≡ k = omega (arith, h.before, more) in
        inr (h.request, subst (λ (t : ℕ). slice_get lines t ≡ Some (Submit h.request)) e h.line, h.same)
  ]

  -- the line submits nothing
  pub noted_stays : (f : ℕ × ℕ → Option ℕ) → IsNoted lines k f → ((r : Request) → slice_get lines k ≡ Some (Submit r) → ⊥)
      → IsNoted lines (suc k) f
  noted_stays f old none = record {
    found = λ p i e. submits_on p i (old.found p i e);
    missing = λ p e i h. elim (submits_back p i h) [
      | inl before ↦ old.missing p e i before
      | inr here ↦ none here.0 here.1
    ];
  }

  module _ (f g : ℕ × ℕ → Option ℕ) (r : Request) (line : slice_get lines k ≡ Some (Submit r)) (old : IsNoted lines k f)
      (put : (p : ℕ × ℕ) → g p ≡ cond (same_pair (r.client, r.id) p) (Some k) (f p)) where
    put_at : (p : ℕ × ℕ) (b : Bool) → same_pair (r.client, r.id) p ≡ b → g p ≡ cond b (Some k) (f p)
    put_at p b e = put p ∙ ap (λ (t : Bool). cond t (Some k) (f p)) e

    here : SubmitsAt lines (suc k) (r.client, r.id) k
    here = record { before = omega arith; request = r; line = line; same = IsOf-refl r }

    found_at : (p : ℕ × ℕ) (i : ℕ) (b : Bool) → same_pair (r.client, r.id) p ≡ b → g p ≡ Some i → SubmitsAt lines (suc k) p i
    found_at p i true s e =
        let v : Some k ≡ Some i = sym (put_at p true s) ∙ e in
        let same : k ≡ i = cc in
        subst (λ (t : ℕ). SubmitsAt lines (suc k) p t) same
        (subst (λ (t : ℕ × ℕ). SubmitsAt lines (suc k) t k) (same_pair-true (r.client, r.id) p s) here)
    found_at p i false s e = submits_on p i (old.found p i (sym (put_at p false s) ∙ e))

    missing_at : (p : ℕ × ℕ) (b : Bool) → same_pair (r.client, r.id) p ≡ b → g p ≡ None → (i : ℕ) → SubmitsAt lines (suc k) p i → ⊥
    missing_at p true s e i h = absurd (let v : Some k ≡ None = sym (put_at p true s) ∙ e in cc)
    missing_at p false s e i h = elim (submits_back p i h) [
      | inl before ↦ old.missing p (sym (put_at p false s) ∙ e) i before
      | inr last ↦
          let one : Submit r ≡ Submit last.0 = same_Some-at (slice_get lines k) (Submit r) (Submit last.0) line last.1 in
          let same : r ≡ last.0 = cc in
          let is : (r.client, r.id) ≡ p =
          same_both r.client r.id p (ap (λ (t : Request). t.client) same ∙ last.2.same_client) (ap (λ (t : Request). t.id) same ∙ last.2.same_id) in
          let t : same_pair (r.client, r.id) (r.client, r.id) ≡ false =
          subst (λ (q : ℕ × ℕ). same_pair (r.client, r.id) q ≡ false) (sym is) s in
          let u = same_pair-refl (r.client, r.id) in
          absurd (let x : true ≡ false = sym u ∙ t in cc)
    ]

    -- the line's own place was noted
    pub noted_more : IsNoted lines (suc k) g
    noted_more = record {
      found = λ p i e. found_at p i (same_pair (r.client, r.id) p) refl e;
      missing = λ p e i h. missing_at p (same_pair (r.client, r.id) p) refl e i h;
    }
