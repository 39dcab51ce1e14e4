-- What waits, one line more, or one request less.
use Rattle.std.proofs.Common.{◌≡◌, ℕ, suc, ◌<◌, Bool, true, false, eqb, List, [], ◌∷◌, ◌++◌, Some, refl, sym, subst, ◌∙◌, arith, inl, inr}
use Rattle.std.specs.Prelude.{◌⊎◌, ◌||◌, slice_get, remove}
use Rattle.std.proofs.lemmas.Bool.{cases_lt, eq-eqb, or_right}
use Rattle.execution_laws.proofs.Windows.{is_in-push, is_in-has, has-is_in}
use Rattle.execution_laws.specs.Legality.{IsNoMember, SubmittedOnce}
use Rattle.fronts.specs.Fronts.{IsMember}
use Rattle.lemmas.proofs.Options.{same_Some-at}
use Rattle.lemmas.proofs.Places.{slice_get-push_cases}
use Rattle.nop_types.specs.Lines.{Line, Submit}
use Rattle.nop_types.specs.Lists.{is_in}
use Rattle.nop_types.specs.declared.request.Request.{Request}
use Rattle.order_search.proofs.Edits.{remove_cases, remove_has}
use Rattle.order_search.proofs.FrontMembers.{IsMember-push, IsMember-last, IsNoMember-push}
use Rattle.order_search.specs.Waiting.{AreWaiting}

-- ---- a list with one more place

in_push_here : (places : List ℕ) (k : ℕ) → is_in (places ++ k ∷ []) k ≡ true
in_push_here places k = is_in-push places k k ∙ or_right (is_in places k) (eqb k k) (eq-eqb k k refl)

or_apart : (b c : Bool) → c ≡ false → (b || c) ≡ b
or_apart true c e = refl
or_apart false c e = e

eqb_before : (k n : ℕ) → n < k → eqb k n ≡ false
eqb_before k n l = grind arith

eqb_behind : (k n : ℕ) → k < n → eqb k n ≡ false
eqb_behind k n l = grind arith

in_push_before : (places : List ℕ) (k n : ℕ) → n < k → is_in (places ++ k ∷ []) n ≡ is_in places n
in_push_before places k n l = is_in-push places k n ∙ or_apart (is_in places n) (eqb k n) (eqb_before k n l)

in_push_behind : (places : List ℕ) (k n : ℕ) → k < n → is_in (places ++ k ∷ []) n ≡ is_in places n
in_push_behind places k n l = is_in-push places k n ∙ or_apart (is_in places n) (eqb k n) (eqb_behind k n l)

pub waiting_opens : (lines : List Line) (front : List Request) → AreWaiting lines 0 front []
waiting_opens lines front = record {
  are_left = record {
    left = λ i r l h e. absurd (omega (arith, l));
    placed = λ i r l h e. absurd (omega (arith, l));
  };
  below = λ n e. absurd cc;
  submits = λ n e. absurd cc;
  apart = λ a b n g h. absurd cc;
}

module _ (lines : List Line) (front : List Request) (k : ℕ) (places : List ℕ) (old : AreWaiting lines k front places) where
  -- the next line submits what is not placed
  pub waiting_more : (q : Request) → slice_get lines k ≡ Some (Submit q)
      → ((r : Request) → slice_get lines k ≡ Some (Submit r) → IsNoMember front r.client r.id)
      → AreWaiting lines (suc k) front (places ++ k ∷ [])
  waiting_more q line new = record {
    are_left = record {
      left = λ i r l h e. elim (cases_lt i k) [
        | inl less ↦ old.are_left.left i r less h (sym (in_push_before places k i less) ∙ e)
        | inr more ↦
            let same : i ≡ k = omega (arith, l, more) in
            new r (subst (λ (t : ℕ). slice_get lines t ≡ Some (Submit r)) same h)
      ];
      placed = λ i r l h e. elim (cases_lt i k) [
        | inl less ↦ old.are_left.placed i r less h (sym (in_push_before places k i less) ∙ e)
        | inr more ↦
            let same : i ≡ k = omega (arith, l, more) in
            let there : is_in (places ++ k ∷ []) k ≡ true = in_push_here places k in
            let none : is_in (places ++ k ∷ []) k ≡ false = subst (λ (t : ℕ). is_in (places ++ k ∷ []) t ≡ false) same e in
            absurd (let x : true ≡ false = sym there ∙ none in cc)
      ];
    };
    below = λ n e. elim (cases_lt n (suc k)) [
      | inl less ↦ less
      | inr more ↦
          let behind : k < n = omega (arith, more) in
          let b = old.below n (sym (in_push_behind places k n behind) ∙ e) in
          absurd (omega (arith, b, more))
    ];
    submits = λ n e. elim (cases_lt n k) [
      | inl less ↦ old.submits n (sym (in_push_before places k n less) ∙ e)
      | inr more ↦ elim (cases_lt k n) [
        | inl behind ↦ old.submits n (sym (in_push_behind places k n behind) ∙ e)
        | inr not_behind ↦
            let same : n ≡ k = omega (arith, more, not_behind) in
            (q, subst (λ (t : ℕ). slice_get lines t ≡ Some (Submit q)) (sym same) line)
      ]
    ];
    apart = λ a b n g h. elim (slice_get-push_cases places k a n g) [
      | inl x ↦ elim (slice_get-push_cases places k b n h) [
        | inl y ↦ old.apart a b n x.1 y.1
        | inr y ↦ absurd (let l = old.below n (is_in-has places n (a, x.1)) in omega (arith, l, y.1))
      ]
      | inr x ↦ elim (slice_get-push_cases places k b n h) [
        | inl y ↦ absurd (let l = old.below n (is_in-has places n (b, y.1)) in omega (arith, l, x.1))
        | inr y ↦ omega (arith, x.0, y.0)
      ]
    ];
  }

  -- it submits nothing
  pub waiting_same : ((r : Request) → slice_get lines k ≡ Some (Submit r) → ⊥) → AreWaiting lines (suc k) front places
  waiting_same none = record {
    are_left = record {
      left = λ i r l h e. elim (cases_lt i k) [
        | inl less ↦ old.are_left.left i r less h e
        | inr more ↦
            let same : i ≡ k = omega (arith, l, more) in
            absurd (none r (subst (λ (t : ℕ). slice_get lines t ≡ Some (Submit r)) same h))
      ];
      placed = λ i r l h e. elim (cases_lt i k) [
        | inl less ↦ old.are_left.placed i r less h e
        | inr more ↦
            let same : i ≡ k = omega (arith, l, more) in
            absurd (none r (subst (λ (t : ℕ). slice_get lines t ≡ Some (Submit r)) same h))
      ];
    };
    below = λ n e. let b = old.below n e in omega (arith, b);
    submits = old.submits;
    apart = old.apart;
  }

  -- the one at the place `at` is placed
  module _ (once : SubmittedOnce lines) (at i : ℕ) (r : Request) (stands : slice_get places at ≡ Some i)
      (line : slice_get lines i ≡ Some (Submit r)) where
    is_left : (n : ℕ) → is_in (remove places at) n ≡ true → is_in places n ≡ true
    is_left n e =
        let h = has-is_in (remove places at) n e in
        elim (remove_cases places at h.0 n h.1) [
          | inl a ↦ is_in-has places n (h.0, a.1)
          | inr a ↦ is_in-has places n (suc h.0, a.1)
        ]

    -- it waits no more
    not_left : is_in (remove places at) i ≡ true → ⊥
    not_left e =
        let h = has-is_in (remove places at) i e in
        elim (remove_cases places at h.0 i h.1) [
          | inl a ↦ let one = old.apart h.0 at i a.1 stands in omega (arith, a.0, one)
          | inr a ↦ let one = old.apart (suc h.0) at i a.1 stands in omega (arith, a.0, one)
        ]

    was_placed : (n : ℕ) (b : Bool) → is_in places n ≡ b → is_in (remove places at) n ≡ false → (is_in places n ≡ false) ⊎ (n ≡ i)
    was_placed n false e f = inl e
    was_placed n true e f =
        let h = has-is_in places n e in
        elim (cases_lt h.0 at) [
          | inl less ↦
              let t = is_in-has (remove places at) n (remove_has places at h.0 n h.1 (λ d. omega (arith, d, less))) in
              absurd (let x : true ≡ false = sym t ∙ f in cc)
          | inr more ↦ elim (cases_lt at h.0) [
            | inl less ↦
                let t = is_in-has (remove places at) n (remove_has places at h.0 n h.1 (λ d. omega (arith, d, less))) in
                absurd (let x : true ≡ false = sym t ∙ f in cc)
            | inr same ↦
                let d : h.0 ≡ at = omega (arith, more, same) in
                inr (same_Some-at (slice_get places at) n i (subst (λ (t : ℕ). slice_get places t ≡ Some n) d h.1) stands)
          ]
        ]

    apart_left : (a b n : ℕ) → slice_get (remove places at) a ≡ Some n → slice_get (remove places at) b ≡ Some n → a ≡ b
    apart_left a b n g h = elim (remove_cases places at a n g) [
      | inl x ↦ elim (remove_cases places at b n h) [
        | inl y ↦ old.apart a b n x.1 y.1
        | inr y ↦ let e = old.apart a (suc b) n x.1 y.1 in omega (arith, e, x.0, y.0)
      ]
      | inr x ↦ elim (remove_cases places at b n h) [
        | inl y ↦ let e = old.apart (suc a) b n x.1 y.1 in omega (arith, e, x.0, y.0)
        | inr y ↦ let e = old.apart (suc a) (suc b) n x.1 y.1 in omega (arith, e)
      ]
    ]

    pub waiting_less : AreWaiting lines k (front ++ r ∷ []) (remove places at)
    waiting_less = record {
      are_left = record {
        left = λ j q l h e.
            IsNoMember-push front r q.client q.id (old.are_left.left j q l h (is_left j e))
            (λ same. not_left (subst (λ (t : ℕ). is_in (remove places at) t ≡ true) (once j i q r h line same) e));
        placed = λ j q l h e. elim (was_placed j (is_in places j) refl e) [
          | inl none ↦ IsMember-push front r q.client q.id (old.are_left.placed j q l h none)
          | inr same ↦
              let lines_same : Submit q ≡ Submit r =
              same_Some-at (slice_get lines i) (Submit q) (Submit r) (subst (λ (t : ℕ). slice_get lines t ≡ Some (Submit q)) same h) line in
              let one : r ≡ q = cc in
              subst (λ (t : Request). IsMember (front ++ r ∷ []) t.client t.id) one (IsMember-last front r)
        ];
      };
      below = λ n e. old.below n (is_left n e);
      submits = λ n e. old.submits n (is_left n e);
      apart = apart_left;
    }
