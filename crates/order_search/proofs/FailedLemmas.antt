-- What is kept of configurations that failed.
use Rattle.std.proofs.Common.{◌≡◌, ℕ, zero, suc, Bool, true, false, eqb, List, [], ◌∷◌, Some, refl, sym, ap, subst, ◌∙◌, inl, inr}
use Rattle.std.specs.Prelude.{◌||◌, ◌&&◌, not, All, MatchBool, slice_get, nat_eq}
use Rattle.std.specs.Cmp.Lexicographic.{pointwise, bytes_decides}
use Rattle.std.proofs.lemmas.Bool.{eqb-true, eq-eqb, and_from, or_left, or_right}
use Rattle.std.specs.List.{list_any}
use Rattle.std.specs.List.Sorted.{IsPermutation}
use Rattle.std.proofs.lemmas.List.Elements.{All-nil, All-cons, All-head, All-tail}
use Rattle.std.proofs.lemmas.List.Sorted.{All-permutation}
use Rattle.fronts.specs.Configurations.{HasUnaccepted, IsFailed}
use Rattle.nop_types.specs.Lines.{Line}
use Rattle.nop_types.specs.Meaning.{Meaning}
use Rattle.order_search.specs.Failing.{AllFailed, IsKnown, Keeps}
use Rattle.order_search.specs.declared.failed.Configuration.{Configuration}

-- an element that passes the test
found_any : {A : Type 0} (p : A → Bool) (xs : List A) → list_any p xs ≡ true
    → (i : ℕ) × (x : A) × (slice_get xs i ≡ Some x) × (p x ≡ true)
found_any p [] h = absurd cc
found_any {A} p (x ∷ xs) h = here (p x) refl h (λ g. found_any p xs g)
  where
    here : (b : Bool) → p x ≡ b → (b || list_any p xs) ≡ true
        → (list_any p xs ≡ true → (i : ℕ) × (y : A) × (slice_get xs i ≡ Some y) × (p y ≡ true))
        → (i : ℕ) × (y : A) × (slice_get (x ∷ xs) i ≡ Some y) × (p y ≡ true)
    here true e g rest = (0, x, refl, e)
    here false e g rest = let r = rest g in (suc r.0, r.1, r.2, r.3)

any_at : {A : Type 0} (p : A → Bool) (xs : List A) (i : ℕ) (x : A) → slice_get xs i ≡ Some x → p x ≡ true → list_any p xs ≡ true
any_at p [] i x h e = absurd cc
any_at p (y ∷ ys) zero x h e = let same : y ≡ x = cc in or_left (p y) (list_any p ys) (ap p same ∙ e)
any_at p (y ∷ ys) (suc i) x h e = or_right (p y) (list_any p ys) (any_at p ys i x h e)

all_at : {A : Type 0} (P : A → Type 0) (xs : List A) (i : ℕ) (x : A) → All P xs → slice_get xs i ≡ Some x → P x
all_at P [] i x h e = absurd cc
all_at P (y ∷ ys) zero x h e = let same : y ≡ x = cc in subst P same (All-head P y ys h)
all_at P (y ∷ ys) (suc i) x h e = all_at P ys i x (All-tail P y ys h) e

module _ {S : Type 0} (m : Meaning S) (lines : List Line) where
  abbrev fails : Configuration → Type 0
  fails c = IsFailed m lines c.line c.waiting.items c.state.items

  pub none_failed : AllFailed m lines []
  none_failed = All-nil fails

  pub failed_more : (old new : List Configuration) (c : Configuration) → AllFailed m lines old → Keeps old new c → fails c
      → AllFailed m lines new
  failed_more old new c h (inl moved) f = All-permutation fails (c ∷ old) new moved (All-cons fails c old f h)
  failed_more old new c h (inr same) f = subst (λ (t : List Configuration). AllFailed m lines t) (sym same.1) h

  pub known_fails : (kept : List Configuration) (c : Configuration) → AllFailed m lines kept → IsKnown kept c → fails c
  known_fails kept c h known =
      let f = all_at fails kept known.place known.known h known.at in
      subst (λ (t : ℕ). IsFailed m lines t c.waiting.items c.state.items) known.line_is
      (subst (λ (t : List ℕ). IsFailed m lines known.known.line t c.state.items) known.waiting_is
      (subst (λ (t : List ℕ). IsFailed m lines known.known.line known.known.waiting.items t) known.state_is f))

  -- a configuration with these parts failed
  pub fails_here : (c : Configuration) (k : ℕ) (places saved : List ℕ) → c.line ≡ k → c.waiting.items ≡ places → c.state.items ≡ saved
      → IsFailed m lines k places saved → fails c
  fails_here c k places saved e f g h =
      subst (λ (t : ℕ). IsFailed m lines t c.waiting.items c.state.items) (sym e)
      (subst (λ (t : List ℕ). IsFailed m lines k t c.state.items) (sym f) (subst (λ (t : List ℕ). IsFailed m lines k places t) (sym g) h))

  pub failed_here : (c : Configuration) (k : ℕ) (places saved : List ℕ) → c.line ≡ k → c.waiting.items ≡ places → c.state.items ≡ saved
      → fails c → IsFailed m lines k places saved
  failed_here c k places saved e f g h =
      subst (λ (t : ℕ). IsFailed m lines t places saved) e
      (subst (λ (t : List ℕ). IsFailed m lines c.line t saved) f (subst (λ (t : List ℕ). IsFailed m lines c.line c.waiting.items t) g h))

-- what was left there is left
pub none_placed : (lines : List Line) (places : List ℕ) → HasUnaccepted lines places places
none_placed lines places = record {
  within = λ i e. e;
  besides = λ i e f. absurd (let x : true ≡ false = sym e ∙ f in cc);
}

-- ---- what the set tells

abbrev same_parts : Configuration → Configuration → Bool
same_parts c d = eqb c.line d.line && (pointwise nat_eq c.waiting.items d.waiting.items && pointwise nat_eq c.state.items d.state.items)

-- what the comparison of two configurations says
parts_are : (k l : ℕ) (v w s t : List ℕ) → (eqb k l && (pointwise nat_eq v w && pointwise nat_eq s t)) ≡ true → (k ≡ l) × (v ≡ w) × (s ≡ t)
parts_are k l v w s t h = here (eqb k l) (pointwise nat_eq v w) (pointwise nat_eq s t) refl refl refl h
  where
    here : (a b c : Bool) → eqb k l ≡ a → pointwise nat_eq v w ≡ b → pointwise nat_eq s t ≡ c → (a && (b && c)) ≡ true
        → (k ≡ l) × (v ≡ w) × (s ≡ t)
    here true true true e f g h = (eqb-true k l e, (bytes_decides v w).0 f, (bytes_decides s t).0 g)
    here true true false e f g h = absurd cc
    here true false c e f g h = absurd cc
    here false b c e f g h = absurd cc

pub known_of : (kept : List Configuration) (c : Configuration) → list_any (same_parts c) kept ≡ true → IsKnown kept c
known_of kept c e =
    let found = found_any (same_parts c) kept e in
    let d = found.1 in
    let same = parts_are c.line d.line c.waiting.items d.waiting.items c.state.items d.state.items found.3 in
    record {
      place = found.0;
      known = d;
      at = found.2;
      line_is = sym same.0;
      waiting_is = sym same.1;
      state_is = sym same.2;
    }

pub any_of : (kept : List Configuration) (c : Configuration) → IsKnown kept c → list_any (same_parts c) kept ≡ true
any_of kept c k =
    let d = k.known in
    any_at (same_parts c) kept k.place d k.at
    (and_from (eqb c.line d.line) _ (eq-eqb c.line d.line (sym k.line_is))
    (and_from (pointwise nat_eq c.waiting.items d.waiting.items) _ ((bytes_decides c.waiting.items d.waiting.items).1 (sym k.waiting_is))
    ((bytes_decides c.state.items d.state.items).1 (sym k.state_is))))

-- what an insertion did
pub keeps : (old new : List Configuration) (c : Configuration) (added : Bool) → added ≡ not (list_any (same_parts c) old)
    → MatchBool added (IsPermutation (c ∷ old) new) (new ≡ old) → Keeps old new c
keeps old new c true e h = inl h
keeps old new c false e h = inr (known_of old c (was_there (list_any (same_parts c) old) e), h)
  where
    was_there : (b : Bool) → false ≡ not b → b ≡ true
    was_there true e = refl
    was_there false e = absurd cc
