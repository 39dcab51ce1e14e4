-- Lines that are asked in place of others.
use Rattle.std.proofs.Common.{◌≡◌, ◌∙◌, ℕ, zero, suc, Bool, true, false, cond, List, [], ◌∷◌, map, Some, refl, sym, ap}
use Rattle.std.specs.Prelude.{slice_get}
use Rattle.nop_types.specs.Lines.{Line, Submit, Accept}
use Rattle.nop_types.specs.declared.request.Request.{Request}
use Rattle.lemmas.proofs.Mapped.{slice_get-into_map}
use Rattle.unknown_results.specs.AnyResults.{takes_any, unless}
use Rattle.unknown_results.specs.Asking.{byte_of, asked, asked_line, erased, without_byte}
use Rattle.unknown_results.specs.Filling.{Fills}

-- ---- lists, member by member

pub from_map : {A B : Type 0} (f : A → B) (xs : List A) (i : ℕ) (y : B) → slice_get (map f xs) i ≡ Some y
    → (x : A) × (slice_get xs i ≡ Some x) × (y ≡ f x)
from_map f [] i y e = absurd cc
from_map f (x ∷ xs) zero y e = (x, refl, cc)
from_map f (x ∷ xs) (suc i) y e = from_map f xs i y e

-- ---- bytes in front

pub takes_asked : (any : Bool) (op : List ℕ) → takes_any (byte_of any ∷ op) ≡ any
takes_asked true op = refl
takes_asked false op = refl

pub unless_asked : (any : Bool) (op answer : List ℕ) → unless (takes_any (byte_of any ∷ op)) answer ≡ cond any [] answer
unless_asked true op answer = refl
unless_asked false op answer = refl

module _ (unknown : ℕ → ℕ → Bool) where
  pub again : (r : Request) → without_byte (asked unknown r) ≡ r
  again r = refl

  -- ---- what is asked in place of a line

  submit_of : (l : Line) (q : Request) → Submit q ≡ asked_line unknown l → (r : Request) × (l ≡ Submit r) × (q ≡ asked unknown r)
  submit_of (Submit r) q e = (r, refl, cc)
  submit_of (Accept client id result) q e = absurd cc
  submit_of _ q e = absurd cc

  accept_of : (l : Line) (client id : ℕ) (result : List ℕ) → Accept client id result ≡ asked_line unknown l
      → (a : List ℕ) × (l ≡ Accept client id a) × (result ≡ cond (unknown client id) [] a)
  accept_of (Accept c i a) client id result e = (a, cc, cc)
  accept_of (Submit r) client id result e = absurd cc
  accept_of _ client id result e = absurd cc

  module _ (lines : List Line) where
    abbrev pub asked_lines : List Line
    asked_lines = map (asked_line unknown) lines

    pub from_submit : (i : ℕ) (q : Request) → slice_get asked_lines i ≡ Some (Submit q)
        → (r : Request) × (slice_get lines i ≡ Some (Submit r)) × (q ≡ asked unknown r)
    from_submit i q e =
        let x = from_map (asked_line unknown) lines i (Submit q) e in
        let s = submit_of x.0 q x.2 in
        (s.0, x.1 ∙ ap (λ (l : Line). Some l) s.1, s.2)

    pub from_accept : (k client id : ℕ) (result : List ℕ) → slice_get asked_lines k ≡ Some (Accept client id result)
        → (a : List ℕ) × (slice_get lines k ≡ Some (Accept client id a)) × (result ≡ cond (unknown client id) [] a)
    from_accept k client id result e =
        let x = from_map (asked_line unknown) lines k (Accept client id result) e in
        let s = accept_of x.0 client id result x.2 in
        (s.0, x.1 ∙ ap (λ (l : Line). Some l) s.1, s.2)

    pub at_submit : (i : ℕ) (r : Request) → slice_get lines i ≡ Some (Submit r) → slice_get asked_lines i ≡ Some (Submit (asked unknown r))
    at_submit i r e = slice_get-into_map (asked_line unknown) lines i (Submit r) e

    pub at_accept : (k client id : ℕ) (a : List ℕ) → slice_get lines k ≡ Some (Accept client id a)
        → slice_get asked_lines k ≡ Some (Accept client id (cond (unknown client id) [] a))
    at_accept k client id a e = slice_get-into_map (asked_line unknown) lines k (Accept client id a) e

  -- ---- lines that are the same but for unknown results

  once : (b : Bool) (a : List ℕ) → cond b [] (cond b [] a) ≡ cond b [] a
  once true a = refl
  once false a = refl

  erased_first : (l : Line) → asked_line unknown (erased unknown l) ≡ asked_line unknown l
  erased_first (Submit r) = refl
  erased_first (Accept client id result) = ap (λ (a : List ℕ). Accept client id a) (once (unknown client id) result)
  erased_first _ = refl

  all_erased_first : (lines : List Line) → map (asked_line unknown) (map (erased unknown) lines) ≡ map (asked_line unknown) lines
  all_erased_first [] = refl
  all_erased_first (l ∷ lines) =
      ap (λ (ls : List Line). asked_line unknown (erased unknown l) ∷ ls) (all_erased_first lines)
      ∙ ap (λ (x : Line). x ∷ map (asked_line unknown) lines) (erased_first l)

  -- the same is asked of them
  pub same_asked : (lines filled : List Line) → Fills unknown lines filled → asked_lines filled ≡ asked_lines lines
  same_asked lines filled fills =
      sym (all_erased_first filled) ∙ ap (map (asked_line unknown)) fills ∙ all_erased_first lines
