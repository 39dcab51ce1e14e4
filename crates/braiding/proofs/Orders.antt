-- Numbers of lines, one by one.
use Rattle.std.proofs.Common.{◌≡◌, ◌∙◌, ℕ, zero, suc, ◌+◌, ◌<◌, ◌≤◌, Bool, true, false, List, [], ◌∷◌, ◌++◌, length, take, get_or, refl, sym, ap, subst, arith}
use Rattle.std.proofs.Common.{get_or-set_same, get_or-set_other, inl, inr}
use Rattle.std.specs.Global.{Vec}
use Rattle.std.specs.Prelude.{◌⊎◌, slice_index_or, slice_set, IfOk, Result, Ok, Err}
use Rattle.std.specs.List.{range_with_len}
use Rattle.std.proofs.lemmas.Bool.{cases_lt}
use Rattle.std.proofs.lemmas.List.{append_assoc, flat_map_more, length-map, take_more}
use Rattle.nop_types.specs.Lists.{Has}
use Rattle.braiding.specs.Ending.{written}
use Rattle.braiding.specs.Orders.{behind, line_at, IsOrder, texts_of}
use Rattle.braiding.specs.declared.traces.Line.{Line}

pub has_none : (p : ℕ) → Has [] p → ⊥
has_none p (zero, e) = cc
has_none p (suc i, e) = cc

pub behind_push : (n : ℕ) (ps : List ℕ) (p : ℕ) → behind n (ps ++ p ∷ []) ≡ p + 1
behind_push n [] p = refl
behind_push n (q ∷ ps) p = behind_push (q + 1) ps p

pub set_seen : (seen : List Bool) (p q : ℕ) → p < length seen → (q ≡ p) ⊎ (q ≡ p → ⊥) → (slice_index_or seen q false ≡ true) ⊎ (q ≡ p)
    → slice_index_or (slice_set seen p true) q false ≡ true
set_seen seen p q l (inl same) h = ap (λ (k : ℕ). slice_index_or (slice_set seen p true) k false) same ∙ get_or-set_same seen p true false l
set_seen seen p q l (inr other) (inl h) = get_or-set_other seen p q true false other ∙ h
set_seen seen p q l (inr other) (inr same) = absurd (other same)

-- so far, and here
pub one_more : (P : ℕ → Type 0) (i : ℕ) → ((k : ℕ) → k < i → P k) → P i → (k : ℕ) → k < i + 1 → P k
one_more P i h here k l = by (cases_lt k i)
  where
    by : (k < i) ⊎ (i ≤ k) → P k
    by (inl below) = h k below
    by (inr above) = let same : i ≡ k = omega (arith, above, l) in subst P same here

-- ---- the order of the input

pub range_more : (a n j : ℕ) → a + n ≡ j → range_with_len a (n + 1) ≡ range_with_len a n ++ j ∷ []
range_more a zero j e = let same : a ≡ j = omega (arith, e) in ap (λ (k : ℕ). k ∷ []) same
range_more a (suc n) j e =
    let one : suc n + 1 ≡ suc (n + 1) = omega arith in
    rw one (ap (λ (t : List ℕ). a ∷ t) (range_more (a + 1) n j (omega (arith, e))))

range_has : (a n p : ℕ) → Has (range_with_len a n) p → p < a + n
range_has a zero p h = absurd (has_none p h)
range_has a (suc n) p (zero, e) = let same : a ≡ p = cc in omega (arith, same)
range_has a (suc n) p (suc i, e) = let l = range_has (a + 1) n p (i, e) in omega (arith, l)

range_behind : (a n : ℕ) → behind a (range_with_len a n) ≡ a + n
range_behind a zero = omega arith
range_behind a (suc n) = let h = range_behind (a + 1) n in h ∙ omega arith

range_take : (a n i : ℕ) → i ≤ n → take i (range_with_len a n) ≡ range_with_len a i
range_take a n zero l = refl
range_take a zero (suc i) l = absurd (omega (arith, l))
range_take a (suc n) (suc i) l = ap (λ (t : List ℕ). a ∷ t) (range_take (a + 1) n i (omega (arith, l)))

range_at : (a n i : ℕ) → i < n → get_or (range_with_len a n) i 0 ≡ a + i
range_at a zero i l = absurd (omega (arith, l))
range_at a (suc n) zero l = omega arith
range_at a (suc n) (suc i) l = range_at (a + 1) n i (omega (arith, l)) ∙ omega arith

range_long : (a n : ℕ) → length (range_with_len a n) ≡ n
range_long a zero = refl
range_long a (suc n) = ap suc (range_long (a + 1) n)

pub in_turn : (lines : List (List ℕ)) → IsOrder lines (range_with_len 0 (length lines))
in_turn lines = record {
  all = range_long 0 (length lines);
  fits = λ i l.
      let n = length lines in
      let within : i < n = subst (λ (k : ℕ). i < k) (range_long 0 n) l in
      let at : get_or (range_with_len 0 n) i 0 ≡ i = range_at 0 n i within ∙ omega arith in
      rw (range_take 0 n i (omega (arith, within)), at) (record {
        within = within;
        once = λ has. let below = range_has 0 i i has in omega (arith, below);
        together = λ none. sym (range_behind 0 i ∙ omega arith);
        own = λ step q has other same. let below = range_has 0 i q has in omega (arith, below);
      });
}

pub in_turn_if : {E : Type 0} (lines : List Line) (n : ℕ) → n ≡ length lines → (res : Result (Vec ℕ) E) → IfOk res (λ v. v.items ≡ range_with_len 0 n)
    → IfOk res (λ v. IsOrder (texts_of lines) v.items)
in_turn_if lines n e (Ok v) h =
    rw h (subst (λ (k : ℕ). IsOrder (texts_of lines) (range_with_len 0 k)) (length-map _ _ ∙ sym e) (in_turn (texts_of lines)))
in_turn_if lines n e (Err x) h = tt

-- ---- the text of an order

pub place_within : (lines : List Line) (order : List ℕ) (i : ℕ) → IsOrder (texts_of lines) order → i < length order
    → get_or order i 0 < length lines
place_within lines order i is l =
    let h = (is.fits i l).within in
    subst (λ (n : ℕ). get_or order i 0 < n) (length-map _ _) h

pub text_more : (lines : List (List ℕ)) (order : List ℕ) (i : ℕ) (text : List ℕ) → i < length order → text ≡ line_at lines (get_or order i 0)
    → (written lines (take i order) ++ text) ++ 10 ∷ [] ≡ written lines (take (i + 1) order)
text_more lines order i text l e =
    let p = get_or order i 0 in
    append_assoc (written lines (take i order)) text (10 ∷ [])
    ∙ ap (λ (t : List ℕ). written lines (take i order) ++ (t ++ 10 ∷ [])) e
    ∙ flat_map_more (λ (q : ℕ). line_at lines q ++ 10 ∷ []) [] (take i order) p
    ∙ ap (written lines) (sym (take_more order i 0 l))
