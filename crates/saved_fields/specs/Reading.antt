-- Proofs: nothing here has to be believed.
-- Numbers and texts that are spelled are read, and those that are read are spelled by the bytes; and states that are saved as a field.
use Rattle.std.proofs.Common.{◌≡◌, ℕ, zero, suc, ◌<◌, ◌^◌, ◌/◌, Bool, true, false, cond, List, [], ◌∷◌, ◌++◌, length, take, drop, get_or}
use Rattle.std.proofs.Common.{Option, Some, None, ◌≤◌, refl, sym, ap, subst, ◌∙◌, append-nil, arith, ltb-false}
use Rattle.std.specs.Prelude.{IfSome, nat_le, nat_lt, ◌&&◌}
use Rattle.std.specs.Int.{w64, from_be_bytes, to_be_bytes}
use Rattle.std.proofs.lemmas.Bool.Decides.{nat_tests}
use Rattle.std.proofs.lemmas.List.{length-take, length-append, take-append-drop, take_at, drop_at}
use Rattle.std.proofs.lemmas.Nat.{be_bytes_8, from_be_bytes-to_be_bytes_8}
use Rattle.std.proofs.Math.Nat.{mod-lt}
use Rattle.std.proofs.Math.Seq.{take-append_seam, drop-append_seam}
use Rattle.lemmas.proofs.Bytes.{byte_first, small_bytes}
use Rattle.nop_types.specs.Lists.{all_below}
use Rattle.nop_types.specs.Services.{IsBytes}
use Rattle.saved_fields.specs.Fields.{Begins, IsField, whole}
use Rattle.saved_fields.specs.Numbers.{BeginsNumber, NumberFits, number_at, number_bytes}
use Rattle.saved_fields.specs.Texts.{BeginsText, TextFits, text_at, text_bytes}

-- ---- numbers

pub length-number : (n : ℕ) → length (number_bytes n) ≡ 8
unfolding number_bytes
length-number n = refl

below_each : (bs : List ℕ) → all_below bs 256 ≡ true → (i : ℕ) → get_or bs i 0 < 256
below_each [] h i = omega arith
below_each (b ∷ bs) h zero = grind (arith, nat_tests)
below_each (b ∷ bs) h (suc i) = below_each bs (grind (arith, nat_tests)) i

eight_begin : (test short : Bool) (bytes : List ℕ) → all_below (take 8 bytes) 256 ≡ test → nat_lt (length bytes) 8 ≡ short
    → IfSome (cond test (cond short None (Some (from_be_bytes w64 (take 8 bytes), drop 8 bytes))) None) (BeginsNumber bytes)
unfolding number_bytes
eight_begin false short bytes e f = tt
eight_begin true true bytes e f = tt
eight_begin true false bytes e f =
    let t = length-take 8 bytes in
    let long = ltb-false (length bytes) 8 f in
    let h = below_each (take 8 bytes) e in
    let back : to_be_bytes w64 (from_be_bytes w64 (take 8 bytes)) ≡ take 8 bytes =
    be_bytes_8 (take 8 bytes) (from_be_bytes w64 (take 8 bytes)) (omega (arith, t, long)) h refl in
    record {
      fits = omega (arith, h 0, h 1, h 2, h 3, h 4, h 5, h 6, h 7);
      spelled = sym (ap (λ (prefix : List ℕ). prefix ++ drop 8 bytes) back ∙ take-append-drop 8 bytes);
    }

pub number_at-begins : (bytes : List ℕ) → IfSome (number_at bytes) (BeginsNumber bytes)
unfolding number_at
number_at-begins bytes = eight_begin _ _ bytes refl refl

eight_below : (n : ℕ) → all_below (number_bytes n) 256 ≡ true
unfolding number_bytes
eight_below n =
    all_eight _ _ _ _ _ _ _ _ (mod-lt (n / 256 ^ 7) (omega arith)) (mod-lt (n / 256 ^ 6) (omega arith)) (mod-lt (n / 256 ^ 5) (omega arith))
    (mod-lt (n / 256 ^ 4) (omega arith)) (mod-lt (n / 256 ^ 3) (omega arith)) (mod-lt (n / 256 ^ 2) (omega arith))
    (mod-lt (n / 256 ^ 1) (omega arith)) (mod-lt n (omega arith))
  where
    all_eight : (a b c d e f g h : ℕ) → a < 256 → b < 256 → c < 256 → d < 256 → e < 256 → f < 256 → g < 256 → h < 256
        → all_below (a ∷ b ∷ c ∷ d ∷ e ∷ f ∷ g ∷ h ∷ []) 256 ≡ true
    all_eight a b c d e f g h ha hb hc hd he hf hg hh = grind (arith, nat_tests)

again : (n : ℕ) → n < 2 ^ 64 → from_be_bytes w64 (number_bytes n) ≡ n
unfolding number_bytes
again n fits = from_be_bytes-to_be_bytes_8 n fits

pub number_at-number : (n : ℕ) (rest : List ℕ) → n < 2 ^ 64 → number_at (number_bytes n ++ rest) ≡ Some (n, rest)
unfolding number_at
number_at-number n rest fits =
    let len = length-number n in
    let prefix : take 8 (number_bytes n ++ rest) ≡ number_bytes n = take_at (number_bytes n) rest 8 len in
    let back : drop 8 (number_bytes n ++ rest) ≡ rest = drop_at (number_bytes n) rest 8 len in
    let l = length-append (number_bytes n) rest in
    let test : nat_lt (length (number_bytes n ++ rest)) 8 ≡ false = grind (arith, nat_tests, l, len) in
    rw (prefix, eight_below n, test, back, again n fits) refl

pub numbers : IsField NumberFits number_bytes number_at
numbers = record { reads = number_at-number; begins = number_at-begins }

pub number_is_bytes : (n : ℕ) → IsBytes (number_bytes n)
number_is_bytes n = small_bytes (number_bytes n) (eight_below n)

-- ---- texts

text_begins : (most : ℕ) (b : Bool) (len : ℕ) (rest : List ℕ) → nat_le len most && nat_le len (length rest) ≡ b
    → IfSome (cond b (Some (take len rest, drop len rest)) None) (BeginsText most (len ∷ rest))
text_begins most true len rest e =
    let t = length-take len rest in
    let all : length (take len rest) ≡ len = grind (arith, nat_tests) in
    record {
      fits = grind (arith, nat_tests);
      spelled =
          sym
          (ap (λ (n : ℕ). n ∷ (take len rest ++ drop len rest)) all
          ∙ ap (λ (tail : List ℕ). len ∷ tail) (take-append-drop len rest));
    }
text_begins most false len rest e = tt

pub text_at-begins : (most : ℕ) (bytes : List ℕ) → IfSome (text_at most bytes) (BeginsText most bytes)
unfolding text_at
text_at-begins most [] = tt
text_at-begins most (len ∷ rest) = text_begins most _ len rest refl

pub text_at-text : (most : ℕ) (text rest : List ℕ) → TextFits most text → text_at most (text_bytes text ++ rest) ≡ Some (text, rest)
unfolding text_at
text_at-text most text rest fits =
    let l = length-append text rest in
    let test : nat_le (length text) most && nat_le (length text) (length (text ++ rest)) ≡ true = grind (arith, nat_tests) in
    rw (test, take-append_seam text rest, drop-append_seam text rest) refl

pub texts : (most : ℕ) → IsField (TextFits most) text_bytes (text_at most)
texts most = record { reads = text_at-text most; begins = text_at-begins most }

pub text_is_bytes : (text : List ℕ) → length text ≤ 255 → IsBytes text → IsBytes (text_bytes text)
text_is_bytes text short is = byte_first (length text) text (omega (arith, short)) is

-- ---- a state that is saved as a field

module _ {A : Type 0} (Fits : A → Type 0) (spell : A → List ℕ) (read : List ℕ → Option (A × List ℕ)) (field : IsField Fits spell read) where
  pub whole_saved : (x : A) → Fits x → whole (read (spell x)) ≡ Some x
  whole_saved x fits = ap (λ (bytes : List ℕ). whole (read bytes)) (sym (append-nil (spell x))) ∙ ap whole (field.reads x [] fits)

  whole_begins : (o : Option (A × List ℕ)) (bytes : List ℕ) → IfSome o (Begins Fits spell bytes)
      → IfSome (whole o) (λ x. Fits x × (spell x ≡ bytes))
  whole_begins None bytes h = tt
  whole_begins (Some (x, b ∷ rest)) bytes h = tt
  whole_begins (Some (x, [])) bytes h = (h.fits, sym (h.spelled ∙ append-nil (spell x)))

  pub whole_is : (bytes : List ℕ) → IfSome (whole (read bytes)) (λ x. Fits x × (spell x ≡ bytes))
  whole_is bytes = whole_begins (read bytes) bytes (field.begins bytes)

  pub whole_only : (bytes : List ℕ) (x : A) → whole (read bytes) ≡ Some x → Fits x × (spell x ≡ bytes)
  whole_only bytes x e = subst (λ (o : Option A). IfSome o (λ y. Fits y × (spell y ≡ bytes))) e (whole_is bytes)
