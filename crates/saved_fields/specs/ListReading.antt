-- Proofs: nothing here has to be believed.
-- Lists that are spelled are read, and lists that are read are spelled by the bytes; how long they are; and that they are bytes.
use Rattle.std.proofs.Common.{◌≡◌, ℕ, zero, suc, ◌+◌, ◌*◌, ◌<◌, ◌≤◌, ◌^◌, Bool, true, false, cond, List, [], ◌∷◌, ◌++◌, length}
use Rattle.std.proofs.Common.{Option, Some, None, refl, sym, ap, ◌∙◌, append_assoc, arith, leb-true}
use Rattle.std.specs.Prelude.{IfSome, All, nat_le}
use Rattle.std.specs.List.{flat_map}
use Rattle.std.proofs.lemmas.Bool.Decides.{nat_tests}
use Rattle.std.proofs.lemmas.List.{length-append}
use Rattle.std.proofs.lemmas.List.Elements.{All-nil, All-cons, All-head, All-tail}
use Rattle.std.proofs.Math.Nat.{mul-le-mul_left}
use Rattle.lemmas.proofs.Bytes.{bytes_both, no_bytes}
use Rattle.lemmas.proofs.Options.{then_holds}
use Rattle.nop_types.specs.Services.{IsBytes}
use Rattle.saved_fields.specs.Fields.{Begins, IsField}
use Rattle.saved_fields.specs.Lists.{ListFits, elements_at, list_at, list_bytes}
use Rattle.saved_fields.specs.Numbers.{BeginsNumber, NumberFits, number_at, number_bytes}
use Rattle.saved_fields.specs.Reading.{length-number, number_at-begins, number_at-number, number_is_bytes, numbers}

-- ---- what is read

module _ {A : Type 0} (Fits : A → Type 0) (spell : A → List ℕ) (read : List ℕ → Option (A × List ℕ)) (field : IsField Fits spell read) where
  elements_read : (xs : List A) (rest : List ℕ) → All Fits xs → elements_at read (length xs) (flat_map spell xs ++ rest) ≡ Some (xs, rest)
  unfolding elements_at
  elements_read [] rest fits = refl
  elements_read (x ∷ xs) rest fits =
      rw (
        append_assoc (spell x) (flat_map spell xs) rest,
        field.reads x (flat_map spell xs ++ rest) (All-head Fits x xs fits),
        elements_read xs rest (All-tail Fits x xs fits),
      ) refl

  -- the bytes begin with these n elements
  record BeginsElements (n : ℕ) (bytes : List ℕ) (found : List A × List ℕ) : Type 0 where
    count : length found.0 ≡ n
    each : All Fits found.0
    spelled : bytes ≡ flat_map spell found.0 ++ found.1

  elements_begin : (n : ℕ) (bytes : List ℕ) → IfSome (elements_at read n bytes) (BeginsElements n bytes)
  unfolding elements_at
  elements_begin zero bytes = record { count = refl; each = All-nil Fits; spelled = refl }
  elements_begin (suc n) bytes =
      then_holds (Begins Fits spell bytes) (BeginsElements (suc n) bytes) (read bytes) _ (field.begins bytes) (λ x b.
      then_holds (BeginsElements n x.1) (BeginsElements (suc n) bytes) (elements_at read n x.1) _ (elements_begin n x.1) (λ xs e.
      record {
        count = ap suc e.count;
        each = All-cons Fits x.0 xs.0 b.fits e.each;
        spelled =
            b.spelled
            ∙ ap (λ (ys : List ℕ). spell x.0 ++ ys) e.spelled
            ∙ sym (append_assoc (spell x.0) (flat_map spell xs.0) xs.1);
      }))

  list_read : (most : ℕ) → most < 2 ^ 64 → (xs : List A) (rest : List ℕ) → ListFits most Fits xs
      → list_at most read (list_bytes spell xs ++ rest) ≡ Some (xs, rest)
  unfolding list_at
  list_read most small xs rest fits =
      let few = fits.few in
      let test : nat_le (length xs) most ≡ true = grind (arith, nat_tests, few) in
      rw (
        append_assoc (number_bytes (length xs)) (flat_map spell xs) rest,
        number_at-number (length xs) (flat_map spell xs ++ rest) (omega (arith, few, small)),
        test,
      ) (elements_read xs rest fits.each)

  counted : (most : ℕ) (bytes : List ℕ) (count : ℕ × List ℕ) → BeginsNumber bytes count → count.0 ≤ most → (xs : List A × List ℕ)
      → BeginsElements count.0 count.1 xs → Begins (ListFits most Fits) (list_bytes spell) bytes xs
  counted most bytes count c few xs e =
      let n = e.count in
      record {
        fits = record { few = omega (arith, n, few); each = e.each };
        spelled =
            c.spelled
            ∙ ap (λ (ys : List ℕ). number_bytes count.0 ++ ys) e.spelled
            ∙ ap (λ (m : ℕ). number_bytes m ++ (flat_map spell xs.0 ++ xs.1)) (sym n)
            ∙ sym (append_assoc (number_bytes (length xs.0)) (flat_map spell xs.0) xs.1);
      }

  by_count : (most : ℕ) (bytes : List ℕ) (count : ℕ × List ℕ) (test : Bool) → nat_le count.0 most ≡ test → BeginsNumber bytes count
      → (o : Option (List A × List ℕ)) → IfSome o (BeginsElements count.0 count.1)
      → IfSome (cond test o None) (Begins (ListFits most Fits) (list_bytes spell) bytes)
  by_count most bytes count false e c o h = tt
  by_count most bytes count true e c None h = tt
  by_count most bytes count true e c (Some xs) h = counted most bytes count c (leb-true count.0 most e) xs h

  list_begins : (most : ℕ) (bytes : List ℕ) → IfSome (list_at most read bytes) (Begins (ListFits most Fits) (list_bytes spell) bytes)
  unfolding list_at
  list_begins most bytes =
      then_holds (BeginsNumber bytes) (Begins (ListFits most Fits) (list_bytes spell) bytes) (number_at bytes) _ (number_at-begins bytes)
      (λ count c. by_count most bytes count _ refl c (elements_at read count.0 count.1) (elements_begin count.0 count.1))

  -- where elements are a field, lists of them are
  pub lists : (most : ℕ) → most < 2 ^ 64 → IsField (ListFits most Fits) (list_bytes spell) (list_at most read)
  lists most small = record { reads = list_read most small; begins = list_begins most }

pub number_lists : (most : ℕ) → most < 2 ^ 64
    → IsField (ListFits most NumberFits) (list_bytes number_bytes) (list_at most number_at)
number_lists = lists NumberFits number_bytes number_at numbers

-- ---- how long it is

module _ {A : Type 0} (Fits : A → Type 0) (spell : A → List ℕ) (size : ℕ) (short : (x : A) → Fits x → length (spell x) ≤ size) where
  elements_short : (xs : List A) → All Fits xs → length (flat_map spell xs) ≤ size * length xs
  elements_short [] fits = omega arith
  elements_short (x ∷ xs) fits =
      let one = short x (All-head Fits x xs fits) in
      let rest = elements_short xs (All-tail Fits x xs fits) in
      let all = length-append (spell x) (flat_map spell xs) in
      omega (arith, one, rest, all)

  -- where no element is spelled longer than its size
  pub list_short : (most : ℕ) (xs : List A) → ListFits most Fits xs → length (list_bytes spell xs) ≤ 8 + size * most
  list_short most xs fits =
      let n = length-number (length xs) in
      let all = length-append (number_bytes (length xs)) (flat_map spell xs) in
      let elements = elements_short xs fits.each in
      let few = mul-le-mul_left size fits.few in
      omega (arith, n, all, elements, few)

pub numbers_short : (most : ℕ) (xs : List ℕ) → ListFits most NumberFits xs → length (list_bytes number_bytes xs) ≤ 8 + 8 * most
numbers_short = list_short NumberFits number_bytes 8 (λ n fits. let l = length-number n in omega (arith, l))

-- ---- bytes

module _ {A : Type 0} (Fits : A → Type 0) (spell : A → List ℕ) (is : (x : A) → Fits x → IsBytes (spell x)) where
  elements_are_bytes : (xs : List A) → All Fits xs → IsBytes (flat_map spell xs)
  elements_are_bytes [] fits = no_bytes
  elements_are_bytes (x ∷ xs) fits =
      bytes_both (spell x) (flat_map spell xs) (is x (All-head Fits x xs fits)) (elements_are_bytes xs (All-tail Fits x xs fits))

  -- where each element is spelled as bytes
  pub list_is_bytes : (xs : List A) → All Fits xs → IsBytes (list_bytes spell xs)
  list_is_bytes xs fits = bytes_both (number_bytes (length xs)) (flat_map spell xs) (number_is_bytes (length xs)) (elements_are_bytes xs fits)

pub numbers_are_bytes : (xs : List ℕ) → All NumberFits xs → IsBytes (list_bytes number_bytes xs)
numbers_are_bytes = list_is_bytes NumberFits number_bytes (λ n fits. number_is_bytes n)
