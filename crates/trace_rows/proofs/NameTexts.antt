-- Reading a name gives the name again.
use Rattle.std.proofs.Common.{◌≡◌, ℕ, zero, suc, ◌+◌, ◌%◌, ◌^◌, ◌<◌, ◌≤◌, Bool, true, false, Option, Some, refl, ap, ◌∙◌}
use Rattle.std.proofs.Common.{arith, length, List, [], ◌∷◌, ◌++◌, get_or, decimal, codes, nat_le, take, inl, inr}
use Rattle.std.specs.Prelude.{option_map, if◌then◌else◌, ◌==◌, nat_eq}
use Rattle.std.specs.Cmp.Lexicographic.{pointwise}
use Rattle.std.specs.List.{list_all}
use Rattle.std.proofs.lemmas.Bool.{le-leb, ne_eqb, and_parts, and_left, cases_lt}
use Rattle.std.proofs.lemmas.Fmt.{decimal_by_steps, decimal_digit, first_decimal, decimal_nonempty}
use Rattle.std.proofs.lemmas.List.Folds.{list_all-append}
use Rattle.line_fields.specs.Fields.{from_one}
use Rattle.line_fields.proofs.FieldTexts.{is_mark, and_true, decimal_marked, number_again, small_again, StartsWithDigit, starts_with_digit}
use Rattle.line_fields.proofs.FieldTexts.{decimal_short}
use Rattle.nop_types.specs.declared.limits.TheConstants.{MAX_CONTROLLERS}
use Rattle.trace_rows.specs.Reading.{as_number, by_number, is_decimal, is_digit, name_of, number_in, to_of}
use Rattle.trace_rows.specs.Rows.{NameFits, NameIsKept, NumberFits, ToFits, ToIsKept, name_text, number_text, to_text}
use Rattle.trace_rows.specs.declared.row.Name.{Name}
use Rattle.trace_rows.specs.declared.row.Name.TheVariants.{Replica, Sequencer, Client, Controller, Observer}
use Rattle.trace_rows.specs.declared.row.Number.{Number}
use Rattle.trace_rows.specs.declared.row.Number.TheVariants.{Is, Past}
use Rattle.trace_rows.specs.declared.row.To.{To}
use Rattle.trace_rows.specs.declared.row.To.TheVariants.{Replicas, Sequencers, One}

-- ---- numbers

digit : (b : ℕ) → 48 ≤ b → b ≤ 57 → is_digit b ≡ true
digit b low high = and_true (nat_le 48 b) (nat_le b 57) (le-leb 48 b low) (le-leb b 57 high)

decimal_digits : (n : ℕ) → n < 2 ^ 64 → list_all is_digit (decimal n) ≡ true
decimal_digits = decimal_by_steps (λ m ds. list_all is_digit ds ≡ true) one more
  where
    one : (n : ℕ) → n < 10 → list_all is_digit ((48 + n) ∷ []) ≡ true
    one n small = and_true (is_digit (48 + n)) true (digit (48 + n) (omega arith) (omega arith)) refl

    more : (n : ℕ) (ds : List ℕ) → 10 ≤ n → list_all is_digit ds ≡ true → list_all is_digit (ds ++ (48 + n % 10) ∷ []) ≡ true
    more n ds low e =
        list_all-append is_digit ds ((48 + n % 10) ∷ [])
        ∙ and_true (list_all is_digit ds) (list_all is_digit ((48 + n % 10) ∷ [])) e (one (n % 10) (omega arith))

-- digits without a leading zero
decimal_from : (ds : List ℕ) → list_all is_digit ds ≡ true → 0 < length ds → (1 < length ds → get_or ds 0 0 ≡ 48 → ⊥) → is_decimal ds ≡ true
decimal_from [] e some first = absurd (omega arith)
decimal_from (d ∷ []) e some first = (and_parts (is_digit d) true e).0
decimal_from (d ∷ x ∷ ds) e some first = rw (ne_eqb d 48 (first (omega arith))) e

first_is_no_zero : (n : ℕ) → n < 2 ^ 64 → 1 < length (decimal n) → get_or (decimal n) 0 0 ≡ 48 → ⊥
first_is_no_zero n fits long e = elim (cases_lt n 10) [
  | inl small ↦ omega (arith, ap length (decimal_digit n small))
  | inr big ↦ omega (arith, first_decimal n (omega arith) fits)
]

number_kept : (n : ℕ) → n < 2 ^ 64 → number_in (decimal n) ≡ Some (Is n)
number_kept n fits =
    rw (decimal_from (decimal n) (decimal_digits n fits) (decimal_nonempty n fits) (first_is_no_zero n fits))
    (ap (λ (k : Option ℕ). Some (as_number k)) (number_again n fits))

-- ---- names

no_name : (d : ℕ) (ds : List ℕ) → d < 58 → pointwise nat_eq (d ∷ ds) (codes "tl") ≡ false
no_name d ds low = and_left (d == 116) _ (ne_eqb d 116 (λ same. omega arith))

-- a client's name does not begin as a controller's
client_is_other : (ds : List ℕ) → StartsWithDigit ds → name_of (99 ∷ ds) ≡ option_map Client (number_in ds)
unfolding name_of
client_is_other ds h = rw h.is (rw (no_name h.first h.rest h.low, no_name h.first (take 1 h.rest) h.low) refl)

later_text : (k : ℕ) → name_text (Controller (suc k)) ≡ codes "ctl" ++ decimal (suc k)
later_text k = rw (ne_eqb (suc k) 0 (λ e. omega (arith, e))) refl

controller_is_later : (ds : List ℕ) → StartsWithDigit ds → name_of (codes "ctl" ++ ds) ≡ by_number ds
unfolding name_of
controller_is_later ds h = rw h.is refl

pub name_again : (name : Name) → NameFits name → NameIsKept name → name_of (name_text name) ≡ Some name
unfolding name_of
name_again (Replica (Is n)) fits kept = ap (option_map Replica) (number_kept n fits)
name_again (Sequencer (Is n)) fits kept = ap (option_map Sequencer) (number_kept n fits)
name_again (Client (Is n)) fits kept =
    client_is_other (decimal n) (starts_with_digit n fits) ∙ ap (option_map Client) (number_kept n fits)
name_again (Controller zero) fits kept = refl
name_again (Controller (suc k)) fits kept =
    ap name_of (later_text k)
    ∙ controller_is_later (decimal (suc k)) (starts_with_digit (suc k) (omega arith))
    ∙ ap (λ (n : Option ℕ). option_map Controller (from_one n)) (small_again MAX_CONTROLLERS (suc k) fits (omega arith))
name_again (Observer (Is n)) fits kept = ap (option_map Observer) (number_kept n fits)
name_again (Replica Past) fits kept = absurd kept
name_again (Sequencer Past) fits kept = absurd kept
name_again (Client Past) fits kept = absurd kept
name_again (Observer Past) fits kept = absurd kept

-- ---- where to

-- a number is no star
no_star : (n : ℕ) → n < 2 ^ 64 → pointwise nat_eq (decimal n) (codes "*") ≡ false
no_star n fits =
    let h = starts_with_digit n fits in
    let high = h.high in
    rw h.is (and_left (nat_eq h.first 42) _ (ne_eqb h.first 42 (λ same. omega arith)))

one_again : (name : Name) → NameFits name → NameIsKept name → to_of (name_text name) ≡ Some (One name)
unfolding to_of
one_again (Replica (Is n)) fits kept = rw (no_star n fits) (ap (option_map One) (name_again (Replica (Is n)) fits kept))
one_again (Sequencer (Is n)) fits kept = rw (no_star n fits) (ap (option_map One) (name_again (Sequencer (Is n)) fits kept))
one_again (Client n) fits kept = ap (option_map One) (name_again (Client n) fits kept)
one_again (Controller k) fits kept = ap (option_map One) (name_again (Controller k) fits kept)
one_again (Observer n) fits kept = ap (option_map One) (name_again (Observer n) fits kept)
one_again (Replica Past) fits kept = absurd kept
one_again (Sequencer Past) fits kept = absurd kept

pub to_again : (to : To) → ToFits to → ToIsKept to → to_of (to_text to) ≡ Some to
unfolding to_of
to_again Replicas fits kept = refl
to_again Sequencers fits kept = refl
to_again (One name) fits kept = one_again name fits kept

-- ---- their bytes

numbers_marked : (b : Bool) (k : ℕ) → k < 2 ^ 64 → list_all is_mark (codes "ctl" ++ (if b then [] else decimal k)) ≡ true
numbers_marked true k fits = refl
numbers_marked false k fits = decimal_marked k fits

pub name_marked : (name : Name) → NameFits name → list_all is_mark (name_text name) ≡ true
name_marked (Replica (Is n)) fits = decimal_marked n fits
name_marked (Sequencer (Is n)) fits = decimal_marked n fits
name_marked (Client (Is n)) fits = decimal_marked n fits
name_marked (Controller k) fits = numbers_marked (k == 0) k (omega arith)
name_marked (Observer (Is n)) fits = decimal_marked n fits
name_marked (Replica Past) fits = refl
name_marked (Sequencer Past) fits = refl
name_marked (Client Past) fits = refl
name_marked (Observer Past) fits = refl

numbers_short : (b : Bool) (k : ℕ) → k < 2 ^ 64 → length (codes "ctl" ++ (if b then [] else decimal k)) ≤ 23
numbers_short true k fits = omega arith
numbers_short false k fits = omega (arith, decimal_short k fits)

number_short : (n : Number) → NumberFits n → length (number_text n) ≤ 20
number_short (Is n) fits = decimal_short n fits
number_short Past fits = omega arith

pub name_short : (name : Name) → NameFits name → length (name_text name) ≤ 23
name_short (Replica n) fits = omega (arith, number_short n fits)
name_short (Sequencer n) fits = omega (arith, number_short n fits)
name_short (Client n) fits = omega (arith, number_short n fits)
name_short (Controller k) fits = numbers_short (k == 0) k (omega arith)
name_short (Observer n) fits = omega (arith, number_short n fits)

pub to_marked : (to : To) → ToFits to → list_all is_mark (to_text to) ≡ true
to_marked Replicas fits = refl
to_marked Sequencers fits = refl
to_marked (One name) fits = name_marked name fits

pub to_short : (to : To) → ToFits to → length (to_text to) ≤ 23
to_short Replicas fits = omega arith
to_short Sequencers fits = omega arith
to_short (One name) fits = name_short name fits
