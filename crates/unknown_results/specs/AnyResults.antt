-- A service over ops with a byte in front: where this is 1 its answer has no byte, whatever the op is answered.
use Rattle.std.proofs.Common.{refl, arith}
use Rattle.std.specs.Prelude.{◌≡◌, ℕ, ◌==◌, ◌≤◌, Bool, true, false, List, [], ◌∷◌, length}
use Rattle.fronts.specs.Parts.{IsPart}
use Rattle.nop_types.specs.Meaning.{Meaning}
use Rattle.nop_types.specs.declared.limits.TheConstants.{MAX_RESULT_BYTES}
use Rattle.unknown_results.specs.Asking.{without_first}

abbrev pub unless : Bool → List ℕ → List ℕ
unless true answer = []
unless false answer = answer

-- whether any answer to the op is taken
abbrev pub takes_any : List ℕ → Bool
takes_any [] = false
takes_any (b ∷ bytes) = b == 1

abbrev pub answer_asked : {S : Type 0} → Meaning S → S → List ℕ → List ℕ
answer_asked m s op = unless (takes_any op) (m.answer s (without_first op))

abbrev pub any_result : {S : Type 0} → Meaning S → Meaning S
any_result m = record {
  opening = m.opening;
  after = λ s op. m.after s (without_first op);
  answer = answer_asked m;
  saved = m.saved;
  loaded = m.loaded;
}

-- ---- proofs: nothing here has to be believed

unless_same : (b : Bool) (x y : List ℕ) → x ≡ y → unless b x ≡ unless b y
unless_same true x y e = refl
unless_same false x y e = e

-- parts of the service are parts of this one
pub still_a_part : {S : Type 0} (m : Meaning S) (Fits : List ℕ → Type 0) (mine : List ℕ → Bool) (Same : S → S → Type 0)
    → IsPart m Fits mine Same
    → IsPart (any_result m) (λ op. Fits (without_first op)) (λ op. mine (without_first op)) Same
still_a_part m Fits mine Same part = record {
  opens = part.opens;
  answers = λ s t op fit is_mine same.
      unless_same (takes_any op) (m.answer s (without_first op)) (m.answer t (without_first op))
      (part.answers s t (without_first op) fit is_mine same);
  keeps = λ s t op fit is_mine same. part.keeps s t (without_first op) fit is_mine same;
  leaves = λ s t op fit other same. part.leaves s t (without_first op) fit other same;
}

zero_at_most : (n : ℕ) → 0 ≤ n
zero_at_most n = omega arith

shorter : (b : Bool) (most : ℕ) (answer : List ℕ) → length answer ≤ most → length (unless b answer) ≤ most
shorter true most answer h = zero_at_most most
shorter false most answer h = h

-- its answers are no longer
pub answers_short : {S : Type 0} (m : Meaning S) (Sound : S → Type 0)
    → ((s : S) (op : List ℕ) → Sound s → length (m.answer s op) ≤ MAX_RESULT_BYTES) → (s : S) (op : List ℕ) → Sound s
    → length (answer_asked m s op) ≤ MAX_RESULT_BYTES
answers_short m Sound short s op sound =
    shorter (takes_any op) MAX_RESULT_BYTES (m.answer s (without_first op)) (short s (without_first op) sound)
