-- Fronts of a text.
use Rattle.std.proofs.Common.{◌≢◌, ℕ, ◌+◌, ◌<◌, ◌≤◌, List, [], ◌∷◌, ◌++◌, length, take, Option, refl, sym, subst, ◌∙◌, arith, inl, inr}
use Rattle.std.proofs.Common.{length-append}
use Rattle.std.proofs.KnownBytes.{Appends-nil, Appends-trans}
use Rattle.std.proofs.lemmas.Bool.{cases_lt}
use Rattle.std.proofs.lemmas.List.{take-append-le, take_all}
use Rattle.std.specs.Io.KnownBytes.{Appends}
use Rattle.lemmas.proofs.Places.{take-append_past}
use Rattle.outside.specs.Prefixes.{AppendsPrefix, AppendsUpTo}
use Rattle.replay.specs.declared.error.ReplayError.{ReplayError}
use Rattle.replay.specs.declared.error.ReplayError.TheVariants as errors
use Rattle.replay.specs.Steps.{Fails, Misses}

-- ---- lists that are not empty

pub some_left : {A : Type 0} (xs ys : List A) → xs ≢ [] → xs ++ ys ≢ []
some_left [] ys some = absurd (some refl)
some_left (x ∷ xs) ys some = λ e. absurd cc

pub some_right : {A : Type 0} (xs ys : List A) → ys ≢ [] → xs ++ ys ≢ []
some_right [] ys some = some
some_right (x ∷ xs) ys some = λ e. absurd cc

some_length : (xs : List ℕ) → xs ≢ [] → 0 < length xs
some_length [] some = absurd (some refl)
some_length (x ∷ xs) some = omega arith

-- ---- fronts

pub up_to_nil : (a : Option (List ℕ)) (text : List ℕ) → AppendsUpTo a a text
up_to_nil a text = record { count = 0; appended = Appends-nil a }

pub prefix_nil : (a : Option (List ℕ)) (text : List ℕ) → text ≢ [] → AppendsPrefix a a text
prefix_nil a text some = record { count = 0; below = some_length text some; appended = Appends-nil a }

-- bytes before a front
pub prefix_behind : (a b c : Option (List ℕ)) (written text : List ℕ) → Appends a b written → AppendsPrefix b c text
    → AppendsPrefix a c (written ++ text)
prefix_behind a b c written text before f =
    record {
      count = length written + f.count;
      below = omega (arith, f.below, length-append written text);
      appended = subst (λ (t : List ℕ). Appends a c t) (sym (take-append_past written text f.count))
          (Appends-trans a b c written (take f.count text) before f.appended);
    }

-- a front of a longer text
prefix_at : (a b : Option (List ℕ)) (text more : List ℕ) (n : ℕ) → n ≤ length text → n < length (text ++ more)
    → Appends a b (take n text) → AppendsPrefix a b (text ++ more)
prefix_at a b text more n within below wrote =
    record {
      count = n;
      below = below;
      appended = subst (λ (t : List ℕ). Appends a b t) (sym (take-append-le n text more within)) wrote;
    }

pub prefix_longer : (a b : Option (List ℕ)) (text more : List ℕ) → AppendsPrefix a b text → AppendsPrefix a b (text ++ more)
prefix_longer a b text more f =
    prefix_at a b text more f.count (omega (arith, f.below)) (omega (arith, f.below, length-append text more)) f.appended

-- a front, perhaps all, where something follows
pub up_to_then : (a b : Option (List ℕ)) (text more : List ℕ) → more ≢ [] → AppendsUpTo a b text → AppendsPrefix a b (text ++ more)
up_to_then a b text more some f = elim (cases_lt f.count (length text)) [
  | inl below ↦ prefix_at a b text more f.count (omega (arith, below)) (omega (arith, below, length-append text more)) f.appended
  | inr all ↦ prefix_at a b text more (length text) (omega arith) (omega (arith, some_length more some, length-append text more))
      (subst (λ (t : List ℕ). Appends a b t) (take_all f.count text all ∙ sym (take_all (length text) text (omega arith))) f.appended)
]

up_to_of_prefix : (a b : Option (List ℕ)) (text : List ℕ) → AppendsPrefix a b text → AppendsUpTo a b text
up_to_of_prefix a b text f = record { count = f.count; appended = f.appended }

pub misses_fails : (a b : Option (List ℕ)) (text : List ℕ) (e : ReplayError) → Misses a b text e → Fails a b text e
misses_fails a b text (errors.Malformed line rule) f = f
misses_fails a b text errors.ReadFault f = f
misses_fails a b text errors.WriteFault f = up_to_of_prefix a b text f
misses_fails a b text errors.NoMemory f = up_to_of_prefix a b text f
