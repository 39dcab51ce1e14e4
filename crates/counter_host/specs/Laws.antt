-- Proofs: nothing here has to be believed.
-- The laws of a host, of the counter.
use Rattle.std.proofs.Common.{◌≡◌, ℕ, ◌+◌, ◌≤◌, Bool, true, false, cond, List, length, Some}
use Rattle.std.proofs.Common.{refl, arith}
use Rattle.std.specs.Prelude.{⊤, codes, ◌&&◌}
use Rattle.std.proofs.lemmas.Bool.Decides.{nat_tests}
use Rattle.lemmas.proofs.Bools.{either_holds}
use Rattle.lemmas.proofs.Bytes as services
use Rattle.lemmas.proofs.Bytes.{small_bytes}
use Rattle.nop_types.specs.Services.{IsBytes, AnswersAreBytes}
use Rattle.nop_types.specs.declared.limits.TheConstants.{MAX_RESULT_BYTES, MAX_HOST_BYTES}
use Rattle.saved_fields.specs.Numbers.{number_at, number_bytes}
use Rattle.saved_fields.specs.Reading.{length-number, number_is_bytes, numbers, whole_only, whole_saved}
use Rattle.counter_host.specs.Counter.{IsSound, added, adds, after, answer, asks, counter_meaning, has_next, loaded, undo_of, undone}

-- ---- ops

pub undoes : (n : ℕ) (op : List ℕ) → undone (after n op) (undo_of n op) ≡ n
undoes n op = refl

pub opens_sound : IsSound 0
opens_sound = omega arith

either_number : (P : ℕ → Type 0) (b : Bool) (x y : ℕ) → (b ≡ true → P x) → P y → P (cond b x y)
either_number P true x y p q = p refl
either_number P false x y p q = q

next_fits : (a b : Bool) (n : ℕ) → b ≡ has_next n → (a && b) ≡ true → IsSound (n + 1)
next_fits true true n e h = grind (arith, nat_tests, e)
next_fits true false n e h = absurd cc
next_fits false b n e h = absurd cc

pub stays_sound : (n : ℕ) (op : List ℕ) → IsSound n → IsSound (after n op)
stays_sound n op sound =
    either_number IsSound (adds op && has_next n) (n + 1) n (next_fits (adds op) (has_next n) n refl) sound

-- ---- answers

number_short : (n : ℕ) → length (number_bytes n) ≤ MAX_RESULT_BYTES
number_short n = let l = length-number n in omega (arith, l)

pub answers_short : (n : ℕ) (op : List ℕ) → IsSound n → length (answer n op) ≤ MAX_RESULT_BYTES
answers_short n op sound =
    let P : List ℕ → Type 0 = λ x. length x ≤ MAX_RESULT_BYTES in
    either_holds P (adds op) (added n) (cond (asks op) (number_bytes n) (codes "bad"))
    (either_holds P (has_next n) (number_bytes (n + 1)) (codes "full") (number_short (n + 1)) (omega arith))
    (either_holds P (asks op) (number_bytes n) (codes "bad") (number_short n) (omega arith))

answer_is : (n : ℕ) (op : List ℕ) → IsBytes (answer n op)
answer_is n op =
    either_holds IsBytes (adds op) (added n) (cond (asks op) (number_bytes n) (codes "bad"))
    (either_holds IsBytes (has_next n) (number_bytes (n + 1)) (codes "full") (number_is_bytes (n + 1))
    (small_bytes (codes "full") refl))
    (either_holds IsBytes (asks op) (number_bytes n) (codes "bad") (number_is_bytes n) (small_bytes (codes "bad") refl))

pub answers_are_bytes : AnswersAreBytes counter_meaning
answers_are_bytes = services.answers_are_bytes counter_meaning (λ n. ⊤) tt (λ n op is all. tt) (λ n op is all. answer_is n op)

-- ---- saved states

pub saves_short : (n : ℕ) → IsSound n → length (number_bytes n) ≤ MAX_HOST_BYTES
saves_short n sound = let l = length-number n in omega (arith, l)

pub loads_saved : (n : ℕ) → IsSound n → loaded (number_bytes n) ≡ Some n
loads_saved = whole_saved IsSound number_bytes number_at numbers

pub loads_only : (bytes : List ℕ) (n : ℕ) → loaded bytes ≡ Some n → IsSound n × (number_bytes n ≡ bytes)
loads_only = whole_only IsSound number_bytes number_at numbers

-- ---- what the counter promises

pub counts_rise : (n : ℕ) (op : List ℕ) → n ≤ after n op
counts_rise n op = either_number (λ (m : ℕ). n ≤ m) (adds op && has_next n) (n + 1) n (λ e. omega arith) (omega arith)
