-- Counts of faults.
use Rattle.std.proofs.Common.{◌≡◌, ℕ, ◌≤◌, Result, Ok, Err, refl, ap, arith}
use Rattle.std.specs.Prelude.{IsOk}
use Rattle.outside.specs.Causes.{CountsWhere, CountsFor, Rose, count_after, count_after_read}
use Rattle.outside.specs.declared.errors.DeviceError.{DeviceError}
use Rattle.outside.specs.declared.errors.DeviceError.TheVariants as errors
use Rattle.outside.specs.declared.errors.Failed.{Failed}

pub ok_counts_nothing : (r : Result ℕ Failed) (n : ℕ) → IsOk r → count_after_read r n ≡ n
ok_counts_nothing (Ok x) n is = refl
ok_counts_nothing (Err e) n is = cc

-- a call on a device tells its fault
pub counts_after : {T : Type 0} (a b : ℕ) (r : Result T DeviceError) → a ≤ b → b ≡ count_after r a → CountsFor a b errors.Failed r
counts_after a b (Ok t) later is = record { later = later; failed = λ observed. absurd cc; others = λ never. is }
counts_after a b (Err errors.Failed) later is = record { later = later; failed = λ observed. is; others = λ never. absurd (never refl) }
counts_after a b (Err errors.NoMemory) later is = record { later = later; failed = λ observed. absurd cc; others = λ never. is }

-- nothing failed, and no fault is told
pub counts_none : (a b : ℕ) (P : Type 0) → b ≡ a → ¬ P → CountsWhere a b P
counts_none a b P same never = record { later = omega (arith, same); failed = λ is. absurd (never is); others = λ other. same }

-- nothing failed before
pub counts_then : (a b c : ℕ) (P : Type 0) → b ≡ a → CountsWhere b c P → CountsWhere a c P
counts_then a b c P same one = rw same at one

-- the fault is told by another name
pub counts_as : (a b : ℕ) (P Q : Type 0) → (P → Q) → (Q → P) → CountsWhere a b P → CountsWhere a b Q
counts_as a b P Q to from one = record {
  later = one.later;
  failed = λ is. one.failed (from is);
  others = λ never. one.others (λ is. never (to is));
}

-- an error is that of the result that has it
pub counts_error : {T E : Type 0} (a b : ℕ) (e x : E) → CountsFor {T = T} a b x (Err e) → CountsWhere a b (e ≡ x)
counts_error {T} {E} a b e x one =
    record { later = one.later; failed = λ is. one.failed (ap Err is); others = λ never. one.others (λ observed. never (cc)) }

pub counts_result : {T E : Type 0} (a b : ℕ) (e x : E) → CountsWhere a b (e ≡ x) → CountsFor {T = T} a b x (Err e)
counts_result {T} {E} a b e x one =
    record { later = one.later; failed = λ observed. one.failed (cc); others = λ never. one.others (λ is. never (ap Err is)) }

-- the same error of a result of another type
pub counts_alike : {T U E : Type 0} (a b : ℕ) (e x : E) → CountsFor {T = T} a b x (Err e) → CountsFor {T = U} a b x (Err e)
counts_alike {T} {U} {E} a b e x one = counts_result {T = U} a b e x (counts_error {T = T} a b e x one)

-- where a fault is told, the count rose
pub rose_where : (a b : ℕ) (P : Type 0) → CountsWhere a b P → P → Rose a b
rose_where a b P one is = let e = one.failed is in omega (arith, e)
