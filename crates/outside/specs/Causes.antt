-- What a fault does to a count of faults, and that a fault is answered only where the count rose.
use Rattle.std.specs.Prelude.{◌≡◌, ◌⊎◌, ℕ, ◌+◌, ◌-◌, ◌^◌, ◌≤◌, min, Result, Ok, Err, IsErrOf}
use Rattle.outside.specs.declared.errors.DeviceError.{DeviceError}
use Rattle.outside.specs.declared.errors.DeviceError.TheVariants as errors
use Rattle.outside.specs.declared.errors.Failed.{Failed}

-- counts go up to the greatest number of 64 bits
abbrev pub next_count : ℕ → ℕ
next_count n = min (n + 1) (2 ^ 64 - 1)

-- a count after a call: it rises by one where the call failed
abbrev pub count_after : {T : Type 0} → Result T DeviceError → ℕ → ℕ
count_after (Ok t) n = n
count_after (Err errors.Failed) n = next_count n
count_after (Err errors.NoMemory) n = n

-- the same of a call that takes no memory
abbrev pub count_after_read : {T : Type 0} → Result T Failed → ℕ → ℕ
count_after_read (Ok t) n = n
count_after_read (Err e) n = next_count n

-- the count rose, or stands at the greatest number of 64 bits, where it stays
abbrev pub Rose : ℕ → ℕ → Type 0
Rose before now = min (before + 1) (2 ^ 64 - 1) ≤ now

-- a count of faults over a call: it rises by one exactly where this holds, and else it stays
pub record CountsWhere (before now : ℕ) (fact : Type 0) : Type 0 where
  pub later : before ≤ now
  pub failed : fact → now ≡ next_count before
  pub others : ¬ fact → now ≡ before

-- the count of a device over calls on it that end with the first that fails: it rises by one exactly where this error is the answer
abbrev pub CountsFor : {T E : Type 0} → ℕ → ℕ → E → Result T E → Type 0
CountsFor before now error result = CountsWhere before now (IsErrOf result error)

-- the count over calls whose last one may have failed and is not told, since something failed after it
abbrev pub StaysOrRises : ℕ → ℕ → Type 0
StaysOrRises before now = (now ≡ before) ⊎ (now ≡ next_count before)
