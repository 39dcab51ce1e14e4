-- What is written on standard output and on standard error, and when a write fails.
use Rattle.std.specs.Prelude.{◌≡◌, ◌⊎◌, ℕ, List, Option, Result, Ok, Err}
use Rattle.std.specs.Io.KnownBytes.{Appends}
use Rattle.outside.specs.Causes.{next_count}
use Rattle.outside.specs.declared.errors.DeviceError.{DeviceError}
use Rattle.outside.specs.declared.errors.DeviceError.TheVariants as devices

-- what standard output and standard error held before, and hold now
pub record Outputs : Type 0 where
  pub out : Option (List ℕ)
  pub now_out : Option (List ℕ)
  pub err : Option (List ℕ)
  pub now_err : Option (List ℕ)

abbrev pub outputs : Option (List ℕ) → Option (List ℕ) → Option (List ℕ) → Option (List ℕ) → Outputs
outputs out now_out err now_err = record { out = out; now_out = now_out; err = err; now_err = now_err }

-- a text was written to standard output alone
abbrev pub WroteOut : List ℕ → Outputs → Type 0
WroteOut text o = Appends o.out o.now_out text × (o.now_err ≡ o.err)

-- a text was written to standard error alone
abbrev pub WroteErr : List ℕ → Outputs → Type 0
WroteErr text o = Appends o.err o.now_err text × (o.now_out ≡ o.out)

-- nothing was written
abbrev pub WroteNothing : Outputs → Type 0
WroteNothing o = (o.now_out ≡ o.out) × (o.now_err ≡ o.err)

-- how often a write to standard output and one to standard error failed before, and until now
pub record Faults : Type 0 where
  pub out : ℕ
  pub now_out : ℕ
  pub err : ℕ
  pub now_err : ℕ

abbrev pub faults : ℕ → ℕ → ℕ → ℕ → Faults
faults out now_out err now_err = record { out = out; now_out = now_out; err = err; now_err = now_err }

abbrev pub NoFault : Faults → Type 0
NoFault f = (f.now_out ≡ f.out) × (f.now_err ≡ f.err)

-- one write to one of them failed
abbrev pub OneFault : Faults → Type 0
OneFault f = ((f.now_out ≡ next_count f.out) × (f.now_err ≡ f.err)) ⊎ ((f.now_out ≡ f.out) × (f.now_err ≡ next_count f.err))

-- `Failed` is the answer exactly where a write failed
abbrev pub FaultsFor : {T : Type 0} → Faults → Result T DeviceError → Type 0
FaultsFor f (Ok t) = NoFault f
FaultsFor f (Err devices.Failed) = OneFault f
FaultsFor f (Err devices.NoMemory) = NoFault f
