-- One write, and the faults of both outputs.
use Rattle.std.proofs.Common.{◌≡◌, ℕ, refl, inl, inr}
use Rattle.std.specs.Prelude.{Result, Ok, Err}
use Rattle.outside.specs.Causes.{CountsFor}
use Rattle.outside.specs.declared.errors.DeviceError.{DeviceError}
use Rattle.outside.specs.declared.errors.DeviceError.TheVariants as devices
use Rattle.service_tool.specs.Outputs.{FaultsFor, faults}

others : {T E : Type 0} (a b : ℕ) (error : E) (r : Result T E) → CountsFor a b error r → (r ≡ Err error → ⊥) → b ≡ a
others a b error r h other = h.others other

-- a call that did not fail leaves the count
pub stays : {T E : Type 0} (a b : ℕ) (error : E) (x : T) → CountsFor a b error (Ok x) → b ≡ a
stays a b error x h = others a b error (Ok x) h (λ e. cc)

-- a write to standard output
pub out_fault : {T : Type 0} (a b c : ℕ) (r : Result T DeviceError) → CountsFor a b devices.Failed r → FaultsFor (faults a b c c) r
out_fault a b c (Ok t) h = (stays a b devices.Failed t h, refl)
out_fault a b c (Err devices.Failed) h = inl (h.failed refl, refl)
out_fault a b c (Err devices.NoMemory) h = (others a b devices.Failed (Err devices.NoMemory) h (λ e. cc), refl)

-- a write to standard error
pub err_fault : {T : Type 0} (a b c : ℕ) (r : Result T DeviceError) → CountsFor b c devices.Failed r → FaultsFor (faults a a b c) r
err_fault a b c (Ok t) h = (refl, stays b c devices.Failed t h)
err_fault a b c (Err devices.Failed) h = inr (refl, h.failed refl)
err_fault a b c (Err devices.NoMemory) h = (refl, others b c devices.Failed (Err devices.NoMemory) h (λ e. cc))
