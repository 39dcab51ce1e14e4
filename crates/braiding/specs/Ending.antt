-- What is read and written.
use Rattle.std.specs.Prelude.{◌≡◌, ◌⊎◌, ℕ, List, [], ◌∷◌, ◌++◌, Option, Result, Ok, Err}
use Rattle.std.specs.List.{flat_map}
use Rattle.std.specs.Io.KnownBytes.{Appends}
use Rattle.outside.specs.Prefixes.{AppendsPrefix}
use Rattle.outside.specs.declared.errors.DeviceError.{DeviceError}
use Rattle.outside.specs.declared.errors.DeviceError.TheVariants as devices
use Rattle.braiding.specs.Orders.{line_at, IsOrder}
use Rattle.braiding.specs.Reading.{AreAll, IsInterrupted, IsRefused}
use Rattle.braiding.specs.declared.error.BraidError.{BraidError}
use Rattle.braiding.specs.declared.error.BraidError.TheVariants.{Refuted, ReadFault, WriteFault, NoMemory}

abbrev pub of_sink : DeviceError → BraidError
of_sink devices.Failed = WriteFault
of_sink devices.NoMemory = NoMemory

-- lines by their numbers, each with its end
abbrev pub written : List (List ℕ) → List ℕ → List ℕ
written lines order = flat_map (λ p. line_at lines p ++ 10 ∷ []) order

-- the source has none left, and this is the text of its lines in an order
pub record IsOrdered (before left : Option (List ℕ)) (output : List ℕ) : Type 0 where
  pub lines : List (List ℕ)
  pub all : AreAll before left lines
  pub order : List ℕ
  pub is : IsOrder lines order
  pub text : output ≡ written lines order

-- by the bytes that were left before and those left now, and by what the sink held and holds now
abbrev pub Ends : {A : Type 0} → (before left held now : Option (List ℕ)) → Result A BraidError → Type 0
Ends before left held now (Ok a) = (output : List ℕ) × IsOrdered before left output × Appends held now output
Ends before left held now (Err (Refuted line)) = IsRefused before left line × (now ≡ held)
Ends before left held now (Err ReadFault) = IsInterrupted before left × (now ≡ held)
Ends before left held now (Err WriteFault) = (output : List ℕ) × IsOrdered before left output × AppendsPrefix held now output
Ends before left held now (Err NoMemory) = (now ≡ held) ⊎ ((output : List ℕ) × IsOrdered before left output × AppendsPrefix held now output)
