-- Which calls on a form in memory fail, and how many bytes the others move.
use Rattle.std.specs.Prelude.{◌≡◌, ℕ, ◌==◌, ◌&&◌, ◌||◌, min, nat_lt, Bool, if◌then◌else◌, List, Result, Ok, Err, IsOk, ⊤}
use Rattle.std.specs.List.{list_any}
use Rattle.outside.specs.Causes.{next_count}
use Rattle.outside.specs.declared.errors.Failed.{Failed}
use Rattle.outside.specs.declared.errors.DeviceError.{DeviceError}
use Rattle.outside.specs.declared.errors.DeviceError.TheVariants as errors

-- the most bytes of a call, the numbers of the calls that fail, how many calls were made, and how many of them failed
pub record FailingPlan : Type 0 where
  pub most : ℕ
  pub failing : List ℕ
  pub made : ℕ
  pub faults : ℕ

-- no call was made
abbrev pub new_plan : ℕ → List ℕ → FailingPlan
new_plan most failing = record { most = most; failing = failing; made = 0; faults = 0 }

-- the next call fails: by its number, or since it may move none of `count` bytes
abbrev pub fails : FailingPlan → ℕ → Bool
fails p count = list_any (λ k. k == next_count p.made) p.failing || ((p.most == 0) && nat_lt 0 count)

-- what the next call answers, where `count` bytes could be moved
abbrev pub answer_of : FailingPlan → ℕ → Result ℕ Failed
answer_of p count = if fails p count then Err (record {}) else Ok (min count p.most)

-- what is kept after that call
abbrev pub plan_after : FailingPlan → ℕ → FailingPlan
plan_after p count = record p { made = next_count p.made; faults = if fails p count then next_count p.faults else p.faults }

-- a write answers what was planned, or that memory ran out
abbrev pub IsPlanned : Result ℕ Failed → Result ℕ DeviceError → Type 0
IsPlanned planned (Ok n) = planned ≡ Ok n
IsPlanned planned (Err errors.Failed) = planned ≡ Err (record {})
IsPlanned planned (Err errors.NoMemory) = ⊤

-- a call without bytes answers what was planned, or that memory ran out
abbrev pub IsPlannedCall : {T : Type 0} → Result ℕ Failed → Result T DeviceError → Type 0
IsPlannedCall planned (Ok x) = IsOk planned
IsPlannedCall planned (Err errors.Failed) = planned ≡ Err (record {})
IsPlannedCall planned (Err errors.NoMemory) = ⊤

-- where memory ran out the call does not count
abbrev pub plan_after_call : {T P : Type 0} → Result T DeviceError → P → P → P
plan_after_call (Err errors.NoMemory) old next = old
plan_after_call result old next = next
