-- Logs of one view: how far two are the same, and how a log may go on.
use Rattle.std.specs.Prelude.{◌≡◌, ◌⊎◌, ◌≤◌, ℕ, List, Some, length, take}
use Rattle.nop_types.specs.declared.request.Entry.{Entry}
use Rattle.nop_types.specs.Lists.{slot_of}

-- both logs have s slots, with the same entries there
pub record SameTo (s : ℕ) (l m : List Entry) : Type 0 where
  pub left : s ≤ length l
  pub right : s ≤ length m
  pub same : take s l ≡ take s m

-- from l to k no slot is lost, and each slot keeps its entry or gets that of m
pub record Toward (m l k : List Entry) : Type 0 where
  pub longer : length l ≤ length k
  pub slots : (i : ℕ) (x : Entry) → slot_of l i ≡ Some x
      → (slot_of k i ≡ Some x) ⊎ ((y : Entry) × (slot_of m i ≡ Some y) × (slot_of k i ≡ Some y))
