-- When logs that are merged agree on an entry.
use Rattle.std.specs.Prelude.{◌≡◌, ◌⊎◌, ℕ, List, Some}
use Rattle.nop_types.specs.declared.request.Entry.{Entry}
use Rattle.nop_types.specs.declared.request.Entry.TheVariants.{NoOp}
use Rattle.nop_types.specs.PlainChanges.{Change}
use Rattle.nop_types.specs.Lists.{Has, slot_of}

-- one of the logs has the entry in the slot
abbrev pub SomeHas : List Change → ℕ → Entry → Type 0
SomeHas cs k x = (c : Change) × Has cs c × (slot_of c.log k ≡ Some x)

-- each log that has the slot has the entry there
abbrev pub EachHas : List Change → ℕ → Entry → Type 0
EachHas cs k x = (c : Change) (z : Entry) → Has cs c → slot_of c.log k ≡ Some z → z ≡ x

-- a NO-OP that some log has, or an entry that each log has that has the slot, and some log has it
abbrev pub AgreeOn : List Change → ℕ → Entry → Type 0
AgreeOn cs k x = ((x ≡ NoOp) × SomeHas cs k NoOp) ⊎ (((y : Entry) × SomeHas cs k y) × EachHas cs k x)
