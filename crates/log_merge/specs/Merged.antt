-- What a merge has in a slot, by who sent which log.
use Rattle.std.specs.Prelude.{◌≡◌, ◌≤◌, ◌↔◌, ℕ, List, Some, slice_get}
use Rattle.nop_types.specs.declared.request.Request.{Request}
use Rattle.nop_types.specs.declared.request.Entry.{Entry}
use Rattle.nop_types.specs.declared.request.Entry.TheVariants.{NoOp, Req}
use Rattle.nop_types.specs.declared.peer.Change as code
use Rattle.nop_types.specs.Logs.{Log}
use Rattle.nop_types.specs.PlainChanges.{Change}
use Rattle.nop_types.specs.Lists.{Has, slot_of}

-- one of the changes is of the sender s and has the log l
pub record HasPlainLog (cs : List Change) (s : ℕ) (l : List Entry) : Type 0 where
  pub change : Change
  pub member : Has cs change
  pub sender : change.sender ≡ s
  pub log : change.log ≡ l

-- the sender s has the entry x in the slot k
pub record HasInSlot (cs : List Change) (k s : ℕ) (x : Entry) : Type 0 where
  pub log : List Entry
  pub source : HasPlainLog cs s log
  pub entry : slot_of log k ≡ Some x

abbrev pub HasNoOp : List Change → ℕ → Type 0
HasNoOp cs k = (s : ℕ) × HasInSlot cs k s NoOp

-- nobody has a NO-OP in the slot, and of those that have the slot the lowest sender has the request there
pub record HasLowest (cs : List Change) (k : ℕ) (r : Request) : Type 0 where
  pub no_noop : HasNoOp cs k → ⊥
  pub sender : ℕ
  pub request : HasInSlot cs k sender (Req r)
  pub lowest : (s : ℕ) (x : Entry) → HasInSlot cs k s x → sender ≤ s

-- no sender stands twice
abbrev pub HasDistinctSenders : List Change → Type 0
HasDistinctSenders cs = (i j : ℕ) (c d : Change) → slice_get cs i ≡ Some c → slice_get cs j ≡ Some d → c.sender ≡ d.sender → i ≡ j

-- the same pairs of sender and log, in whatever order
abbrev pub HaveSamePlainLogs : List Change → List Change → Type 0
HaveSamePlainLogs cs ds = (s : ℕ) (l : List Entry) → HasPlainLog cs s l ↔ HasPlainLog ds s l

-- ---- of logs that are kept whole or trimmed

pub record HasLog (cs : List code.Change) (s : ℕ) (l : Log) : Type 0 where
  pub change : code.Change
  pub member : Has cs change
  pub sender : change.sender ≡ s
  pub log : change.log ≡ l

abbrev pub HaveSameLogs : List code.Change → List code.Change → Type 0
HaveSameLogs cs ds = (s : ℕ) (l : Log) → HasLog cs s l ↔ HasLog ds s l
