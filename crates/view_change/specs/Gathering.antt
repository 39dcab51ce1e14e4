-- The changes that the leader of a new view gathers, as plain data.
use Rattle.std.specs.Prelude.{◌≡◌, ℕ, ◌==◌, ◌++◌, Bool, cond, map, nat_lt, List, [], ◌∷◌, length}
use Rattle.std.specs.List.{list_any}
use Rattle.nop_types.specs.declared.peer.Change.{Change}
use Rattle.nop_types.specs.declared.view.View.{View}
use Rattle.nop_types.specs.Lists.{Has}
use Rattle.nop_types.specs.Logs.{Trimmed}
use Rattle.nop_types.specs.PlainChanges.{plain}
use Rattle.log_merge.specs.Merging.{merged, kept_changes}
use Rattle.log_merge.specs.Starting as starting
use Rattle.view_change.specs.declared.starting.Start.{Start}
use Rattle.view_change.specs.declared.starting.Step.{Step}
use Rattle.view_change.specs.declared.starting.Step.TheVariants.{Started, Waiting}

-- the view, how many others it waits for, and the changes: told ones, or plain ones
pub record Gathering (C : Type 0) : Type 0 where
  pub view : View
  pub f : ℕ
  pub changes : List C

-- a leader begins with its own change
abbrev pub entered : {C : Type 0} → View → ℕ → C → Gathering C
entered view f own = record { view = view; f = f; changes = own ∷ [] }

-- ---- by the sender of a change

module _ {C : Type 0} (sender_of : C → ℕ) where
  -- a change of this sender is there
  abbrev pub IsOfSender : List C → ℕ → Type 0
  IsOfSender cs sender = (c : C) × Has cs c × (sender_of c ≡ sender)

  abbrev pub has_sender : List C → ℕ → Bool
  has_sender cs sender = list_any (λ c. sender_of c == sender) cs

  -- the first change of a sender stays
  abbrev pub with_change : List C → C → List C
  with_change cs c = cond (has_sender cs (sender_of c)) cs (cs ++ c ∷ [])

  abbrev pub change_added : Gathering C → C → Gathering C
  change_added g c = record g { changes = with_change g.changes c }

abbrev pub change_sender : Change → ℕ
change_sender c = c.sender

-- ---- what a view is started with

-- the number of the next request, and the merge of the trimmed logs that are kept
abbrev pub started : View → List Change → Start
started w cs = record { next = (starting.start_of w (map plain cs)).next; log = merged Trimmed (kept_changes cs) }

-- the view is started where f + 1 senders are there
abbrev pub step_of : Gathering Change → Step
step_of g = cond (nat_lt g.f (length g.changes)) (Started (started g.view g.changes)) Waiting
