-- When a prefix of a view's log is fixed, and which log the history is read from.
use Rattle.std.specs.Prelude.{◌≡◌, ◌⊎◌, ℕ, false, ◌+◌, ◌*◌, ◌<◌, ◌≤◌, length, map, List, Some}
use Rattle.nop_types.specs.declared.view.View.{View}
use Rattle.nop_types.specs.declared.request.Entry.{Entry}
use Rattle.nop_types.specs.declared.request.Entry.TheVariants.{NoOp}
use Rattle.nop_types.specs.PlainChanges.{Change}
use Rattle.nop_types.specs.Lists.{Has, slot_of}
use Rattle.nop_types.specs.Views.{AtMost, outranks, leader_of}
use Rattle.log_merge.specs.Starting.{Start}
use Rattle.started_views.specs.Past.{Past, HadLog, LeaderHad, IsStart}
use Rattle.started_views.specs.Quorums.{counts, Quorum}

-- f + 1 replicas entered w, each with what its change tells
pub record Certificate (f : ℕ) (past : Past) (w : View) (cs : List Change) : Type 0 where
  pub enough : f + 1 ≤ length cs
  pub once : (k : ℕ) → counts k (map (λ c. c.sender) cs) ≤ 1
  pub within : (c : Change) → Has cs c → c.sender < 2 * f + 1
  pub entries : (c : Change) → Has cs c
      → past.entry c.sender w ≡ Some (record { last_normal = c.last_normal; next = c.next; sync_point = c.sync_point; log = c.log })

-- the replica r had s slots in w
abbrev pub Reached : Past → View → ℕ → ℕ → Type 0
Reached past w s r = (l : List Entry) × HadLog past r w l × (s ≤ length l)

-- the replica r had a NO-OP in the slot k in w
abbrev pub HadNoOp : Past → View → ℕ → ℕ → Type 0
HadNoOp past w k r = (l : List Entry) × HadLog past r w l × (slot_of l k ≡ Some NoOp)

-- the first s slots of m, the log of the leader of w: a quorum has as many, and each NO-OP above the start of w is in a quorum
pub record Fixed (f : ℕ) (past : Past) (w : View) (m : List Entry) (s : ℕ) : Type 0 where
  pub leads : LeaderHad f past w m
  pub within : s ≤ length m
  pub reached : Quorum f (Reached past w s)
  pub noops : (k : ℕ) (x : Start) → IsStart past w x → length x.log < k → k ≤ s → slot_of m k ≡ Some NoOp → Quorum f (HadNoOp past w k)

-- s slots were fixed in u or below, unless s is 0
abbrev pub Anchored : ℕ → Past → View → ℕ → Type 0
Anchored f past u s = (s ≡ 0) ⊎ ((w : View) × AtMost w u × (m : List Entry) × Fixed f past w m s)

-- m is the log from which the history is read: that of the leader of v, the last normal view of greatest rank
pub record MainLog (f : ℕ) (last_normal : ℕ → View) (past : Past) (v : View) (m : List Entry) : Type 0 where
  pub held : (r : ℕ) × (r < 2 * f + 1) × (last_normal r ≡ v)
  pub greatest : (r : ℕ) → r < 2 * f + 1 → outranks (last_normal r) v ≡ false
  pub current : HadLog past (leader_of v (2 * f + 1)) (last_normal (leader_of v (2 * f + 1))) m
