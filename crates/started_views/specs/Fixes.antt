-- What fixes a prefix of the log of a view's leader.
use Rattle.std.specs.Prelude.{◌≡◌, ℕ, ◌+◌, ◌*◌, ◌<◌, ◌≤◌, length, List, Some}
use Rattle.nop_types.specs.declared.view.View.{View}
use Rattle.nop_types.specs.declared.request.Request.{Request}
use Rattle.nop_types.specs.declared.request.Entry.{Entry}
use Rattle.nop_types.specs.declared.request.Entry.TheVariants.{NoOp, Req}
use Rattle.nop_types.specs.Lists.{slot_of}
use Rattle.nop_types.specs.Views.{leader_of}
use Rattle.log_merge.specs.Starting.{Start}
use Rattle.started_views.specs.Logs.{SameTo}
use Rattle.started_views.specs.Past.{Past, HadLog, LeaderHad, IsStart}
use Rattle.started_views.specs.Quorums.{Quorum, Others}
use Rattle.started_views.specs.Settled.{Reached, HadNoOp, Fixed}

-- the replica r had in w the first s slots of m
abbrev pub HadSame : Past → View → ℕ → List Entry → ℕ → Type 0
HadSame past w s m r = (l : List Entry) × HadLog past r w l × SameTo s l m

-- f others had them
pub record Synchronised (f : ℕ) (past : Past) (w : View) (m : List Entry) (s : ℕ) : Type 0 where
  pub leads : LeaderHad f past w m
  pub within : s ≤ length m
  pub others : Others f (leader_of w (2 * f + 1)) (HadSame past w s m)

-- the leader has a request in the slot s, a quorum had as many slots, and each NO-OP above the start of w, the last slot apart, was in the
-- logs of f others
pub record Accepted (f : ℕ) (past : Past) (w : View) (m : List Entry) (s : ℕ) : Type 0 where
  pub leads : LeaderHad f past w m
  pub within : s ≤ length m
  pub request : Request
  pub last : slot_of m s ≡ Some (Req request)
  pub reached : Quorum f (Reached past w s)
  pub noops : (k : ℕ) (x : Start) → IsStart past w x → length x.log < k → k < length m → slot_of m k ≡ Some NoOp
      → Others f (leader_of w (2 * f + 1)) (HadNoOp past w k)

abbrev pub SyncFixes : Type 0
SyncFixes = (f : ℕ) (past : Past) (w : View) (m : List Entry) (s : ℕ) → Synchronised f past w m s → Fixed f past w m s

abbrev pub AcceptFixes : Type 0
AcceptFixes = (f : ℕ) (past : Past) (w : View) (m : List Entry) (s : ℕ) → Accepted f past w m s → Fixed f past w m s
