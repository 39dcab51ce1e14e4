-- What a leader answers to a replica that asks for a slot.
use Rattle.std.specs.Prelude.{ℕ, ◌+◌, ◌==◌, ◌&&◌, nat_le, Bool, true, false, not, cond, Option, Some, None}
use Rattle.nop_types.specs.declared.request.Request.{Request}
use Rattle.nop_types.specs.declared.request.Entry.{Entry}
use Rattle.nop_types.specs.declared.request.Entry.TheVariants.{NoOp, Req}
use Rattle.nop_types.specs.Logs.{Log, Keeping, length_of, entry_at, has_room}
use Rattle.replica_log.specs.declared.answers.Answer as code
use Rattle.replica_log.specs.declared.answers.Answer.TheVariants as answers

-- the slot is synchronised; the request that it holds; a gap agreement that was begun or done before; one that is to begin; or nothing
pub data Answer : Type 0 where
  Below : Answer
  Found : Request → Answer
  GapAgain : Answer
  Begin : Answer
  Nothing : Answer

-- an answer without where its request lies in memory
abbrev pub given : code.Answer → Answer
given answers.Below = Below
given (answers.Found request) = Found request.now
given answers.GapAgain = GapAgain
given answers.Begin = Begin
given answers.Nothing = Nothing

-- a gap agreement may begin in the slot after the last one, where none waits and the log has room
abbrev pub may_begin : Keeping → Log → Bool → ℕ → Bool
may_begin k log waiting slot = (slot == length_of k log + 1) && (not waiting && has_room k log)

-- by what the slot holds, and whether a gap agreement may begin there
abbrev pub answer_by : Option Entry → Bool → Answer
answer_by (Some (Req request)) begins = Found request
answer_by (Some NoOp) begins = GapAgain
answer_by None true = Begin
answer_by None false = Nothing

-- above the sync point
abbrev pub answer_above : Keeping → Log → Bool → ℕ → Answer
answer_above k log waiting slot = answer_by (entry_at k log slot) (may_begin k log waiting slot)

abbrev pub answer_of : Keeping → Log → Bool → ℕ → Answer
answer_of k log waiting slot = cond (nat_le slot log.sync_point) Below (answer_above k log waiting slot)
