-- The history of a log, and how a host answers to a list of requests.
use Rattle.std.specs.Prelude.{ℕ, zero, suc, List, [], ◌∷◌, ◌++◌, cond, Option, Some, None}
use Rattle.nop_types.specs.declared.request.Request.{Request}
use Rattle.nop_types.specs.declared.request.Entry.{Entry}
use Rattle.nop_types.specs.declared.request.Entry.TheVariants.{NoOp, Req}
use Rattle.nop_types.specs.Meaning.{Meaning}
use Rattle.nop_types.specs.Execution.{is_executed}

-- the request of an entry after these, if it is executed
abbrev pub new_in : List Entry → Entry → List Request
new_in before NoOp = []
new_in before (Req r) = cond (is_executed before r) (r ∷ []) []

abbrev pub history_from : List Entry → List Entry → List Request
history_from before [] = []
history_from before (e ∷ log) = new_in before e ++ history_from (before ++ e ∷ []) log

-- the requests that are executed, in order
abbrev pub history_of : List Entry → List Request
history_of log = history_from [] log

abbrev pub answer_from : {S : Type 0} → Meaning S → S → List Request → ℕ → Option (List ℕ)
answer_from m s [] i = None
answer_from m s (r ∷ rs) zero = Some (m.answer s r.op)
answer_from m s (r ∷ rs) (suc i) = answer_from m (m.after s r.op) rs i

-- what a host that begins in the opening state, given the ops one after the other, answers to the one at a place
abbrev pub answer_at : {S : Type 0} → Meaning S → List Request → ℕ → Option (List ℕ)
answer_at m rs i = answer_from m m.opening rs i
