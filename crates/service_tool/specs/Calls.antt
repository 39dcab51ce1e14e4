-- The lines of a result, and what a call of a service writes.
use Rattle.std.specs.Prelude.{◌≡◌, ℕ, ◌+◌, List, [], ◌∷◌, ◌++◌, Bool, true, false, codes, cond, decimal, Option, None, Result, Ok, Err, ⊤}
use Rattle.nop_types.specs.declared.output.Accept.{Accept}
use Rattle.client_call.specs.Sessions.{SessionState, IsAnswered, Submits, can_submit, last_id}
use Rattle.client_call.specs.declared.errors.CallError.{CallError}
use Rattle.client_call.specs.declared.errors.CallError.TheVariants as errors
use Rattle.op_text.specs.Words.{text_of}
use Rattle.service_tool.specs.Outputs.{Outputs, WroteErr, WroteOut}
use Rattle.service_tool.specs.Statuses.{call_text, status_of}
use Rattle.service_tool.specs.Telling.{told_line}
use Rattle.service_tool.specs.declared.status.Status.{Status}
use Rattle.service_tool.specs.declared.status.Status.TheVariants.{Done}

-- words, and the line's end
abbrev pub line_of : List (List ℕ) → List ℕ
line_of words = text_of words ++ 10 ∷ []

-- the line of a slot, where it is asked for
abbrev pub slot_line : Bool → ℕ → List ℕ
slot_line true slot = line_of (codes "slot" ∷ decimal slot ∷ [])
slot_line false slot = []

-- and the line of the result behind it, in the words of the service
abbrev pub lines_of : (List ℕ → List (List ℕ)) → Bool → Accept → List ℕ
lines_of result_words with_slot accept = slot_line with_slot accept.slot ++ line_of (result_words accept.result)

-- the op was answered as the request of the next id, and these are the lines of its result
pub record AnsweredLines (result_words : List ℕ → List (List ℕ)) (s : SessionState) (op : List ℕ) (with_slot : Bool) (lines : List ℕ) : Type 0 where
  pub accept : Accept
  pub answered : IsAnswered s.config s.number (last_id s + 1) op accept
  pub are : lines ≡ lines_of result_words with_slot accept

abbrev pub Answers : (List ℕ → List (List ℕ)) → SessionState → List ℕ → Bool → Result (List ℕ) CallError → Type 0
Answers result_words s op with_slot (Ok lines) = AnsweredLines result_words s op with_slot lines
Answers result_words s op with_slot (Err e) = ⊤

-- the lines of an answer are written, or why there are none is told
abbrev pub Concludes : List ℕ → Result (List ℕ) CallError → Outputs → Status → Type 0
Concludes program (Ok lines) o status = (status ≡ Done) × WroteOut lines o
Concludes program (Err e) o status = (status ≡ status_of e) × WroteErr (told_line program (call_text e)) o

-- ---- the session behind a call

-- it submitted these ops, and has not ended
pub record GoesOn (s t : SessionState) (ops : List (List ℕ)) (ended : Option CallError) : Type 0 where
  pub submits : Submits s t ops
  pub has_not_ended : ended ≡ None

-- the op was submitted where it is answered, and where it is not, if there was room for its request
abbrev pub GoesOnBy : {A : Type 0} → SessionState → SessionState → List ℕ → Option CallError → Result A CallError → Type 0
GoesOnBy s t op ended (Ok x) = GoesOn s t (op ∷ []) ended
GoesOnBy s t op ended (Err errors.Unanswered) = GoesOn s t (cond (can_submit s) (op ∷ []) []) ended
GoesOnBy s t op ended (Err e) = ⊤

-- An op was called in a session in this state, which had ended by `was`, and how that ended is written.
pub record Calls (result_words : List ℕ → List (List ℕ)) (program : List ℕ) (s t : SessionState) (was ended : Option CallError) (op : List ℕ)
    (with_slot : Bool) (o : Outputs) (status : Status) : Type 0 where
  pub result : Result (List ℕ) CallError
  pub answers : Answers result_words s op with_slot result
  pub goes_on : was ≡ None → GoesOnBy s t op ended result
  pub concludes : Concludes program result o status
