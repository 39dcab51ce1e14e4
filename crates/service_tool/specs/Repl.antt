-- Ops from lines: which become of all lines of an input, and what is written of them.
use Rattle.std.specs.Prelude.{◌≡◌, ℕ, ◌+◌, List, [], ◌∷◌, ◌++◌, map, Bool, true, false, Option, Some, None, Result, Ok, Err}
use Rattle.std.specs.List.{flat_map}
use Rattle.std.specs.Io.KnownBytes.{Appends}
use Rattle.line_fields.specs.Fields.{fields}
use Rattle.line_reader.specs.Cutting.{Cut}
use Rattle.line_reader.specs.declared.read_error.ReadError.{ReadError}
use Rattle.line_reader.specs.declared.read_error.ReadError.TheVariants as reads
use Rattle.nop_types.specs.declared.output.Accept.{Accept}
use Rattle.client_call.specs.Sessions.{SessionState, IsAnswered, ended_by, last_id}
use Rattle.client_call.specs.declared.errors.CallError.{CallError}
use Rattle.client_call.specs.declared.errors.CallError.TheVariants as errors
use Rattle.service_words.specs.Translating.{IsAll, IsFirsts, IsInterrupted, IsRefused}
use Rattle.service_tool.specs.Calls.{Calls, GoesOnBy, lines_of}
use Rattle.service_tool.specs.Outputs.{Outputs, WroteErr}
use Rattle.service_tool.specs.Statuses.{call_text, read_status, read_text, status_of}
use Rattle.service_tool.specs.Telling.{fault_text, told_line}
use Rattle.service_tool.specs.declared.reason.Reason.TheVariants.{BadOp, LongInput}
use Rattle.service_tool.specs.declared.status.Status.{Status}
use Rattle.service_tool.specs.declared.status.Status.TheVariants.{Done, Usage, Unanswered}
use Rattle.service_tool.specs.declared.telling.Tool.{Tool}

-- the first status that is not Done
abbrev pub worse : Status → Status → Status
worse Done now = now
worse before now = before

-- ops go on after this status
abbrev pub goes_on : Status → Bool
goes_on Done = true
goes_on Usage = true
goes_on Unanswered = true
goes_on status = false

-- the op that the words of a line name is called; where they name none, that is told, and the session stays
abbrev pub TakesOp : (List ℕ → List (List ℕ)) → Tool → (s t : SessionState) → (was ended : Option CallError) → List (List ℕ)
    → Option (List ℕ) → (with_slot : Bool) → Outputs → Status → Type 0
TakesOp result_words tool s t was ended words (Some op) with_slot o status =
    Calls result_words tool.program.now s t was ended op with_slot o status
TakesOp result_words tool s t was ended words None with_slot o status =
    (status ≡ Usage) × WroteErr (fault_text tool words (record { reason = BadOp; at = 0 })) o × (t ≡ s) × (ended ≡ was)

-- ---- what becomes of a line

-- it has no words; its words name no op; its op was answered; or it was not answered in its turns
pub data Fate : Type 0 where
  Blank : Fate
  NoOp : Fate
  Answered : Accept → Fate
  NotAnswered : Fate

-- of the op that its words name, if they name one, in a session that comes from the state s to t
abbrev pub BecomesBy : Option (List ℕ) → (s t : SessionState) → (ended : Option CallError) → Fate → Type 0
BecomesBy None s t ended NoOp = (t ≡ s) × (ended ≡ None)
BecomesBy (Some op) s t ended (Answered accept) =
    IsAnswered s.config s.number (last_id s + 1) op accept × GoesOnBy {A = Accept} s t op ended (Ok accept)
BecomesBy (Some op) s t ended NotAnswered = GoesOnBy {A = Accept} s t op ended (Err errors.Unanswered)
BecomesBy op s t ended fate = ⊥

abbrev pub Becomes : (List (List ℕ) → Option (List ℕ)) → List ℕ → (s t : SessionState) → (ended : Option CallError) → Fate → Type 0
Becomes op_of [] s t ended Blank = (t ≡ s) × (ended ≡ None)
Becomes op_of [] s t ended fate = ⊥
Becomes op_of (b ∷ line) s t ended fate = BecomesBy (op_of (fields (b ∷ line))) s t ended fate

-- the lines of its answer on standard output
abbrev pub fate_text : (List ℕ → List (List ℕ)) → Bool → Fate → List ℕ
fate_text result_words with_slot (Answered accept) = lines_of result_words with_slot accept
fate_text result_words with_slot fate = []

-- why it has none, on standard error
abbrev pub fate_told : Tool → List ℕ → Fate → List ℕ
fate_told tool line NoOp = fault_text tool (fields line) (record { reason = BadOp; at = 0 })
fate_told tool line NotAnswered = told_line tool.program.now (call_text errors.Unanswered)
fate_told tool line fate = []

abbrev pub fate_status : Fate → Status
fate_status NoOp = Usage
fate_status NotAnswered = Unanswered
fate_status fate = Done

-- ---- one line is taken

-- it became something; or its op ended the session
abbrev pub Comes : (List (List ℕ) → Option (List ℕ)) → List ℕ → (s t : SessionState) → (ended : Option CallError) → Result Fate CallError → Type 0
Comes op_of line s t ended (Ok fate) = Becomes op_of line s t ended fate
Comes op_of line s t ended (Err e) =
    (op : List ℕ) × (op_of (fields line) ≡ Some op) × (ended_by (Err e) ≡ Some e)

abbrev pub Writes : (List ℕ → List (List ℕ)) → Tool → (with_slot : Bool) → List ℕ → Outputs → Status → Result Fate CallError → Type 0
Writes result_words tool with_slot line o status (Ok fate) =
    Appends o.out o.now_out (fate_text result_words with_slot fate) × Appends o.err o.now_err (fate_told tool line fate)
    × (status ≡ fate_status fate)
Writes result_words tool with_slot line o status (Err e) =
    Appends o.out o.now_out [] × Appends o.err o.now_err (told_line tool.program.now (call_text e)) × (status ≡ status_of e)

pub record TakesLine (op_of : List (List ℕ) → Option (List ℕ)) (result_words : List ℕ → List (List ℕ)) (tool : Tool) (with_slot : Bool)
    (line : List ℕ) (s t : SessionState) (ended : Option CallError) (o : Outputs) (status : Status) : Type 0 where
  pub result : Result Fate CallError
  pub comes : Comes op_of line s t ended result
  pub writes : Writes result_words tool with_slot line o status result

-- ---- all lines, in order

-- a line as it lies in the input, and what became of it
pub record Taken : Type 0 where
  pub cut : Cut
  pub fate : Fate

abbrev pub cuts_of : List Taken → List Cut
cuts_of taken = map (λ x. x.cut) taken

-- each in turn, from one state of the session to the next
abbrev pub InTurn : (List (List ℕ) → Option (List ℕ)) → SessionState → List Taken → SessionState → Type 0
InTurn op_of s [] t = t ≡ s
InTurn op_of s (x ∷ xs) t = (u : SessionState) × Becomes op_of x.cut.text s u None x.fate × InTurn op_of u xs t

abbrev pub results_text : (List ℕ → List (List ℕ)) → Bool → List Taken → List ℕ
results_text result_words with_slot taken = flat_map (λ x. fate_text result_words with_slot x.fate) taken

abbrev pub refusals_text : Tool → List Taken → List ℕ
refusals_text tool taken = flat_map (λ x. fate_told tool x.cut.text x.fate) taken

abbrev pub first_status : List Taken → Status
first_status [] = Done
first_status (x ∷ xs) = worse (fate_status x.fate) (first_status xs)

-- ---- why no further line is taken

-- there is none; the input can't be read, or memory ran out; the next one is too long, or one too many; or its op ended the session
pub data Stop : Type 0 where
  AtEnd : Stop
  AtFault : ReadError → Stop
  AtLong : Stop
  AtFailure : CallError → Stop

-- the op of the next line ended the session
pub record Fails (op_of : List (List ℕ) → Option (List ℕ)) (before left : Option (List ℕ)) (cuts : List Cut) (e : CallError) : Type 0 where
  pub cut : Cut
  pub first : IsFirsts before left (cuts ++ cut ∷ [])
  pub op : List ℕ
  pub spelled : op_of (fields cut.text) ≡ Some op
  pub ends : ended_by (Err e) ≡ Some e

-- these are all lines of the input up to there
abbrev pub StopsBehind : (List (List ℕ) → Option (List ℕ)) → (before left : Option (List ℕ)) → List Cut → Stop → Type 0
StopsBehind op_of before left cuts AtEnd = IsAll before left cuts
StopsBehind op_of before left cuts (AtFault reads.ReadFault) = IsInterrupted before left cuts
StopsBehind op_of before left cuts (AtFault reads.NoMemory) = IsFirsts before left cuts
StopsBehind op_of before left cuts AtLong = (line : ℕ) × IsRefused before left cuts line
StopsBehind op_of before left cuts (AtFailure e) = Fails op_of before left cuts e

abbrev pub stop_told : Tool → Stop → List ℕ
stop_told tool AtEnd = []
stop_told tool (AtFault e) = told_line tool.program.now (read_text e)
stop_told tool AtLong = fault_text tool [] (record { reason = LongInput; at = 0 })
stop_told tool (AtFailure e) = told_line tool.program.now (call_text e)

abbrev pub stop_status : Stop → Status
stop_status AtEnd = Done
stop_status (AtFault e) = read_status e
stop_status AtLong = Usage
stop_status (AtFailure e) = status_of e

-- The lines of the input were taken in order, and none was left out, up to where that stopped. The results of their ops, and nothing else,
-- were written in their order, and the refusals too.
pub record TakesLines (op_of : List (List ℕ) → Option (List ℕ)) (result_words : List ℕ → List (List ℕ)) (tool : Tool) (with_slot : Bool)
    (before left : Option (List ℕ)) (s : SessionState) (o : Outputs) (status : Status) : Type 0 where
  pub taken : List Taken
  pub last : SessionState
  pub in_turn : InTurn op_of s taken last
  pub stop : Stop
  pub stops : StopsBehind op_of before left (cuts_of taken) stop
  pub results : Appends o.out o.now_out (results_text result_words with_slot taken)
  pub refusals : Appends o.err o.now_err (refusals_text tool taken ++ stop_told tool stop)
  pub ends : status ≡ worse (first_status taken) (stop_status stop)
