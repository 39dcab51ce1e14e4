-- What is told where no op is asked for, and what is done where one is.
use Rattle.std.specs.Prelude.{◌≡◌, ◌⊎◌, ℕ, List, Bool, Option, None, Result, Ok, Err}
use Rattle.client_call.specs.Sessions.{SessionState}
use Rattle.client_call.specs.declared.errors.CallError.{CallError}
use Rattle.service_tool.specs.Calls.{Calls, Concludes}
use Rattle.service_tool.specs.Outputs.{Outputs, WroteErr, WroteNothing, WroteOut}
use Rattle.service_tool.specs.Repl.{TakesLines}
use Rattle.service_tool.specs.Telling.{fault_text, help_text, version_text}
use Rattle.service_tool.specs.declared.asked.Asked.{Asked}
use Rattle.service_tool.specs.declared.asked.Command.{Command}
use Rattle.service_tool.specs.declared.asked.Command.TheVariants.{Help, Version, Execute, Repl}
use Rattle.service_tool.specs.declared.reason.Fault.{Fault}
use Rattle.service_tool.specs.declared.status.Status.{Status}
use Rattle.service_tool.specs.declared.status.Status.TheVariants.{Done, Usage}
use Rattle.service_tool.specs.declared.telling.Tool.{Tool}

-- ---- what the words ask for is told

abbrev pub TellsBy : Tool → List (List ℕ) → Command → Asked → Outputs → Result Asked Status → Type 0
TellsBy tool words (Help at) asked o (Err status) = (status ≡ Done) × WroteOut (help_text tool words at) o
TellsBy tool words (Help at) asked o (Ok goes) = ⊥
TellsBy tool words Version asked o (Err status) = (status ≡ Done) × WroteOut (version_text tool) o
TellsBy tool words Version asked o (Ok goes) = ⊥
TellsBy tool words command asked o (Err status) = ⊥
TellsBy tool words command asked o (Ok goes) = (goes ≡ asked) × WroteNothing o

-- why the words are not taken is told on standard error, help and versions on standard output
abbrev pub Tells : Tool → List (List ℕ) → Result Asked Fault → Outputs → Result Asked Status → Type 0
Tells tool words (Ok asked) o told = TellsBy tool words asked.command asked o told
Tells tool words (Err f) o (Err status) = (status ≡ Usage) × WroteErr (fault_text tool words f) o
Tells tool words (Err f) o (Ok goes) = ⊥

-- ---- what is asked for is done in a session

-- in one that has not ended; the input has these bytes left, and then those
abbrev pub DoesIn : (List (List ℕ) → Option (List ℕ)) → (List ℕ → List (List ℕ)) → Tool → (before left : Option (List ℕ)) → SessionState
    → Command → (with_slot : Bool) → Outputs → Status → Type 0
DoesIn op_of result_words tool before left s (Execute op) with_slot o status =
    (t : SessionState) × (ended : Option CallError) × Calls result_words tool.program.now s t None ended op with_slot o status
DoesIn op_of result_words tool before left s Repl with_slot o status =
    TakesLines op_of result_words tool with_slot before left s o status
DoesIn op_of result_words tool before left s command with_slot o status = o.now_out ≡ o.out

-- no link was attached, and why is told
pub record NotOpened (tool : Tool) (o : Outputs) (attached now_attached : ℕ) (status : Status) : Type 0 where
  pub error : CallError
  pub told : Concludes tool.program.now (Err error) o status
  pub none : now_attached ≡ attached

-- in a session that is opened for it
abbrev pub Does : (List (List ℕ) → Option (List ℕ)) → (List ℕ → List (List ℕ)) → Tool → (before left : Option (List ℕ)) → SessionState
    → Command → (with_slot : Bool) → Outputs → (attached now_attached : ℕ) → Status → Type 0
Does op_of result_words tool before left s command with_slot o attached now_attached status =
    NotOpened tool o attached now_attached status ⊎ DoesIn op_of result_words tool before left s command with_slot o status
