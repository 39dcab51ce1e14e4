-- The status for each error of a call, of the input and of its lines, and what is told of it.
use Rattle.std.specs.Prelude.{ℕ, List, codes, ⊤}
use Rattle.client_call.specs.declared.errors.CallError.{CallError}
use Rattle.client_call.specs.declared.errors.CallError.TheVariants as errors
use Rattle.line_reader.specs.declared.read_error.ReadError.{ReadError}
use Rattle.line_reader.specs.declared.read_error.ReadError.TheVariants as reads
use Rattle.service_words.specs.declared.error.WordsError.{WordsError}
use Rattle.service_words.specs.declared.error.WordsError.TheVariants as words
use Rattle.service_tool.specs.declared.status.Status.{Status}
use Rattle.service_tool.specs.declared.status.Status.TheVariants as statuses

abbrev pub status_of : CallError → Status
status_of errors.PortFault = statuses.LinkFault
status_of errors.LinkFault = statuses.LinkFault
status_of errors.Unanswered = statuses.Unanswered
status_of errors.NoMemory = statuses.NoMemory

abbrev pub read_status : ReadError → Status
read_status reads.ReadFault = statuses.ReadFault
read_status reads.NoMemory = statuses.NoMemory

abbrev pub words_status : WordsError → Status
words_status (words.Refused line) = statuses.Refuted
words_status words.ReadFault = statuses.ReadFault
words_status words.WriteFault = statuses.WriteFault
words_status words.NoMemory = statuses.NoMemory

abbrev pub call_text : CallError → List ℕ
call_text errors.PortFault = codes "the client's port is in use, or its number was used before: take one that never was"
call_text errors.LinkFault = codes "the link failed; the op may still be executed"
call_text errors.Unanswered =
    codes "no answer in its turns; the op may still be executed. Is the service up, and the number one that was never used?"
call_text errors.NoMemory = codes "memory ran out; the op may still be executed"

abbrev pub read_text : ReadError → List ℕ
read_text reads.ReadFault = codes "the input can't be read"
read_text reads.NoMemory = codes "memory ran out"

-- how a call ends
abbrev pub IsOfCall : Status → Type 0
IsOfCall statuses.ReadFault = ⊥
IsOfCall statuses.WriteFault = ⊥
IsOfCall statuses.Refuted = ⊥
IsOfCall status = ⊤
