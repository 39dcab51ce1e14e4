-- What is written of an answer.
use Rattle.std.specs.Prelude.{ℕ, List, [], ◌∷◌, Result, Ok, Err, codes, decimal, map}
use Rattle.linearize.specs.declared.answer.Answer.{Answer}
use Rattle.linearize.specs.declared.answer.Answer.TheVariants.{Order, NoOrder, Repeated, Unknown}
use Rattle.nop_types.specs.Lines.{Line}
use Rattle.nop_types.specs.declared.header.Header.{Header}
use Rattle.nop_types.specs.declared.request.Request.{Request}
use Rattle.order_search.specs.Turns.{history_at}
use Rattle.transcript_reader.specs.Claims.{lines_of}
use Rattle.transcript_reader.specs.Transcripts.{Transcript, transcript_text}
use Rattle.transcript_reader.specs.declared.check_error.CheckError.{CheckError}
use Rattle.transcript_reader.specs.declared.check_error.CheckError.TheVariants as errors
use Rattle.transcript_rows.specs.LineRows.{row_of}
use Rattle.transcript_text.specs.LineText.{line_of}
use Rattle.transcript_text.specs.Transcript.{hex_text}

-- the first line that is written, whatever was read
abbrev pub header : Header
header = record { form = 1; config = record { replicas = 1; sequencers = 1; clients = 16; controllers = 1; observers = 0 } }

-- the transcript of these claims with a history
abbrev pub transcript_of : List Line → List Request → Transcript
transcript_of claims history = record { header = header; events = map row_of claims; states = []; observers = []; history = history }

-- none where nothing was decided
unfoldable pub answer_text : Result Answer CheckError → List ℕ
answer_text (Ok (Order claims places)) =
    transcript_text (transcript_of (lines_of claims.items) (history_at (lines_of claims.items) places.items))
answer_text (Ok (NoOrder part line)) =
    line_of (codes "none") (codes "part" ∷ hex_text part.items ∷ codes "line" ∷ decimal line ∷ [])
answer_text (Ok (Repeated line)) = line_of (codes "repeated") (codes "line" ∷ decimal line ∷ [])
answer_text (Ok (Unknown steps)) = line_of (codes "unknown") (codes "steps" ∷ decimal steps ∷ [])
answer_text (Err (errors.Refuted line clause)) =
    line_of (codes "refuted") (codes "line" ∷ decimal line ∷ codes "clause" ∷ decimal clause ∷ [])
answer_text (Err errors.ReadFault) = []
answer_text (Err errors.NoMemory) = []
