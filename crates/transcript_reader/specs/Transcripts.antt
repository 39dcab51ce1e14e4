-- A whole transcript: its text, and what it says.
use Rattle.std.specs.Prelude.{◌≡◌, ℕ, ◌+◌, ◌≤◌, ⊤, List, [], ◌∷◌, ◌++◌, length, map, Bool, true, false}
use Rattle.std.specs.List.{flat_map, list_all}
use Rattle.nop_types.specs.Headers.{is_header}
use Rattle.nop_types.specs.declared.header.Header.{Header}
use Rattle.nop_types.specs.Lines.{Line}
use Rattle.nop_types.specs.Lines as lines
use Rattle.nop_types.specs.declared.request.Request.{Request}
use Rattle.transcript_reader.specs.declared.limits.TheConstants.{MAX_TRANSCRIPT_LINES}
use Rattle.transcript_rows.specs.declared.row.Row.{Row}
use Rattle.transcript_rows.specs.declared.row.Row.TheVariants.{Dead, Submit, Accept, Busy, Read, Answer, Sent, State, Slot, Watching}
use Rattle.transcript_rows.specs.declared.row.Row.TheVariants.{Member, End}
use Rattle.transcript_rows.specs.Rows.{RowFits, row_text}
use Rattle.transcript_text.specs.Transcript.{transcript_line}

-- the lines of events, then those of the replicas' states, then those of the observers, then the history
pub record Transcript : Type 0 where
  pub header : Header
  pub events : List Row
  pub states : List Row
  pub observers : List Row
  pub history : List Request

abbrev pub is_event : Row → Bool
is_event (Dead actor) = true
is_event (Submit request) = true
is_event (Accept client id result) = true
is_event (Busy client) = true
is_event (Read client id observer key) = true
is_event (Answer client id observer position result) = true
is_event (Sent index from dest kind len) = true
is_event _ = false

abbrev pub is_state : Row → Bool
is_state (State replica crashed status view len sync_point) = true
is_state (Slot replica slot entry) = true
is_state _ = false

abbrev pub is_watching : Row → Bool
is_watching (Watching observer crashed position) = true
is_watching _ = false

-- the history, numbered from a place on
abbrev pub members : ℕ → List Request → List Row
members place [] = []
members place (r ∷ rs) = Member place r ∷ members (place + 1) rs

-- all lines behind the first one
abbrev pub body : Transcript → List Row
body t = t.events ++ (t.states ++ (t.observers ++ (members 1 t.history ++ End ∷ [])))

-- its lines, each with its end
abbrev pub transcript_lines : Transcript → List (List ℕ)
transcript_lines t = transcript_line t.header.form t.header.config ∷ map row_text (body t)

abbrev pub transcript_text : Transcript → List ℕ
transcript_text t = flat_map (λ line. line) (transcript_lines t)

abbrev pub AllFit : List Row → Type 0
AllFit [] = ⊤
AllFit (row ∷ rows) = RowFits row × AllFit rows

-- each line is the grammar's
pub record TranscriptFits (t : Transcript) : Type 0 where
  pub header : is_header t.header ≡ true
  pub events : list_all is_event t.events ≡ true
  pub states : list_all is_state t.states ≡ true
  pub observers : list_all is_watching t.observers ≡ true
  pub rows : AllFit (body t)

-- the bytes are the text of the transcript, which has no line too many
pub record Spells (t : Transcript) (bytes : List ℕ) : Type 0 where
  pub text : bytes ≡ transcript_text t
  pub fits : TranscriptFits t
  pub most : length (transcript_lines t) ≤ MAX_TRANSCRIPT_LINES

-- ---- what it says

-- what a row claims, if anything
abbrev pub said_by : Row → List Line
said_by (Submit request) = lines.Submit request ∷ []
said_by (Accept client id result) = lines.Accept client id result ∷ []
said_by _ = []

-- what is submitted and accepted, in the order of the lines
abbrev pub said : Transcript → List Line
said t = flat_map said_by t.events

-- the numbers of these lines, where the first row has the number `line`
abbrev pub places_of : ℕ → List Row → List ℕ
places_of line [] = []
places_of line (row ∷ rows) = map (λ l. line) (said_by row) ++ places_of (line + 1) rows

-- two transcripts say the same
pub record SaysTheSame (t u : Transcript) : Type 0 where
  pub claims : said t ≡ said u
  pub places : places_of 2 t.events ≡ places_of 2 u.events
  pub history : t.history ≡ u.history
