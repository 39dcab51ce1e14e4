-- What a reader gives for the lines that lie before it.
use Rattle.std.specs.Prelude.{◌≡◌, ℕ, ◌+◌, List, [], ◌∷◌, ◌++◌, Bool, true, false, Option, Some, None, Result, Ok, Err, ⊤}
use Rattle.nop_types.specs.Configuration.{Configuration}
use Rattle.nop_types.specs.declared.header.Header.{Header}
use Rattle.schedule_text.specs.declared.event.Event.{Event}
use Rattle.schedule_text.specs.declared.next_error.NextError.{NextError}
use Rattle.schedule_text.specs.declared.next_error.NextError.TheVariants.{BadLine, ReadFault, NoMemory}
use Rattle.schedule_text.specs.declared.rule.Rule.{Rule}
use Rattle.schedule_text.specs.declared.rule.Rule.TheVariants.{WrongWord}
use Rattle.schedule_text.specs.Rules.{rule_number, header_of, event_of}
use Rattle.schedule_text.specs.Cutting.{lines_of}

-- the next line is an event, breaks the rule of this number, or there is none
pub data Next : Type 0 where
  Gives : Event → Next
  Refuses : (rule : ℕ) → Next
  Ends : Next

-- what comes next, what line 1 says once it was taken, how many lines were taken, and the lines that are left; a line that is
-- refused is left
pub record Turn : Type 0 where
  pub next : Next
  pub header : Option Header
  pub line : ℕ
  pub rest : List (List ℕ)

abbrev pub event_turn : Header → ℕ → List ℕ → List (List ℕ) → Result Event Rule → Turn
event_turn h k line rest (Ok e) = record { next = Gives e; header = Some h; line = k + 1; rest = rest }
event_turn h k line rest (Err rule) = record { next = Refuses (rule_number rule); header = Some h; line = k; rest = line ∷ rest }

-- line 1 was taken
abbrev pub turn_after : Header → ℕ → List (List ℕ) → Turn
turn_after h k [] = record { next = Ends; header = Some h; line = k; rest = [] }
turn_after h k (line ∷ rest) = event_turn h k line rest (event_of h.config k line)

abbrev pub header_turn : ℕ → List ℕ → List (List ℕ) → Result Header Rule → Turn
header_turn k line rest (Ok h) = turn_after h (k + 1) rest
header_turn k line rest (Err rule) = record { next = Refuses (rule_number rule); header = None; line = k; rest = line ∷ rest }

-- without any line the first one has a wrong word
abbrev pub turn : Option Header → ℕ → List (List ℕ) → Turn
turn (Some h) k lines = turn_after h k lines
turn None k [] = record { next = Refuses (rule_number WrongWord); header = None; line = k; rest = [] }
turn None k (line ∷ rest) = header_turn k line rest (header_of line)

-- ---- a reader

-- the form of line 1, 0 until it was taken
abbrev pub form_of : Option Header → ℕ
form_of None = 0
form_of (Some h) = h.form

abbrev pub config_of : Option Header → Option Configuration
config_of None = None
config_of (Some h) = Some h.config

-- the header of line 1, by what it says
abbrev pub opened : Option Header → Configuration → Header
opened header c = record { form = form_of header; config = c }

-- line 1 was taken, and says this
abbrev pub HasConfig : Option Header → Configuration → Type 0
HasConfig header c = header ≡ Some (opened header c)

-- the bytes that were taken and not yet used, and whether the source ended with them
pub record Reading : Type 0 where
  pub header : Option Header
  pub line : ℕ
  pub pending : List ℕ
  pub ended : Bool

abbrev pub opening : Reading
opening = record { header = None; line = 0; pending = []; ended = false }

-- more bytes may follow, and the end; after the end nothing
pub record MayFollow (r : Reading) (ended : Bool) (more : List ℕ) : Type 0 where
  pub nothing : r.ended ≡ true → more ≡ []
  pub end : r.ended ≡ true → ended ≡ true

-- the lines that lie before the reader, if these bytes follow
abbrev pub lines_before : Reading → Bool → List ℕ → List (List ℕ)
lines_before r ended more = lines_of ended r.line (r.pending ++ more)

abbrev pub turn_of : Reading → Bool → List ℕ → Turn
turn_of r ended more = turn r.header r.line (lines_before r ended more)

-- what a call answered is what comes next; a fault decides nothing
abbrev pub IsTurn : Reading → Bool → List ℕ → Result (Option Event) NextError → Turn → Type 0
IsTurn r ended more (Ok (Some e)) t = t ≡ record { next = Gives e; header = r.header; line = r.line; rest = lines_before r ended more }
IsTurn r ended more (Ok None) t =
    (t ≡ record { next = Ends; header = r.header; line = r.line; rest = [] }) × (r.ended ≡ true) × (r.pending ≡ [])
IsTurn r ended more (Err (BadLine line rule)) t =
    (t ≡ record { next = Refuses rule; header = r.header; line = r.line; rest = lines_before r ended more }) × (line ≡ r.line + 1)
IsTurn r ended more (Err ReadFault) t = t ≡ turn_of r ended more
IsTurn r ended more (Err NoMemory) t = t ≡ turn_of r ended more

-- A call took these bytes from the source and answered, whatever follows them. Where the source ended in this call, nothing is
-- left of it, and after its end nothing is taken.
pub record Takes (old new : Reading) (taken left : List ℕ) (answer : Result (Option Event) NextError) : Type 0 where
  pub end : old.ended ≡ false → new.ended ≡ true → left ≡ []
  pub after_end : old.ended ≡ true → (taken ≡ []) × (new.ended ≡ true)
  pub turn : (ended : Bool) (more : List ℕ) → MayFollow new ended more → IsTurn new ended more answer (turn_of old ended (taken ++ more))

-- the same of a source that is observable, or not
abbrev pub TakesOf : Reading → Reading → Option (List ℕ) → Option (List ℕ) → Result (Option Event) NextError → Type 0
TakesOf old new None after answer = ⊤
TakesOf old new (Some before) None answer = ⊥
TakesOf old new (Some before) (Some left) answer = (taken : List ℕ) × (before ≡ taken ++ left) × Takes old new taken left answer

-- the same of any source: behind what was left over, there are bytes of which the rules say what the call answers
unfoldable pub Reads : Reading → Reading → Result (Option Event) NextError → Type 0
Reads old new answer = (taken : List ℕ) × Takes old new taken [] answer

-- how many lines a call took that answered so, where line 1 was taken before
abbrev pub lines_taken : Result (Option Event) NextError → ℕ
lines_taken (Ok (Some e)) = 1
lines_taken (Ok None) = 0
lines_taken (Err e) = 0

-- at a fault no line was left that is decided, and the source had not ended
abbrev pub LeavesNone : Reading → Result (Option Event) NextError → Type 0
LeavesNone r (Err ReadFault) = (r.ended ≡ false) × (lines_before r false [] ≡ [])
LeavesNone r _ = ⊤
