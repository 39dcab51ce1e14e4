-- What a line of a schedule means, or the first rule that it breaks.
use Rattle.std.specs.Prelude.{ℕ, List, [], ◌∷◌, length, Bool, true, false, Option, Some, None, Result, Ok, Err, codes, nat_lt, nat_le}
use Rattle.std.specs.Prelude.{not, ◌&&◌, if◌then◌else◌}
use Rattle.std.specs.List.{list_all}
use Rattle.nop_types.specs.declared.limits.TheConstants.{MAX_LINE_BYTES, MAX_LINES}
use Rattle.nop_types.specs.Configuration.{Configuration, is_configuration}
use Rattle.nop_types.specs.declared.header.Header.{Header}
use Rattle.schedule_text.specs.declared.event.Event.{Event}
use Rattle.schedule_text.specs.declared.event.Event.TheVariants.{Submit, Deliver, Tick, Install, Crash, Junk}
use Rattle.schedule_text.specs.declared.event.Event.TheVariants as events
use Rattle.schedule_text.specs.declared.rule.Rule.{Rule}
use Rattle.schedule_text.specs.declared.rule.Rule.TheVariants.{LineTooLong, WrongByte, WrongWord, WrongFieldCount, WrongField, WrongHex}
use Rattle.schedule_text.specs.declared.rule.Rule.TheVariants.{WrongActor, NoSuchDatagram, Forged, TooManyLines}
use Rattle.line_fields.specs.Fields.{fields, is_text, number_of, number_below, actor_of, client_number, sequencer_number, controller_number}
use Rattle.line_fields.specs.Fields.{observer_number, bytes_of, key_of}
use Rattle.schedule_text.specs.Ticks.{tick_named, takes_tick}
pub use Rattle.nop_types.specs.Results.{◌>>=◌}

-- the number of a rule, as an error line has it
abbrev pub rule_number : Rule → ℕ
rule_number LineTooLong = 1
rule_number WrongByte = 2
rule_number WrongWord = 3
rule_number WrongFieldCount = 4
rule_number WrongField = 5
rule_number WrongHex = 6
rule_number WrongActor = 7
rule_number NoSuchDatagram = 8
rule_number Forged = 9
rule_number TooManyLines = 10

-- the value, or the rule that is broken
abbrev pub Read : Type 0 → Type 0
Read A = Result A Rule

-- where there is no value, the rule is broken
abbrev pub or_rule : {A : Type 0} → Rule → Option A → Result A Rule
or_rule rule None = Err rule
or_rule rule (Some x) = Ok x

abbrev pub keeps_rule : Rule → Bool → Result Bool Rule
keeps_rule rule true = Ok true
keeps_rule rule false = Err rule

-- a byte that a line may have
abbrev pub is_plain : ℕ → Bool
is_plain b = nat_le 32 b && nat_le b 126

-- the characters of an op in hexadecimal
abbrev pub max_op_text : ℕ
max_op_text = 1280

-- the characters of a key in hexadecimal
abbrev pub max_key_text : ℕ
max_key_text = 128

-- the characters of junk in hexadecimal
abbrev pub max_junk_text : ℕ
max_junk_text = 3000

-- ---- the fields after a word

abbrev pub one_field : List (List ℕ) → Result (List ℕ) Rule
one_field (field ∷ []) = Ok field
one_field _ = Err WrongFieldCount

abbrev pub two_fields : List (List ℕ) → Result (List ℕ × List ℕ) Rule
two_fields (first ∷ second ∷ []) = Ok (first, second)
two_fields _ = Err WrongFieldCount

abbrev pub three_fields : List (List ℕ) → Result (List ℕ × List ℕ × List ℕ) Rule
three_fields (first ∷ second ∷ third ∷ []) = Ok (first, second, third)
three_fields _ = Err WrongFieldCount

-- ---- events, from the fields after the word

-- `submit cN HEX`
abbrev pub submit_event : Configuration → List ℕ → List ℕ → Result Event Rule
submit_event c client op = do
  short ← keeps_rule WrongField (nat_le (length op) max_op_text)
  bytes ← or_rule WrongHex (bytes_of op)
  number ← or_rule WrongActor (client_number (actor_of c client))
  Ok (Submit number bytes)

abbrev pub submit_of : Configuration → List (List ℕ) → Result Event Rule
submit_of c rest = two_fields rest >>= λ p. submit_event c p.0 p.1

-- `deliver I ACTOR`
abbrev pub deliver_event : Configuration → List ℕ → List ℕ → Result Event Rule
deliver_event c index actor = do
  number ← or_rule WrongField (number_of index)
  to ← or_rule WrongActor (actor_of c actor)
  Ok (Deliver number to)

abbrev pub deliver_of : Configuration → List (List ℕ) → Result Event Rule
deliver_of c rest = two_fields rest >>= λ p. deliver_event c p.0 p.1

-- `tick ACTOR KIND`
abbrev pub tick_event : Configuration → List ℕ → List ℕ → Result Event Rule
tick_event c actor kind = do
  one ← or_rule WrongActor (actor_of c actor)
  tick ← or_rule WrongActor (tick_named kind)
  takes ← keeps_rule WrongActor (takes_tick one tick)
  Ok (Tick one tick)

abbrev pub tick_of : Configuration → List (List ℕ) → Result Event Rule
tick_of c rest = two_fields rest >>= λ p. tick_event c p.0 p.1

-- one field and perhaps a second one
abbrev pub one_or_two_fields : List (List ℕ) → Result (List ℕ × Option (List ℕ)) Rule
one_or_two_fields (first ∷ []) = Ok (first, None)
one_or_two_fields (first ∷ second ∷ []) = Ok (first, Some second)
one_or_two_fields _ = Err WrongFieldCount

-- the controller that a line names: controller 0 where it names none
abbrev pub ordered : Configuration → Option (List ℕ) → Option ℕ
ordered c None = Some 0
ordered c (Some name) = controller_number (actor_of c name)

-- `install sN` or `install sN CONTROLLER`
abbrev pub install_event : Configuration → List ℕ → Option (List ℕ) → Result Event Rule
install_event c name by = do
  number ← or_rule WrongActor (sequencer_number (actor_of c name))
  controller ← or_rule WrongActor (ordered c by)
  Ok (Install controller number)

abbrev pub install_of : Configuration → List (List ℕ) → Result Event Rule
install_of c rest = one_or_two_fields rest >>= λ p. install_event c p.0 p.1

-- `crash ACTOR`
abbrev pub crash_of : Configuration → List (List ℕ) → Result Event Rule
crash_of c rest = do
  name ← one_field rest
  one ← or_rule WrongActor (actor_of c name)
  Ok (Crash one)

-- `junk ACTOR HEX`
abbrev pub junk_event : Configuration → List ℕ → List ℕ → Result Event Rule
junk_event c actor text = do
  short ← keeps_rule WrongField (nat_le (length text) max_junk_text)
  bytes ← or_rule WrongHex (bytes_of text)
  to ← or_rule WrongActor (actor_of c actor)
  Ok (Junk to bytes)

abbrev pub junk_of : Configuration → List (List ℕ) → Result Event Rule
junk_of c rest = two_fields rest >>= λ p. junk_event c p.0 p.1

-- `read cN oM HEX`; a key has bytes, so `-` is none
abbrev pub read_event : Configuration → List ℕ → List ℕ → List ℕ → Result Event Rule
read_event c client observer text = do
  short ← keeps_rule WrongField (nat_le (length text) max_key_text)
  some ← keeps_rule WrongField (not (is_text (codes "-") text))
  key ← or_rule WrongHex (key_of text)
  number ← or_rule WrongActor (client_number (actor_of c client))
  asked ← or_rule WrongActor (observer_number (actor_of c observer))
  Ok (events.Read number asked key)

abbrev pub read_of : Configuration → List (List ℕ) → Result Event Rule
read_of c rest = three_fields rest >>= λ p. read_event c p.0 p.1 p.2

-- by the word that comes first
abbrev pub event_of_fields : Configuration → List (List ℕ) → Result Event Rule
event_of_fields c [] = Err WrongWord
event_of_fields c (word ∷ rest) =
    if is_text (codes "submit") word then submit_of c rest
    else if is_text (codes "deliver") word then deliver_of c rest
    else if is_text (codes "tick") word then tick_of c rest
    else if is_text (codes "install") word then install_of c rest
    else if is_text (codes "crash") word then crash_of c rest
    else if is_text (codes "junk") word then junk_of c rest
    else if is_text (codes "read") word then read_of c rest
    else Err WrongWord

-- ---- the header

-- a count that is written out, and fits eight bits
abbrev pub count_of : List ℕ → Option ℕ
count_of field = number_below 256 field

-- a header of this form with these counts
abbrev pub header_with : ℕ → Option ℕ → Option ℕ → Option ℕ → Option ℕ → Option ℕ → Result Header Rule
header_with form (Some n) (Some s) (Some c) (Some k) (Some o) =
    let made : Configuration = record { replicas = n; sequencers = s; clients = c; controllers = k; observers = o } in
    if is_configuration made then Ok (record { form = form; config = made }) else Err WrongField
header_with form _ _ _ _ _ = Err WrongField

abbrev pub are_named : List ℕ → List ℕ → List ℕ → Bool
are_named replicas sequencers clients =
    is_text (codes "replicas") replicas && (is_text (codes "sequencers") sequencers && is_text (codes "clients") clients)

-- by the fields after the first three counts, whether these are named, and the form: form 1 names no controllers, and means one; form
-- 3 alone names observers
abbrev pub header_by : List ℕ → Bool → Option ℕ → Option ℕ → Option ℕ → List (List ℕ) → Result Header Rule
header_by form named n s c [] =
    if is_text (codes "1") form && named then header_with 1 n s c (Some 1) (Some 0) else Err WrongField
header_by form named n s c (controllers ∷ k ∷ []) =
    if is_text (codes "2") form && (named && is_text (codes "controllers") controllers)
    then header_with 2 n s c (count_of k) (Some 0)
    else Err WrongField
header_by form named n s c (controllers ∷ k ∷ observers ∷ o ∷ []) =
    if is_text (codes "3") form && (named && (is_text (codes "controllers") controllers && is_text (codes "observers") observers))
    then header_with 3 n s c (count_of k) (count_of o)
    else Err WrongField
header_by form named n s c _ = Err WrongFieldCount

-- the fields after the word
abbrev pub header_rest : List (List ℕ) → Result Header Rule
header_rest (form ∷ replicas ∷ n ∷ sequencers ∷ s ∷ clients ∷ c ∷ rest) =
    header_by form (are_named replicas sequencers clients) (count_of n) (count_of s) (count_of c) rest
header_rest _ = Err WrongFieldCount

abbrev pub header_of_fields : List (List ℕ) → Result Header Rule
header_of_fields [] = Err WrongWord
header_of_fields (word ∷ rest) = if is_text (codes "nopaxos") word then header_rest rest else Err WrongWord

-- ---- whole lines

-- rules 1 and 2
abbrev pub plain_line : List ℕ → Result (List ℕ) Rule
plain_line line =
    if nat_lt MAX_LINE_BYTES (length line) then Err LineTooLong
    else if list_all is_plain line then Ok line
    else Err WrongByte

-- the first line
unfoldable pub header_of : List ℕ → Result Header Rule
header_of line = plain_line line >>= λ text. header_of_fields (fields text)

-- any other line, where `before` lines stand before it
unfoldable pub event_of : Configuration → ℕ → List ℕ → Result Event Rule
event_of c before line =
    if nat_le MAX_LINES before then Err TooManyLines
    else plain_line line >>= λ text. event_of_fields c (fields text)
