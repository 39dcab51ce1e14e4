-- The text of a row, and the ranges of what it holds.
use Rattle.std.specs.Prelude.{ℕ, ◌<◌, ◌≤◌, ◌^◌, ⊤, List, [], ◌∷◌, ◌++◌, length, codes, decimal}
use Rattle.std.specs.List.{flat_map}
use Rattle.hex.specs.Hex.{IsBytes}
use Rattle.nop_types.specs.declared.limits.TheConstants.{MAX_CONTROLLERS, MAX_DATAGRAM_BYTES, MAX_KEY_BYTES, MAX_OP_BYTES, MAX_RESULT_BYTES}
use Rattle.schedule_text.specs.EventText.{HasWord, tick_text}
use Rattle.trace_rows.specs.declared.row.Gave.{Gave}
use Rattle.trace_rows.specs.declared.row.Gave.TheVariants as gaves
use Rattle.trace_rows.specs.declared.row.Name.{Name}
use Rattle.trace_rows.specs.declared.row.Name.TheVariants.{Replica, Sequencer, Client, Controller, Observer}
use Rattle.trace_rows.specs.declared.row.Number.{Number}
use Rattle.trace_rows.specs.declared.row.Number.TheVariants.{Is, Past}
use Rattle.trace_rows.specs.declared.row.Row.{Row}
use Rattle.trace_rows.specs.declared.row.Row.TheVariants.{In, Out}
use Rattle.trace_rows.specs.declared.row.Taken.{Taken}
use Rattle.trace_rows.specs.declared.row.Taken.TheVariants as ins
use Rattle.trace_rows.specs.declared.row.To.{To}
use Rattle.trace_rows.specs.declared.row.To.TheVariants.{Replicas, Sequencers, One}
use Rattle.transcript_text.specs.LineText.{after_space}
use Rattle.transcript_text.specs.Transcript.{hex_text, number_after}

-- ---- its text

-- a number past 64 bits is not kept, and has no text
abbrev pub number_text : Number → List ℕ
number_text (Is n) = decimal n
number_text Past = []

abbrev pub name_text : Name → List ℕ
name_text (Replica n) = 114 ∷ number_text n
name_text (Sequencer n) = 115 ∷ number_text n
name_text (Client n) = 99 ∷ number_text n
name_text (Controller k) = codes "ctl" ++ number_after k
name_text (Observer n) = 111 ∷ number_text n

abbrev pub to_text : To → List ℕ
to_text Replicas = codes "r*"
to_text Sequencers = codes "s*"
to_text (One name) = name_text name

abbrev pub taken_fields : Taken → List (List ℕ)
taken_fields (ins.Tick tick) = codes "tick" ∷ tick_text tick ∷ []
taken_fields (ins.Packet bytes) = codes "packet" ∷ hex_text bytes ∷ []
taken_fields (ins.Submit op) = codes "submit" ∷ hex_text op ∷ []
taken_fields (ins.Read observer key) = codes "read" ∷ name_text (Observer observer) ∷ hex_text key ∷ []
taken_fields (ins.Install sequencer) = codes "install" ∷ name_text (Sequencer sequencer) ∷ []

abbrev pub gave_fields : Gave → List (List ℕ)
gave_fields (gaves.Send to bytes) = codes "send" ∷ to_text to ∷ hex_text bytes ∷ []
gave_fields (gaves.Submit id op) = codes "submit" ∷ decimal id ∷ hex_text op ∷ []
gave_fields (gaves.Accept id result) = codes "accept" ∷ decimal id ∷ hex_text result ∷ []
gave_fields (gaves.Read id observer key) = codes "read" ∷ decimal id ∷ name_text (Observer observer) ∷ hex_text key ∷ []
gave_fields (gaves.Answer id observer position result) =
    codes "answer" ∷ decimal id ∷ name_text (Observer observer) ∷ decimal position ∷ hex_text result ∷ []

abbrev pub row_word : Row → List ℕ
row_word (In name taken) = codes "in"
row_word (Out name gave) = codes "out"

abbrev pub row_fields : Row → List (List ℕ)
row_fields (In name taken) = name_text name ∷ taken_fields taken
row_fields (Out name gave) = name_text name ∷ gave_fields gave

-- without the end of the line
unfoldable pub row_text : Row → List ℕ
row_text row = row_word row ++ flat_map after_space (row_fields row)

-- ---- its ranges

abbrev pub NumberFits : Number → Type 0
NumberFits (Is n) = n < 2 ^ 64
NumberFits Past = ⊤

-- of controllers alone a name says that there can be one
abbrev pub NameFits : Name → Type 0
NameFits (Replica n) = NumberFits n
NameFits (Sequencer n) = NumberFits n
NameFits (Client n) = NumberFits n
NameFits (Controller k) = k < MAX_CONTROLLERS
NameFits (Observer n) = NumberFits n

abbrev pub ToFits : To → Type 0
ToFits Replicas = ⊤
ToFits Sequencers = ⊤
ToFits (One name) = NameFits name

pub record BytesFit (most : ℕ) (bytes : List ℕ) : Type 0 where
  pub short : length bytes ≤ most
  pub are_bytes : IsBytes bytes

pub record KeyFits (key : List ℕ) : Type 0 where
  pub some : 1 ≤ length key
  pub most : length key ≤ MAX_KEY_BYTES
  pub are_bytes : IsBytes key

-- ids count from 1
pub record IdFits (id : ℕ) : Type 0 where
  pub low : 1 ≤ id
  pub high : id < 2 ^ 64

abbrev pub TakenFits : Taken → Type 0
TakenFits (ins.Tick tick) = HasWord tick
TakenFits (ins.Packet bytes) = BytesFit MAX_DATAGRAM_BYTES bytes
TakenFits (ins.Submit op) = BytesFit MAX_OP_BYTES op
TakenFits (ins.Read observer key) = NumberFits observer × KeyFits key
TakenFits (ins.Install sequencer) = NumberFits sequencer

pub record AnswerFits (id : ℕ) (observer : Number) (position : ℕ) (result : List ℕ) : Type 0 where
  pub id_fits : IdFits id
  pub observer_fits : NumberFits observer
  pub position_fits : position < 2 ^ 32
  pub result_fits : BytesFit MAX_RESULT_BYTES result

abbrev pub GaveFits : Gave → Type 0
GaveFits (gaves.Send to bytes) = ToFits to × BytesFit MAX_DATAGRAM_BYTES bytes
GaveFits (gaves.Submit id op) = IdFits id × BytesFit MAX_OP_BYTES op
GaveFits (gaves.Accept id result) = IdFits id × BytesFit MAX_RESULT_BYTES result
GaveFits (gaves.Read id observer key) = IdFits id × NumberFits observer × KeyFits key
GaveFits (gaves.Answer id observer position result) = AnswerFits id observer position result

abbrev pub RowFits : Row → Type 0
RowFits (In name taken) = NameFits name × TakenFits taken
RowFits (Out name gave) = NameFits name × GaveFits gave

-- ---- which rows have a text

abbrev pub IsKept : Number → Type 0
IsKept (Is n) = ⊤
IsKept Past = ⊥

abbrev pub NameIsKept : Name → Type 0
NameIsKept (Replica n) = IsKept n
NameIsKept (Sequencer n) = IsKept n
NameIsKept (Client n) = IsKept n
NameIsKept (Controller k) = ⊤
NameIsKept (Observer n) = IsKept n

abbrev pub ToIsKept : To → Type 0
ToIsKept (One name) = NameIsKept name
ToIsKept _ = ⊤

abbrev pub TakenIsKept : Taken → Type 0
TakenIsKept (ins.Read observer key) = IsKept observer
TakenIsKept (ins.Install sequencer) = IsKept sequencer
TakenIsKept _ = ⊤

abbrev pub GaveIsKept : Gave → Type 0
GaveIsKept (gaves.Send to bytes) = ToIsKept to
GaveIsKept (gaves.Read id observer key) = IsKept observer
GaveIsKept (gaves.Answer id observer position result) = IsKept observer
GaveIsKept _ = ⊤

-- no number of it is past 64 bits
abbrev pub RowIsKept : Row → Type 0
RowIsKept (In name taken) = NameIsKept name × TakenIsKept taken
RowIsKept (Out name gave) = NameIsKept name × GaveIsKept gave
