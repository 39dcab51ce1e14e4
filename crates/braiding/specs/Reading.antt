-- The lines of the input, as far as they were taken. A reader's words are those of `line_reader`.
use Rattle.std.specs.Prelude.{◌≡◌, ◌⊎◌, ⊤, ℕ, ◌+◌, ◌<◌, ◌≤◌, List, [], ◌++◌, length, map, drop, Bool, true, false, Option, None, Result, Ok, Err}
use Rattle.std.specs.List.{AllByRecursion}
use Rattle.std.specs.Io.KnownBytes.{Consumes}
use Rattle.line_reader.specs.Cutting.{Cut, lines_of}
use Rattle.line_reader.specs.Deciding.{Follows}
use Rattle.line_reader.specs.Reading.{Reading, IsEnd, IsFirst, Reaches, lines_before}
use Rattle.line_reader.specs.declared.first_line.FirstLine.{FirstLine}
use Rattle.nop_types.specs.declared.limits.TheConstants.{MAX_LINE_BYTES}
use Rattle.braiding.specs.Orders.{texts_of}
use Rattle.braiding.specs.declared.error.BraidError.{BraidError}
use Rattle.braiding.specs.declared.error.BraidError.TheVariants.{Refuted, ReadFault, WriteFault, NoMemory}
use Rattle.braiding.specs.declared.error.TheConstants.{MAX_TRACE_LINES}
use Rattle.braiding.specs.declared.traces.Traces.{Traces}

abbrev pub cut_texts : List Cut → List (List ℕ)
cut_texts cuts = map (λ cut. cut.text) cuts

-- a line is one too many behind so many, or too long
abbrev pub IsTooMuch : ℕ → ℕ → Type 0
IsTooMuch before len = (MAX_TRACE_LINES ≤ before) ⊎ (MAX_LINE_BYTES < len)

-- of the bytes that went from the source these lines were taken, none of them too long or one too
-- many: whatever follows, they come first, and then what lies before the reader
pub record Reads (before left : Option (List ℕ)) (r : Reading) (lines : List (List ℕ)) : Type 0 where
  pub all : List ℕ
  pub source : Consumes before left all
  pub end : r.ended ≡ true → IsEnd before left
  pub most : r.most ≡ MAX_TRACE_LINES
  pub line : r.line ≡ length lines
  pub few : length lines ≤ MAX_TRACE_LINES
  pub short : AllByRecursion (λ line. length line ≤ MAX_LINE_BYTES) lines
  pub come : (ended : Bool) (more : List ℕ) → Follows r.ended ended more
      → cut_texts (lines_of MAX_TRACE_LINES ended 0 (all ++ more)) ≡ lines ++ cut_texts (lines_before r ended more)

-- these are all lines
pub record AreAll (before left : Option (List ℕ)) (lines : List (List ℕ)) : Type 0 where
  pub reader : Reading
  pub reads : Reads before left reader lines
  pub end : Reaches reader None

-- the line with this number is the first that is too long, or one too many
pub record IsRefused (before left : Option (List ℕ)) (line : ℕ) : Type 0 where
  pub lines : List (List ℕ)
  pub reader : Reading
  pub reads : Reads before left reader lines
  pub first : FirstLine
  pub next : IsFirst reader first
  pub too_much : IsTooMuch (length lines) first.len
  pub number : line ≡ length lines + 1

-- a read failed, where no further line was decided
pub record IsInterrupted (before left : Option (List ℕ)) : Type 0 where
  pub lines : List (List ℕ)
  pub reader : Reading
  pub reads : Reads before left reader lines
  pub none : (reader.ended ≡ false) × (lines_before reader false [] ≡ [])

abbrev pub IsError : Option (List ℕ) → Option (List ℕ) → BraidError → Type 0
IsError before left (Refuted line) = IsRefused before left line
IsError before left ReadFault = IsInterrupted before left
IsError before left WriteFault = ⊥
IsError before left NoMemory = ⊤

abbrev pub IsRead : Option (List ℕ) → Option (List ℕ) → Result Traces BraidError → Type 0
IsRead before left (Ok t) = AreAll before left (texts_of t.lines.items)
IsRead before left (Err e) = IsError before left e

-- ---- the next line

pub record Advances (old new : Reading) (first : FirstLine) : Type 0 where
  pub fits : old.line < MAX_TRACE_LINES
  pub short : first.len ≤ MAX_LINE_BYTES
  pub most : new.most ≡ old.most
  pub line : new.line ≡ old.line + 1
  pub pending : new.pending ≡ drop first.end old.pending
  pub ended : new.ended ≡ old.ended

abbrev pub RefusesFirst : Reading → FirstLine → BraidError → Type 0
RefusesFirst r first (Refuted line) = (line ≡ r.line + 1) × IsTooMuch r.line first.len
RefusesFirst r first NoMemory = ⊤
RefusesFirst r first _ = ⊥

abbrev pub IsNoLine : Reading → BraidError → Type 0
IsNoLine r ReadFault = (r.ended ≡ false) × (lines_before r false [] ≡ [])
IsNoLine r NoMemory = ⊤
IsNoLine r _ = ⊥
