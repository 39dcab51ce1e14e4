-- The lines of an input, each turned by a function and written.
use Rattle.std.specs.Prelude.{◌≡◌, ◌⊎◌, ◌<◌, ◌≤◌, ℕ, ◌+◌, List, [], ◌∷◌, ◌++◌, length, drop, Bool, true, false, Option, Result, Ok, Err, ⊤}
use Rattle.std.specs.List.{AllByRecursion, flat_map}
use Rattle.std.specs.Io.KnownBytes.{Appends, Consumes}
use Rattle.line_reader.specs.Cutting.{Cut, lines_of}
use Rattle.line_reader.specs.Deciding.{Follows, cut_of}
use Rattle.line_reader.specs.Reading.{Reading, IsEnd, lines_before}
use Rattle.line_reader.specs.declared.first_line.FirstLine.{FirstLine}
use Rattle.nop_types.specs.declared.limits.TheConstants.{MAX_LINE_BYTES}
use Rattle.outside.specs.Prefixes.{AppendsPrefix, AppendsUpTo}
use Rattle.service_words.specs.declared.error.WordsError.{WordsError}
use Rattle.service_words.specs.declared.error.WordsError.TheVariants.{Refused, ReadFault, WriteFault, NoMemory}
use Rattle.service_words.specs.declared.limits.TheConstants.{MAX_TEXT_LINES}

-- ---- the lines of all bytes

abbrev pub IsShort : Cut → Type 0
IsShort cut = length cut.text ≤ MAX_LINE_BYTES

-- a line more than there may be, or a byte more than a line may have
abbrev pub IsTooMuch : ℕ → Cut → Type 0
IsTooMuch before cut = (MAX_TEXT_LINES ≤ before) ⊎ (MAX_LINE_BYTES < length cut.text)

-- bytes went from the source, and the source has none left where it ended
pub record Went (before left : Option (List ℕ)) (all : List ℕ) (ended : Bool) : Type 0 where
  pub source : Consumes before left all
  pub end : ended ≡ true → IsEnd before left

-- whatever follows, these lines come first
abbrev pub StartsWith : List ℕ → Bool → List Cut → Type 0
StartsWith all was_ended cuts = (ended : Bool) (more : List ℕ) → Follows was_ended ended more
    → (rest : List Cut) × (lines_of MAX_TEXT_LINES ended 0 (all ++ more) ≡ cuts ++ rest)

-- the source has none left, and these are its lines; the last may lack its end
pub record IsAll (before left : Option (List ℕ)) (cuts : List Cut) : Type 0 where
  pub all : List ℕ
  pub went : Went before left all true
  pub lines : lines_of MAX_TEXT_LINES true 0 all ≡ cuts
  pub short : AllByRecursion IsShort cuts
  pub few : length cuts ≤ MAX_TEXT_LINES

-- these are the first lines of the source
pub record IsFirsts (before left : Option (List ℕ)) (cuts : List Cut) : Type 0 where
  pub all : List ℕ
  pub ended : Bool
  pub went : Went before left all ended
  pub starts : StartsWith all ended cuts

-- the line behind these is the first that is too long, or one too many
pub record IsRefused (before left : Option (List ℕ)) (cuts : List Cut) (line : ℕ) : Type 0 where
  pub cut : Cut
  pub first : IsFirsts before left (cuts ++ cut ∷ [])
  pub short : AllByRecursion IsShort cuts
  pub number : line ≡ length cuts + 1
  pub too_much : IsTooMuch (length cuts) cut

-- the bytes that were taken decide these lines, and no other line
pub record IsInterrupted (before left : Option (List ℕ)) (cuts : List Cut) : Type 0 where
  pub all : List ℕ
  pub source : Consumes before left all
  pub short : AllByRecursion IsShort cuts
  pub decided : lines_of MAX_TEXT_LINES false 0 all ≡ cuts

-- ---- what is written

module _ (f : List ℕ → List ℕ) where
  abbrev pub written_line : Cut → List ℕ
  written_line cut = f cut.text ++ 10 ∷ []

  -- each line, turned, with its end
  abbrev pub written_text : List Cut → List ℕ
  written_text cuts = flat_map written_line cuts

  -- by the bytes that were left before and those left now, and by what the sink held before and holds now
  abbrev pub Ends : {A : Type 0} → (before left held now : Option (List ℕ)) → Result A WordsError → Type 0
  Ends before left held now (Ok a) = (cuts : List Cut) × IsAll before left cuts × Appends held now (written_text cuts)
  Ends before left held now (Err (Refused line)) =
      (cuts : List Cut) × IsRefused before left cuts line × Appends held now (written_text cuts)
  Ends before left held now (Err ReadFault) =
      (cuts : List Cut) × IsInterrupted before left cuts × Appends held now (written_text cuts)
  Ends before left held now (Err WriteFault) =
      (cuts : List Cut) × IsFirsts before left cuts × AppendsPrefix held now (written_text cuts)
  Ends before left held now (Err NoMemory) =
      (cuts : List Cut) × IsFirsts before left cuts × AppendsUpTo held now (written_text cuts)

  -- ---- line by line

  -- a line was written, or is refused
  abbrev pub Puts : {A : Type 0} → (held now : Option (List ℕ)) → ℕ → Cut → Result A WordsError → Type 0
  Puts held now before cut (Ok a) = Appends held now (written_line cut)
  Puts held now before cut (Err (Refused line)) = (line ≡ before + 1) × IsTooMuch before cut × (now ≡ held)
  Puts held now before cut (Err ReadFault) = ⊥
  Puts held now before cut (Err WriteFault) = AppendsPrefix held now (written_line cut)
  Puts held now before cut (Err NoMemory) = AppendsUpTo held now (written_line cut)

-- these lines were taken, and the reader is behind them
pub record Behind (cuts : List Cut) (all : List ℕ) (r : Reading) : Type 0 where
  pub most : r.most ≡ MAX_TEXT_LINES
  pub line : r.line ≡ length cuts
  pub few : length cuts ≤ MAX_TEXT_LINES
  pub short : AllByRecursion IsShort cuts
  pub lines : (ended : Bool) (more : List ℕ) → Follows r.ended ended more
      → lines_of MAX_TEXT_LINES ended 0 (all ++ more) ≡ cuts ++ lines_of MAX_TEXT_LINES ended r.line (r.pending ++ more)

-- what was read and written so far
pub record Reads (f : List ℕ → List ℕ) (before left held now : Option (List ℕ)) (r : Reading) : Type 0 where
  pub all : List ℕ
  pub went : Went before left all r.ended
  pub cuts : List Cut
  pub behind : Behind cuts all r
  pub written : Appends held now (written_text f cuts)

-- a line was taken
pub record Advances (old new : Reading) (first : FirstLine) : Type 0 where
  pub fits : old.line < MAX_TEXT_LINES
  pub short : first.len ≤ MAX_LINE_BYTES
  pub most : new.most ≡ old.most
  pub line : new.line ≡ old.line + 1
  pub pending : new.pending ≡ drop first.end old.pending
  pub ended : new.ended ≡ old.ended

-- a call that found no line refuses nothing, and at a fault none was left that is decided
abbrev pub IsNoLine : Reading → WordsError → Type 0
IsNoLine r (Refused line) = ⊥
IsNoLine r ReadFault = (r.ended ≡ false) × (lines_before r false [] ≡ [])
IsNoLine r WriteFault = ⊥
IsNoLine r NoMemory = ⊤
