-- The first line, read as the only one of a schedule.
use Rattle.std.proofs.Common.{◌≡◌, ◌∙◌, ◌≤◌, ◌<◌, ℕ, ◌+◌, Bool, true, false, eqb, leb, List, [], ◌∷◌, ◌++◌, length, Option, Some, None}
use Rattle.std.proofs.Common.{refl, sym, ap, subst, arith}
use Rattle.std.specs.Prelude.{Result, Ok, Err, not, slice_index, if◌then◌else◌}
use Rattle.std.specs.List.{list_all}
use Rattle.std.proofs.lemmas.Bool.{lt-leb}
use Rattle.std.proofs.lemmas.List.Folds.{list_all-append}
use Rattle.std.proofs.lemmas.List.Sums.{AllPass-from_list_all}
use Rattle.line_fields.specs.Fields.{fields}
use Rattle.line_reader.proofs.Cuts.{cut_last}
use Rattle.line_reader.specs.Cutting as cutting
use Rattle.line_reader.specs.Cutting.{Cut, last_line, lines_on, with_end, without_end}
use Rattle.line_reader.specs.Deciding.{HasNoEnd, cut_of}
use Rattle.line_reader.specs.Reading.{IsFirst}
use Rattle.line_reader.specs.Reading as lines
use Rattle.line_reader.specs.declared.first_line.FirstLine.{FirstLine}
use Rattle.nop_types.specs.Configuration.{Configuration}
use Rattle.nop_types.specs.declared.header.Header.{Header}
use Rattle.nop_types.specs.declared.limits.TheConstants.{MAX_LINE_BYTES, MAX_LINES}
use Rattle.replay.proofs.Runs.{turn_header}
use Rattle.schedule_text.specs.Cutting.{lines_of, texts}
use Rattle.schedule_text.specs.Reading.{HasConfig, Reading, TakesOf, Turn, header_turn, lines_before, opened, opening, turn, turn_of}
use Rattle.schedule_text.specs.Rules.{header_of}
use Rattle.schedule_text.specs.declared.next_error.NextError.TheVariants.{BadLine, NoMemory}
use Rattle.schedule_text.specs.declared.rule.Rule.{Rule}
use Rattle.schedule_text.specs.declared.rule.Rule.TheVariants.{WrongWord}
use Rattle.audit.specs.Steps.{text_in}

-- ---- the text of a line has no line end

abbrev is_inner : ℕ → Bool
is_inner b = not (eqb b 10)

no_end : (text : List ℕ) → list_all is_inner text ≡ true → HasNoEnd (length text) text
no_end text e = λ k below is.
    let inner : is_inner (slice_index text k) ≡ true = AllPass-from_list_all is_inner text e k 0 below in
    let never : is_inner 10 ≡ true = subst (λ (b : ℕ). is_inner b ≡ true) is inner in cc

with_inner : (line : List ℕ) (b : ℕ) → list_all is_inner line ≡ true → eqb b 10 ≡ false → list_all is_inner (line ++ b ∷ []) ≡ true
with_inner line b all is = list_all-append is_inner line (b ∷ []) ∙ rw (all, is) refl

module _ (most : ℕ) (ended : Bool) (before : ℕ) (fits : before < most) where
  abbrev AreInner : Cut → Type 0
  AreInner cut = list_all is_inner cut.text ≡ true

  -- the line with one more byte
  abbrev Goes : List ℕ → ℕ → List ℕ → Cut → List Cut → Type 0
  Goes line b bytes cut rest =
      list_all is_inner (line ++ b ∷ []) ≡ true → lines_on most ended before (line ++ b ∷ []) bytes ≡ cut ∷ rest → AreInner cut

  inner_on : (line bytes : List ℕ) (cut : Cut) (rest : List Cut) → list_all is_inner line ≡ true
      → lines_on most ended before line bytes ≡ cut ∷ rest → AreInner cut
  inner_on line [] cut rest all e = at_end ended line all e
    where
      at_end : (t : Bool) (xs : List ℕ) → list_all is_inner xs ≡ true → last_line t xs ≡ cut ∷ rest → AreInner cut
      at_end t [] inner f = absurd cc
      at_end true (x ∷ xs) inner f = let same : without_end (x ∷ xs) ≡ cut = cc in subst AreInner same inner
      at_end false (x ∷ xs) inner f = absurd cc
  inner_on line (b ∷ bytes) cut rest all e =
      let below : leb most before ≡ false = lt-leb most before fits in
      by_end (eqb b 10) refl (rw below at e) (λ inner. inner_on (line ++ b ∷ []) bytes cut rest inner)
    where
      by_length : (t : Bool) → eqb b 10 ≡ false
          → (if t then without_end (line ++ b ∷ []) ∷ [] else lines_on most ended before (line ++ b ∷ []) bytes) ≡ cut ∷ rest
          → Goes line b bytes cut rest → AreInner cut
      by_length true is f goes =
          let same : without_end (line ++ b ∷ []) ≡ cut = cc in subst AreInner same (with_inner line b all is)
      by_length false is f goes = goes (with_inner line b all is) f

      by_end : (t : Bool) → eqb b 10 ≡ t
          → (if t then with_end line ∷ lines_on most ended (before + 1) [] bytes
          else (if eqb (length line) MAX_LINE_BYTES then without_end (line ++ b ∷ []) ∷ [] else lines_on most ended before (line ++ b ∷ []) bytes))
          ≡ cut ∷ rest → Goes line b bytes cut rest → AreInner cut
      by_end true is f goes = let same : with_end line ≡ cut = cc in subst AreInner same all
      by_end false is f goes = by_length (eqb (length line) MAX_LINE_BYTES) is f goes

  first_inner : (bytes : List ℕ) (cut : Cut) (rest : List Cut) → cutting.lines_of most ended before bytes ≡ cut ∷ rest → AreInner cut
  unfolding cutting.lines_of
  first_inner bytes cut rest e = inner_on [] bytes cut rest refl e

pub first_has_no_end : (r : lines.Reading) (first : FirstLine) → IsFirst r first → r.line < r.most
    → HasNoEnd (length (text_in r first)) (text_in r first)
first_has_no_end r first is fits =
    let here = is.line true [] (record { nothing = λ was. refl; end = λ was. refl }) in
    no_end (text_in r first) (first_inner r.most true r.line fits (r.pending ++ []) (cut_of first r.pending) here.0 here.1)

-- ---- one line alone

module _ (text : List ℕ) (one : HasNoEnd (length text) text) (short : length text ≤ MAX_LINE_BYTES) where
  only_line : lines_of true 0 text ≡ texts (last_line true text)
  unfolding lines_of cutting.lines_of
  only_line = ap texts (cut_last MAX_LINES true 0 (omega arith) [] text one (omega (arith, short)))

no_first : (rule : Rule) × (header_of [] ≡ Err rule)
unfolding header_of fields
no_first = (WrongWord, refl)

turn_ok : (text : List ℕ) (r : Result Header Rule) (h : Header) → (header_turn 0 text [] r).header ≡ Some h → r ≡ Ok h
turn_ok text (Err rule) h e = absurd cc
turn_ok text (Ok d) h e = let same : d ≡ h = cc in ap Ok same

turn_err : (text : List ℕ) (r : Result Header Rule) → (header_turn 0 text [] r).header ≡ None → (rule : Rule) × (r ≡ Err rule)
turn_err text (Err rule) e = (rule, refl)
turn_err text (Ok d) e = absurd cc

only_ok : (text : List ℕ) (h : Header) → (turn None 0 (texts (last_line true text))).header ≡ Some h → header_of text ≡ Ok h
only_ok [] h e = absurd cc
only_ok (b ∷ bs) h e = turn_ok (b ∷ bs) (header_of (b ∷ bs)) h e

only_err : (text : List ℕ) → (turn None 0 (texts (last_line true text))).header ≡ None → (rule : Rule) × (header_of text ≡ Err rule)
only_err [] e = no_first
only_err (b ∷ bs) e = turn_err (b ∷ bs) (header_of (b ∷ bs)) e

module _ (text : List ℕ) (one : HasNoEnd (length text) text) (short : length text ≤ MAX_LINE_BYTES) (r : Reading) where
  -- what was read, with what is left behind it
  turned : (taken left : List ℕ) → text ≡ taken ++ left → turn None 0 (texts (last_line true text)) ≡ turn_of opening true (taken ++ left)
  turned taken left split = ap (turn None 0) (sym (only_line text one short) ∙ ap (lines_of true 0) split)

  keeps_header : (ended : Bool) (more : List ℕ) (h : Header) → r.header ≡ Some h → (turn_of r ended more).header ≡ Some h
  keeps_header ended more h e =
      ap (λ (o : Option Header). (turn o r.line (lines_before r ended more)).header) e ∙ turn_header h r.line (lines_before r ended more)

  pub header_read : (left : Option (List ℕ)) (c : Configuration) → TakesOf opening r (Some text) left (Err NoMemory) → HasConfig r.header c
      → header_of text ≡ Ok (opened r.header c)
  header_read None c took has = absurd took
  header_read (Some left) c took has =
      let k = took.2 in
      let is = k.turn true left (record { nothing = k.end refl; end = λ was. refl }) in
      only_ok text (opened r.header c)
      (ap (λ (t : Turn). t.header) (turned took.0 left took.1 ∙ is) ∙ keeps_header true left (opened r.header c) has)

  pub header_refused : (left : Option (List ℕ)) (line rule : ℕ) → TakesOf opening r (Some text) left (Err (BadLine line rule)) → r.header ≡ None
      → (x : Rule) × (header_of text ≡ Err x)
  header_refused None line rule took none = absurd took
  header_refused (Some left) line rule took none =
      let k = took.2 in
      let is = k.turn true left (record { nothing = k.end refl; end = λ was. refl }) in
      only_err text (ap (λ (t : Turn). t.header) (turned took.0 left took.1 ∙ is.0) ∙ none)
