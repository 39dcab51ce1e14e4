-- Lines that are read are whole lines of the text that has each with its end.
use Rattle.std.proofs.Common.{◌≡◌, ◌∙◌, ℕ, ◌+◌, ◌≤◌, Bool, true, false, List, [], ◌∷◌, ◌++◌, length, map, slice_index, None, Ok, Err}
use Rattle.std.proofs.Common.{refl, ap, append_assoc, arith, if◌then◌else◌}
use Rattle.std.specs.Prelude.{Result, nat_le, nat_lt}
use Rattle.std.specs.List.{flat_map, list_all}
use Rattle.std.proofs.lemmas.Bool.{leb-true, and_parts}
use Rattle.std.proofs.lemmas.List.Sums.{AllPass-from_list_all}
use Rattle.line_reader.proofs.Cuts.{cut_end}
use Rattle.line_reader.specs.Cutting.{Cut, with_end, lines_on}
use Rattle.line_reader.specs.Cutting as cutting
use Rattle.line_reader.specs.Deciding.{HasNoEnd}
use Rattle.line_fields.specs.Fields.{fields}
use Rattle.nop_types.specs.Configuration.{Configuration}
use Rattle.nop_types.specs.Meaning.{Meaning}
use Rattle.nop_types.specs.declared.header.Header.{Header}
use Rattle.nop_types.specs.declared.limits.TheConstants.{MAX_LINE_BYTES, MAX_LINES}
use Rattle.schedule_text.proofs.Fitting.{then_ok}
use Rattle.schedule_text.proofs.Plains.{IsPlain}
use Rattle.schedule_text.proofs.Turns.{header_fits, event_fits}
use Rattle.schedule_text.specs.Cutting.{lines_of, texts}
use Rattle.schedule_text.specs.Rules.{Read, event_of, event_of_fields, header_of, header_of_fields, is_plain, plain_line, ◌>>=◌}
use Rattle.schedule_text.specs.declared.event.Event.{Event}
use Rattle.schedule_text.specs.declared.rule.Rule.{Rule}
use Rattle.schedule_text.specs.declared.rule.Rule.TheVariants.{LineTooLong, TooManyLines, WrongByte}
use Rattle.world.specs.WorldSteps.{WorldState, Refusal, Happened, step}
use Rattle.replay.specs.Output.{stepped, scheduled, schedule_from}

-- ---- a line that is read

-- it is no longer than a line may be, and its bytes are plain
pub record IsWhole (line : List ℕ) : Type 0 where
  pub short : length line ≤ MAX_LINE_BYTES
  pub plain : IsPlain line

unless : {A : Type 0} (rule : Rule) (broken : Bool) (r : Read A) (x : A) → (if broken then Err rule else r) ≡ Ok x → r ≡ Ok x
unless rule true r x is = absurd cc
unless rule false r x is = is

plain_if : (plain : Bool) (line text : List ℕ) → list_all is_plain line ≡ plain
    → (if◌then◌else◌ {A = Read (List ℕ)} plain (Ok line) (Err WrongByte)) ≡ Ok text → IsPlain line
plain_if true line text e is = e
plain_if false line text e is = absurd cc

was_plain : (line text : List ℕ) → plain_line line ≡ Ok text → IsPlain line
was_plain line text is =
    plain_if (list_all is_plain line) line text refl
    (unless LineTooLong (nat_lt MAX_LINE_BYTES (length line)) (if list_all is_plain line then Ok line else Err WrongByte) text is)

pub header_whole : (line : List ℕ) (h : Header) → header_of line ≡ Ok h → IsWhole line
unfolding header_of
header_whole line h is =
    let read = then_ok (plain_line line) (λ text. header_of_fields (fields text)) h is in
    record { short = header_fits line h is; plain = was_plain line read.0 read.1 }

event_whole : (c : Configuration) (before : ℕ) (line : List ℕ) (e : Event) → event_of c before line ≡ Ok e → IsWhole line
unfolding event_of
event_whole c before line e is =
    let room =
    unless TooManyLines (nat_le MAX_LINES before) (plain_line line >>= λ text. event_of_fields c (fields text)) e is in
    let read = then_ok (plain_line line) (λ text. event_of_fields c (fields text)) e room in
    let fits = event_fits c before line e is in
    record { short = fits.1; plain = was_plain line read.0 read.1 }

-- ---- the lines of a schedule

abbrev pub AllWhole : List (List ℕ) → Type 0
AllWhole [] = Unit {0}
AllWhole (line ∷ lines) = IsWhole line × AllWhole lines

module _ {S : Type 0} (m : Meaning S) (c : Configuration) where
  -- of which none is bad
  abbrev AreWhole : List (List ℕ) → Type 0
  AreWhole lines = (w : WorldState) (k : ℕ) → (schedule_from m c w k lines).bad ≡ None → AllWhole lines

  step_whole : (lines : List (List ℕ)) → AreWhole lines → (k : ℕ) (e : Event) (r : Result Happened Refusal)
      → (stepped k e r (λ v. schedule_from m c v (k + 1) lines)).bad ≡ None → AllWhole lines
  step_whole lines rest k e (Err refusal) good = absurd cc
  step_whole lines rest k e (Ok h) good = rest h.world (k + 1) good

  line_whole : (line : List ℕ) (lines : List (List ℕ)) → AreWhole lines → (w : WorldState) (k : ℕ) (r : Result Event Rule)
      → event_of c k line ≡ r → (scheduled m w k r (λ v. schedule_from m c v (k + 1) lines)).bad ≡ None → AllWhole (line ∷ lines)
  line_whole line lines rest w k (Err rule) is good = absurd cc
  line_whole line lines rest w k (Ok e) is good = (event_whole c k line e is, step_whole lines rest k e (step m w e) good)

  pub good_lines_whole : (lines : List (List ℕ)) → AreWhole lines
  good_lines_whole [] w k good = tt
  good_lines_whole (line ∷ lines) w k good =
      line_whole line lines (good_lines_whole lines) w k (event_of c k line) refl good

-- ---- the text of such lines

abbrev pub with_line_end : List ℕ → List ℕ
with_line_end line = line ++ 10 ∷ []

no_end : (line : List ℕ) → IsPlain line → HasNoEnd (length line) line
no_end line plain = λ k below is.
    let here =
    and_parts (nat_le 32 (slice_index line k)) (nat_le (slice_index line k) 126) (AllPass-from_list_all is_plain line plain k 0 below) in
    let low = leb-true 32 (slice_index line k) here.0 in
    omega (arith, is)

cut_whole : (before : ℕ) (lines : List (List ℕ)) → AllWhole lines → before + length lines ≤ MAX_LINES
    → lines_on MAX_LINES true before [] (flat_map with_line_end lines) ≡ map with_end lines
cut_whole before [] all room = refl
cut_whole before (line ∷ lines) all room =
    let short = all.0.short in
    ap (lines_on MAX_LINES true before []) (append_assoc line (10 ∷ []) (flat_map with_line_end lines))
    ∙ cut_end MAX_LINES true before (omega arith) [] line (flat_map with_line_end lines) (no_end line all.0.plain) (omega arith)
    ∙ ap (λ (cuts : List Cut). with_end line ∷ cuts) (cut_whole (before + 1) lines all.1 (omega arith))

texts_again : (lines : List (List ℕ)) → texts (map with_end lines) ≡ lines
texts_again [] = refl
texts_again (line ∷ lines) = ap (λ (xs : List (List ℕ)). line ∷ xs) (texts_again lines)

pub whole_lines_cut : (lines : List (List ℕ)) → AllWhole lines → length lines ≤ MAX_LINES
    → lines_of true 0 (flat_map with_line_end lines) ≡ lines
unfolding lines_of cutting.lines_of
whole_lines_cut lines all room = ap texts (cut_whole 0 lines all (omega (arith, room))) ∙ texts_again lines
