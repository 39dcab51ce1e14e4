-- A line that is taken.
use Rattle.std.proofs.Common.{◌≡◌, ℕ, ◌+◌, ◌<◌, ◌≤◌, Bool, true, false, leb, ltb, List, [], ◌∷◌, ◌++◌, length, take}
use Rattle.std.proofs.Common.{drop, Option, Some, None, Ok, Err, refl, sym, ap, ◌∙◌, inl, inr, arith, if◌then◌else◌}
use Rattle.std.proofs.lemmas.Bool.{ltb-false, leb-false}
use Rattle.std.specs.List.{list_all}
use Rattle.std.specs.Prelude.{◌↔◌, IsTrue}
use Rattle.std.proofs.lemmas.List.{length-take-le}
use Rattle.nop_types.specs.Configuration.{Configuration}
use Rattle.nop_types.specs.Headers.{is_header}
use Rattle.nop_types.specs.declared.header.Header.{Header}
use Rattle.schedule_text.specs.declared.event.Event.{Event}
use Rattle.line_reader.specs.Cutting.{Cut}
use Rattle.line_reader.specs.Deciding.{IsFirstLine, Follows}
use Rattle.line_reader.specs.Reading as cut
use Rattle.line_reader.specs.declared.first_line.FirstLine.{FirstLine}
use Rattle.line_reader.proofs.Firsts.{no_lines}
use Rattle.schedule_text.specs.declared.next_error.NextError.TheVariants.{BadLine, NoMemory}
use Rattle.schedule_text.specs.declared.rule.Rule.{Rule}
use Rattle.schedule_text.specs.declared.rule.Rule.TheVariants.{LineTooLong, TooManyLines, WrongByte, WrongWord}
use Rattle.schedule_text.specs.Rules.{Read, is_plain, rule_number, ◌>>=◌, plain_line}
use Rattle.schedule_text.specs.Rules.{header_of, header_of_fields, event_of, event_of_fields}
use Rattle.line_fields.specs.Fields.{fields}
use Rattle.schedule_text.specs.Cutting.{lines_of, texts}
use Rattle.schedule_text.specs.Reading.{Reading, MayFollow, lines_before, turn, turn_after, event_turn, header_turn, Refuses}
use Rattle.schedule_text.specs.Stepping.{IsReader, Answers, NeedsNoRead, reading}

-- what passed a test
passed : {A : Type 0} (rule : Rule) (breaks : Bool) (r : Read A) (x : A) → (if breaks then Err rule else r) ≡ Ok x
    → (breaks ≡ false) × (r ≡ Ok x)
passed rule true r x is = absurd cc
passed rule false r x is = (refl, is)

-- a line that is read is not too long
plain_fits : (line text : List ℕ) → plain_line line ≡ Ok text → length line ≤ 4096
plain_fits line text is =
    let test = passed LineTooLong (ltb 4096 (length line)) (if list_all is_plain line then Ok line else Err WrongByte) text is in
    ltb-false 4096 (length line) test.0

was_read : {A B : Type 0} (r : Read A) (f : A → Read B) (y : B) → (r >>= f) ≡ Ok y → (x : A) × (r ≡ Ok x)
was_read (Ok x) f y is = (x, refl)
was_read (Err rule) f y is = absurd cc

pub header_fits : (line : List ℕ) (h : Header) → header_of line ≡ Ok h → length line ≤ 4096
unfolding header_of
header_fits line h is =
    let read = was_read (plain_line line) (λ text. header_of_fields (fields text)) h is in
    plain_fits line read.0 read.1

-- and stands behind fewer lines than a schedule may have
pub event_fits : (c : Configuration) (before : ℕ) (line : List ℕ) (e : Event) → event_of c before line ≡ Ok e → (before < 1000000)
    × (length line ≤ 4096)
unfolding event_of
event_fits c before line e is =
    let last = passed TooManyLines (leb 1000000 before) (plain_line line >>= λ text. event_of_fields c (fields text)) e is in
    let read = was_read (plain_line line) (λ text. event_of_fields c (fields text)) e last.1 in
    (leb-false 1000000 before last.0, plain_fits line read.0 read.1)

-- what a reader keeps after a line was taken
pub keeps_on : (old new : cut.Reading) (h : Header) → IsTrue (is_header h) → old.most ≡ 1000000 → old.line < 1000000
    → new.most ≡ old.most → new.line ≡ old.line + 1 → IsReader new (Some h)
keeps_on old new h within limit fits same next = record {
  limit = same ∙ limit;
  most = omega (arith, next, fits);
  opened = (λ none. absurd cc, λ none. absurd (omega (arith, next, none)));
  within = within;
}

-- ---- the texts of lines

-- texts come of lines
some_line : (lines : List Cut) → texts lines ≡ [] → lines ≡ []
some_line [] none = refl
some_line (line ∷ lines) none = absurd cc

module _ (header : Option Header) (lines : cut.Reading) (limit : lines.most ≡ 1000000) where
  pub none_before : cut.lines_before lines false [] ≡ [] → lines_before (reading header lines) false [] ≡ []
  unfolding lines_of
  none_before none = ap texts (rw limit at none)

  some_before : lines_before (reading header lines) false [] ≡ [] → cut.lines_before lines false [] ≡ []
  unfolding lines_of
  some_before none = rw limit (some_line _ none)

  pub needs_no_read : cut.NeedsNoRead lines ↔ NeedsNoRead (reading header lines)
  needs_no_read = (to, from)
    where
      to : cut.NeedsNoRead lines → NeedsNoRead (reading header lines)
      to (inl ended) = inl ended
      to (inr some) = inr (λ none. some (some_before none))

      from : NeedsNoRead (reading header lines) → cut.NeedsNoRead lines
      from (inl ended) = inl ended
      from (inr some) = inr (λ none. some (none_before none))

-- no bytes, no line
pub none_of_nothing : (ended : Bool) (before : ℕ) → lines_of ended before [] ≡ []
unfolding lines_of
none_of_nothing ended before = ap texts (no_lines 1000000 ended before [] [] refl refl)

-- at the end there is no line
no_line : (r : Reading) (ended : Bool) (more : List ℕ) → r.ended ≡ true → r.pending ≡ [] → MayFollow r ended more
    → lines_before r ended more ≡ []
unfolding lines_of
no_line r ended more was none follows =
    ap texts (no_lines 1000000 ended r.line r.pending more none (follows.nothing was))

pub no_header : (r : Reading) → r.header ≡ None → r.ended ≡ true → r.pending ≡ []
    → Answers r r (Err (BadLine (r.line + 1) (rule_number WrongWord)))
no_header r closed was none = record {
  ended = refl;
  turn = λ ended more follows.
      let lines = no_line r ended more was none follows in
      (rw (closed, lines) refl, refl);
}

pub no_event : (r : Reading) (h : Header) → r.header ≡ Some h → r.ended ≡ true → r.pending ≡ [] → Answers r r (Ok None)
no_event r h opened was none = record {
  ended = refl;
  turn = λ ended more follows. (rw (opened, no_line r ended more was none follows) refl, was, none);
}

module _ (before : ℕ) (pending : List ℕ) (was_ended : Bool) (first : FirstLine)
    (is_first : IsFirstLine 1000000 before was_ended pending first) where
  length-first : length (take first.len pending) ≡ first.len
  length-first = length-take-le first.len pending (omega (arith, is_first.len, is_first.end))

  -- it is there, whatever follows
  here : (ended : Bool) (more : List ℕ) → Follows was_ended ended more
      → (others : List (List ℕ)) × (lines_of ended before (pending ++ more) ≡ take first.len pending ∷ others)
  unfolding lines_of
  here ended more after = let line = is_first.line ended more after in (texts line.0, ap texts line.1)

  pub header_refused : (rule : Rule) → header_of (take first.len pending) ≡ Err rule
      → let r : Reading = record { header = None; line = before; pending = pending; ended = was_ended } in
      Answers r r (Err (BadLine (before + 1) (rule_number rule)))
  header_refused rule is = record {
    ended = refl;
    turn = λ ended more follows.
        let line = here ended more (record { nothing = follows.nothing; end = follows.end }) in (
          ap (turn None before) line.1
              ∙ ap (header_turn before (take first.len pending) line.0) is
              ∙ ap (λ (xs : List (List ℕ)). record { next = Refuses (rule_number rule); header = None; line = before; rest = xs })
              (sym line.1),
          refl,
        );
  }

  pub event_refused : (h : Header) (rule : Rule) → event_of h.config before (take first.len pending) ≡ Err rule
      → let r : Reading = record { header = Some h; line = before; pending = pending; ended = was_ended } in
      Answers r r (Err (BadLine (before + 1) (rule_number rule)))
  event_refused h rule is = record {
    ended = refl;
    turn = λ ended more follows.
        let line = here ended more (record { nothing = follows.nothing; end = follows.end }) in (
          ap (turn_after h before) line.1
              ∙ ap (event_turn h before (take first.len pending) line.0) is
              ∙ ap (λ (xs : List (List ℕ)). record { next = Refuses (rule_number rule); header = Some h; line = before; rest = xs })
              (sym line.1),
          refl,
        );
  }

  -- behind the first line stand those of the bytes after it
  rest : before < 1000000 → first.len ≤ 4096 → (ended : Bool) (more : List ℕ) → Follows was_ended ended more
      → lines_of ended before (pending ++ more) ≡ take first.len pending ∷ lines_of ended (before + 1) (drop first.end pending ++ more)
  unfolding lines_of
  rest fits short ended more after = ap texts (is_first.rest fits short ended more after)

  pub header_taken : (h : Header) → before ≡ 0 → header_of (take first.len pending) ≡ Ok h
      → Answers (record { header = None; line = before; pending = pending; ended = was_ended })
      (record { header = Some h; line = before + 1; pending = drop first.end pending; ended = was_ended }) (Err NoMemory)
  header_taken h begins is = record {
    ended = refl;
    turn = λ ended more follows.
        let after : Follows was_ended ended more = record { nothing = follows.nothing; end = follows.end } in
        let others = lines_of ended (before + 1) (drop first.end pending ++ more) in
        let short = header_fits (take first.len pending) h is in
        ap (turn None before) (rest (omega arith) (omega (arith, length-first, short)) ended more after)
        ∙ ap (header_turn before (take first.len pending) others) is;
  }

  pub event_taken : (h : Header) (e : Event) → event_of h.config before (take first.len pending) ≡ Ok e
      → Answers (record { header = Some h; line = before; pending = pending; ended = was_ended })
      (record { header = Some h; line = before + 1; pending = drop first.end pending; ended = was_ended }) (Ok (Some e))
  event_taken h e is = record {
    ended = refl;
    turn = λ ended more follows.
        let after : Follows was_ended ended more = record { nothing = follows.nothing; end = follows.end } in
        let others = lines_of ended (before + 1) (drop first.end pending ++ more) in
        let fits = event_fits h.config before (take first.len pending) e is in
        ap (turn_after h before) (rest fits.0 (omega (arith, length-first, fits.1)) ended more after)
        ∙ ap (event_turn h before (take first.len pending) others) is;
  }
