-- The first line of a schedule is read as its header.
use Rattle.std.proofs.Common.{◌≡◌, ◌∙◌, ℕ, ◌≤◌, true, List, [], ◌∷◌, ◌++◌, length, decimal, codes, drop, Option, Some}
use Rattle.std.proofs.Common.{Ok, Err, refl, sym, ap, arith, length-append, inl, inr, if◌then◌else◌}
use Rattle.std.specs.Prelude.{Result, nat_le}
use Rattle.std.specs.List.{flat_map, list_all}
use Rattle.std.proofs.lemmas.Bool.{le-leb, le-ltb, leb-true, and_parts}
use Rattle.std.proofs.lemmas.Fmt.{decimal_digit}
use Rattle.std.proofs.lemmas.List.Folds.{list_all-append}
use Rattle.line_fields.proofs.FieldTexts.{is_mark, and_true, AllMarked, line_fields, small_again, small_counts}
use Rattle.line_fields.specs.Fields.{fields}
use Rattle.nop_types.specs.Configuration.{Configuration, is_configuration}
use Rattle.nop_types.specs.Headers.{is_header}
use Rattle.nop_types.specs.declared.header.Header.{Header}
use Rattle.nop_types.specs.declared.limits.TheConstants.{MAX_LINE_BYTES}
use Rattle.schedule_text.proofs.Plains.{IsPlain}
use Rattle.schedule_text.specs.Rules.{count_of, header_by, header_of, header_of_fields, header_with, is_plain, plain_line, ◌>>=◌}
use Rattle.schedule_text.specs.declared.rule.Rule.{Rule}
use Rattle.schedule_text.specs.declared.rule.Rule.TheVariants.{WrongField}
use Rattle.trace_text.specs.Traces.{header_line}
use Rattle.transcript_rows.proofs.RowLines.{header_is_line}
use Rattle.transcript_rows.proofs.RowTexts.{Forms, forms, counted, header_fields, header_marked, spelled_header, whole_header}
use Rattle.transcript_text.specs.LineText.{after_space}
use Rattle.transcript_text.specs.Transcript.{counts_line, transcript_line}

-- the line without its end: the fields behind the word are those of the first line of a transcript
unfoldable pub first_line : Header → List ℕ
first_line h = codes "nopaxos" ++ flat_map after_space (header_fields h)

-- what stands behind the word of a transcript's first line
behind_word : (h : Header) → is_header h ≡ true → drop 10 (transcript_line h.form h.config) ≡ flat_map after_space (header_fields h) ++ 10 ∷ []
unfolding spelled_header
behind_word h e = ap (drop 10) (whole_header h e)

pub first_line_whole : (h : Header) → is_header h ≡ true → header_line h.form h.config ≡ first_line h ++ 10 ∷ []
unfolding header_line transcript_line counts_line first_line
first_line_whole h e = ap (λ (xs : List ℕ). codes "nopaxos" ++ xs) (behind_word h e)

-- ---- its bytes

marked_plain : (xs : List ℕ) → list_all is_mark xs ≡ true → IsPlain xs
marked_plain [] e = refl
marked_plain (b ∷ bs) e =
    let parts = and_parts (is_mark b) (list_all is_mark bs) e in
    let mark = and_parts (nat_le 33 b) (nat_le b 126) parts.0 in
    and_true (is_plain b) (list_all is_plain bs)
    (and_true (nat_le 32 b) (nat_le b 126) (le-leb 32 b (let low = leb-true 33 b mark.0 in omega arith)) mark.1) (marked_plain bs parts.1)

both_plain : (xs ys : List ℕ) → IsPlain xs → IsPlain ys → IsPlain (xs ++ ys)
both_plain xs ys e f = list_all-append is_plain xs ys ∙ and_true (list_all is_plain xs) (list_all is_plain ys) e f

spaced_plain : (xs : List (List ℕ)) → AllMarked xs → IsPlain (flat_map after_space xs)
spaced_plain [] h = refl
spaced_plain (x ∷ xs) h = both_plain (after_space x) (flat_map after_space xs) (marked_plain x h.0) (spaced_plain xs h.1)

line_plain : (word : List ℕ) (xs : List (List ℕ)) → list_all is_mark word ≡ true → AllMarked xs
    → length (word ++ flat_map after_space xs) ≤ MAX_LINE_BYTES
    → plain_line (word ++ flat_map after_space xs) ≡ Ok (word ++ flat_map after_space xs)
line_plain word xs e h short =
    rw (le-ltb MAX_LINE_BYTES (length (word ++ flat_map after_space xs)) short)
    (rw (both_plain word (flat_map after_space xs) (marked_plain word e) (spaced_plain xs h)) refl)

-- the word is shorter than that of a transcript
first_line_plain : (h : Header) → is_header h ≡ true → plain_line (first_line h) ≡ Ok (first_line h)
unfolding first_line spelled_header
first_line_plain h e =
    let spaced : List ℕ = flat_map after_space (header_fields h) in
    let longer : length (codes "transcript" ++ spaced) ≤ MAX_LINE_BYTES = (header_is_line h e).short in
    let short : length (codes "nopaxos" ++ spaced) ≤ MAX_LINE_BYTES =
    omega (arith, longer, length-append (codes "transcript") spaced, length-append (codes "nopaxos") spaced) in
    line_plain (codes "nopaxos") (header_fields h) refl (header_marked h e) short

-- ---- its fields

found_again : (form : ℕ) (made c : Configuration) → made ≡ c → is_configuration c ≡ true
    → (if◌then◌else◌ {A = Result Header Rule} (is_configuration made) (Ok (record { form = form; config = made })) (Err WrongField))
    ≡ Ok (record { form = form; config = c })
found_again form made c same e = rw same (rw e refl)

made_with : (form : ℕ) (c : Configuration) → is_configuration c ≡ true
    → header_with form (Some c.replicas) (Some c.sequencers) (Some c.clients) (Some c.controllers) (Some c.observers)
    ≡ Ok (record { form = form; config = c })
made_with form c e =
    let made : Configuration = record {
      replicas = c.replicas;
      sequencers = c.sequencers;
      clients = c.clients;
      controllers = c.controllers;
      observers = c.observers;
    } in
    found_again form made c refl e

-- the counts, and these last ones
abbrev with_last : Configuration → ℕ → Option ℕ → Option ℕ → Result Header Rule
with_last c form k o =
    header_with form (count_of (decimal c.replicas)) (count_of (decimal c.sequencers)) (count_of (decimal c.clients)) k o

made_again : (form : ℕ) (c : Configuration) → is_configuration c ≡ true
    → with_last c form (Some c.controllers) (Some c.observers) ≡ Ok (record { form = form; config = c })
made_again form c e =
    let s = small_counts c e in
    let replicas = s.replicas in
    let sequencers = s.sequencers in
    let clients = s.clients in
    rw (small_again 256 c.replicas (omega arith) (omega arith))
    (rw (small_again 256 c.sequencers (omega arith) (omega arith))
    (rw (small_again 256 c.clients (omega arith) (omega arith)) (made_with form c e)))

-- the form as it is written, whatever the counts
module _ (c : Configuration) (text : List ℕ) where
  abbrev counted_by : List (List ℕ) → Result Header Rule
  counted_by rest =
      header_by text true (count_of (decimal c.replicas)) (count_of (decimal c.sequencers)) (count_of (decimal c.clients)) rest

  by_one : text ≡ codes "1" → counted_by [] ≡ with_last c 1 (Some 1) (Some 0)
  by_one is = rw is refl

  by_two : (k : List ℕ) → text ≡ codes "2" → counted_by (codes "controllers" ∷ k ∷ []) ≡ with_last c 2 (count_of k) (Some 0)
  by_two k is = rw is refl

  by_three : (k o : List ℕ) → text ≡ codes "3"
      → counted_by (codes "controllers" ∷ k ∷ codes "observers" ∷ o ∷ []) ≡ with_last c 3 (count_of k) (count_of o)
  by_three k o is = rw is refl

module _ (c : Configuration) (e : is_configuration c ≡ true) where
  controllers_again : count_of (decimal c.controllers) ≡ Some c.controllers
  controllers_again = let few = (small_counts c e).controllers in small_again 256 c.controllers (omega arith) (omega arith)

  observers_again : count_of (decimal c.observers) ≡ Some c.observers
  observers_again = let few = (small_counts c e).observers in small_again 256 c.observers (omega arith) (omega arith)

fields_read : (h : Header) → is_header h ≡ true → header_of_fields (codes "nopaxos" ∷ header_fields h) ≡ Ok h
unfolding header_fields
fields_read h e = by_form h.form h.config (counted h e) (forms h e)
  where
    by_form : (form : ℕ) (c : Configuration) → is_configuration c ≡ true → Forms (record { form = form; config = c })
        → let h : Header = record { form = form; config = c } in header_of_fields (codes "nopaxos" ∷ header_fields h) ≡ Ok h
    by_form form c e (inl three) =
        rw three
        (by_three c (decimal 3) (decimal c.controllers) (decimal c.observers) (decimal_digit 3 (omega arith))
        ∙ ap (λ (k : Option ℕ). with_last c 3 k (count_of (decimal c.observers))) (controllers_again c e)
        ∙ ap (with_last c 3 (Some c.controllers)) (observers_again c e) ∙ made_again 3 c e)
    by_form form c e (inr (inl two)) =
        rw two.0
        (by_two c (decimal 2) (decimal c.controllers) (decimal_digit 2 (omega arith))
        ∙ ap (λ (k : Option ℕ). with_last c 2 k (Some 0)) (controllers_again c e)
        ∙ ap (λ (o : ℕ). with_last c 2 (Some c.controllers) (Some o)) (sym two.1) ∙ made_again 2 c e)
    by_form form c e (inr (inr one)) =
        rw one.0
        (by_one c (decimal 1) (decimal_digit 1 (omega arith))
        ∙ ap (λ (k : ℕ). with_last c 1 (Some k) (Some 0)) (sym one.1)
        ∙ ap (λ (o : ℕ). with_last c 1 (Some c.controllers) (Some o)) (sym one.2) ∙ made_again 1 c e)

first_line_fields : (h : Header) → is_header h ≡ true → fields (first_line h) ≡ codes "nopaxos" ∷ header_fields h
unfolding first_line
first_line_fields h e = line_fields (codes "nopaxos") (header_fields h) refl (header_marked h e)

pub header_again : (h : Header) → is_header h ≡ true → header_of (first_line h) ≡ Ok h
unfolding header_of
header_again h e =
    ap (λ (r : Result (List ℕ) Rule). r >>= (λ (text : List ℕ). header_of_fields (fields text))) (first_line_plain h e)
    ∙ ap header_of_fields (first_line_fields h e) ∙ fields_read h e
