-- Reading the text of a row gives the row again.
use Rattle.std.proofs.Common.{◌≡◌, ℕ, zero, suc, ◌+◌, ◌*◌, ◌^◌, ◌<◌, ◌≤◌, true, Some, refl, ap, ◌∙◌, arith, length, List, [], ◌∷◌}
use Rattle.std.proofs.Common.{◌++◌, length-append, decimal, codes}
use Rattle.std.specs.Prelude.{option_map}
use Rattle.std.specs.List.{flat_map, list_all}
use Rattle.std.proofs.lemmas.Bool.{le-leb, le-ltb}
use Rattle.line_fields.specs.Fields.{from_one, key_of}
use Rattle.line_fields.proofs.FieldTexts.{is_mark, decimal_marked, number_again, small_again, bytes_again, key_again, hex_marked, hex_within}
use Rattle.line_fields.proofs.FieldTexts.{AllMarked, line_fields, decimal_short}
use Rattle.nop_types.specs.declared.input.Tick.{Tick}
use Rattle.nop_types.specs.declared.input.Tick.TheVariants as ticks
use Rattle.nop_types.specs.declared.limits.TheConstants.{MAX_DATAGRAM_BYTES, MAX_KEY_BYTES, MAX_LINE_BYTES, MAX_OP_BYTES, MAX_RESULT_BYTES}
use Rattle.schedule_text.specs.EventText.{HasWord, tick_text}
use Rattle.schedule_text.specs.Ticks.{tick_named}
use Rattle.trace_rows.specs.Reading.{bytes_within, gave_of, id_of, name_of, observer_number, position_of, row_of, row_of_fields, sequencer_number}
use Rattle.trace_rows.specs.Reading.{taken_of}
use Rattle.trace_rows.specs.Rows.{BytesFit, GaveFits, GaveIsKept, IdFits, IsKept, KeyFits, NumberFits, RowFits}
use Rattle.trace_rows.specs.Rows.{RowIsKept, TakenFits, TakenIsKept, gave_fields, name_text, row_text}
use Rattle.trace_rows.specs.Rows.{taken_fields}
use Rattle.trace_rows.specs.declared.row.Gave.{Gave}
use Rattle.trace_rows.specs.declared.row.Gave.TheVariants as gaves
use Rattle.trace_rows.specs.declared.row.Name.TheVariants.{Sequencer, Observer}
use Rattle.trace_rows.specs.declared.row.Number.{Number}
use Rattle.trace_rows.specs.declared.row.Row.{Row}
use Rattle.trace_rows.specs.declared.row.Row.TheVariants.{In, Out}
use Rattle.trace_rows.specs.declared.row.Taken.{Taken}
use Rattle.trace_rows.specs.declared.row.Taken.TheVariants as ins
use Rattle.trace_rows.proofs.NameTexts.{name_again, name_marked, name_short, to_again, to_marked, to_short}
use Rattle.transcript_text.specs.LineText.{after_space}
use Rattle.transcript_text.specs.Transcript.{hex_text}

-- ---- whole lines

-- the bytes of fields, each behind a space
abbrev spaced : List (List ℕ) → ℕ
spaced [] = 0
spaced (x ∷ xs) = suc (length x) + spaced xs

spaced_length : (xs : List (List ℕ)) → length (flat_map after_space xs) ≡ spaced xs
spaced_length [] = refl
spaced_length (x ∷ xs) = omega (arith, length-append (32 ∷ x) (flat_map after_space xs), spaced_length xs)

line_read : (word : List ℕ) (xs : List (List ℕ)) (row : Row) → list_all is_mark word ≡ true → AllMarked xs
    → length word + spaced xs ≤ MAX_LINE_BYTES → row_of_fields (word ∷ xs) ≡ Some row → row_of (word ++ flat_map after_space xs) ≡ Some row
unfolding row_of
line_read word xs row marked all short is =
    let room : length (word ++ flat_map after_space xs) ≤ MAX_LINE_BYTES =
    omega (arith, length-append word (flat_map after_space xs), spaced_length xs, short) in
    rw (le-ltb MAX_LINE_BYTES (length (word ++ flat_map after_space xs)) room) (rw (line_fields word xs marked all) is)

-- ---- fields

tick_again : (t : Tick) → HasWord t → tick_named (tick_text t) ≡ Some t
unfolding tick_named
tick_again ticks.Next h = absurd h
tick_again (ticks.Install j) h = absurd h
tick_again _ h = refl

tick_marked : (t : Tick) → list_all is_mark (tick_text t) ≡ true
tick_marked ticks.Suspect = refl
tick_marked _ = refl

tick_short : (t : Tick) → length (tick_text t) ≤ 7
tick_short ticks.Suspect = omega arith
tick_short _ = omega arith

within_again : (most : ℕ) (bytes : List ℕ) → 1 ≤ most → BytesFit most bytes → bytes_within most (hex_text bytes) ≡ Some bytes
within_again most bytes some fits =
    rw (le-leb (length (hex_text bytes)) (2 * most) (hex_within bytes most some fits.short)) (bytes_again bytes fits.are_bytes)

id_from : (id : ℕ) → 1 ≤ id → from_one (Some id) ≡ Some id
id_from zero low = absurd (omega arith)
id_from (suc n) low = refl

id_again : (id : ℕ) → IdFits id → id_of (decimal id) ≡ Some id
id_again id fits = ap from_one (number_again id fits.high) ∙ id_from id fits.low

position_again : (n : ℕ) → n < 2 ^ 32 → position_of (decimal n) ≡ Some n
position_again n fits = small_again (2 ^ 32) n fits (omega arith)

observer_again : (n : Number) → NumberFits n → IsKept n → observer_number (name_of (name_text (Observer n))) ≡ Some n
observer_again n fits kept = ap observer_number (name_again (Observer n) fits kept)

sequencer_again : (n : Number) → NumberFits n → IsKept n → sequencer_number (name_of (name_text (Sequencer n))) ≡ Some n
sequencer_again n fits kept = ap sequencer_number (name_again (Sequencer n) fits kept)

key_text_again : (key : List ℕ) → KeyFits key → key_of (hex_text key) ≡ Some key
key_text_again key fits = key_again key fits.some fits.most fits.are_bytes

-- ---- what a step took

record Took (t : Taken) : Type 0 where
  read : taken_of (taken_fields t) ≡ Some t
  marked : AllMarked (taken_fields t)
  short : spaced (taken_fields t) ≤ 3100

taken_again : (t : Taken) → TakenFits t → TakenIsKept t → Took t
taken_again (ins.Tick tick) fits kept = record {
  read = ap (option_map ins.Tick) (tick_again tick fits);
  marked = (refl, (tick_marked tick, tt));
  short = omega (arith, tick_short tick);
}
taken_again (ins.Packet bytes) fits kept = record {
  read = ap (option_map ins.Packet) (within_again MAX_DATAGRAM_BYTES bytes (omega arith) fits);
  marked = (refl, (hex_marked bytes fits.are_bytes, tt));
  short = omega (arith, hex_within bytes MAX_DATAGRAM_BYTES (omega arith) fits.short);
}
taken_again (ins.Submit op) fits kept = record {
  read = ap (option_map ins.Submit) (within_again MAX_OP_BYTES op (omega arith) fits);
  marked = (refl, (hex_marked op fits.are_bytes, tt));
  short = omega (arith, hex_within op MAX_OP_BYTES (omega arith) fits.short);
}
taken_again (ins.Read n key) fits kept = record {
  read = rw (observer_again n fits.0 kept) (ap (option_map (ins.Read n)) (key_text_again key fits.1));
  marked = (refl, (name_marked (Observer n) fits.0, (hex_marked key fits.1.are_bytes, tt)));
  short = omega (arith, name_short (Observer n) fits.0, hex_within key MAX_KEY_BYTES (omega arith) fits.1.most);
}
taken_again (ins.Install n) fits kept = record {
  read = ap (option_map ins.Install) (sequencer_again n fits kept);
  marked = (refl, (name_marked (Sequencer n) fits, tt));
  short = omega (arith, name_short (Sequencer n) fits);
}

-- ---- what it gave

record Gives (g : Gave) : Type 0 where
  read : gave_of (gave_fields g) ≡ Some g
  marked : AllMarked (gave_fields g)
  short : spaced (gave_fields g) ≤ 3100

gave_again : (g : Gave) → GaveFits g → GaveIsKept g → Gives g
gave_again (gaves.Send to bytes) fits kept = record {
  read = rw (to_again to fits.0 kept) (ap (option_map (gaves.Send to)) (within_again MAX_DATAGRAM_BYTES bytes (omega arith) fits.1));
  marked = (refl, (to_marked to fits.0, (hex_marked bytes fits.1.are_bytes, tt)));
  short = omega (arith, to_short to fits.0, hex_within bytes MAX_DATAGRAM_BYTES (omega arith) fits.1.short);
}
gave_again (gaves.Submit id op) fits kept = record {
  read = rw (id_again id fits.0) (ap (option_map (gaves.Submit id)) (within_again MAX_OP_BYTES op (omega arith) fits.1));
  marked = (refl, (decimal_marked id fits.0.high, (hex_marked op fits.1.are_bytes, tt)));
  short = omega (arith, decimal_short id fits.0.high, hex_within op MAX_OP_BYTES (omega arith) fits.1.short);
}
gave_again (gaves.Accept id result) fits kept = record {
  read = rw (id_again id fits.0) (ap (option_map (gaves.Accept id)) (within_again MAX_RESULT_BYTES result (omega arith) fits.1));
  marked = (refl, (decimal_marked id fits.0.high, (hex_marked result fits.1.are_bytes, tt)));
  short = omega (arith, decimal_short id fits.0.high, hex_within result MAX_RESULT_BYTES (omega arith) fits.1.short);
}
gave_again (gaves.Read id n key) fits kept = record {
  read = rw (id_again id fits.0) (rw (observer_again n fits.1 kept) (ap (option_map (gaves.Read id n)) (key_text_again key fits.2)));
  marked = (refl, (decimal_marked id fits.0.high, (name_marked (Observer n) fits.1, (hex_marked key fits.2.are_bytes, tt))));
  short = omega (
    arith,
    decimal_short id fits.0.high,
    name_short (Observer n) fits.1,
    hex_within key MAX_KEY_BYTES (omega arith) fits.2.most,
  );
}
gave_again (gaves.Answer id n position result) fits kept = record {
  read = rw (id_again id fits.id_fits)
      (rw (observer_again n fits.observer_fits kept)
      (rw (position_again position fits.position_fits)
      (ap (option_map (gaves.Answer id n position)) (within_again MAX_RESULT_BYTES result (omega arith) fits.result_fits))));
  marked = (
    refl,
    (
      decimal_marked id fits.id_fits.high,
      (
        name_marked (Observer n) fits.observer_fits,
        (
          decimal_marked position (let low = fits.position_fits in omega arith),
          (hex_marked result fits.result_fits.are_bytes, tt),
        ),
      ),
    ),
  );
  short = omega (
    arith,
    decimal_short id fits.id_fits.high,
    name_short (Observer n) fits.observer_fits,
    decimal_short position (let low = fits.position_fits in omega arith),
    hex_within result MAX_RESULT_BYTES (omega arith) fits.result_fits.short,
  );
}

-- ---- rows

pub row_read : (row : Row) → RowFits row → RowIsKept row → row_of (row_text row) ≡ Some row
unfolding row_text
row_read (In name taken) fits kept =
    let t = taken_again taken fits.1 kept.1 in
    line_read (codes "in") (name_text name ∷ taken_fields taken) (In name taken) refl (name_marked name fits.0, t.marked)
    (let short = t.short in omega (arith, name_short name fits.0))
    (rw (name_again name fits.0 kept.0) (ap (option_map (In name)) t.read))
row_read (Out name gave) fits kept =
    let g = gave_again gave fits.1 kept.1 in
    line_read (codes "out") (name_text name ∷ gave_fields gave) (Out name gave) refl (name_marked name fits.0, g.marked)
    (let short = g.short in omega (arith, name_short name fits.0))
    (rw (name_again name fits.0 kept.0) (ap (option_map (Out name)) g.read))
