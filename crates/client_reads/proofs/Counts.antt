-- A client's reads were answered, but at most the last.
use Rattle.std.proofs.Common.{◌≡◌, ℕ, ◌+◌, true, false, Option, Some, None, refl, ap, arith, List, [], ◌∷◌, ◌++◌}
use Rattle.std.specs.Prelude.{is_none}
use Rattle.nop_types.specs.Given.{Given}
use Rattle.nop_types.specs.declared.output.Out.{Out}
use Rattle.nop_types.specs.declared.output.Out.TheVariants as outs
use Rattle.nop_types.specs.declared.output.Out.TheVariants.{Answered}
use Rattle.client_reads.specs.declared.state.Reading.{Reading}
use Rattle.client_reads.specs.declared.state.Reads.{Reads}
use Rattle.client_reads.specs.ReadSteps.{is_done, next, opening}
use Rattle.client_reads.specs.Rows.{Row, Rests, SaysBusy, Asks, Repeats, Ends}
use Rattle.client_reads.specs.Runs.{after, answer_count, gave, read_count}
use Rattle.client_reads.proofs.RowLemmas.{none_waits, row_of}

reads_append : (xs ys : List Out) → read_count (xs ++ ys) ≡ read_count xs + read_count ys
reads_append [] ys = omega arith
reads_append (outs.Reading client id observer key ∷ xs) ys = let rest = reads_append xs ys in omega (arith, rest)
reads_append (_ ∷ xs) ys = reads_append xs ys

answers_append : (xs ys : List Out) → answer_count (xs ++ ys) ≡ answer_count xs + answer_count ys
answers_append [] ys = omega arith
answers_append (Answered client id observer position result ∷ xs) ys = let rest = answers_append xs ys in omega (arith, rest)
answers_append (_ ∷ xs) ys = answers_append xs ys

-- how many wait
abbrev waiting : Option Reading → ℕ
waiting None = 0
waiting (Some r) = 1

-- ---- a row, and a run

row_counts : (s : Reads) (x : Given) (y : Reads × List Out) → Row s x y → y.0.last_id ≡ s.last_id + read_count y.1
row_counts s x y (Rests nothing) = omega arith
row_counts s x y (SaysBusy observer key is busy) = omega arith
row_counts s x y (Asks observer key is may) = omega arith
row_counts s x y (Repeats r is e) = omega arith
row_counts s x y (Ends r a has e fits) = omega arith

row_keeps : (s : Reads) (x : Given) (y : Reads × List Out) → Row s x y
    → answer_count y.1 + waiting y.0.pending ≡ read_count y.1 + waiting s.pending
row_keeps s x y (Rests nothing) = refl
row_keeps s x y (SaysBusy observer key is busy) = refl
row_keeps s x y (Asks observer key is may) =
    let none : waiting s.pending ≡ 0 = ap waiting (none_waits s may) in omega (arith, none)
row_keeps s x y (Repeats r is e) = refl
row_keeps s x y (Ends r a has e fits) = let one : waiting s.pending ≡ 1 = ap waiting e in omega (arith, one)

counts_from : (xs : List Given) (s : Reads) → (after s xs).last_id ≡ s.last_id + read_count (gave s xs)
counts_from [] s = omega arith
counts_from (x ∷ xs) s =
    let first = row_counts s x (next s x) (row_of s x) in
    let rest = counts_from xs (next s x).0 in
    let both = reads_append (next s x).1 (gave (next s x).0 xs) in
    omega (arith, first, rest, both)

keeps_from : (xs : List Given) (s : Reads)
    → answer_count (gave s xs) + waiting (after s xs).pending ≡ read_count (gave s xs) + waiting s.pending
keeps_from [] s = refl
keeps_from (x ∷ xs) s =
    let first = row_keeps s x (next s x) (row_of s x) in
    let rest = keeps_from xs (next s x).0 in
    let asked = reads_append (next s x).1 (gave (next s x).0 xs) in
    let answered = answers_append (next s x).1 (gave (next s x).0 xs) in
    omega (arith, first, rest, asked, answered)

-- ---- from the start

pub last_counts : (number : ℕ) (inputs : List Given) → (after (opening number) inputs).last_id ≡ read_count (gave (opening number) inputs)
last_counts number inputs = let h = counts_from inputs (opening number) in omega (arith, h)

none_left : (o : Option Reading) → is_none o ≡ true → waiting o ≡ 0
none_left None e = refl
none_left (Some r) e = absurd cc

one_left : (o : Option Reading) → is_none o ≡ false → waiting o ≡ 1
one_left None e = absurd cc
one_left (Some r) e = refl

pub all_answered : (number : ℕ) (inputs : List Given) → is_done (after (opening number) inputs) ≡ true
    → answer_count (gave (opening number) inputs) ≡ read_count (gave (opening number) inputs)
all_answered number inputs e =
    let h = keeps_from inputs (opening number) in
    let none = none_left (after (opening number) inputs).pending e in
    omega (arith, h, none)

pub one_waits : (number : ℕ) (inputs : List Given) → is_done (after (opening number) inputs) ≡ false
    → answer_count (gave (opening number) inputs) + 1 ≡ read_count (gave (opening number) inputs)
one_waits number inputs e =
    let h = keeps_from inputs (opening number) in
    let one = one_left (after (opening number) inputs).pending e in
    omega (arith, h, one)
