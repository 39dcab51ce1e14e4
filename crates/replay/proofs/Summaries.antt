-- A summary is not empty, and counts of a log in two parts.
use Rattle.std.proofs.Common.{◌≡◌, ◌≢◌, ◌+◌, ℕ, List, [], ◌++◌, cond, length, length-append}
use Rattle.std.specs.Prelude.{Option, Result, Ok, Err, count_by}
use Rattle.std.proofs.lemmas.List.Sums.{sum_by-append}
use Rattle.nop_types.specs.Meaning.{Meaning}
use Rattle.nop_types.specs.declared.request.Entry.{Entry}
use Rattle.world.specs.WorldSteps.{Refusal, Happened, run}
use Rattle.replay.specs.declared.error.GenError.{GenError}
use Rattle.replay.specs.declared.error.GenError.TheVariants.{NoMemory}
use Rattle.replay.specs.Generated.{drawn_config, drawn_events, is_noop, gen_line, tally_text, summary_of, drawn_summary, WritesText}
use Rattle.replay.proofs.Prefixes.{some_left, prefix_nil}

pub length_both : (xs ys : List Entry) → length (xs ++ ys) ≡ length xs + length ys
length_both xs ys = length-append xs ys

pub noops_both : (xs ys : List Entry) → count_by is_noop (xs ++ ys) ≡ count_by is_noop xs + count_by is_noop ys
noops_both xs ys = sum_by-append (λ (e : Entry). cond (is_noop e) 1 0) xs ys

gen_some : (number count : ℕ) → gen_line number count ≢ []
unfolding gen_line
gen_some number count = λ e. absurd cc

of_some : (number count : ℕ) (r : Result Happened Refusal) → summary_of number count r ≢ []
unfolding tally_text
of_some number count (Err refusal) = gen_some number count
of_some number count (Ok h) =
    some_left (gen_line number count ++ _ ++ _) _
    (some_left (gen_line number count ++ _) _ (some_left (gen_line number count) _ (gen_some number count)))

pub summary_some : {S : Type 0} (m : Meaning S) (number count : ℕ) → drawn_summary m number count ≢ []
summary_some m number count = of_some number count (run m drawn_config (drawn_events m number count))

-- where memory ran out before, nothing of it was written
pub starved : {S : Type 0} (m : Meaning S) (number count : ℕ) (a : Option (List ℕ)) (r : Result (Unit {0}) GenError) (e : GenError)
    → r ≡ Err e → e ≡ NoMemory → WritesText a a (drawn_summary m number count) r
starved m number count a r e is none = rw (is, none) (prefix_nil a (drawn_summary m number count) (summary_some m number count))
