-- What a check answers of what a run wrote.
use Rattle.std.specs.Prelude.{ℕ, List, ◌++◌, Option, Some, Result, Ok, Err, ⊤}
use Rattle.judge.specs.Checking.{IsChecked, IsTallyOf, PassesLegal}
use Rattle.judge.specs.declared.tally.Tally.{Tally}
use Rattle.nop_types.specs.Meaning.{Meaning}
use Rattle.replay.specs.Outcome.{EndsWith}
use Rattle.replay.specs.Safety.{RunsSafely}
use Rattle.transcript_reader.specs.declared.check_error.CheckError.{CheckError}
use Rattle.transcript_reader.specs.declared.check_error.CheckError.TheVariants as errors
use Rattle.world.specs.WorldSteps.{Happened, history}
use Rattle.judged_runs.specs.Runs.{HasRoom}

-- it passes, with the run's lines that submit and accept and the members of its history; or a read failed, or memory ran out
abbrev pub PassesRun : Happened → Result Tally CheckError → Type 0
PassesRun h (Ok tally) = IsTallyOf h.lines (history h.world) tally
PassesRun h (Err (errors.Refuted line clause)) = ⊥
PassesRun h (Err errors.ReadFault) = ⊤
PassesRun h (Err errors.NoMemory) = ⊤

-- let `replay` end at Ok, with its clauses `ends` and `safe`, and no line too many; then so of whatever a check of the bytes that it
-- wrote answers, by the clauses `checked` and `passes` of `check`
abbrev pub RunsPass : {S : Type 0} → Meaning S → Type 0
RunsPass m = (bytes before text : List ℕ) (left : Option (List ℕ)) (done : Unit {0})
    → EndsWith m (Some bytes) left (Some before) (Some (before ++ text)) (Ok done)
    → (ran : RunsSafely m bytes) → HasRoom text
    → (rest : Option (List ℕ)) (r : Result Tally CheckError) → IsChecked m (Some text) rest r → PassesLegal m (Some text) r
    → PassesRun ran.happened r
