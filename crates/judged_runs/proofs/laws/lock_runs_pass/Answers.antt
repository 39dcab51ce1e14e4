use Rattle.nop_types.specs.Checkpoints.{KeepsTo}
use Rattle.lock_host.proofs.AnswerLemmas.{answers_are_bytes}
use Rattle.lock_host.specs.Service.{IsSound, lock_meaning}
use Rattle.lock_host.specs.Laws.{opens_sound, stays_sound, answers_short}
use Rattle.lock_host.specs.SavedLaws.{saves_short, loads_saved, loads_only}
use Rattle.judged_runs.proofs.Passing.{replayed_runs_pass}
use Rattle.judged_runs.proofs.laws.lock_runs_pass.Goals as goal

pub returns : goal.returns
returns c =
    let keeps : KeepsTo lock_meaning IsSound =
    record {
      opens = opens_sound;
      stays = stays_sound;
      short = answers_short;
      fits = saves_short;
      again = loads_saved;
      only = loads_only;
    } in
    replayed_runs_pass lock_meaning IsSound keeps answers_are_bytes
