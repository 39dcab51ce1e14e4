use Rattle.lock_host.specs.Laws.{answers_limited}
use Rattle.lock_host.specs.SavedLaws.{saves_limited}
use Rattle.lock_host.specs.Tokens.{reached}
use Rattle.lock_host.proofs.TokenLemmas.{reached_sound}
use Rattle.lock_host.proofs.laws.answers_and_states_are_limited.Goals as goal

pub returns-clause-answers : goal.returns-clause-answers
returns-clause-answers c ops op = answers_limited (reached ops) op (reached_sound ops)

pub returns-clause-states : goal.returns-clause-states
returns-clause-states c ops = saves_limited (reached ops) (reached_sound ops)
