use Rattle.lock_host.proofs.AnswerLemmas.{answers_are_bytes}
use Rattle.lock_host.proofs.laws.answers_are_bytes.Goals as goal

pub returns : goal.returns
returns c = answers_are_bytes
