use Rattle.desk.proofs.Runs.{answered_once}
use Rattle.desk.proofs.laws.answers_each_ticket_once.Goals as goal

pub returns : goal.returns
returns c = answered_once
