use Rattle.admission.proofs.Noting.{asks_note_nothing}
use Rattle.admission.proofs.laws.asking_leaves_no_trace.Goals as goal

pub returns : goal.returns
returns c = asks_note_nothing
