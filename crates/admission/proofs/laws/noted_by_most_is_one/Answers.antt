use Rattle.admission.proofs.Noting.{most_note_one}
use Rattle.admission.proofs.laws.noted_by_most_is_one.Goals as goal

pub returns : goal.returns
returns c = most_note_one
