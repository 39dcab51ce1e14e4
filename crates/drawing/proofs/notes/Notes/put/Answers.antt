use Rattle.drawing.proofs.notes.Notes.put.Goals as goal

pub returns-in-Ok : goal.returns-in-Ok
returns-in-Ok c = record {
  failed = c.push.ensures.failed;
  notes = λ kept. record { note = c.in-Ok.note; mark_is = c.in-Ok.ensures; is = c.push.ensures.notes kept };
}
