use Rattle.std.proofs.Common.{◌∙◌, add-one, Some, ap, Result, Ok, Err, OnOk}
use Rattle.transcript_reader.specs.Claims.{line_of}
use Rattle.judge.specs.Places.{place_in}
use Rattle.judge.proofs.GroundLemmas.{sees_submit, sees_accept}
use Rattle.judge.proofs.founded.see.Goals as goal

OnOk-then : {T E P Q : Type 0} (r : Result T E) → (P → Q) → OnOk r P → OnOk r Q
OnOk-then (Ok x) f h = f h
OnOk-then (Err e) f h = h

pub returns-in-Submitted : goal.returns-in-Submitted
returns-in-Submitted c =
    OnOk-then c.note.result (λ put lines line sees.
    rw (add-one c.args.place) (sees_submit lines c.args.place (place_in c.args.submitted.now) (place_in c.note.new.self)
    (place_in c.args.accepted.now) c.in-Submitted.request (line ∙ ap (λ t. Some (line_of t)) c.in-Submitted.is) put sees)) c.note.ensures

pub returns-in-Accepted : goal.returns-in-Accepted
returns-in-Accepted c =
    OnOk-then c.note-in-Accepted.result (λ put lines line sees.
    rw (add-one c.args.place) (sees_accept lines c.args.place (place_in c.args.submitted.now) (place_in c.args.accepted.now)
    (place_in c.note-in-Accepted.new.self) c.in-Accepted.client c.in-Accepted.id c.in-Accepted.result
    (line ∙ ap (λ t. Some (line_of t)) c.in-Accepted.is) put sees)) c.note-in-Accepted.ensures
