use Rattle.std.proofs.Common.{◌≡◌, ℕ, ◌∙◌, [], ◌∷◌, ◌++◌, false, length, refl, sym, ap, subst}
use Rattle.picture.specs.declared.data.Row.{Row}
use Rattle.drawing.specs.Gathered.{AddsIf, ShowsAll, idle_mark, is_none, mark_of}
use Rattle.drawing.specs.declared.notes.Notes.{Notes}
use Rattle.drawing.specs.declared.recorder.Recorder.{Recorder}
use Rattle.drawing.proofs.Gathering.{shows_all}
use Rattle.drawing.proofs.recorder.Recorder.end.Goals as goal

pub returns-clause-row : goal.returns-clause-row
returns-clause-row g c =
    let row : Row = record {
      line = c.args.line;
      actor = c.args.turn.actor;
      event = c.in_ok-words.words;
      detail = c.in_ok-detail.detail;
      notes = c.in_ok-take.field-0;
    } in
    record {
      row = row;
      line_is = refl;
      actor_is = refl;
      words = c.in_ok-words.ensures;
      rows = c.in_ok-push.ensures.items
          ∙ ap (λ rows. rows.items ++ row ∷ []) (c.detail.ensures.rows
          ∙ (ap (λ (r : Recorder). r.picture.rows) c.fill.ensures.others ∙ ap (λ (r : Recorder). r.picture.rows) c.put_crash.ensures.others));
    }

pub returns-clause-notes : goal.returns-clause-notes
returns-clause-notes g c =
    let row : Row = record {
      line = c.args.line;
      actor = c.args.turn.actor;
      event = c.in_ok-words.words;
      detail = c.in_ok-detail.detail;
      notes = c.in_ok-take.field-0;
    } in
    let old = c.args.self.now in
    let crashed = c.put_crash.new.self in
    let filled = c.fill.new.self in
    let event = c.args.event.now in
    let turn = c.args.turn in
    let sent : length crashed.flights.items ≡ length old.flights.items =
    ap (λ (r : Recorder). length r.flights.items) c.put_crash.ensures.others in
    let kept : filled.notes.failed ≡ false = ap (λ (n : Notes). n.failed) (sym c.detail.ensures.notes) ∙ c.in_ok-take.ensures.failed in
    let shows : ShowsAll old.notes.written.items (mark_of event turn (length old.flights.items)) filled.notes.written.items =
    shows_all event turn (length old.flights.items) old.notes crashed.notes filled.notes c.put_crash.ensures.note
    (subst (λ (n : ℕ). AddsIf (is_none crashed.notes.written.items) crashed.notes filled.notes (idle_mark turn n)) sent c.fill.ensures.note)
    kept in
    record {
      row = row;
      rows = c.in_ok-push.ensures.items
          ∙ ap (λ rows. rows.items ++ row ∷ []) (c.detail.ensures.rows
          ∙ (ap (λ (r : Recorder). r.picture.rows) c.fill.ensures.others ∙ ap (λ (r : Recorder). r.picture.rows) c.put_crash.ensures.others));
      notes = subst (ShowsAll old.notes.written.items (mark_of event turn (length old.flights.items)))
          (sym (c.in_ok-take.ensures.all ∙ ap (λ (n : Notes). n.written.items) c.detail.ensures.notes)) shows;
    }
