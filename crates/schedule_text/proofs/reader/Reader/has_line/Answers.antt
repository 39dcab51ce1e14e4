use Rattle.schedule_text.proofs.Turns.{needs_no_read}
use Rattle.schedule_text.proofs.reader.Reader.has_line.Goals as goal

pub returns : goal.returns
returns c =
    let needs = needs_no_read c.self.inside.header c.self.inside.lines c.self.invariant.limit in
    rw (← c.self.view_is) (λ has. needs.0 (c.has_line.ensures.0 has), λ none. c.has_line.ensures.1 (needs.1 none))
