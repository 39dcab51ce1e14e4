use Rattle.std.proofs.Common.{◌≡◌, Ok, Err, take, arith}
use Rattle.schedule_text.specs.Reading.{opened}
use Rattle.schedule_text.specs.Rules.{event_of}
use Rattle.schedule_text.proofs.Turns.{event_fits, event_taken, event_refused, keeps_on}
use Rattle.schedule_text.proofs.reader.Reader.take_event.Goals as goal

pub take-requires-clause-fits : goal.take-requires-clause-fits
take-requires-clause-fits c =
    let lines = c.self.inside.lines in
    let took : event_of c.args.config lines.line (take c.args.first.len lines.pending) ≡ Ok c.in-Ok.event =
    rw (c.text.ensures, c.line-before.ensures.value) at c.in-Ok.ensures in
    let fits = event_fits c.args.config lines.line (take c.args.first.len lines.pending) c.in-Ok.event took in
    omega (arith, fits.0, c.self.invariant.limit)

pub invariant_of-self : goal.invariant_of-self
invariant_of-self c =
    let lines = c.self.inside.lines in
    let took : event_of c.args.config lines.line (take c.args.first.len lines.pending) ≡ Ok c.in-Ok.event =
    rw (c.text.ensures, c.line-before.ensures.value) at c.in-Ok.ensures in
    let fits = event_fits c.args.config lines.line (take c.args.first.len lines.pending) c.in-Ok.event took in
    let config = rw (← c.self.view_is) at c.requires.config in
    let within = rw config at c.self.invariant.within in
    rw config (keeps_on lines c.take.new.self (opened c.self.inside.header c.args.config) within c.self.invariant.limit fits.0
    c.take.ensures.most c.take.ensures.line)

pub returns-in-Ok-clause-answers : goal.returns-in-Ok-clause-answers
returns-in-Ok-clause-answers c =
    let lines = c.self.inside.lines in
    let took : event_of c.args.config lines.line (take c.args.first.len lines.pending) ≡ Ok c.in-Ok.event =
    rw (c.text.ensures, c.line-before.ensures.value) at c.in-Ok.ensures in
    let first = rw (← c.self.view_is) at c.requires.first in
    let config = rw (← c.self.view_is) at c.requires.config in
    rw (← c.self.view_is, config, c.take.ensures.line, c.take.ensures.pending, c.take.ensures.ended)
    (event_taken lines.line lines.pending lines.ended c.args.first first (opened c.self.inside.header c.args.config) c.in-Ok.event took)

pub returns-in-Err-Breaks-clause-answers : goal.returns-in-Err-Breaks-clause-answers
returns-in-Err-Breaks-clause-answers c =
    let lines = c.self.inside.lines in
    let refused : event_of c.args.config lines.line (take c.args.first.len lines.pending) ≡ Err c.in-Err-Breaks.rule =
    rw (c.text.ensures, c.line-before.ensures.value, c.in-Err-Breaks.field-0-is) at c.in-Err-Breaks.ensures in
    let first = rw (← c.self.view_is) at c.requires.first in
    let config = rw (← c.self.view_is) at c.requires.config in
    rw (c.bad_line.ensures, ← c.self.view_is, config, c.in-Err-Breaks.field-0-is)
    (event_refused lines.line lines.pending lines.ended c.args.first first (opened c.self.inside.header c.args.config)
    c.in-Err-Breaks.rule refused)
