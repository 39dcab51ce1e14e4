use Rattle.std.proofs.Common.{◌≡◌, Ok, Err, refl, take, sym, arith}
use Rattle.std.proofs.lemmas.Bool.{and_parts}
use Rattle.nop_types.specs.Configuration.{is_configuration}
use Rattle.nop_types.specs.Headers.{gives}
use Rattle.schedule_text.specs.Rules.{header_of}
use Rattle.schedule_text.proofs.Fitting.{headers_fit}
use Rattle.schedule_text.proofs.Turns.{header_taken, header_refused, keeps_on}
use Rattle.schedule_text.proofs.reader.Reader.take_header.Goals as goal

pub invariant_of-self : goal.invariant_of-self
invariant_of-self c =
    let lines = c.self.inside.lines in
    let none = rw (← c.self.view_is) at c.requires.none in
    let opened = rw none at c.self.invariant.opened in
    let first = opened.0 refl in
    let fits = headers_fit c.text.result.now c.in-Ok.header (sym c.in-Ok.ensures) in
    keeps_on lines c.take.new.self c.in-Ok.header fits c.self.invariant.limit (omega (arith, first)) c.take.ensures.most c.take.ensures.line

pub returns-in-Ok-clause-form : goal.returns-in-Ok-clause-form
returns-in-Ok-clause-form c =
    let h = c.in-Ok.header in
    let fits = headers_fit c.text.result.now h (sym c.in-Ok.ensures) in
    (and_parts (gives h.form h.config) (is_configuration h.config) fits).0

pub returns-in-Ok-clause-answers : goal.returns-in-Ok-clause-answers
returns-in-Ok-clause-answers c =
    let lines = c.self.inside.lines in
    let took : header_of (take c.args.first.len lines.pending) ≡ Ok c.in-Ok.header = rw c.text.ensures at (sym c.in-Ok.ensures) in
    let first = rw (← c.self.view_is) at c.requires.first in
    let none = rw (← c.self.view_is) at c.requires.none in
    let opened = rw none at c.self.invariant.opened in
    rw (← c.self.view_is, none, c.take.ensures.line, c.take.ensures.pending, c.take.ensures.ended)
    (header_taken lines.line lines.pending lines.ended c.args.first first c.in-Ok.header (opened.0 refl) took)

pub returns-in-Err-clause-answers : goal.returns-in-Err-clause-answers
returns-in-Err-clause-answers c =
    let lines = c.self.inside.lines in
    let refused : header_of (take c.args.first.len lines.pending) ≡ Err c.in-Err.rule = rw c.text.ensures at (sym c.in-Err.ensures) in
    let first = rw (← c.self.view_is) at c.requires.first in
    let none = rw (← c.self.view_is) at c.requires.none in
    rw (c.bad_line.ensures, ← c.self.view_is, none)
    (header_refused lines.line lines.pending lines.ended c.args.first first c.in-Err.rule refused)
