use Rattle.std.proofs.Common.{None, Ok, Err}
use Rattle.std.proofs.lemmas.Result.{err_from_is_err_and}
use Rattle.schedule_text.specs.declared.next_error.NextError.TheVariants.{NoMemory}
use Rattle.schedule_text.specs.Reading.{opened, HasConfig}
use Rattle.schedule_text.proofs.Takings.{reads, takes, takes_from, then_takes, then_answers}
use Rattle.schedule_text.proofs.Turns.{no_event}
use Rattle.schedule_text.proofs.reader.Reader.next.Goals as goal

pub returns-in_err-config-clause-takes : goal.returns-in_err-config-clause-takes
returns-in_err-config-clause-takes g c =
    let p = err_from_is_err_and c.from_residual.result c.from_residual.ensures.1 in
    rw (p.1, p.2) c.in_err-config.ensures.takes

pub returns-in_err-config-clause-reads : goal.returns-in_err-config-clause-reads
returns-in_err-config-clause-reads g c =
    let p = err_from_is_err_and c.from_residual.result c.from_residual.ensures.1 in
    rw (p.1, p.2) c.in_err-config.ensures.reads

pub returns-in_err-reach_line-clause-takes : goal.returns-in_err-reach_line-clause-takes
returns-in_err-reach_line-clause-takes g c =
    let left = g.S.Source.left in
    let opens = takes_from c.args.self.now c.open.new.self (left c.args.source.now) (left c.open.new.source) (Err NoMemory)
    c.in_ok-config.ensures.takes c.in_ok-config.ensures.reads in
    let p = err_from_is_err_and c.from_residual-in_err-reach_line.result c.from_residual-in_err-reach_line.ensures.1 in
    rw (p.1, p.2) (takes c.args.self.now c.reach_line.new.self (left c.args.source.now) (left c.reach_line.new.source)
    (Err c.in_err-reach_line.field-0.0)
    (then_takes c.args.self.now c.open.new.self c.reach_line.new.self (Err c.in_err-reach_line.field-0.0)
    (left c.args.source.now) (left c.open.new.source) (left c.reach_line.new.source) opens c.in_err-reach_line.ensures.takes))

pub returns-in_err-reach_line-clause-reads : goal.returns-in_err-reach_line-clause-reads
returns-in_err-reach_line-clause-reads g c =
    let left = g.S.Source.left in
    let opens = takes_from c.args.self.now c.open.new.self (left c.args.source.now) (left c.open.new.source) (Err NoMemory)
    c.in_ok-config.ensures.takes c.in_ok-config.ensures.reads in
    let p = err_from_is_err_and c.from_residual-in_err-reach_line.result c.from_residual-in_err-reach_line.ensures.1 in
    rw (p.1, p.2) (reads c.args.self.now c.reach_line.new.self (left c.args.source.now) (left c.reach_line.new.source)
    (Err c.in_err-reach_line.field-0.0)
    (then_takes c.args.self.now c.open.new.self c.reach_line.new.self (Err c.in_err-reach_line.field-0.0)
    (left c.args.source.now) (left c.open.new.source) (left c.reach_line.new.source) opens c.in_err-reach_line.ensures.takes))

pub returns-in-None-clause-takes : goal.returns-in-None-clause-takes
returns-in-None-clause-takes g c =
    let left = g.S.Source.left in
    let opens = takes_from c.args.self.now c.open.new.self (left c.args.source.now) (left c.open.new.source) (Err NoMemory)
    c.in_ok-config.ensures.takes c.in_ok-config.ensures.reads in
    let now = c.reach_line.new.self in
    let reached = then_takes c.args.self.now c.open.new.self now (Err NoMemory) (left c.args.source.now) (left c.open.new.source)
    (left c.reach_line.new.source) opens c.in_ok-reach_line.ensures.takes in
    let at_end = rw c.in-None.is at c.in_ok-reach_line.ensures.first in
    let same = c.in_ok-reach_line.ensures.header in
    let opens_to : HasConfig now.header c.in_ok-config.config = rw same c.in_ok-config.ensures.config in
    (takes c.args.self.now now (left c.args.source.now) (left c.reach_line.new.source) (Ok None)
    (then_answers c.args.self.now now now (Ok None) (left c.args.source.now) (left c.reach_line.new.source) reached
    (no_event now (opened now.header c.in_ok-config.config) opens_to at_end.0 at_end.1)))

pub returns-in-None-clause-reads : goal.returns-in-None-clause-reads
returns-in-None-clause-reads g c =
    let left = g.S.Source.left in
    let opens = takes_from c.args.self.now c.open.new.self (left c.args.source.now) (left c.open.new.source) (Err NoMemory)
    c.in_ok-config.ensures.takes c.in_ok-config.ensures.reads in
    let now = c.reach_line.new.self in
    let reached = then_takes c.args.self.now c.open.new.self now (Err NoMemory) (left c.args.source.now) (left c.open.new.source)
    (left c.reach_line.new.source) opens c.in_ok-reach_line.ensures.takes in
    let at_end = rw c.in-None.is at c.in_ok-reach_line.ensures.first in
    let same = c.in_ok-reach_line.ensures.header in
    let opens_to : HasConfig now.header c.in_ok-config.config = rw same c.in_ok-config.ensures.config in
    (reads c.args.self.now now (left c.args.source.now) (left c.reach_line.new.source) (Ok None)
    (then_answers c.args.self.now now now (Ok None) (left c.args.source.now) (left c.reach_line.new.source) reached
    (no_event now (opened now.header c.in_ok-config.config) opens_to at_end.0 at_end.1)))

pub returns-in-Some-clause-takes : goal.returns-in-Some-clause-takes
returns-in-Some-clause-takes g c =
    let left = g.S.Source.left in
    let opens = takes_from c.args.self.now c.open.new.self (left c.args.source.now) (left c.open.new.source) (Err NoMemory)
    c.in_ok-config.ensures.takes c.in_ok-config.ensures.reads in
    let now = c.reach_line.new.self in
    let reached = then_takes c.args.self.now c.open.new.self now (Err NoMemory) (left c.args.source.now) (left c.open.new.source)
    (left c.reach_line.new.source) opens c.in_ok-reach_line.ensures.takes in
    (takes c.args.self.now c.take_event.new.self (left c.args.source.now) (left c.reach_line.new.source) c.take_event.result
    (then_answers c.args.self.now now c.take_event.new.self c.take_event.result (left c.args.source.now) (left c.reach_line.new.source)
    reached c.take_event.ensures.answers))

pub returns-in-Some-clause-reads : goal.returns-in-Some-clause-reads
returns-in-Some-clause-reads g c =
    let left = g.S.Source.left in
    let opens = takes_from c.args.self.now c.open.new.self (left c.args.source.now) (left c.open.new.source) (Err NoMemory)
    c.in_ok-config.ensures.takes c.in_ok-config.ensures.reads in
    let now = c.reach_line.new.self in
    let reached = then_takes c.args.self.now c.open.new.self now (Err NoMemory) (left c.args.source.now) (left c.open.new.source)
    (left c.reach_line.new.source) opens c.in_ok-reach_line.ensures.takes in
    (reads c.args.self.now c.take_event.new.self (left c.args.source.now) (left c.reach_line.new.source) c.take_event.result
    (then_answers c.args.self.now now c.take_event.new.self c.take_event.result (left c.args.source.now) (left c.reach_line.new.source)
    reached c.take_event.ensures.answers))
