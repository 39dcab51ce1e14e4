use Rattle.std.proofs.Common.{Err}
use Rattle.schedule_text.specs.declared.next_error.NextError.TheVariants.{NoMemory}
use Rattle.schedule_text.specs.Stepping.{after_step}
use Rattle.schedule_text.proofs.Takings.{reads, takes, stays}
use Rattle.schedule_text.proofs.reader.Reader.open.Goals as goal

pub returns-in-Some-clause-takes : goal.returns-in-Some-clause-takes
returns-in-Some-clause-takes g c =
    let left = g.S.Source.left in
    takes c.args.self.now c.args.self.now (left c.args.source.now) (left c.args.source.now) (Err NoMemory)
    (stays c.args.self.now (left c.args.source.now))

pub returns-in-Some-clause-reads : goal.returns-in-Some-clause-reads
returns-in-Some-clause-reads g c =
    let left = g.S.Source.left in
    reads c.args.self.now c.args.self.now (left c.args.source.now) (left c.args.source.now) (Err NoMemory)
    (stays c.args.self.now (left c.args.source.now))

pub returns-clause-takes : goal.returns-clause-takes
returns-clause-takes g c =
    let left = g.S.Source.left in
    takes c.args.self.now c.read_header.new.self (left c.args.source.now) (left c.read_header.new.source)
    (after_step c.read_header.result) c.read_header.ensures.takes

pub returns-clause-reads : goal.returns-clause-reads
returns-clause-reads g c =
    let left = g.S.Source.left in
    reads c.args.self.now c.read_header.new.self (left c.args.source.now) (left c.read_header.new.source)
    (after_step c.read_header.result) c.read_header.ensures.takes
