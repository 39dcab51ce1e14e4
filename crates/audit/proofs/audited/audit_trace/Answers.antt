use Rattle.audit.proofs.Endings.{reads_write_nothing}
use Rattle.audit.proofs.Ends.{audit_ends, tells_read}
use Rattle.audit.proofs.audited.audit_trace.Goals as goal

pub returns-clause-ends : goal.returns-clause-ends
returns-clause-ends g c =
    let left = g.S.Source.left in
    let held = g.K.Sink.held in
    audit_ends g.H.Host.meaning (left c.args.source.now) (left c.read_trace-answer.new.source) (held c.args.sink.now)
    (held c.write_answer.new.sink) c.read_trace-answer.result c.write_answer.result c.read_trace-answer.ensures.read
    c.write_answer.ensures.concludes

pub returns-clause-reads : goal.returns-clause-reads
returns-clause-reads g c =
    let held = g.K.Sink.held in
    tells_read (g.S.Source.fault_count c.args.source.now) (g.S.Source.fault_count c.read_trace-answer.new.source) (held c.args.sink.now)
    (held c.write_answer.new.sink) c.read_trace-answer.result c.write_answer.result c.read_trace-answer.ensures.count
    c.write_answer.ensures.concludes

pub write_answer-requires : goal.write_answer-requires
write_answer-requires g c =
    let left = g.S.Source.left in
    reads_write_nothing g.H.Host.meaning (left c.args.source.now) (left c.read_trace-answer.new.source) c.read_trace-answer.result
    c.read_trace-answer.ensures.read
