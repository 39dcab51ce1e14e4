use Rattle.nop_types.specs.Checkpoints.{KeepsTo}
use Rattle.audit.proofs.Sounding.{audit_says, passes_traces}
use Rattle.audit.proofs.audited.audit.Goals as goal

pub returns-clause-audited : goal.returns-clause-audited
returns-clause-audited g c =
    let keeps : KeepsTo g.H.Host.meaning g.H.Host.is_sound = search (g.met.H.Host) in
    let left = g.S.Source.left in
    let held = g.K.Sink.held in
    audit_says g.H.Host.meaning g.H.Host.is_sound keeps (left c.args.source.now) (left c.audit_trace.new.source) (held c.args.sink.now)
    (held c.audit_trace.new.sink) c.audit_trace.result c.audit_trace.ensures.ends

pub returns-clause-passes : goal.returns-clause-passes
returns-clause-passes g c =
    let left = g.S.Source.left in
    let held = g.K.Sink.held in
    passes_traces g.H.Host.meaning (left c.args.source.now) (left c.audit_trace.new.source) (held c.args.sink.now)
    (held c.audit_trace.new.sink) c.audit_trace.result c.audit_trace.ensures.ends
