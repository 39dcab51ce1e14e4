use Rattle.std.proofs.Common.{◌∙◌, option_map}
use Rattle.nop_types.specs.Given.{given}
use Rattle.outside.proofs.Counts.{counts_none}
use Rattle.udp_node.specs.NodeRun.{first_inputs}
use Rattle.udp_node.specs.Sends.{side}
use Rattle.commands.specs.Nodes.{task_of}
use Rattle.commands.proofs.NodeLemmas.{ends_served, ends_in_line, ends_short, ends_broken, ends_writing, ends_without_memory, ends_in_last, end_is_no_fault}
use Rattle.commands.proofs.node.run_link.Goals as goal

pub returns-in-Ok-write_last-clause-run : goal.returns-in-Ok-write_last-clause-run
returns-in-Ok-write_last-clause-run g c =
    let k = task_of g.C.Core.next g.C.Core.is_done g.C.Core.timers (g.C.Core.state c.args.core.now) c.args.at.now
    (first_inputs (option_map given c.args.task.now.first)) c.args.task.now.turns c.args.task.now.waits c.args.task.now.trace in
    ends_served k (g.L.Link.answers c.args.link.now) (g.T.Clock.values c.args.clock.now) c.in-Ok.served c.end_status.result
    (side (g.L.Link.trace c.args.link.now) 0 (g.L.Link.loss_count c.args.link.now))
    (side (g.L.Link.trace c.serve.new.link) 0 (g.L.Link.loss_count c.serve.new.link))
    (g.K.Sink.held c.args.sink.now) (g.K.Sink.held c.serve.new.sink) (g.K.Sink.held c.write_last.new.sink)
    (rw c.copied-place.ensures at c.in-Ok.ensures.run) c.in-Ok-write_last.ensures.line c.end_status.ensures

pub returns-in-Ok-write_last-clause-last : goal.returns-in-Ok-write_last-clause-last
returns-in-Ok-write_last-clause-last g c =
    let k = task_of g.C.Core.next g.C.Core.is_done g.C.Core.timers (g.C.Core.state c.args.core.now) c.args.at.now
    (first_inputs (option_map given c.args.task.now.first)) c.args.task.now.turns c.args.task.now.waits c.args.task.now.trace in
    ends_in_last k (g.L.Link.loss_count c.args.link.now) (g.L.Link.loss_count c.serve.new.link) c.in-Ok.served
    (g.C.Core.state c.serve.new.core)
    (g.K.Sink.held c.args.sink.now) (g.K.Sink.held c.serve.new.sink) (g.K.Sink.held c.write_last.new.sink)
    c.in-Ok.ensures.turns c.in-Ok.ensures.spent c.in-Ok.ensures.lost c.in-Ok.ensures.done
    (rw c.copied-place.ensures at c.in-Ok.ensures.took) c.in-Ok-write_last.ensures.line
    c.end_status.result c.end_status.ensures

pub returns-in-Err-Failed-clause-run : goal.returns-in-Err-Failed-clause-run
returns-in-Err-Failed-clause-run g c =
    let k = task_of g.C.Core.next g.C.Core.is_done g.C.Core.timers (g.C.Core.state c.args.core.now) c.args.at.now
    (first_inputs (option_map given c.args.task.now.first)) c.args.task.now.turns c.args.task.now.waits c.args.task.now.trace in
    ends_in_line k (g.L.Link.answers c.args.link.now) (g.T.Clock.values c.args.clock.now) c.in-Ok.served
    (side (g.L.Link.trace c.args.link.now) 0 (g.L.Link.loss_count c.args.link.now))
    (side (g.L.Link.trace c.serve.new.link) 0 (g.L.Link.loss_count c.serve.new.link))
    (g.K.Sink.held c.args.sink.now) (g.K.Sink.held c.serve.new.sink) (g.K.Sink.held c.write_last.new.sink)
    (rw c.copied-place.ensures at c.in-Ok.ensures.run) (rw c.in-Err-Failed.field-0-is at c.in-Err-Failed.ensures.line)

pub returns-in-Err-NoMemory-write_last-clause-run : goal.returns-in-Err-NoMemory-write_last-clause-run
returns-in-Err-NoMemory-write_last-clause-run g c =
    let k = task_of g.C.Core.next g.C.Core.is_done g.C.Core.timers (g.C.Core.state c.args.core.now) c.args.at.now
    (first_inputs (option_map given c.args.task.now.first)) c.args.task.now.turns c.args.task.now.waits c.args.task.now.trace in
    ends_short k (g.L.Link.answers c.args.link.now) (g.T.Clock.values c.args.clock.now) c.in-Ok.served
    (side (g.L.Link.trace c.args.link.now) 0 (g.L.Link.loss_count c.args.link.now))
    (side (g.L.Link.trace c.serve.new.link) 0 (g.L.Link.loss_count c.serve.new.link))
    (g.K.Sink.held c.args.sink.now) (g.K.Sink.held c.serve.new.sink) (g.K.Sink.held c.write_last.new.sink)
    (rw c.copied-place.ensures at c.in-Ok.ensures.run)
    (rw c.in-Err-NoMemory-write_last.field-0-is at c.in-Err-NoMemory-write_last.ensures.line)

pub returns-in-Err-LinkFault-clause-run : goal.returns-in-Err-LinkFault-clause-run
returns-in-Err-LinkFault-clause-run g c =
    let k = task_of g.C.Core.next g.C.Core.is_done g.C.Core.timers (g.C.Core.state c.args.core.now) c.args.at.now
    (first_inputs (option_map given c.args.task.now.first)) c.args.task.now.turns c.args.task.now.waits c.args.task.now.trace in
    ends_broken k (g.L.Link.answers c.args.link.now) (g.T.Clock.values c.args.clock.now)
    (side (g.L.Link.trace c.args.link.now) 0 (g.L.Link.loss_count c.args.link.now))
    (side (g.L.Link.trace c.serve.new.link) 0 (g.L.Link.loss_count c.serve.new.link))
    (g.K.Sink.held c.args.sink.now) (g.K.Sink.held c.serve.new.sink)
    (rw (c.in-Err-LinkFault.field-0-is, c.copied-place.ensures) at c.in-Err-LinkFault.ensures.run)

pub returns-in-Err-WriteFault-clause-run : goal.returns-in-Err-WriteFault-clause-run
returns-in-Err-WriteFault-clause-run g c =
    let k = task_of g.C.Core.next g.C.Core.is_done g.C.Core.timers (g.C.Core.state c.args.core.now) c.args.at.now
    (first_inputs (option_map given c.args.task.now.first)) c.args.task.now.turns c.args.task.now.waits c.args.task.now.trace in
    ends_writing k (g.L.Link.answers c.args.link.now) (g.T.Clock.values c.args.clock.now)
    (side (g.L.Link.trace c.args.link.now) 0 (g.L.Link.loss_count c.args.link.now))
    (side (g.L.Link.trace c.serve.new.link) 0 (g.L.Link.loss_count c.serve.new.link))
    (g.K.Sink.held c.args.sink.now) (g.K.Sink.held c.serve.new.sink)
    (rw (c.in-Err-WriteFault.field-0-is, c.copied-place.ensures) at c.in-Err-WriteFault.ensures.run)

pub returns-in-Err-NoMemory-clause-run : goal.returns-in-Err-NoMemory-clause-run
returns-in-Err-NoMemory-clause-run g c =
    let k = task_of g.C.Core.next g.C.Core.is_done g.C.Core.timers (g.C.Core.state c.args.core.now) c.args.at.now
    (first_inputs (option_map given c.args.task.now.first)) c.args.task.now.turns c.args.task.now.waits c.args.task.now.trace in
    ends_without_memory k (g.L.Link.answers c.args.link.now) (g.T.Clock.values c.args.clock.now)
    (side (g.L.Link.trace c.args.link.now) 0 (g.L.Link.loss_count c.args.link.now))
    (side (g.L.Link.trace c.serve.new.link) 0 (g.L.Link.loss_count c.serve.new.link))
    (g.K.Sink.held c.args.sink.now) (g.K.Sink.held c.serve.new.sink)
    (rw (c.in-Err-NoMemory.field-0-is, c.copied-place.ensures) at c.in-Err-NoMemory.ensures.run)

pub returns-in-Ok-write_last-clause-writes : goal.returns-in-Ok-write_last-clause-writes
returns-in-Ok-write_last-clause-writes g c =
    counts_none _ _ _ (c.in-Ok-write_last.ensures.count.others (λ failed. cc) ∙ c.in-Ok.ensures.writes.others (λ failed. cc))
    (end_is_no_fault c.args.task.now.waits c.in-Ok.served.done c.end_status.result c.end_status.ensures).0

pub returns-in-Ok-write_last-clause-polls : goal.returns-in-Ok-write_last-clause-polls
returns-in-Ok-write_last-clause-polls g c =
    counts_none _ _ _ (c.in-Ok.ensures.polls.others (λ failed. cc))
    (end_is_no_fault c.args.task.now.waits c.in-Ok.served.done c.end_status.result c.end_status.ensures).1
