use Rattle.std.proofs.Common.{◌+◌, length, refl, inl}
use Rattle.outside.proofs.Counts.{counts_none}
use Rattle.commands.proofs.AnswerLemmas.{no_answers}
use Rattle.commands.proofs.AuditLemmas.{never_refuted, unaudited}
use Rattle.commands.proofs.CheckLemmas.{unchecked}
use Rattle.commands.proofs.ClusterLemmas.{not_served}
use Rattle.commands.proofs.CommandLemmas.{no_drawing, no_prefix, no_usage, not_begun}
use Rattle.one_box.specs.Showing.{links_of}
use Rattle.commands.specs.Nodes.{ports_of}
use Rattle.commands.specs.Words.{asked}
use Rattle.commands.proofs.running.run.Goals as goal

pub returns-in-Err-clause-replay : goal.returns-in-Err-clause-replay
returns-in-Err-clause-replay g c = λ is. no_prefix g.H.Host.meaning (g.S.Source.left c.args.source.now) (g.K.Sink.held c.args.sink.now)

pub returns-in-Err-clause-usage : goal.returns-in-Err-clause-usage
returns-in-Err-clause-usage g c = λ refused. no_usage c.args.program.now (g.K.Sink.held c.args.sink.now)

pub returns-in-Err-clause-check : goal.returns-in-Err-clause-check
returns-in-Err-clause-check g c = λ is. unchecked g.H.Host.meaning (g.S.Source.left c.args.source.now) (g.K.Sink.held c.args.sink.now)

pub returns-in-Err-clause-audit : goal.returns-in-Err-clause-audit
returns-in-Err-clause-audit g c = λ is. unaudited g.H.Host.meaning (g.S.Source.left c.args.source.now) (g.K.Sink.held c.args.sink.now)

pub returns-in-Err-clause-audited : goal.returns-in-Err-clause-audited
returns-in-Err-clause-audited g c = λ is. never_refuted g.H.Host.meaning (g.S.Source.left c.args.source.now)

pub returns-in-Err-clause-ends : goal.returns-in-Err-clause-ends
returns-in-Err-clause-ends g c =
    let ports = ports_of g.P.Ports c.args.ports.now c.args.ports.now in
    let values = g.C.Clock.values c.args.clock.now in
    let held = g.K.Sink.held c.args.sink.now in record {
      drawing = no_drawing g.H.Host.meaning (asked c.args.words.now) held;
      node = not_begun g.H.Host.meaning (links_of g.P.L.Link) ports values (asked c.args.words.now) held refl;
      cluster = not_served g.H.Host.meaning (links_of g.P.L.Link) ports values (asked c.args.words.now) held;
      client = no_answers (asked c.args.words.now) held;
      back = λ is. refl {a = ports.attached_before + length ports.before};
      attaches = λ other. refl {a = ports.faults_before};
      reads = inl (refl {a = g.S.Source.fault_count c.args.source.now});
      writes = counts_none (g.K.Sink.fault_count c.args.sink.now) _ _ refl (λ is. cc);
    }
