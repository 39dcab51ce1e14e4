use Rattle.std.proofs.Common.{◌≡◌, ◌-◌}
use Rattle.std.specs.Prelude.{None}
use Rattle.service_words.specs.declared.limits.TheConstants.{MAX_TEXT_LINES}
use Rattle.service_tool.specs.Outputs.{NoFault, faults, outputs}
use Rattle.service_tool.specs.Statuses.{IsOfCall}
use Rattle.service_tool.proofs.ReplLemmas.{Progress}
use Rattle.service_tool.proofs.repl.take_lines.Given as goal

abbrev pub invariant-loop-first : goal.invariant-loop-first
invariant-loop-first g l = record {
  most : l.lines.most ≡ MAX_TEXT_LINES;
  so_far : Progress g.T.OpText.op_of g.T.OpText.result_words l.tool l.manner.slot (g.S.Source.left l.initial.source)
      (g.S.Source.left l.source) l.initial.session.core.state l.session.core.state
      (outputs (g.K.Sink.held l.initial.out) (g.K.Sink.held l.out) (g.E.Sink.held l.initial.err) (g.E.Sink.held l.err)) l.lines l.status;
  has_not_ended : l.session.ended ≡ None;
  faults : NoFault (faults (g.K.Sink.fault_count l.initial.out) (g.K.Sink.fault_count l.out) (g.E.Sink.fault_count l.initial.err)
      (g.E.Sink.fault_count l.err));
  status : IsOfCall l.status;
  source : g.S.Source.fault_count l.source ≡ g.S.Source.fault_count l.initial.source;
}

abbrev pub decreases-loop-first : goal.decreases-loop-first
decreases-loop-first g l = 4294967295 - l.lines.line
