use Rattle.std.proofs.Common.{◌≡◌, ◌-◌}
use Rattle.service_words.specs.Lines.{texts, translated}
use Rattle.service_words.specs.Translating.{Reads}
use Rattle.service_words.proofs.running.translate.Given as goal

abbrev pub invariant-loop-lines : goal.invariant-loop-lines
invariant-loop-lines g l = record {
  reads : Reads (translated (texts g.T.OpText.op_of g.T.OpText.words_of g.T.OpText.result_words g.R.ResultText.result_of) l.direction)
      (g.S.Source.left l.fn.source) (g.S.Source.left l.source) (g.K.Sink.held l.fn.sink) (g.K.Sink.held l.sink) l.lines;
  reads_count : g.S.Source.fault_count l.source ≡ g.S.Source.fault_count l.fn.source;
  writes_count : g.K.Sink.fault_count l.sink ≡ g.K.Sink.fault_count l.fn.sink;
}

abbrev pub decreases-loop-lines : goal.decreases-loop-lines
decreases-loop-lines g l = 4294967295 - l.lines.line
