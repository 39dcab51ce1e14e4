use Rattle.std.proofs.Common.{◌∙◌, sym}
use Rattle.service_tool.specs.Outputs.{outputs}
use Rattle.service_tool.proofs.ReplLemmas.{took_blank, took_line}
use Rattle.service_tool.proofs.repl.take_line.Goals as goal

pub returns-then-is_empty-clause-takes : goal.returns-then-is_empty-clause-takes
returns-then-is_empty-clause-takes g c = λ none.
    took_blank g.T.OpText.op_of g.T.OpText.result_words c.args.tool.now c.args.manner.slot c.args.line.now c.args.session.now.core.state
    c.args.session.now.ended (g.K.Sink.held c.args.out.now) (g.E.Sink.held c.args.err.now)
    (sym c.is_empty.ensures ∙ c.if-is_empty.true) none

pub returns-clause-takes : goal.returns-clause-takes
returns-clause-takes g c = λ none.
    let o = outputs (g.K.Sink.held c.args.out.now) (g.K.Sink.held c.take_words.new.out) (g.E.Sink.held c.args.err.now)
    (g.E.Sink.held c.take_words.new.err) in
    took_line g.T.OpText.op_of g.T.OpText.result_words c.args.tool.now c.args.manner.slot c.args.line.now c.args.session.now.core.state
    c.take_words.new.session.core.state c.args.session.now.ended c.take_words.new.session.ended o c.take_words.result
    (sym c.is_empty.ensures ∙ c.if-is_empty.false) none (rw (c.as_slice.ensures, c.in_ok-words.ensures) at c.take_words.ensures.takes)
