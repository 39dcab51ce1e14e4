use Rattle.std.proofs.Common.{sym, ◌∙◌, rules}
use Rattle.executor.proofs.UndoLemmas.{enters}
use Rattle.executor.proofs.moves.enter.Goals as goal

pub returns-in-Ok-clause-execution : goal.returns-in-Ok-clause-execution
returns-in-Ok-clause-execution g c =
    enters g.H.Host.meaning (g.H.Host.state c.args.host.now) c.args.table.now c.in-Req.request
    (g.H.Host.state c.apply.new.self) c.keep.new.self c.in_ok-answer.answer c.args.entry.now
    c.in-Req.is (sym c.takes.ensures ∙ c.if-not-takes.false)
    (search rules) (search rules) c.in-Ok.ensures.table
