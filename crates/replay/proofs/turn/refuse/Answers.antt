use Rattle.replay.proofs.Texts.{refused_unwritten}
use Rattle.replay.proofs.turn.refuse.Goals as goal

pub returns-then-is_err-clause-refuses : goal.returns-then-is_err-clause-refuses
returns-then-is_err-clause-refuses g c =
    refused_unwritten (g.K.Sink.held c.args.sink.now) c.args.pending.now.items
    (record { line = c.args.line; rule = c.args.rule; index_sent = c.args.index_sent })
