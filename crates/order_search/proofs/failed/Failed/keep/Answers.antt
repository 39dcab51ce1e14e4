use Rattle.order_search.proofs.FailedLemmas.{keeps}
use Rattle.order_search.proofs.failed.Failed.keep.Goals as goal

pub returns : goal.returns
returns c =
    keeps c.args.self.now.kept.keys c.insert.new.self.keys c.args.configuration c.in_ok-insert.field-0 c.in_ok-insert.ensures.added
    c.in_ok-insert.ensures.keys
