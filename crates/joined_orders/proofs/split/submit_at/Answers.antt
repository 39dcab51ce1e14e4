use Rattle.std.proofs.Common.{inr}
use Rattle.joined_orders.proofs.split.submit_at.Goals as goal

pub returns-in-Accepted : goal.returns-in-Accepted
returns-in-Accepted c =
    let pair = c.requires.paired.submitted c.submit_of.result c.args.place c.submit_of.ensures in record {
      request = pair.request;
      submits = pair.submits;
      line = inr (pair.result, pair.accepts);
    }
