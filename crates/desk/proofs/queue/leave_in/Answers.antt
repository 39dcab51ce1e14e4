use Rattle.std.proofs.Common.{◌==◌, rules}
use Rattle.std.specs.Prelude.{not}
use Rattle.std.proofs.lemmas.Fn.{filter_same}
use Rattle.desk.specs.declared.submitter.Queued.{Queued}
use Rattle.desk.proofs.queue.leave_in.Goals as goal

pub returns : goal.returns
returns c = filter_same _ (λ (q : Queued). not (q.ticket == c.args.ticket)) _ (λ x b f h. search rules) _ _ c.retain.ensures.filtered
