use Rattle.std.proofs.Common.{◌==◌, rules}
use Rattle.std.specs.Prelude.{not}
use Rattle.std.proofs.lemmas.Fn.{filter_same}
use Rattle.desk.specs.declared.submitter.OpenTicket.{OpenTicket}
use Rattle.desk.proofs.submitter.leave_in.Goals as goal

pub returns : goal.returns
returns c = filter_same _ (λ (h : OpenTicket). not (h.ticket == c.args.ticket)) _ (λ x b f h. search rules) _ _ c.retain.ensures.filtered
