use Rattle.std.proofs.Common.{rules}
use Rattle.std.specs.Prelude.{not}
use Rattle.std.proofs.lemmas.Fn.{filter_same}
use Rattle.resending.specs.declared.flight.Sent.{Sent}
use Rattle.resending.specs.Flights.{is_taken}
use Rattle.resending.proofs.flight.take_out.Goals as goal

pub returns-clause-left : goal.returns-clause-left
returns-clause-left c =
    filter_same _ (λ (s : Sent). not (is_taken c.args.port c.args.ack.now s)) _ (λ x b f h. search rules) _ _ c.retain.ensures.filtered
