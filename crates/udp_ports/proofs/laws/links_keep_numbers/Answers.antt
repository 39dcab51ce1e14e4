use Rattle.std.proofs.Common.{◌∙◌, ap}
use Rattle.nop_types.specs.declared.limits.TheConstants.{MAX_SERVED}
use Rattle.admission.specs.Registries.{Claims, none_noted, process_of}
use Rattle.admission.proofs.Noting.{told_keep, told_once}
use Rattle.udp_ports.proofs.laws.links_keep_numbers.Goals as goal

pub returns-clause-kept : goal.returns-clause-kept
returns-clause-kept c = λ own actors g ran a p told.
    ap (λ (r : Claims). process_of r.noted a) ran.noting ∙ told_keep (none_noted own.digest MAX_SERVED) ran.questions a p told

pub returns-clause-one : goal.returns-clause-one
returns-clause-one c = λ own actors g ran a p q told too.
    told_once (none_noted own.digest MAX_SERVED) ran.questions a p q told too
