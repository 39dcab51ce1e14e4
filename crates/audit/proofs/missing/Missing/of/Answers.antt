use Rattle.audit.proofs.Missings.{all_missing}
use Rattle.audit.proofs.missing.Missing.of.Goals as goal

pub returns : goal.returns
returns c = λ a count. all_missing c.args.gave c.requires a count
