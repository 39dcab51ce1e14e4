use Rattle.linearize.proofs.AsEver.{decides_as_ever}
use Rattle.linearize.proofs.laws.as_ever.Goals as goal

pub returns : goal.returns
returns g c m part_of most_parts most before left answer decides noted =
    decides_as_ever m part_of most_parts most before left answer decides noted
