use Rattle.oum_codec.proofs.Datagrams.{is_spelled}
use Rattle.oum_codec.proofs.laws.read_is_spelled.Goals as goal

pub returns : goal.returns
returns c = is_spelled
