use Rattle.protocol_sync.proofs.Agreeing.{synchronised_prefixes_agree}
use Rattle.protocol_sync.proofs.laws.synchronised_prefixes_agree.Goals as goal

pub returns : goal.returns
returns g c = synchronised_prefixes_agree
