use Rattle.protocol_sync.proofs.Agreeing.{synchronised_begin}
use Rattle.protocol_sync.proofs.laws.synchronised_prefixes_begin.Goals as goal

pub returns : goal.returns
returns g c = synchronised_begin
