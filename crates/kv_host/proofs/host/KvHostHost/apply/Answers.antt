use Rattle.kv_host.proofs.ReadLemmas.{read_fits}
use Rattle.kv_host.proofs.host.KvHostHost.apply.Goals as goal

pub apply-requires : goal.apply-requires
apply-requires c = read_fits _ c.args.op.now c.read.ensures
