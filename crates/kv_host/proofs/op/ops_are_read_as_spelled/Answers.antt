use Rattle.kv_host.specs.Reading.{read_spelled}
use Rattle.kv_host.proofs.ReadLemmas.{spelled_read}
use Rattle.kv_host.proofs.op.ops_are_read_as_spelled.Goals as goal

pub returns-clause-read : goal.returns-clause-read
returns-clause-read c = spelled_read

pub returns-clause-spelled : goal.returns-clause-spelled
returns-clause-spelled c = read_spelled
