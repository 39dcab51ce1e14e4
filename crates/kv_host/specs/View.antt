-- An op of the code without where it lies in memory.
use Rattle.kv_host.specs.declared.op.KvOp.{KvOp}
use Rattle.kv_host.specs.declared.op.KvOp.TheVariants as code
use Rattle.kv_host.specs.Op.{Op, Get, Put, Delete, Swap, Bad}

abbrev pub op_of : KvOp → Op
op_of (code.Get key) = Get key.now
op_of (code.Put key value) = Put key.now value.now
op_of (code.Delete key) = Delete key.now
op_of (code.Swap key old new) = Swap key.now old.now new.now
op_of code.Bad = Bad
