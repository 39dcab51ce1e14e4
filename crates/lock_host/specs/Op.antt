-- The ops of the lock service, and how their bytes are read.
use Rattle.std.specs.Prelude.{ℕ, List, [], ◌∷◌, Option, Some, None, unwrap_or, ◌==◌, if◌then◌else◌}
use Rattle.saved_fields.specs.Lists.{◌>>=◌}
use Rattle.saved_fields.specs.Numbers.{number_at}
use Rattle.lock_host.specs.declared.op.TheConstants.{ACQUIRE, RELEASE, INSPECT}
use Rattle.lock_host.specs.declared.op.LockOp.{LockOp}
use Rattle.lock_host.specs.declared.op.LockOp.TheVariants.{Acquire, Release, Inspect, Bad}
use Rattle.lock_host.specs.Fields.{name_at}

-- the op, where nothing follows
abbrev pub at_end : List ℕ → LockOp → Option LockOp
at_end [] op = Some op
at_end (b ∷ bytes) op = None

unfoldable pub read_acquire : List ℕ → Option LockOp
read_acquire bytes = do
  name ← name_at bytes
  owner ← name_at name.1
  at_end owner.1 (Acquire name.0 owner.0)

unfoldable pub read_release : List ℕ → Option LockOp
read_release bytes = do
  name ← name_at bytes
  owner ← name_at name.1
  token ← number_at owner.1
  at_end token.1 (Release name.0 owner.0 token.0)

unfoldable pub read_inspect : List ℕ → Option LockOp
read_inspect bytes = do
  name ← name_at bytes
  at_end name.1 (Inspect name.0)

-- the fields of an op of this kind
abbrev pub read_fields : ℕ → List ℕ → Option LockOp
read_fields kind bytes =
    if kind == ACQUIRE then read_acquire bytes
    else if kind == RELEASE then read_release bytes
    else if kind == INSPECT then read_inspect bytes
    else None

-- the op that the bytes spell: its kind in a byte, its fields, and nothing after them
unfoldable pub read_op : List ℕ → LockOp
read_op [] = Bad
read_op (kind ∷ bytes) = unwrap_or (read_fields kind bytes) Bad
