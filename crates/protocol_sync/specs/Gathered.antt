-- What a view starts with, against what is synchronised of the changes that its leader gathered.
use Rattle.std.specs.Prelude.{◌≡◌, ◌≤◌, ◌<◌, ◌+◌, ◌*◌, ℕ, List, length, take}
use Rattle.nop_types.specs.PlainChanges as plain
use Rattle.nop_types.specs.declared.request.Entry.{Entry}
use Rattle.nop_types.specs.Lists.{Has, IsPrefixOf}
use Rattle.nop_types.specs.Meaning.{Meaning}
use Rattle.log_merge.specs.Starting.{start_of, start_point}
use Rattle.protocol.specs.Conf.{Conf}
use Rattle.protocol.specs.Invariant.{Inv}
use Rattle.protocol.specs.LocalState.{PlainGathering}
use Rattle.protocol.specs.Moves.{MayOpenView}
use Rattle.protocol_sync.specs.Synced.{Sync}

-- the log begins with what the change has up to its sync point
pub record BeginsWithSynced (log : List Entry) (x : plain.Change) : Type 0 where
  pub within : x.sync_point ≤ length x.log
  pub begins : IsPrefixOf (take x.sync_point x.log) log
  pub same : take x.sync_point log ≡ take x.sync_point x.log

-- so it is of each change, where the view may be opened
abbrev pub StartsBeginWithSynced : {S : Type 0} → Meaning S → Type 0
StartsBeginWithSynced m = (f : ℕ) (c : Conf) (r : ℕ) (g : PlainGathering) → Inv m f c → Sync f c → r < 2 * f + 1
    → MayOpenView (c.replicas r) g → (x : plain.Change) → Has g.changes x → BeginsWithSynced (start_of g.view g.changes).log x

-- and the start reaches its sync point
abbrev pub StartsReachTheirPoints : {S : Type 0} → Meaning S → Type 0
StartsReachTheirPoints m = (f : ℕ) (c : Conf) (r : ℕ) (g : PlainGathering) → Inv m f c → Sync f c → r < 2 * f + 1
    → MayOpenView (c.replicas r) g → start_point g.changes ≤ length (start_of g.view g.changes).log
