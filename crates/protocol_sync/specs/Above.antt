-- A gap that waits is above what is synchronised and above the round under way, so a leader may tell what it has synchronised.
use Rattle.std.specs.Prelude.{◌≡◌, ◌<◌, ◌+◌, ◌*◌, ℕ, List, Some, take}
use Rattle.nop_types.specs.Configuration.{Configuration}
use Rattle.nop_types.specs.Meaning.{Meaning}
use Rattle.slot_votes.specs.Agreement.{Agreement}
use Rattle.slot_votes.specs.Synchronisation.{Round}
use Rattle.protocol.specs.Conf.{Conf, opening}
use Rattle.protocol.specs.Invariant.{Inv}
use Rattle.protocol.specs.LocalState.{LocalState}
use Rattle.protocol.specs.Moves.{MayLead}
use Rattle.protocol.specs.Runs.{Move, MayAll, run}
use Rattle.protocol.specs.Truth.{Prepared}
use Rattle.protocol_sync.specs.Synced.{Sync}

-- at one replica
pub record GapIsAbove (p : LocalState) : Type 0 where
  pub point : (g : Agreement) → p.gap ≡ Some g → p.sync.sync_point < g.slot
  pub round : (g : Agreement) (x : Round) → p.gap ≡ Some g → p.sync.syncing ≡ Some x → x.len < g.slot

-- so it is at each of 2 f + 1 replicas
abbrev pub GapsAreAbove : ℕ → Conf → Type 0
GapsAreAbove f c = (r : ℕ) → r < 2 * f + 1 → GapIsAbove (c.replicas r)

-- so it is in the opening, where no gap waits
abbrev pub GapsOpenAbove : Type 0
GapsOpenAbove = (f : ℕ) (config : Configuration) → GapsAreAbove f (opening config)

-- it stays so, whatever moves are made
abbrev pub GapsStayAbove : {S : Type 0} → Meaning S → Type 0
GapsStayAbove m = (f : ℕ) (c : Conf) (xs : List Move) → Inv m f c → Sync f c → GapsAreAbove f c → MayAll m f c xs
    → GapsAreAbove f (run m f c xs)

-- what a leader has synchronised it may tell: a NO-OP at its end is settled
abbrev pub SyncedIsPrepared : {S : Type 0} → Meaning S → Type 0
SyncedIsPrepared m = (f : ℕ) (c : Conf) (r : ℕ) → Inv m f c → Sync f c → GapsAreAbove f c → r < 2 * f + 1 → MayLead (c.replicas r)
    → Prepared f c r (c.replicas r).view (take (c.replicas r).sync.sync_point (c.replicas r).log)
