-- An observer of the code, as the rows have it: in place of the log that is known it keeps what that leaves, a host and a table.
use Rattle.std.specs.Prelude.{length, ◌≡◌, ◌≤◌, ◌<◌, ℕ, [], cond, nat_lt, option_map, Some, None, IfSome}
use Rattle.nop_types.specs.Checkpoints.{checkpoint_of}
use Rattle.nop_types.specs.Execution.{Executed, opening}
use Rattle.nop_types.specs.Logs.{Log}
use Rattle.nop_types.specs.Meaning.{Meaning}
use Rattle.nop_types.specs.Ranges.{LogFits}
use Rattle.nop_types.specs.declared.host.Host.{Ghosts}
use Rattle.nop_types.specs.declared.limits.TheConstants.{MAX_OBSERVERS}
use Rattle.executor.specs.Running.{execution}
use Rattle.observer.specs.Hearing.{Hearing}
use Rattle.observer.specs.ObserverSteps.{Observer}
use Rattle.observer.specs.Observing as observing
use Rattle.observer.specs.Observing.{Observing}
use Rattle.observer.specs.declared.told.Told.{Told}
use Rattle.observer.specs.declared.observer.ObserverParts.{ObserverParts}
use Rattle.observer.specs.declared.synced.SyncedHost.{SyncedHost}

abbrev pub candidate_of : Told → observing.Candidate
candidate_of c = record { view = c.view; log = c.log }

-- the log that was told last is in its ranges, and its sync point is not past the position
pub record ToldFits (at : ℕ) (c : Told) : Type 0 where
  pub log : LogFits c.log
  pub low : c.log.sync_point ≤ at

-- the trimmed log of as many slots that left this
abbrev pub log_of : {S : Type 0} → Meaning S → ℕ → Executed S → Log
log_of m n x = record { sync_point = n; checkpoint = cond (nat_lt 0 n) (Some (checkpoint_of m x)) None; entries = [] }

module _ {H U : Type 0} (host : Ghosts H U) where
  abbrev pub execution_in : SyncedHost H U → Executed host.State
  execution_in w = execution (host.state w.host) w.table

  abbrev pub observing_of : SyncedHost H U → Observing
  observing_of w = record {
    known = log_of host.meaning w.position (execution_in w);
    candidate = option_map candidate_of w.candidate;
  }

  pub record IsReady (w : SyncedHost H U) : Type 0 where
    pub sound : host.is_sound (host.state w.host)
    pub opens : w.position ≡ 0 → execution_in w ≡ opening host.meaning
    pub candidate : IfSome w.candidate (λ c. ToldFits w.position c)

  -- ---- with the fragments that wait

  abbrev pub hearing_of : ObserverParts H U → Hearing
  hearing_of n = record { state = observing_of n.synced; reassembly = n.reassembly }

  abbrev pub observer_of : ObserverParts H U → Observer
  observer_of n = record { config = n.config; number = n.number; heard = hearing_of n }

  pub record IsHearing (n : ObserverParts H U) : Type 0 where
    pub number : n.number < MAX_OBSERVERS
    pub synced : IsReady n.synced
    pub senders : length n.reassembly ≡ n.config.replicas
