-- A replica's first state is in its ranges.
use Rattle.std.proofs.Common.{◌≡◌, ℕ, Bool, true, false, cond, ◌<◌, ◌≤◌, None, refl, arith}
use Rattle.std.specs.Prelude.{IsTrue}
use Rattle.std.proofs.lemmas.Bool.Decides.{nat_tests}
use Rattle.nop_types.specs.declared.host.Host.{Ghosts}
use Rattle.nop_types.specs.declared.limits.TheConstants.{MAX_REPLICAS}
use Rattle.nop_types.specs.Logs.{Log, Keeping, Whole, Trimmed, empty, length_of}
use Rattle.nop_types.specs.Ranges.{LogIsIn}
use Rattle.nop_types.specs.Configuration.{Configuration, is_configuration}
use Rattle.lemmas.proofs.Limits.{is_configuration-few_replicas}
use Rattle.executor.specs.Running.{Running}
use Rattle.executor.specs.Undoing.{HasExecuted}
use Rattle.replica_state.specs.declared.state.ReplicaState.{ReplicaState}
use Rattle.replica_state.specs.State.{opening, leads, executed_to}
use Rattle.replica_rows.specs.Within.{Runs}
use Rattle.replica_state.specs.Within.{IsIn}

pub opens_within : (k : Keeping) (config : Configuration) (number : ℕ) → number < config.replicas → config.replicas ≤ MAX_REPLICAS
    → IsIn k (opening config number)
opens_within k config number there few = record {
  number = there;
  few = few;
  view = record { leader = omega arith; session = record { low = omega arith; high = omega arith } };
  last_normal = record { leader = omega arith; session = record { low = omega arith; high = omega arith } };
  log = empty_fits k;
  next = record { low = omega arith; high = omega arith };
  base = omega arith;
  start = omega (arith, empty_len k);
  receiver = λ normal. refl;
  gap = tt;
  points = refl;
  sync_point = omega arith;
  syncing = tt;
  prepared = omega arith;
  changes = tt;
}
  where
    empty_len : (k : Keeping) → length_of k empty ≡ 0
    empty_len Whole = refl
    empty_len Trimmed = refl

    empty_fits : (k : Keeping) → LogIsIn k empty
    empty_fits Whole = record { entries = tt; room = omega arith; limit = omega arith; point = omega arith; checkpoint = refl }
    empty_fits Trimmed =
        record { entries = tt; room = omega arith; limit = omega arith; point = omega arith; checkpoint = (grind (arith, nat_tests), tt) }

-- and nothing is to be executed
pub opens_executed : (config : Configuration) (number : ℕ) → executed_to Trimmed (opening config number) ≡ 0
opens_executed config number = at (leads (opening config number)) 0
  where
    at : (b : Bool) (n : ℕ) → cond b n n ≡ n
    at true n = refl
    at false n = refl

pub opens_running : {H U : Type 0} (host : Ghosts H U) (config : Configuration) (number : ℕ) (s : ReplicaState) (x : Running H U)
    → s ≡ opening config number → number < config.replicas → IsTrue (is_configuration config)
    → ((log : Log) → log.sync_point ≡ 0 → log.checkpoint ≡ None → HasExecuted host.state host.meaning host.undo_of log x) → Runs host s x
opens_running host config number s x is there limits run =
    rw is (record {
      within = opens_within Trimmed config number there (is_configuration-few_replicas config limits);
      loads = record { own = refl; gathered = tt };
      run = run empty refl refl;
    })
