-- A replica's first state is ready for a step.
use Rattle.std.proofs.Common.{◌≡◌, ℕ, ap, ◌∙◌, sym, [], length}
use Rattle.std.proofs.lemmas.List.{length-replicate}
use Rattle.nop_types.specs.declared.host.Host.{Ghosts}
use Rattle.nop_types.specs.Configuration.{Configuration}
use Rattle.nop_types.specs.Logs.{Trimmed}
use Rattle.executor.specs.Running.{reached}
use Rattle.fragments.specs.Joining as joining
use Rattle.replica_state.specs.declared.state.ReplicaState.{ReplicaState}
use Rattle.replica_state.specs.State.{opening, executed_to}
use Rattle.replica_rows.specs.Within.{IsRunning}
use Rattle.replica_core.specs.declared.replica.ReplicaParts.{ReplicaParts}
use Rattle.replica_core.specs.Within.{IsReady}

pub opens_ready : {H U : Type 0} (host : Ghosts H U) (config : Configuration) (number : ℕ) (n : ReplicaParts H U) (k : ℕ)
    → n.member.state ≡ opening config number → IsRunning host n.member
    → reached n.member.executor ≡ executed_to Trimmed n.member.state → n.member.sends ≡ [] → n.reassembly ≡ joining.opening k
    → k ≡ config.replicas → IsReady host n
opens_ready host config number n k is runs executed nothing all count = record {
  runs = runs;
  executed = executed;
  nothing = nothing;
  senders = ap length all ∙ length-replicate k [] ∙ count ∙ ap (λ (t : ReplicaState). t.config.replicas) (sym is);
}
