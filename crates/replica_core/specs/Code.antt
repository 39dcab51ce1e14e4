-- The code of what a replica keeps, by which a proof tells its values apart.
use Rattle.std.specs.Prelude.{ℕ, List, Option, Bool, refl}
use Rattle.std.specs.Coded.{Coded, code_by, coded×, coded_ℕ, coded_list, coded_option, coded_bool}
use Rattle.nop_types.specs.Machine.{Machine}
use Rattle.fragments.specs.Parts.{Partial}
use Rattle.replica_state.specs.declared.state.ReplicaState.{ReplicaState}
use Rattle.replica_state.specs.contracts.state.ReplicaState as state
use Rattle.replica_core.specs.ReplicaSteps.{Replica}

abbrev pub partial_code : Coded Partial
partial_code =
    code_by (ℕ × List (Option (List ℕ))) (coded× coded_ℕ (coded_list (coded_option (coded_list coded_ℕ)))) (λ p. (p.number, p.parts))
    (λ p. record { number = p.0; parts = p.1 }) (λ _. refl)

abbrev pub replica_code : Coded Replica
replica_code =
    code_by (ReplicaState × (ℕ × List (List Partial))) (coded× state.the_row.coded (coded× coded_ℕ (coded_list (coded_list partial_code))))
    (λ r. (r.state, (r.messages, r.reassembly)))
    (λ p. record { state = p.0; messages = p.1.0; reassembly = p.1.1 })
    (λ _. refl)

abbrev pub machine_code : Coded (Machine Replica)
machine_code =
    code_by (Bool × Replica) (coded× coded_bool replica_code) (λ k. (k.failed, k.state)) (λ p. record { failed = p.0; state = p.1 })
    (λ _. refl)
