-- Two machines are the same where both of their parts are.
use Rattle.std.proofs.Common.{◌≡◌, ℕ, List, Bool, ap, ◌∙◌}
use Rattle.nop_types.specs.Machine.{Machine}
use Rattle.client_quorum.specs.Core as client
use Rattle.desk.specs.declared.desk_state.DeskState.{DeskState}
use Rattle.desk.specs.declared.submitter.Queued.{Queued}
use Rattle.desk.specs.declared.submitter.Submitter.{Submitter}

abbrev machine : Bool → client.Client → Machine client.Client
machine failed state = record { failed = failed; state = state }

pub same_machine : (a b : Machine client.Client) → a.failed ≡ b.failed → a.state ≡ b.state → a ≡ b
same_machine a b f s = ap (λ (x : Bool). machine x a.state) f ∙ ap (λ (c : client.Client). machine b.failed c) s

abbrev desk_of : Bool → List Submitter → List Queued → ℕ → Machine DeskState
desk_of failed cores queue taken = record { failed = failed; state = record { cores = cores; queue = queue; taken = taken } }

pub same_desk : (a b : Machine DeskState) → a.failed ≡ b.failed → a.state.cores ≡ b.state.cores → a.state.queue ≡ b.state.queue
    → a.state.taken ≡ b.state.taken → a ≡ b
same_desk a b f c q t =
    ap (λ (x : Bool). desk_of x a.state.cores a.state.queue a.state.taken) f
    ∙ ap (λ (x : List Submitter). desk_of b.failed x a.state.queue a.state.taken) c
    ∙ ap (λ (x : List Queued). desk_of b.failed b.state.cores x a.state.taken) q
    ∙ ap (λ (x : ℕ). desk_of b.failed b.state.cores b.state.queue x) t
