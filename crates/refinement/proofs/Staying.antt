-- Steps that stay in the view of a replica.
use Rattle.std.proofs.Common.{◌≡◌, ℕ, ◌+◌, ◌*◌, true, Option, None, Some, refl, List, [], ◌∷◌, ◌++◌}
use Rattle.std.specs.Prelude.{not}
use Rattle.nop_types.specs.Meaning.{Meaning}
use Rattle.nop_types.specs.Views.{leader_of}
use Rattle.nop_types.specs.declared.replica_state.Phase.{Phase}
use Rattle.nop_types.specs.declared.replica_state.Phase.TheVariants.{Normal, Change}
use Rattle.nop_types.specs.declared.request.Entry.{Entry}
use Rattle.slot_votes.specs.Agreement.{Agreement}
use Rattle.started_views.specs.Past.{Standing}
use Rattle.replica_state.specs.declared.state.ReplicaState.{ReplicaState}
use Rattle.replica_state.specs.State.{is_normal, waits}
use Rattle.protocol.specs.Conf.{Conf}
use Rattle.protocol.specs.LocalState.{standing}
use Rattle.refinement.specs.Projection.{local_state_of}
use Rattle.refinement.specs.Replicas.{Matches}
use Rattle.refinement.proofs.Matching.{base_within}
use Rattle.refinement.proofs.Parts.{Stays, started_with_more}

pub normal_from : (p : Phase) → is_normal p ≡ true → p ≡ Normal
normal_from Normal e = refl
normal_from Change e = absurd cc

pub no_gap_from : (g : Option Agreement) → not (waits g) ≡ true → g ≡ None
no_gap_from None e = refl
no_gap_from (Some g) e = absurd cc

-- an entry more
pub append_stays : {S : Type 0} (m : Meaning S) (f : ℕ) (c : Conf) (r : ℕ) (s : ReplicaState) (x : Entry) → Matches m f c r s
    → Stays f r (standing (local_state_of s)) (record (standing (local_state_of s)) { next = s.next + 1; log = s.log.entries ++ x ∷ [] })
append_stays m f c r s x h = record {
  view = refl;
  last_normal = refl;
  start = λ e. started_with_more (standing (local_state_of s)) x (base_within m f c r s h e);
}

-- whatever a follower logs
pub follower_stays : (f r : ℕ) (a : Standing) (next point : ℕ) (l : List Entry) → (r ≡ leader_of a.last_normal (2 * f + 1) → ⊥)
    → Stays f r a (record a { next = next; sync_point = point; log = l })
follower_stays f r a next point l follows = record { view = refl; last_normal = refl; start = λ e. absurd (follows e) }
