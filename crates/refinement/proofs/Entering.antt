-- A view is entered.
use Rattle.std.proofs.Common.{◌≡◌, ℕ, Bool, true, false, refl}
use Rattle.nop_types.specs.declared.view.View.{View}
use Rattle.nop_types.specs.Meaning.{Meaning}
use Rattle.replica_state.specs.declared.state.ReplicaState.{ReplicaState}
use Rattle.replica_state.specs.State.{PointsMeet, leads}
use Rattle.replica_state.specs.Moves.{entered, enter_as, enter}
use Rattle.protocol.specs.Conf.{Conf}
use Rattle.protocol.specs.LocalState.{standing}
use Rattle.protocol.specs.Moves.{MayEnter}
use Rattle.protocol.specs.Runs.{Enter}
use Rattle.refinement.specs.Projection.{local_state_of}
use Rattle.refinement.specs.Replicas.{Matches, ReplicaReaches}
use Rattle.refinement.proofs.Parts.{Keeps}
use Rattle.refinement.proofs.Composing.{move_reaches}
use Rattle.refinement.proofs.Same.{enter_same}

meets_as : (b : Bool) (s : ReplicaState) (v : View) → PointsMeet s → PointsMeet (enter_as b (entered s v)).0
meets_as true s v points = points
meets_as false s v points = points

enter_meets : (s : ReplicaState) (v : View) → PointsMeet s → PointsMeet (enter s v).0
unfolding enter
enter_meets s v points = meets_as (leads (entered s v)) s v points

pub enter_reaches : {S : Type 0} (m : Meaning S) (f : ℕ) (c : Conf) (r : ℕ) (s : ReplicaState) (v : View) → Matches m f c r s
    → MayEnter c (local_state_of s) v → ReplicaReaches m f c r s (enter s v)
enter_reaches m f c r s v h may =
    move_reaches m f r c s (enter s v) (Enter v) h may (enter_same s v h.points) (enter_meets s v h.points)

-- what it changes

keeps_as : (b : Bool) (s : ReplicaState) (v : View) → Keeps (standing (local_state_of s)) (standing (local_state_of (enter_as b (entered s v)).0))
keeps_as true s v = record { last_normal = refl; next = refl; sync_point = refl; log = refl }
keeps_as false s v = record { last_normal = refl; next = refl; sync_point = refl; log = refl }

pub enter_keeps : (s : ReplicaState) (v : View) → Keeps (standing (local_state_of s)) (standing (local_state_of (enter s v).0))
unfolding enter
enter_keeps s v = keeps_as (leads (entered s v)) s v

view_as : (b : Bool) (s : ReplicaState) → (enter_as b s).0.view ≡ s.view
view_as true s = refl
view_as false s = refl

pub entered_view : (s : ReplicaState) (v : View) → (enter s v).0.view ≡ v
unfolding enter
entered_view s v = view_as (leads (entered s v)) (entered s v)
