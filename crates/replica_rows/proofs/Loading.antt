-- A message whose checkpoint does not load does nothing, and the merge of logs that load loads.
use Rattle.std.proofs.Common.{◌≡◌, ℕ, Bool, true, false, cond, List, [], ◌∷◌, Option, Some, None, refl, sym, ap, ◌∙◌}
use Rattle.std.specs.Prelude.{IfSome, is_some, option_map}
use Rattle.std.specs.List.{AllByRecursion}
use Rattle.nop_types.specs.CheckpointedLogs.{loads, loads_by}
use Rattle.nop_types.specs.Checkpoints.{Checkpoint}
use Rattle.nop_types.specs.Logs.{Keeping, Trimmed}
use Rattle.nop_types.specs.Meaning.{Meaning}
use Rattle.nop_types.specs.declared.peer.Change.{Change}
use Rattle.nop_types.specs.declared.peer.Peer.{Peer}
use Rattle.log_merge.specs.Merging.{precedes, better, best, merged_from, merged}
use Rattle.replica_state.specs.declared.state.ReplicaState.{ReplicaState}
use Rattle.replica_state.specs.Sends.{still, when}
use Rattle.replica_rows.specs.Messages.{PeerMessage, loads_in, on_message, arrive}
use Rattle.replica_rows.specs.Within.{ChangeLoads}

pub unloaded_rests : {S : Type 0} (m : Meaning S) (k : Keeping) (s : ReplicaState) (p : Peer) → loads_in m p.body ≡ false
    → arrive m k s (PeerMessage p) ≡ still s
unfolding arrive
unloaded_rests m k s p e = ap (λ (b : Bool). when b (on_message m k p) s) e

module _ {S : Type 0} (m : Meaning S) where
  either_loads : (b : Bool) (c d : Change) → ChangeLoads m c → ChangeLoads m d → ChangeLoads m (cond b c d)
  either_loads true c d h g = h
  either_loads false c d h g = g

  better_loads : (c : Change) (o : Option Change) → ChangeLoads m c → IfSome o (ChangeLoads m) → ChangeLoads m (better c o)
  better_loads c None h g = h
  better_loads c (Some d) h g = either_loads (precedes c d) c d h g

  best_loads : (cs : List Change) → AllByRecursion (ChangeLoads m) cs → IfSome (best cs) (ChangeLoads m)
  best_loads [] h = tt
  best_loads (c ∷ cs) h = better_loads c (best cs) h.0 (best_loads cs h.1)

  -- the merge of logs has the checkpoint of one of them
  pub merged_loads : (cs : List Change) → AllByRecursion (ChangeLoads m) cs → loads m (merged Trimmed cs) ≡ true
  merged_loads cs h = from (best cs) (best_loads cs h)
    where
      from : (o : Option Change) → IfSome o (ChangeLoads m) → loads m (merged_from Trimmed cs o) ≡ true
      from None g = refl
      from (Some c) g = g

-- ---- whether a checkpoint loads rests on the state of its host alone

some_mapped : {A B : Type 0} (f : A → B) (o : Option A) → is_some (option_map f o) ≡ is_some o
some_mapped f None = refl
some_mapped f (Some x) = refl

pub same_state_loads : {S : Type 0} (m : Meaning S) (c d : Option Checkpoint)
    → option_map (λ x. x.host) c ≡ option_map (λ x. x.host) d → loads_by m d ≡ true → loads_by m c ≡ true
same_state_loads m None d e h = refl
same_state_loads m (Some c) None e h = absurd cc
same_state_loads m (Some c) (Some d) e h =
    let same : c.host ≡ d.host = cc in
    some_mapped _ (m.loaded c.host)
    ∙ ap (λ (bytes : List ℕ). is_some (m.loaded bytes)) same ∙ sym (some_mapped _ (m.loaded d.host)) ∙ h
