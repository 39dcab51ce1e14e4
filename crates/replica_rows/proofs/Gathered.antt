-- A view starts with what was gathered, which is left then.
use Rattle.std.proofs.Common.{◌≡◌, ℕ, List, ◌++◌, Option, Some, None, Bool, true, false, refl, sym, ap, ◌∙◌}
use Rattle.std.specs.Prelude.{◌==◌}
use Rattle.nop_types.specs.declared.host.Host.{Ghosts}
use Rattle.nop_types.specs.declared.peer.Change.{Change}
use Rattle.nop_types.specs.declared.peer.Body.{Body}
use Rattle.nop_types.specs.declared.peer.Body.TheVariants as bodies
use Rattle.nop_types.specs.Logs.{Log, Trimmed}
use Rattle.nop_types.specs.Meaning.{Meaning}
use Rattle.nop_types.specs.Ranges.{ChangeFits}
use Rattle.executor.specs.Running.{Running}
use Rattle.view_change.specs.Gathering.{Gathering, change_added, change_sender}
use Rattle.view_change.specs.declared.starting.Step.TheVariants.{Started}
use Rattle.view_change.specs.declared.starting.Start.{Start}
use Rattle.replica_state.specs.declared.state.ReplicaState.{ReplicaState}
use Rattle.replica_state.specs.declared.sending.Sending.{Sending}
use Rattle.replica_state.specs.State.{max_faults}
use Rattle.replica_state.specs.Sends.{to_all_if}
use Rattle.replica_state.specs.Moves.{adopt, open_with}
use Rattle.replica_rows.specs.Gathering.{kept_by, step_by}
use Rattle.replica_state.specs.Within.{IsWithin}
use Rattle.replica_rows.specs.Within.{ChangeLoads, LogsLoad, Runs}
use Rattle.replica_rows.proofs.Opening.{Gathers, gathers}
use Rattle.replica_rows.proofs.Running.{with_changes}

-- what keeping a change leaves, where none are gathered, and where some are
pub keeps_none : (s : ReplicaState) (o : Option (Gathering Change)) (c : Change) → o ≡ None → s.changes ≡ None
    → record s { changes = o } ≡ kept_by s s.changes c
keeps_none s o c taken none =
    ap (λ (x : Option (Gathering Change)). record s { changes = x }) (taken ∙ sym none)
    ∙ ap (λ (x : Option (Gathering Change)). kept_by s x c) (sym none)

pub keeps_more : (s : ReplicaState) (g h : Gathering Change) (c : Change) → s.changes ≡ Some g → h ≡ change_added change_sender g c
    → record s { changes = Some h } ≡ kept_by s s.changes c
keeps_more s g h c is more =
    ap (λ (x : Gathering Change). record s { changes = Some x }) more
    ∙ ap (λ (x : Option (Gathering Change)). kept_by s x c) (sym is)

pub left_runs : {H U : Type 0} (host : Ghosts H U) (s t : ReplicaState) (x : Running H U) → t ≡ record s { changes = None }
    → Runs host s x → Runs host t x
left_runs host s t x is r = rw is (record {
  within = with_changes Trimmed s None r.within tt;
  loads = record { own = r.loads.own; gathered = tt };
  run = r.run;
})

to_all_left : (b : Bool) (s : ReplicaState) (o : Option (Gathering Change)) (body : Body)
    → to_all_if b (record s { changes = o }) body ≡ to_all_if b (record s { changes = None }) body
to_all_left true s o body = refl
to_all_left false s o body = refl

-- what was gathered has no part in how a view is opened
opens_left : {S : Type 0} (m : Meaning S) (s : ReplicaState) (o : Option (Gathering Change)) (n : ℕ) (l : Log)
    → open_with m Trimmed (record s { changes = o }) n l ≡ open_with m Trimmed (record s { changes = None }) n l
unfolding adopt
opens_left m s o n l =
    let t : ReplicaState = record s { changes = None } in
    ap (λ (sends : List Sending). ((adopt m Trimmed t t.view n l).0, sends ++ (adopt m Trimmed t t.view n l).1))
    (to_all_left (max_faults s == 0) s o (bodies.StartView n l))

pub gathers_taken : {S : Type 0} (m : Meaning S) (s t : ReplicaState) (o : Option (Gathering Change)) (c : Change) (start : Start)
    → o ≡ s.changes → IsWithin s → LogsLoad m s → ChangeFits c → ChangeLoads m c → t ≡ record s { changes = None }
    → step_by o c ≡ Started start → Gathers m s t c start
gathers_taken m s t None c start e w load fits one left step = absurd cc
gathers_taken m s t (Some g) c start e w load fits one left step =
    let k : ReplicaState = record s { changes = Some (change_added change_sender g c) } in
    let begun = gathers m s k (Some g) c start e w load fits one refl step in
    record {
      next = begun.next;
      log_fits = begun.log_fits;
      loads = begun.loads;
      row =
          begun.row
          ∙ opens_left m s (Some (change_added change_sender g c)) start.next start.log
          ∙ ap (λ (p : ReplicaState). open_with m Trimmed p start.next start.log) (sym left);
    }
