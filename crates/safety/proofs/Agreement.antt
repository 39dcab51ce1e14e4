-- Replicas of the real world agree as the whole ones do.
use Rattle.std.proofs.Common.{◌≡◌, ℕ, ◌≤◌, Some, sym, ap, subst, ◌∙◌, take, List}
use Rattle.std.specs.Prelude.{map, slice_get, Option}
use Rattle.nop_types.specs.Lists.{IsPrefixOf, slot_of}
use Rattle.nop_types.specs.Meaning.{Meaning}
use Rattle.nop_types.specs.declared.request.Entry.{Entry}
use Rattle.replica_core.specs.ReplicaSteps.{Replica}
use Rattle.world.specs.Agreement.{Agreed}
use Rattle.world.specs.Archive.{with_archive}
use Rattle.world.specs.Seats.{Seated}
use Rattle.world.specs.WorldSteps.{WorldState, main_log, entry, log_of}
use Rattle.whole_world.specs.Whole as whole
use Rattle.whole_world.specs.Whole.{WholeReplica, WholeWorld}
use Rattle.safety.specs.Following.{plain, trimmed_seat}
use Rattle.safety.proofs.Replicas.{WholeSeat, whole_seat}

module _ {S : Type 0} (m : Meaning S) (t : WorldState) (w : WholeWorld) (alike : map plain t.replicas ≡ map (trimmed_seat m) w.replicas)
    (logs : (i : ℕ) (p : Seated Replica) (q : Seated WholeReplica) → slice_get t.replicas i ≡ Some p → slice_get w.replicas i ≡ Some q
    → with_archive t.archive p.state.state.log ≡ q.state.state.log.entries) where
  -- what the whole replica has
  record AsWhole (i : ℕ) (p : Seated Replica) : Type 0 where
    seat : Seated WholeReplica
    there : slice_get w.replicas i ≡ Some seat
    points : p.state.state.sync.sync_point ≡ seat.state.state.sync.sync_point
    log : with_archive t.archive p.state.state.log ≡ seat.state.state.log.entries
    at_slot : (slot : ℕ) → entry t i slot ≡ slot_of seat.state.state.log.entries slot

  as_whole : (i : ℕ) (p : Seated Replica) → slice_get t.replicas i ≡ Some p → AsWhole i p
  as_whole i p at =
      let x : WholeSeat m w.replicas i p = whole_seat m t.replicas w.replicas i p alike at in
      let same = logs i p x.seat at x.there in
      record {
        seat = x.seat;
        there = x.there;
        points = ap (λ (q : Seated WholeReplica). q.state.state.sync.sync_point) x.same;
        log = same;
        at_slot = λ slot. ap (λ (o : Option (Seated Replica)). slot_of (log_of t.archive o) slot) at
            ∙ ap (λ (es : List Entry). slot_of es slot) same;
      }

  pub agree : main_log t ≡ whole.main_log w → whole.Agreed w → Agreed t
  agree main agreed = record {
    pairs = λ i j slot a b x y low high. (let p = as_whole i a x in
        let q = as_whole j b y in
        p.at_slot slot
        ∙ agreed.pairs i j slot p.seat q.seat p.there q.there (subst (λ (n : ℕ). slot ≤ n) p.points low)
        (subst (λ (n : ℕ). slot ≤ n) q.points high) ∙ sym (q.at_slot slot));
    main = λ i a x. (let p = as_whole i a x in
        let prefix : take a.state.state.sync.sync_point (with_archive t.archive a.state.state.log)
        ≡ take p.seat.state.state.sync.sync_point p.seat.state.state.log.entries = λ k. take (p.points k) (p.log k) in
        subst (λ (es : List Entry). IsPrefixOf es (main_log t)) (sym prefix)
        (subst (λ (log : List Entry). IsPrefixOf (take p.seat.state.state.sync.sync_point p.seat.state.state.log.entries) log) (sym main)
        (agreed.main i p.seat p.there)));
  }
