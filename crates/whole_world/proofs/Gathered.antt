-- The changes that a leader gathers agree, where the protocol matches its state.
use Rattle.std.proofs.Common.{◌≡◌, ◌<◌, ℕ, List, length, map, take, true, Some, refl, sym, ap, subst, ◌∙◌}
use Rattle.std.specs.Prelude.{option_map}
use Rattle.std.proofs.lemmas.List.{length-map}
use Rattle.nop_types.specs.Lists.{Has, IsPrefixOf}
use Rattle.nop_types.specs.Logs.{IsWithin, Whole}
use Rattle.nop_types.specs.Meaning.{Meaning}
use Rattle.nop_types.specs.PlainChanges as plains
use Rattle.nop_types.specs.PlainChanges.{plain}
use Rattle.nop_types.specs.Views.{is_view}
use Rattle.nop_types.specs.declared.peer.Change.{Change}
use Rattle.nop_types.specs.declared.view.View.{View}
use Rattle.lemmas.proofs.Members.{Has-from_filter}
use Rattle.log_merge.specs.Merge.{merge}
use Rattle.log_merge.specs.Merging.{kept_changes, merge_above}
use Rattle.log_merge.specs.Starting.{greatest, kept}
use Rattle.log_merge.proofs.WholeLogs.{kept_is_plain}
use Rattle.view_change.specs.Gathering.{Gathering, change_added, change_sender}
use Rattle.replica_state.specs.declared.state.ReplicaState.{ReplicaState}
use Rattle.replica_state.specs.Moves.{keep_change}
use Rattle.replica_state.specs.Sends.{Effect}
use Rattle.replica_state.specs.State.{is_other}
use Rattle.replica_rows.specs.Rows.{view_change_request}
use Rattle.trimming.proofs.Merging.{agree_from_prefixes, merged_within}
use Rattle.protocol.specs.Conf.{Conf, DidSay}
use Rattle.protocol.specs.LocalState.{LocalState}
use Rattle.protocol.specs.Runs.{KeepChange, run}
use Rattle.protocol.specs.Said.{ViewChange, says}
use Rattle.protocol.proofs.Runs.{run_keeps}
use Rattle.protocol_sync.proofs.Gathered.{starts_begin_with_synced}
use Rattle.refinement.specs.Projection.{local_state_of, plain_gathering}
use Rattle.refinement.specs.Replicas.{Matches}
use Rattle.refinement.proofs.Composing.{matches_end, move_reaches}
use Rattle.refinement.proofs.EnteringRows.{view_change_request_reaches}
use Rattle.refinement.proofs.Gatherings.{counted_plain}
use Rattle.refinement.proofs.Matching.{own}
use Rattle.refinement.proofs.RoleRows.{other_from}
use Rattle.trimmed_rows.specs.Premises.{Opens}
use Rattle.whole_world.proofs.Mapped.{Has-map}

-- of logs that are kept whole the merge is the plain one
merge_is_plain : (cs : List Change) → merge (kept (map plain cs)) ≡ merge_above Whole 0 (kept_changes cs)
merge_is_plain cs = ap merge (sym (kept_is_plain cs))

-- a change that is kept was told
was_sent : (cs : List Change) (x : Change) → Has (kept_changes cs) x → Has (map plain cs) (plain x)
was_sent cs x i = Has-map plain cs x (Has-from_filter (λ c. is_view c.last_normal (greatest (map plain cs))) x cs i).0

module _ {S : Type 0} (m : Meaning S) (f : ℕ) (c : Conf) (r : ℕ) (s : ReplicaState) (h : Matches m f c r s) where
  module _ (g : Gathering Change) (gathers : s.changes ≡ Some g) where
    abbrev plainly : Gathering plains.Change
    plainly = plain_gathering g

    -- the protocol has them with plain logs
    gathers_plainly : option_map plain_gathering s.changes ≡ Some plainly
    gathers_plainly = ap (option_map plain_gathering) gathers

    -- each was entered with, so its sync point is within its log
    pub gathered_within : (x : Change) → Has g.changes x → IsWithin x.log
    gathered_within x i =
        let entry = ((own m f c r s h).changes.gathers plainly gathers_plainly).entries (plain x) (Has-map plain g.changes x i) in
        (h.sync.points.entries x.sender s.view _ entry).agrees.same.left

    pub gathered_open : Opens g
    gathered_open enough =
        let here : (c.replicas r).changes ≡ Some plainly = ap (λ (p : LocalState). p.changes) h.state ∙ gathers_plainly in
        let many : g.f < length (map plain g.changes) = subst (λ (n : ℕ). g.f < n) (sym (length-map g.changes plain)) enough in
        let prefix = λ (x : Change) (i : Has (kept_changes g.changes) x). starts_begin_with_synced m f c r plainly h.inv h.sync h.within
        (record { gathers = here; enough = many }) (plain x) (was_sent g.changes x i) in
        record {
          agree = agree_from_prefixes (kept_changes g.changes) (λ x i. (
            let t = prefix x i in t.within,
            let t = prefix x i in
                subst (IsPrefixOf (take x.log.sync_point x.log.entries)) (merge_is_plain g.changes) t.begins,
          ));
          within = merged_within (kept_changes g.changes) (λ x i. let t = prefix x i in t.within);
        }

-- also with a change more, which another replica told
pub with_change_opens : {S : Type 0} (m : Meaning S) (f : ℕ) (c : Conf) (r : ℕ) (s : ReplicaState) (v : View) (x : Change)
    (g : Gathering Change) → Matches m f c r s → is_other s x.sender ≡ true
    → DidSay c.said x.sender v (ViewChange x.last_normal x.next x.log.sync_point x.log.entries)
    → (view_change_request m Whole v s).0.view ≡ v → (view_change_request m Whole v s).0.changes ≡ Some g
    → Opens (change_added change_sender g x)
with_change_opens m f c r s v x g h other said view gathers =
    let e : Effect = view_change_request m Whole v s in
    let given = h.inv.said_views (says x.sender v (ViewChange x.last_normal x.next x.log.sync_point x.log.entries)) said in
    let one = view_change_request_reaches m f r c s v h given in
    let d : Conf = run m f c one.moves in
    let there : Matches m f d r e.0 = matches_end m f r c s e h one in
    let from = other_from m f c r s x.sender h other in
    let number : e.0.number ≡ s.number = (own m f d r e.0 there).number ∙ sym (own m f c r s h).number in
    let change_said : DidSay d.said x.sender v (ViewChange x.last_normal x.next x.log.sync_point x.log.entries) =
    (run_keeps m f c one.moves h.inv one.may).1.sent.said
    (says x.sender v (ViewChange x.last_normal x.next x.log.sync_point x.log.entries)) said in
    let two = move_reaches m f r d e.0 (keep_change e.0 g x) (KeepChange (plain_gathering g) (plain x)) there (record {
      gathers = ap (option_map plain_gathering) gathers;
      change = record {
        said = subst (λ (w : View). DidSay d.said x.sender w (ViewChange x.last_normal x.next x.log.sync_point x.log.entries)) (sym view)
            change_said;
        within = from.within;
        apart = λ same. from.apart (same ∙ number);
      };
    }) (record {
      state = ap (λ (y : Gathering plains.Change). record (local_state_of e.0) { changes = Some y }) (counted_plain g x);
      said = refl;
      replies = refl;
    }) there.points in
    gathered_open m f (run m f d two.moves) r (keep_change e.0 g x).0 (matches_end m f r d e.0 (keep_change e.0 g x) there two)
    (change_added change_sender g x) refl
