-- A change that is alone agrees with itself.
use Rattle.std.proofs.Common.{◌≡◌, ℕ, Bool, true, false, cond, [], ◌∷◌, take, Option, Some, None, refl, sym, subst, ◌∙◌}
use Rattle.std.proofs.Common.{inl, inr}
use Rattle.std.specs.Prelude.{option_map}
use Rattle.std.proofs.lemmas.Option.{same_Some}
use Rattle.nop_types.specs.Lists.{IsPrefixOf, slot_of}
use Rattle.nop_types.specs.Logs.{IsWithin, Whole}
use Rattle.nop_types.specs.PlainChanges.{plain}
use Rattle.nop_types.specs.PlainChanges as plain
use Rattle.nop_types.specs.Views.{is_view}
use Rattle.nop_types.specs.declared.peer.Change.{Change}
use Rattle.nop_types.specs.declared.request.Entry.{Entry}
use Rattle.nop_types.specs.declared.view.View.{View}
use Rattle.lemmas.proofs.Members.{Has-none, Has-cases}
use Rattle.lemmas.proofs.Prefixes.{IsPrefixOf-take}
use Rattle.log_merge.specs.Merge.{choice_of, of_two, merge}
use Rattle.log_merge.specs.Merging.{merged, merge_above}
use Rattle.log_merge.specs.Starting.{greatest}
use Rattle.log_merge.proofs.Slots.{slot_of-merge, same_slots}
use Rattle.view_change.specs.Gathering as gathering
use Rattle.view_change.specs.Gathering.{Gathering}
use Rattle.replica_state.specs.declared.state.ReplicaState.{ReplicaState}
use Rattle.replica_state.specs.Moves.{entered, own_change, enter_as, enter}
use Rattle.replica_state.specs.State.{leads, max_faults}
use Rattle.trimming.specs.Merging.{Agree}
use Rattle.trimming.proofs.Merging.{agree_from_prefixes, merged_within}
use Rattle.trimmed_rows.specs.Premises.{Opens}

choice_alone : (sender : ℕ) (o : Option Entry) → option_map (λ t. t.entry) (of_two (choice_of sender o) None) ≡ o
choice_alone sender None = refl
choice_alone sender (Some e) = refl

-- the merge of one log is that log
merge_alone : (x : plain.Change) → merge (x ∷ []) ≡ x.log
merge_alone x = same_slots (merge (x ∷ [])) x.log (λ k. slot_of-merge (x ∷ []) k ∙ choice_alone x.sender (slot_of x.log k))

alone_agrees : (x : Change) → IsWithin x.log → Agree (x ∷ [])
alone_agrees x low =
    let front : IsPrefixOf (take x.log.sync_point x.log.entries) (merge (plain x ∷ [])) =
    subst (IsPrefixOf (take x.log.sync_point x.log.entries)) (sym (merge_alone (plain x))) (IsPrefixOf-take x.log.sync_point x.log.entries) in
    agree_from_prefixes (x ∷ []) (λ d i. elim (Has-cases d x [] i) [
      | inl same ↦ subst (λ (y : Change). IsWithin y.log × IsPrefixOf (take y.log.sync_point y.log.entries)
          (merge_above Whole 0 (x ∷ []))) (sym same) (low, front)
      | inr none ↦ absurd (Has-none d none)
    ])

-- whether it is kept or not
kept_agrees : (b : Bool) (x : Change) → IsWithin x.log → Agree (cond b (x ∷ []) []) × IsWithin (merged Whole (cond b (x ∷ []) []))
kept_agrees true x low = (
  alone_agrees x low,
  merged_within (x ∷ []) (λ d i. elim (Has-cases d x [] i) [
    | inl same ↦ subst (λ (y : Change). IsWithin y.log) (sym same) low
    | inr none ↦ absurd (Has-none d none)
  ]),
)
kept_agrees false x low = (tt, merged_within [] (λ d i. absurd (Has-none d i)))

entered_by : (b : Bool) (s : ReplicaState) (g : Gathering Change) → IsWithin s.log → s.changes ≡ None
    → (enter_as b s).0.changes ≡ Some g → Opens g
entered_by true s g low none e =
    subst Opens (same_Some (gathering.entered s.view (max_faults s) (own_change s)) g e) (λ enough.
    let r = kept_agrees (is_view s.last_normal (greatest (plain (own_change s) ∷ []))) (own_change s) low in
    record { agree = r.0; within = r.1 })
entered_by false s g low none e = absurd cc

-- what a replica gathers as it enters a view
pub entered_opens : (s : ReplicaState) (v : View) (g : Gathering Change) → IsWithin s.log → (enter s v).0.changes ≡ Some g → Opens g
unfolding enter
entered_opens s v g low e = entered_by (leads (entered s v)) (entered s v) g low refl e
