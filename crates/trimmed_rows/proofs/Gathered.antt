-- What a view is started with, of trimmed changes.
use Rattle.std.proofs.Common.{◌≡◌, ℕ, Bool, true, false, cond, List, [], ◌∷◌, ◌++◌, map, max, refl, ap, ◌∙◌}
use Rattle.std.specs.Prelude.{filter, ◌==◌, ◌||◌}
use Rattle.nop_types.specs.Logs.{Whole, Trimmed}
use Rattle.nop_types.specs.Meaning.{Meaning}
use Rattle.nop_types.specs.PlainChanges.{plain}
use Rattle.nop_types.specs.PlainChanges as plain
use Rattle.nop_types.specs.Views.{outranks, is_view}
use Rattle.nop_types.specs.declared.peer.Change.{Change}
use Rattle.nop_types.specs.declared.view.View.{View}
use Rattle.log_merge.specs.Merging.{kept_changes, merged}
use Rattle.log_merge.specs.Starting.{greatest, greatest_next, start_of}
use Rattle.trimming.specs.Merging.{trim_change, Agree}
use Rattle.trimming.specs.Trimming.{trim}
use Rattle.trimming.proofs.Merging.{merges_trim}
use Rattle.view_change.specs.Gathering.{Gathering, change_sender, has_sender, with_change, change_added}
use Rattle.trimmed_rows.specs.Trimmed.{trimmed_gathering}

module _ {S : Type 0} (m : Meaning S) where
  abbrev tc : Change → Change
  tc = trim_change m

  greatest_trims : (cs : List Change) → greatest (map plain (map tc cs)) ≡ greatest (map plain cs)
  greatest_trims [] = refl
  greatest_trims (c ∷ cs) = ap (λ (w : View). cond (outranks w c.last_normal) w c.last_normal) (greatest_trims cs)

  filter_trims : (w : View) (cs : List Change)
      → filter (λ (c : Change). is_view c.last_normal w) (map tc cs) ≡ map tc (filter (λ (c : Change). is_view c.last_normal w) cs)
  filter_trims w [] = refl
  filter_trims w (c ∷ cs) = on (is_view c.last_normal w) (filter_trims w cs)
    where
      on : (b : Bool)
          → filter (λ (c : Change). is_view c.last_normal w) (map tc cs) ≡ map tc (filter (λ (c : Change). is_view c.last_normal w) cs)
          → cond b (tc c ∷ filter (λ (c : Change). is_view c.last_normal w) (map tc cs)) (filter (λ (c : Change). is_view c.last_normal w) (map tc cs))
          ≡ map tc (cond b (c ∷ filter (λ (c : Change). is_view c.last_normal w) cs) (filter (λ (c : Change). is_view c.last_normal w) cs))
      on true e = ap (λ (t : List Change). tc c ∷ t) e
      on false e = e

  kept_trims : (cs : List Change) → kept_changes (map tc cs) ≡ map tc (kept_changes cs)
  kept_trims cs =
      ap (λ (w : View). filter (λ (c : Change). is_view c.last_normal w) (map tc cs)) (greatest_trims cs)
      ∙ filter_trims (greatest (map plain cs)) cs

  -- of the plain changes those that are kept have the same numbers
  kept_next : (w : View) (cs : List Change)
      → greatest_next (filter (λ (c : plain.Change). is_view c.last_normal w) (map plain (map tc cs)))
      ≡ greatest_next (filter (λ (c : plain.Change). is_view c.last_normal w) (map plain cs))
  kept_next w [] = refl
  kept_next w (c ∷ cs) = on (is_view c.last_normal w) (kept_next w cs)
    where
      on : (b : Bool)
          → greatest_next (filter (λ (c : plain.Change). is_view c.last_normal w) (map plain (map tc cs)))
          ≡ greatest_next (filter (λ (c : plain.Change). is_view c.last_normal w) (map plain cs))
          → greatest_next (cond b (plain (tc c) ∷ filter (λ (c : plain.Change). is_view c.last_normal w) (map plain (map tc cs)))
          (filter (λ (c : plain.Change). is_view c.last_normal w) (map plain (map tc cs))))
          ≡ greatest_next (cond b (plain c ∷ filter (λ (c : plain.Change). is_view c.last_normal w) (map plain cs))
          (filter (λ (c : plain.Change). is_view c.last_normal w) (map plain cs)))
      on true e = ap (max c.next) e
      on false e = e

  pub next_trims : (w : View) (cs : List Change) → (start_of w (map plain (map tc cs))).next ≡ (start_of w (map plain cs)).next
  next_trims w cs =
      ap (λ (u : View). cond (u.session == w.session)
      (greatest_next (filter (λ (c : plain.Change). is_view c.last_normal u) (map plain (map tc cs)))) 1) (greatest_trims cs)
      ∙ ap (λ (n : ℕ). cond ((greatest (map plain cs)).session == w.session) n 1) (kept_next (greatest (map plain cs)) cs)

  pub start_trims : (cs : List Change) → Agree (kept_changes cs) → merged Trimmed (kept_changes (map tc cs)) ≡ trim m (merged Whole (kept_changes cs))
  start_trims cs agree = ap (merged Trimmed) (kept_trims cs) ∙ merges_trim m (kept_changes cs) agree

  -- ---- a change is kept

  sender_trims : (cs : List Change) (q : ℕ) → has_sender change_sender (map tc cs) q ≡ has_sender change_sender cs q
  sender_trims [] q = refl
  sender_trims (c ∷ cs) q = ap (λ (b : Bool). (c.sender == q) || b) (sender_trims cs q)

  map_push : (cs : List Change) (c : Change) → map tc cs ++ tc c ∷ [] ≡ map tc (cs ++ c ∷ [])
  map_push [] c = refl
  map_push (d ∷ cs) c = ap (λ (t : List Change). tc d ∷ t) (map_push cs c)

  with_trims : (cs : List Change) (c : Change) → with_change change_sender (map tc cs) (tc c) ≡ map tc (with_change change_sender cs c)
  with_trims cs c =
      ap (λ (b : Bool). cond b (map tc cs) (map tc cs ++ tc c ∷ [])) (sender_trims cs c.sender) ∙ on (has_sender change_sender cs c.sender)
    where
      on : (b : Bool) → cond b (map tc cs) (map tc cs ++ tc c ∷ []) ≡ map tc (cond b cs (cs ++ c ∷ []))
      on true = refl
      on false = map_push cs c

  pub counted_trims : (g : Gathering Change) (c : Change)
      → change_added change_sender (trimmed_gathering m g) (tc c) ≡ trimmed_gathering m (change_added change_sender g c)
  counted_trims g c = ap (λ (cs : List Change). record g { changes = cs }) (with_trims g.changes c)
