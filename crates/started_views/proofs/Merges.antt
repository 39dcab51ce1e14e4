-- A merge has what its logs agree on.
use Rattle.std.proofs.Common.{◌≡◌, ℕ, List, Some, refl, sym, ap, ◌∙◌, inl, inr}
use Rattle.nop_types.specs.declared.request.Entry.{Entry}
use Rattle.nop_types.specs.declared.request.Entry.TheVariants.{NoOp}
use Rattle.nop_types.specs.PlainChanges.{Change}
use Rattle.nop_types.specs.Lists.{IsPrefixOf, slot_of}
use Rattle.lemmas.proofs.Slots.{IsPrefixOf-from_slots}
use Rattle.log_merge.specs.Merge.{merge}
use Rattle.log_merge.specs.Merged.{HasInSlot}
use Rattle.log_merge.proofs.Merged.{noop_in_merge}
use Rattle.log_merge.proofs.Winners.{Winner, Nobody, Somebody, winner}
use Rattle.started_views.specs.Agreement.{SomeHas, AgreeOn}

some_has_slot : (cs : List Change) (k : ℕ) (x : Entry) → SomeHas cs k x → (s : ℕ) × HasInSlot cs k s x
some_has_slot cs k x (c, h, e) =
    (c.sender, record { log = c.log; source = record { change = c; member = h; sender = refl; log = refl }; entry = e })

slot_has_some : (cs : List Change) (k s : ℕ) (x : Entry) → HasInSlot cs k s x → SomeHas cs k x
slot_has_some cs k s x h = (h.source.change, h.source.member, ap (λ (l : List Entry). slot_of l k) h.source.log ∙ h.entry)

agreed_slot : (cs : List Change) (k : ℕ) (x : Entry) → AgreeOn cs k x → slot_of (merge cs) k ≡ Some x
agreed_slot cs k x (inl (is, some)) = (noop_in_merge cs k).1 (some_has_slot cs k NoOp some) ∙ ap (λ (t : Entry). Some t) (sym is)
agreed_slot cs k x (inr ((y, some), each)) = at (winner cs k)
  where
    at : Winner cs k → slot_of (merge cs) k ≡ Some x
    at (Nobody none nobody) = let h = some_has_slot cs k y some in absurd (nobody h.0 y h.1)
    at (Somebody w slot has wins) =
        let c = slot_has_some cs k w.sender w.entry has in
        slot ∙ ap (λ (t : Entry). Some t) (each c.0 w.entry c.1 c.2)

-- a merge begins with a log if the logs that are merged agree on each of its entries
pub merge_agrees : (t : List Entry) (cs : List Change) → ((k : ℕ) (x : Entry) → slot_of t k ≡ Some x → AgreeOn cs k x)
    → IsPrefixOf t (merge cs)
merge_agrees t cs h = IsPrefixOf-from_slots t (merge cs) (λ k x e. agreed_slot cs k x (h k x e))
