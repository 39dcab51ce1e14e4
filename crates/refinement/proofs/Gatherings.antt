-- What the protocol sees of gathered changes.
use Rattle.std.proofs.Common.{◌≡◌, ℕ, Bool, true, false, cond, refl, sym, ap, ◌∙◌, List, [], ◌∷◌, ◌++◌, map}
use Rattle.std.specs.Prelude.{◌==◌, ◌||◌}
use Rattle.nop_types.specs.declared.peer.Change as code
use Rattle.nop_types.specs.Logs.{Whole}
use Rattle.nop_types.specs.PlainChanges.{Change, plain, sender_of}
use Rattle.log_merge.specs.Merge.{merge}
use Rattle.log_merge.specs.Merging.{kept_changes, merged}
use Rattle.log_merge.specs.Starting.{greatest_point, kept, start_point}
use Rattle.log_merge.proofs.WholeLogs.{merged_entries, merged_point, kept_is_plain}
use Rattle.view_change.specs.Gathering.{Gathering, change_sender, has_sender, change_added}
use Rattle.refinement.specs.Projection.{plain_gathering}

-- ---- what a view is started with

pub start_entries : (cs : List code.Change) → (merged Whole (kept_changes cs)).entries ≡ merge (kept (map plain cs))
start_entries cs = merged_entries (kept_changes cs) ∙ ap merge (kept_is_plain cs)

pub start_sync_point : (cs : List code.Change) → (merged Whole (kept_changes cs)).sync_point ≡ start_point (map plain cs)
start_sync_point cs = merged_point (kept_changes cs) ∙ ap greatest_point (kept_is_plain cs)

-- ---- one change more

sender_plain : (q : ℕ) (cs : List code.Change) → has_sender sender_of (map plain cs) q ≡ has_sender change_sender cs q
sender_plain q [] = refl
sender_plain q (c ∷ cs) = ap (λ (b : Bool). (c.sender == q) || b) (sender_plain q cs)

map_more : (cs : List code.Change) (c : code.Change) → map plain (cs ++ c ∷ []) ≡ map plain cs ++ plain c ∷ []
map_more [] c = refl
map_more (x ∷ cs) c = ap (λ (t : List Change). plain x ∷ t) (map_more cs c)

with_at : (b : Bool) (cs : List code.Change) (c : code.Change)
    → map plain (cond b cs (cs ++ c ∷ [])) ≡ cond b (map plain cs) (map plain cs ++ plain c ∷ [])
with_at true cs c = refl
with_at false cs c = map_more cs c

pub counted_plain : (g : Gathering code.Change) (c : code.Change)
    → plain_gathering (change_added change_sender g c) ≡ change_added sender_of (plain_gathering g) (plain c)
counted_plain g c =
    let e =
    with_at (has_sender change_sender g.changes c.sender) g.changes c
    ∙ ap (λ (b : Bool). cond b (map plain g.changes) (map plain g.changes ++ plain c ∷ []))
    (sym (sender_plain c.sender g.changes)) in
    ap (λ (cs : List Change). record (plain_gathering g) { changes = cs }) e
