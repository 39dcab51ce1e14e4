-- Merges and starts that were worked out by hand.
use Rattle.std.proofs.Common.{◌≡◌, ℕ, List, [], ◌∷◌, Some, refl}
use Rattle.nop_types.specs.declared.request.Entry.{Entry}
use Rattle.nop_types.specs.declared.request.Entry.TheVariants.{NoOp, Req}
use Rattle.nop_types.specs.declared.view.View.{View}
use Rattle.nop_types.specs.declared.peer.Change as code
use Rattle.nop_types.specs.Checkpoints.{Checkpoint}
use Rattle.nop_types.specs.Logs.{Log, Trimmed, whole}
use Rattle.nop_types.specs.PlainChanges.{Change}
use Rattle.log_merge.specs.Merge.{merge}
use Rattle.log_merge.specs.Merging.{best, merged}
use Rattle.log_merge.specs.Starting.{start_of, start_point}

abbrev req : ℕ → Entry
req n = Req (record { client = n; id = n; op = [] })

abbrev view : ℕ → ℕ → View
view l s = record { leader = l; session = s }

abbrev change_at : ℕ → ℕ → View → ℕ → List Entry → Change
change_at point sender last_normal next log =
    record { sender = sender; last_normal = last_normal; next = next; sync_point = point; log = log }

-- nothing is synchronised
abbrev change : ℕ → View → ℕ → List Entry → Change
change sender last_normal next log = change_at 0 sender last_normal next log

-- a NO-OP wins from either side, and the lower sender among requests, in either order of the list
lower_sender_wins_listed_last : merge (change 2 (view 0 1) 3 (req 1 ∷ req 2 ∷ []) ∷ change 1 (view 0 1) 4 (NoOp ∷ req 3 ∷ req 4 ∷ []) ∷ [])
    ≡ NoOp ∷ req 3 ∷ req 4 ∷ []
lower_sender_wins_listed_last = refl

lower_sender_wins_listed_first : merge (change 1 (view 0 1) 3 (req 1 ∷ req 2 ∷ []) ∷ change 2 (view 0 1) 4 (req 5 ∷ req 3 ∷ NoOp ∷ []) ∷ [])
    ≡ req 1 ∷ req 2 ∷ NoOp ∷ []
lower_sender_wins_listed_first = refl

nothing_merges_to_nothing : merge [] ≡ []
nothing_merges_to_nothing = refl

-- only the changes of the greatest last normal view count; next is theirs in the same session, and 1 in another
next_goes_on_in_its_session : start_of (view 2 1) (change 0 (view 1 1) 3 (req 1 ∷ req 2 ∷ []) ∷ change 1 (view 0 1) 9 (NoOp ∷ []) ∷ change 2 (view 1 1) 2
    (req 1 ∷ []) ∷ []) ≡ record { next = 3; log = req 1 ∷ req 2 ∷ [] }
next_goes_on_in_its_session = refl

next_is_1_in_another_session : start_of (view 2 2) (change 0 (view 1 1) 3 (req 1 ∷ req 2 ∷ []) ∷ change 1 (view 0 1) 9 (NoOp ∷ []) ∷ [])
    ≡ record { next = 1; log = req 1 ∷ req 2 ∷ [] }
next_is_1_in_another_session = refl

-- sessions rank before leader numbers
session_ranks_before_leader : start_of (view 6 2) (change 0 (view 5 1) 3 (req 1 ∷ []) ∷ change 1 (view 0 2) 7 (req 2 ∷ []) ∷ [])
    ≡ record { next = 7; log = req 2 ∷ [] }
session_ranks_before_leader = refl

-- the greatest sync point of the changes of the greatest last normal view, whoever told it
start_point_is_the_greatest_that_counts : start_point (change_at 1 0 (view 1 1) 3 (req 1 ∷ req 2 ∷ []) ∷ change_at 3 1 (view 0 1) 9 (NoOp ∷ NoOp ∷ NoOp ∷ []) ∷ change_at
    2 2 (view 1 1) 3 (req 1 ∷ req 2 ∷ []) ∷ []) ≡ 2
start_point_is_the_greatest_that_counts = refl

-- ---- trimmed logs

abbrev state : ℕ → Checkpoint
state n = record { host = n ∷ []; clients = [] }

abbrev trimmed : ℕ → List Entry → Log
trimmed point entries = record { sync_point = point; checkpoint = Some (state point); entries = entries }

abbrev change_of : ℕ → Log → code.Change
change_of sender log = record { sender = sender; last_normal = view 0 1; next = 1; log = log }

-- sync point and checkpoint of the best; of the others what they have above its sync point, which may be nothing
merge_stands_above_the_best : merged Trimmed (change_of 3 (trimmed 2 (req 5 ∷ [])) ∷ change_of 4 (trimmed 2 (req 7 ∷ [])) ∷ change_of 1 (trimmed 1 (NoOp ∷ req 4 ∷ NoOp ∷
    [])) ∷ change_of 0 (whole 0 (req 1 ∷ [])) ∷ []) ≡ trimmed 2 (req 4 ∷ NoOp ∷ [])
merge_stands_above_the_best = refl

best_is_of_the_lower_sender : best (change_of 4 (trimmed 2 (req 7 ∷ [])) ∷ change_of 3 (trimmed 2 (req 5 ∷ [])) ∷ change_of 1 (trimmed 1 []) ∷ [])
    ≡ Some (change_of 3 (trimmed 2 (req 5 ∷ [])))
best_is_of_the_lower_sender = refl
