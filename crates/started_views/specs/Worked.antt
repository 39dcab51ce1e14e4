-- Pasts of three replicas and two views, worked by hand.
use Rattle.std.specs.Prelude.{◌++◌, ℕ, zero, suc, Bool, true, false, List, [], ◌∷◌, Option, Some, None}
use Rattle.nop_types.specs.declared.view.View.{View}
use Rattle.nop_types.specs.declared.request.Request.{Request}
use Rattle.nop_types.specs.declared.request.Entry.{Entry}
use Rattle.nop_types.specs.declared.request.Entry.TheVariants.{NoOp, Req}
use Rattle.nop_types.specs.declared.datagram.Stamped.{Stamped}
use Rattle.nop_types.specs.Views.{first_view, is_view}
use Rattle.log_merge.specs.Starting.{Start}
use Rattle.started_views.specs.Past.{Entered, Past, Standing, first_past, note, with_log}

-- replica 1 leads it
abbrev pub second_view : View
second_view = record { leader = 1; session = 1 }

abbrev pub request_of : ℕ → Request
request_of id = record { client = 1; id = id; op = [] }

abbrev pub stamp_of : ℕ → Stamped
stamp_of number = record { session = 1; number = number; request = request_of number }

abbrev pub worked_stamps : List Stamped
worked_stamps = stamp_of 1 ∷ stamp_of 2 ∷ stamp_of 3 ∷ []

-- what replica 0, the leader of the first view, had in it: the request of number 2 did not come
abbrev pub leader_log : List Entry
leader_log = Req (request_of 1) ∷ NoOp ∷ Req (request_of 3) ∷ []

-- what a follower had in it, with x in slot 2
abbrev pub follower_log : Entry → List Entry
follower_log x = Req (request_of 1) ∷ x ∷ []

-- what the second view was started with, from the logs of the two followers
abbrev pub second_start : Entry → Start
second_start x = record { next = 3; log = follower_log x }

-- by replica, and whether the view is the first one and the second one
abbrev pub worked_logs : Entry → ℕ → Bool → Bool → Option (List Entry)
worked_logs x zero true b = Some leader_log
worked_logs x (suc zero) true b = Some (follower_log x)
worked_logs x (suc (suc zero)) true b = Some (follower_log (Req (request_of 2)))
worked_logs x (suc zero) false true = Some (follower_log x ++ NoOp ∷ [])
worked_logs x r a b = None

abbrev pub worked_starts : Entry → Bool → Bool → Option Start
worked_starts x true b = Some (record { next = 1; log = [] })
worked_starts x false true = Some (second_start x)
worked_starts x false false = None

abbrev pub worked_entries : Entry → ℕ → Bool → Option Entered
worked_entries x (suc zero) true = Some (record { last_normal = first_view; next = 3; sync_point = 0; log = follower_log x })
worked_entries x (suc (suc zero)) true =
    Some (record { last_normal = first_view; next = 3; sync_point = 0; log = follower_log (Req (request_of 2)) })
worked_entries x r b = None

-- replicas 1 and 2 entered the second view, and replica 1 started it and added a NO-OP; in the first view it had x in slot 2
abbrev pub worked_past : Entry → Past
worked_past x =
    record {
      log = λ r w. worked_logs x r (is_view w first_view) (is_view w second_view);
      start = λ w. worked_starts x (is_view w first_view) (is_view w second_view);
      entry = λ r w. worked_entries x r (is_view w second_view);
    }

abbrev pub worked_last_normal : ℕ → View
worked_last_normal (suc zero) = second_view
worked_last_normal r = first_view

-- the gap in slot 2 is settled: replica 1 has the leader's NO-OP there
abbrev pub settled_past : Past
settled_past = worked_past NoOp

-- it is not: each follower has the request
abbrev pub unsettled_past : Past
unsettled_past = worked_past (Req (request_of 2))

-- replica 1 went on in the first view after it had left it
abbrev pub overrun_past : Past
overrun_past = with_log 1 first_view leader_log settled_past

-- ---- steps of a replica

abbrev pub standing_opening : Standing
standing_opening = record { view = first_view; last_normal = first_view; next = 1; base = 0; sync_point = 0; log = [] }

-- it took a request
abbrev pub standing_taken : Standing
standing_taken = record { view = first_view; last_normal = first_view; next = 2; base = 0; sync_point = 0; log = Req (request_of 1) ∷ [] }

-- and entered the second view
abbrev pub standing_entered : Standing
standing_entered =
    record { view = second_view; last_normal = first_view; next = 2; base = 0; sync_point = 0; log = Req (request_of 1) ∷ [] }

-- and adopted it, and added a NO-OP
abbrev pub standing_adopted : Standing
standing_adopted =
    record { view = second_view; last_normal = second_view; next = 3; base = 1; sync_point = 0; log = Req (request_of 1) ∷ NoOp ∷ [] }

abbrev pub taken_past : ℕ → Past
taken_past r = note 1 first_past r standing_opening standing_taken

-- the replica r takes a request, and does the rest in one step
abbrev pub noted_past : ℕ → Past
noted_past r = note 1 (taken_past r) r standing_taken standing_adopted
