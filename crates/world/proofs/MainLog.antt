-- The log from which the history is read, in the code.
use Rattle.std.proofs.Common.{◌≡◌, ◌≤◌, ◌<◌, ℕ, ◌+◌, List, [], ◌∷◌, length, drop, get_or, refl, sym, ap, ◌∙◌, arith}
use Rattle.std.specs.Prelude.{map, slice_get, IsTrue, if◌then◌else◌}
use Rattle.std.proofs.lemmas.List.{drop_more, drop_all}
use Rattle.nop_types.specs.Configuration.{Configuration, is_configuration}
use Rattle.nop_types.specs.Machine.{Machine}
use Rattle.nop_types.specs.Views.{leader_of, outranks}
use Rattle.nop_types.specs.declared.view.View.{View}
use Rattle.nop_types.specs.declared.request.Entry.{Entry}
use Rattle.replica_core.specs.ReplicaSteps.{Replica}
use Rattle.world.specs.declared.actors.Actors.{Actors}
use Rattle.world.specs.declared.seat.Seat.{Seat}
use Rattle.world.specs.Actors.{world_of}
use Rattle.world.specs.Seats.{Seated}
use Rattle.world.specs.SeatOutcomes.{seated_of}
use Rattle.world.specs.WorldSteps.{greatest_view, greatest_of, main_view, main_log, log_of}

-- where all is the greatest of what came before and what is left, it is so after one more
pub greatest_next : {X : Type 0} (f : X → View) (i : ℕ) (xs : List X) (x : X) (view new all : View) → i < length xs → x ≡ get_or xs i x
    → new ≡ (if outranks (f x) view then f x else view) → greatest_view view (map f (drop i xs)) ≡ all
    → greatest_view new (map f (drop (i + 1) xs)) ≡ all
greatest_next {X} f i xs x view new all lt is greater so_far =
    let next : drop i xs ≡ x ∷ drop (i + 1) xs = drop_more xs i x lt ∙ ap (λ (y : X). y ∷ drop (i + 1) xs) (sym is) in
    ap (λ (v : View). greatest_view v (map f (drop (i + 1) xs))) greater
    ∙ ap (λ (ys : List X). greatest_view view (map f ys)) (sym next) ∙ so_far

pub greatest_end : {X : Type 0} (f : X → View) (i : ℕ) (xs : List X) (view all : View) → length xs ≤ i
    → greatest_view view (map f (drop i xs)) ≡ all → view ≡ all
greatest_end {X} f i xs view all le so_far = ap (λ (ys : List X). greatest_view view (map f ys)) (sym (drop_all i xs le)) ∙ so_far

-- a configuration has a replica
pub some_replica : (c : Configuration) (n : ℕ) → n ≡ c.replicas → IsTrue (is_configuration c) → 1 ≤ n
some_replica c n count limits = grind (arith, count, limits)

abbrev place : Seat (Machine Replica) → Seated Replica
place p = seated_of (λ r. r.state) p

normals : (seats : List (Seat (Machine Replica)))
    → map (λ p. p.core.state.state.last_normal) seats ≡ map (λ p. p.state.state.last_normal) (map place seats)
normals [] = refl
normals (p ∷ seats) = ap (λ (vs : List View). p.core.state.state.last_normal ∷ vs) (normals seats)

pub main_view_is : {H U : Type 0} (a : Actors H U) (view : View)
    → view ≡ greatest_of (map (λ p. p.core.state.state.last_normal) a.replicas.items) → view ≡ main_view (world_of a)
unfolding main_view
main_view_is a view is = is ∙ ap greatest_of (normals a.replicas.items)

pub main_log_is : {H U : Type 0} (a : Actors H U) (view : View) (n i : ℕ) (archive log : List Entry)
    → view ≡ greatest_of (map (λ p. p.core.state.state.last_normal) a.replicas.items) → n ≡ a.config.replicas → i ≡ leader_of view n
    → archive ≡ a.archive → log ≡ log_of archive (slice_get (map (seated_of (λ r. r.state)) a.replicas.items) i)
    → log ≡ main_log (world_of a)
unfolding main_view main_log
main_log_is a view n i archive log view_is n_is i_is archive_is log_is =
    let seats = a.replicas.items in
    let same : i ≡ leader_of (main_view (world_of a)) a.config.replicas =
    i_is ∙ ap (λ (v : View). leader_of v n) (view_is ∙ ap greatest_of (normals seats)) ∙ ap (leader_of (main_view (world_of a))) n_is in
    log_is ∙ (λ j. log_of (archive_is j) (slice_get (map place seats) (same j)))

-- the log of any replica
pub log_at_is : {H U : Type 0} (a : Actors H U) (i : ℕ) (archive log : List Entry) (seats : List (Seat (Machine Replica)))
    → archive ≡ a.archive → seats ≡ a.replicas.items → log ≡ log_of archive (slice_get (map (seated_of (λ r. r.state)) seats) i)
    → log ≡ log_of (world_of a).archive (slice_get (world_of a).replicas i)
log_at_is a i archive log seats archive_is seats_are log_is =
    log_is ∙ (λ j. log_of (archive_is j) (slice_get (map (seated_of (λ r. r.state)) (seats_are j)) i))
