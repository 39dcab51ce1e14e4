-- The seats of one kind among all.
use Rattle.std.proofs.Common.{◌≡◌, ℕ, List, Some, refl, ap, ◌∙◌}
use Rattle.std.specs.Prelude.{slice_get}
use Rattle.nop_types.specs.declared.output.Actor.{Actor}
use Rattle.nop_types.specs.declared.output.Actor.TheVariants as actors
use Rattle.world.specs.Others.{Kind, Sequencers, Clients, Controllers, State, Others, seats, with_seats, with_seat, who, actor_at}
use Rattle.world.specs.Seats.{Seated}
use Rattle.world.proofs.Places.{slice_set-found}

pub actor_who : (a : Actor) → actor_at (who a) ≡ a
actor_who (actors.Replica i) = refl
actor_who _ = refl

-- what holds of the changed seats, and held of all kinds before, holds of all kinds
pub others_become : (P : (k : Kind) → List (Seated (State k)) → Type 0) (o : Others) (k : Kind) (ps : List (Seated (State k)))
    → P k ps → ((j : Kind) → P j (seats j o)) → (j : Kind) → P j (seats j (with_seats k o ps))
others_become P o Sequencers ps here all Sequencers = here
others_become P o Clients ps here all Clients = here
others_become P o Controllers ps here all Controllers = here
others_become P o _ ps here all j = all j

same_seats : (k : Kind) (o : Others) → with_seats k o (seats k o) ≡ o
same_seats Sequencers o = refl
same_seats _ o = refl

-- a seat that is put where it stands
pub seat_found : (k : Kind) (o : Others) (i : ℕ) (p : Seated (State k)) → slice_get (seats k o) i ≡ Some p → with_seat k o i p ≡ o
seat_found k o i p found = ap (with_seats k o) (slice_set-found (seats k o) i p found) ∙ same_seats k o
