-- A step of one actor among several.
use Rattle.std.proofs.Common.{◌≡◌, ℕ, Bool, List, Option, Some, Result, Ok, Err, IfOk, IfErr, sym, ap, ◌∙◌}
use Rattle.std.specs.Prelude.{map, slice_get, slice_set, option_map}
use Rattle.std.proofs.lemmas.List.{map-set}
use Rattle.std.proofs.lemmas.Option.{slice_get-map}
use Rattle.nop_types.specs.declared.output.Out.{Out}
use Rattle.world.specs.declared.seat.Seat.{Seat}
use Rattle.world.specs.declared.step_error.StepError.{StepError}
use Rattle.world.specs.declared.step_error.StepError.TheVariants as errors
use Rattle.world.specs.Seats.{Seated}
use Rattle.network.specs.Network.{Did}
use Rattle.world.specs.SeatOutcomes.{seated_of, Moves, MovesAt, Refuses}
use Rattle.world.specs.WorldSteps.{Refusal, crashed_in}
use Rattle.world.proofs.Places.{slice_set-found}

pub pair_ok : {A B E : Type 0} (p : A × B) (a : A) (b : B) → a ≡ p.0 → b ≡ p.1 → (let r : Result (A × B) E = Ok p in r) ≡ Ok (a, b)
pair_ok {A} {B} p a b x y = ap (λ (c : A). Ok (c, p.1)) (sym x) ∙ ap (λ (d : B). Ok (a, d)) (sym y)

module _ {C S : Type 0} (state : C → S) (f : Option (Seated S) → Result (Seated S × Did) Refusal) (old : List (Seat C)) (i : ℕ)
    (before after : Seat C) (found : slice_get old i ≡ Some before) where
  looked_up : f (slice_get (map (seated_of state) old) i) ≡ f (Some (seated_of state before))
  looked_up = ap f (slice_get-map (seated_of state) old i ∙ ap (option_map (seated_of state)) found)

  -- what a step makes of the seat at a place
  pub moves_at : (r : Result (Option (List Out)) StepError) → IfOk r (λ outs. Moves state (f (Some (seated_of state before))) after outs)
      → IfOk r (λ outs. MovesAt state (f (slice_get (map (seated_of state) old) i)) old i (slice_set old i after) outs)
  moves_at (Ok outs) e = record {
    seat = seated_of state after;
    is = looked_up ∙ e;
    moved = map-set (seated_of state) old i after;
  }
  moves_at (Err e) h = tt

  written_back : after ≡ before → slice_set old i after ≡ old
  written_back e = ap (slice_set old i) e ∙ slice_set-found old i before found

  -- a refusal at a place
  pub refuses_at : (r : Result (Option (List Out)) StepError)
      → IfErr r (λ e. Refuses e (f (Some (seated_of state before))) (after ≡ before))
      → IfErr r (λ e. Refuses e (f (slice_get (map (seated_of state) old) i)) (slice_set old i after ≡ old))
  refuses_at (Ok outs) h = tt
  refuses_at (Err errors.NoSuchActor) h = (looked_up ∙ h.0, written_back h.1)
  refuses_at (Err (errors.NoSuchDatagram index sent)) h = (looked_up ∙ h.0, written_back h.1)
  refuses_at (Err errors.Forged) h = (looked_up ∙ h.0, written_back h.1)
  refuses_at (Err errors.NoMemory) h = tt

-- whether the actor at a place crashed, where these are the seats
pub crashed_at : {C S : Type 0} (state : C → S) (xs ys : List (Seat C)) (i : ℕ) (b : Bool) → xs ≡ ys
    → b ≡ crashed_in (slice_get (map (seated_of state) xs) i) → b ≡ crashed_in (slice_get (map (seated_of state) ys) i)
crashed_at state xs ys i b same is = is ∙ ap (λ seats. crashed_in (slice_get (map (seated_of state) seats) i)) same
