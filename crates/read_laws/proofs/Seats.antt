-- What a step at one seat leaves.
use Rattle.std.proofs.Common.{◌≡◌, ℕ, List, Option, Some, None, refl, sym, subst, inl, inr}
use Rattle.std.specs.Prelude.{Result, Ok, Err, slice_get, slice_set}
use Rattle.nop_types.specs.Given.{Given}
use Rattle.nop_types.specs.declared.output.Out.{Out}
use Rattle.lemmas.proofs.Places.{slice_get-set_cases}
use Rattle.network.specs.Network.{Did}
use Rattle.world.specs.Seats.{Seated, Stimulus, seat_step}
use Rattle.world.specs.WorldSteps.{Happened, Refusal, then_at, step_at}

-- what holds of each seat leads to what holds where one has a new state
pub seats_become : {A : Type 0} (P Q : ℕ → A → Type 0) (xs : List (Seated A)) (i : ℕ) (new : Seated A) → Q i new.state
    → ((j : ℕ) (s : A) → (j ≡ i → ⊥) → P j s → Q j s) → ((j : ℕ) (p : Seated A) → slice_get xs j ≡ Some p → P j p.state)
    → (j : ℕ) (p : Seated A) → slice_get (slice_set xs i new) j ≡ Some p → Q j p.state
seats_become P Q xs i new here others all j p e = elim (slice_get-set_cases xs i new j p e) [
  | inl (a, b) ↦ subst (λ (k : ℕ). Q k p.state) (sym a) (subst (λ (t : Seated _). Q i t.state) (sym b) here)
  | inr (a, b) ↦ others j p.state a (all j p b)
]

-- what was at a place before, with the same of its state
pub record Before {A B : Type 0} (view : A → B) (xs : List (Seated A)) (i : ℕ) (s : A) : Type 0 where
  pub seat : Seated A
  pub there : slice_get xs i ≡ Some seat
  pub same : view seat.state ≡ view s

-- all stay
pub all_before : {A B : Type 0} (view : A → B) (xs : List (Seated A)) (j : ℕ) (p : Seated A) → slice_get xs j ≡ Some p → Before view xs j p.state
all_before view xs j p at = record { seat = p; there = at; same = refl }

-- one seat is written, and keeps that
pub set_before : {A B : Type 0} (view : A → B) (xs : List (Seated A)) (i : ℕ) (old new : Seated A) → slice_get xs i ≡ Some old
    → view old.state ≡ view new.state → (j : ℕ) (p : Seated A) → slice_get (slice_set xs i new) j ≡ Some p → Before view xs j p.state
set_before view xs i old new at same =
    seats_become (λ j s. Before view xs j s) (λ j s. Before view xs j s) xs i new
    (record { seat = old; there = at; same = same }) (λ j s other h. h) (all_before view xs)

-- what holds of each world to which an actor that is there leads, with what an event delivers, holds of the world after the event
pub seat_leads : {A : Type 0} (P : Happened → Type 0) (Delivered : Stimulus → Type 0) (next : A → Given → A × List Out)
    (act : Seated A × Did → Happened) (o : Option (Seated A)) (r : Result Stimulus Refusal) (h : Happened)
    → ((p : Seated A) → o ≡ Some p → (what : Stimulus) → Delivered what → P (act (seat_step next p what)))
    → ((what : Stimulus) → r ≡ Ok what → Delivered what) → then_at act (step_at next o r) ≡ Ok h → P h
seat_leads P Delivered next act None r h each delivers e = absurd cc
seat_leads P Delivered next act (Some p) (Err refusal) h each delivers e = absurd cc
seat_leads P Delivered next act (Some p) (Ok what) h each delivers e =
    let same : act (seat_step next p what) ≡ h = cc in subst P same (each p refl what (delivers what refl))
