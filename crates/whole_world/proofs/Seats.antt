-- What a step at one seat leaves.
use Rattle.std.proofs.Common.{◌≡◌, ℕ, Some, sym, ap, subst, ◌∙◌, inl, inr, List}
use Rattle.std.specs.Prelude.{slice_get, slice_set}
use Rattle.lemmas.specs.Functions.{put}
use Rattle.lemmas.proofs.Functions.{put-here, put-other}
use Rattle.lemmas.proofs.Places.{slice_get-set_cases}
use Rattle.client_quorum.specs.declared.state.ClientState.{ClientState}
use Rattle.sequencer.specs.declared.state.SequencerState.{SequencerState}
use Rattle.protocol.specs.Conf.{Conf, Control}
use Rattle.world.specs.Others.{Kind, Sequencers, Clients, Controllers, State}
use Rattle.world.specs.Seats.{Seated}
use Rattle.whole_world.specs.Shows.{IsShown}

-- what holds of each seat leads to what holds where one has a new state
pub seats_become : {S : Type 0} (P Q : ℕ → S → Type 0) (xs : List (Seated S)) (i : ℕ) (new : Seated S) → Q i new.state
    → ((j : ℕ) (s : S) → (j ≡ i → ⊥) → P j s → Q j s) → ((j : ℕ) (p : Seated S) → slice_get xs j ≡ Some p → P j p.state)
    → (j : ℕ) (p : Seated S) → slice_get (slice_set xs i new) j ≡ Some p → Q j p.state
seats_become P Q xs i new here others all j p e = elim (slice_get-set_cases xs i new j p e) [
  | inl (a, b) ↦ subst (λ (k : ℕ). Q k p.state) (sym a) (subst (λ (t : Seated _). Q i t.state) (sym b) here)
  | inr (a, b) ↦ others j p.state a (all j p b)
]

-- the changed seat shows its new state, and each other its old one
pub seats_shown : {S T : Type 0} (shown : S → T) (xs : List (Seated S)) (old : ℕ → T) (i : ℕ) (new : Seated S)
    → ((j : ℕ) (p : Seated S) → slice_get xs j ≡ Some p → old j ≡ shown p.state)
    → (j : ℕ) (p : Seated S) → slice_get (slice_set xs i new) j ≡ Some p → put old i (shown new.state) j ≡ shown p.state
seats_shown shown xs old i new all =
    seats_become (λ j s. old j ≡ shown s) (λ j s. put old i (shown new.state) j ≡ shown s) xs i new (put-here old i (shown new.state))
    (λ j s other h. put-other old i (shown new.state) j other ∙ h) all

-- what holds of the state of the changed seat, and of all before, holds of all
pub seats_hold : {S : Type 0} (P : S → Type 0) (xs : List (Seated S)) (i : ℕ) (new : Seated S) → P new.state
    → ((j : ℕ) (p : Seated S) → slice_get xs j ≡ Some p → P p.state)
    → (j : ℕ) (p : Seated S) → slice_get (slice_set xs i new) j ≡ Some p → P p.state
seats_hold P xs i new here all = seats_become (λ j s. P s) (λ j s. P s) xs i new here (λ j s other h. h) all

-- what holds of the state of each seat holds on where a seat keeps its state
pub seats_same : {S : Type 0} (P : ℕ → S → Type 0) (xs : List (Seated S)) (i : ℕ) (old new : Seated S) → slice_get xs i ≡ Some old
    → new.state ≡ old.state → ((j : ℕ) (p : Seated S) → slice_get xs j ≡ Some p → P j p.state)
    → (j : ℕ) (p : Seated S) → slice_get (slice_set xs i new) j ≡ Some p → P j p.state
seats_same P xs i old new there same all =
    seats_become P P xs i new (subst (P i) (sym same) (all i old there)) (λ j s other h. h) all

-- what shows an actor's state shows it where no actor's changes
pub still_shown : (c d : Conf) → d.sequencers ≡ c.sequencers → d.clients ≡ c.clients → d.controllers ≡ c.controllers
    → (k : Kind) (i : ℕ) (s : State k) → IsShown k c i s → IsShown k d i s
still_shown c d a b e Sequencers i s h = ap (λ (g : ℕ → SequencerState). g i) a ∙ h
still_shown c d a b e Clients i s h = ap (λ (g : ℕ → ClientState). g i) b ∙ h
still_shown c d a b e Controllers i s h = (ap (λ (g : ℕ → Control). g i) e ∙ h.0, h.1)
