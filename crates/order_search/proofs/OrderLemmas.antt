-- The order that the steps of a search give.
use Rattle.std.proofs.Common.{◌≡◌, ℕ, zero, suc, ◌<◌, List, [], ◌∷◌, ◌++◌, map, length, Bool, Some, refl, ap, sym, subst, ◌∙◌, arith, inl, inr}
use Rattle.std.proofs.lemmas.Bool.{cases_lt}
use Rattle.std.proofs.lemmas.List.Elements.{All-nil, All-cons}
use Rattle.std.proofs.lemmas.Option.{slice_get_within}
use Rattle.std.specs.Prelude.{All, slice_get, remove}
use Rattle.execution_laws.proofs.Ids.{IsOf-both}
use Rattle.execution_laws.specs.Legality.{SubmittedOnce}
use Rattle.fronts.proofs.Fronts.{front_is_legal}
use Rattle.fronts.specs.Fronts.{AcceptedLater}
use Rattle.fronts.specs.Parts.{AreTimed}
use Rattle.nop_types.specs.Legality.{IsOf, AcceptedOnce, Legal}
use Rattle.nop_types.specs.Lines.{Line, Submit}
use Rattle.nop_types.specs.Meaning.{Meaning}
use Rattle.nop_types.specs.declared.request.Request.{Request}
use Rattle.order_search.proofs.RisingLemmas.{time_at, times_rise}
use Rattle.order_search.proofs.StepLemmas.{requests_at-submit}
use Rattle.order_search.specs.Outcomes.{placed_by, submits_of, time_of}
use Rattle.order_search.specs.Searching.{front_of, requests_at, AreRising, AreSteps, IsSearching, IsStep}
use Rattle.order_search.specs.Turns.{AllSubmit, history_at}
use Rattle.order_search.specs.declared.outcome.Placed.{Placed}
use Rattle.order_search.specs.declared.step.Step.{Step}

pub front_of-placed : {U : Type 0} (lines : List Line) (steps : List (Step U))
    → history_at lines (submits_of (map placed_by steps)) ≡ front_of lines steps
front_of-placed lines [] = refl
front_of-placed lines (s ∷ steps) = ap (λ (x : List Request). requests_at lines s.submit ++ x) (front_of-placed lines steps)

module _ {S U : Type 0} (m : Meaning S) (undo_of : S → List ℕ → U) (lines : List Line) where
  pub steps_submit : (before : List Request) (base : List ℕ) (steps : List (Step U)) (waiting : List ℕ)
      → AreSteps m undo_of lines before base steps waiting → AllSubmit lines (submits_of (map placed_by steps))
  steps_submit before base [] waiting h a i at = absurd cc
  steps_submit before base (s ∷ steps) waiting h zero i at =
      let said : Some s.submit ≡ Some i = at in
      let e : s.submit ≡ i = cc in
      (h.1.request, subst (λ (t : ℕ). slice_get lines t ≡ Some (Submit h.1.request)) e h.1.line)
  steps_submit before base (s ∷ steps) waiting h (suc a) i at =
      steps_submit (before ++ requests_at lines s.submit) (remove h.0 s.at) steps waiting h.3 a i at

  abbrev IsWithin : Placed → Type 0
  IsWithin p = (p.submit < length lines) × (p.line < length lines)

  pub steps_within : (before : List Request) (base : List ℕ) (steps : List (Step U)) (waiting : List ℕ)
      → AreSteps m undo_of lines before base steps waiting → All IsWithin (map placed_by steps)
  steps_within before base [] waiting h = All-nil IsWithin
  steps_within before base (s ∷ steps) waiting h =
      All-cons IsWithin (placed_by s) (map placed_by steps)
      (slice_get_within lines s.submit (Submit h.1.request) h.1.line, h.1.within)
      (steps_within (before ++ requests_at lines s.submit) (remove h.0 s.at) steps waiting h.3)

  -- ---- times

  -- the step that placed a member of the front
  record IsPlacedBy (steps : List (Step U)) (i : ℕ) (r : Request) : Type 0 where
    step : Step U
    stands : slice_get steps i ≡ Some step
    before : List Request
    left : List ℕ
    is_step : IsStep m undo_of lines before left step
    same : is_step.request ≡ r

  member_placed : (before : List Request) (base : List ℕ) (steps : List (Step U)) (waiting : List ℕ)
      → AreSteps m undo_of lines before base steps waiting → (i : ℕ) (r : Request) → slice_get (front_of lines steps) i ≡ Some r
      → IsPlacedBy steps i r
  member_placed before base [] waiting h i r at = absurd cc
  member_placed before base (s ∷ steps) waiting h i r at =
      here i (subst (λ (x : List Request). slice_get (x ++ front_of lines steps) i ≡ Some r)
      (requests_at-submit lines s.submit h.1.request h.1.line) at)
      (λ j e. member_placed (before ++ requests_at lines s.submit) (remove h.0 s.at) steps waiting h.3 j r e)
    where
      here : (i : ℕ) → slice_get (h.1.request ∷ front_of lines steps) i ≡ Some r
          → ((j : ℕ) → slice_get (front_of lines steps) j ≡ Some r → IsPlacedBy steps j r) → IsPlacedBy (s ∷ steps) i r
      here zero e later = record { step = s; stands = refl; before = before; left = h.0; is_step = h.1; same = cc }
      here (suc i) e later =
          let p = later i e in
          record { step = p.step; stands = p.stands; before = p.before; left = p.left; is_step = p.is_step; same = p.same }

  front_length : (before : List Request) (base : List ℕ) (steps : List (Step U)) (waiting : List ℕ)
      → AreSteps m undo_of lines before base steps waiting → length (front_of lines steps) ≡ length steps
  front_length before base [] waiting h = refl
  front_length before base (s ∷ steps) waiting h =
      ap (λ (x : List Request). length (x ++ front_of lines steps)) (requests_at-submit lines s.submit h.1.request h.1.line)
      ∙ ap suc (front_length (before ++ requests_at lines s.submit) (remove h.0 s.at) steps waiting h.3)

  pub steps_timed : SubmittedOnce lines → (steps : List (Step U)) (waiting : List ℕ) (line : ℕ) → AreSteps m undo_of lines [] [] steps waiting
      → AreRising 0 steps line → AreTimed lines (front_of lines steps) (time_of (map placed_by steps))
  steps_timed once steps waiting line are rising = record {
    rises = λ i j n l.
        let e = front_length [] [] steps waiting are in
        times_rise 0 steps line i j rising n (omega (arith, l, e));
    begun = λ i l r q at submits same.
        let p = member_placed [] [] steps waiting are i r at in
        let s = p.is_step.follows.submitted in
        let one = once l s.place q p.is_step.request submits s.line (subst (λ (t : Request). IsOf q.client q.id t) (sym p.same) same) in
        let b = s.before in
        let t = time_at steps i p.step p.stands in
        omega (arith, one, b, t);
    ended = λ i k client id result r at accepts same.
        let p = member_placed [] [] steps waiting are i r at in
        let t = time_at steps i p.step p.stands in
        elim (cases_lt k p.step.line) [
          | inl less ↦
              let x = p.is_step.front.accepted k client id result less accepts in
              let is = subst (λ (t : Request). IsOf client id t) (sym p.same) same in
              absurd (p.is_step.follows.new x.request x.member (IsOf-both client id p.is_step.request x.request is x.same))
          | inr more ↦ omega (arith, more, t)
        ];
  }

  -- ---- where all lines are passed

  pub record IsOrder (n : ℕ) (placed : List Placed) : Type 0 where
    pub legal : Legal m lines (history_at lines (submits_of placed))
    pub submits : AllSubmit lines (submits_of placed)
    pub timed : AreTimed lines (history_at lines (submits_of placed)) (time_of placed)
    pub within : All (λ p. (p.submit < n) × (p.line < n)) placed

  pub order_found : (n : ℕ) → length lines ≡ n → SubmittedOnce lines → AcceptedOnce lines → AcceptedLater lines
      → (state : S) (line next : ℕ) (steps : List (Step U)) (waiting : List ℕ) (marks : List Bool)
      → IsSearching m undo_of lines state line next steps waiting marks → line ≡ n → IsOrder n (map placed_by steps)
  order_found n all once accepted later state line next steps waiting marks s passed =
      let same = front_of-placed lines steps in
      record {
        legal = rw same (front_is_legal m lines (front_of lines steps) line (omega (arith, passed, all)) accepted later s.front);
        submits = steps_submit [] [] steps waiting s.steps_are;
        timed = rw same (steps_timed once steps waiting line s.steps_are s.rise);
        within =
            subst (λ (k : ℕ). All (λ (p : Placed). (p.submit < k) × (p.line < k)) (map placed_by steps)) all
            (steps_within [] [] steps waiting s.steps_are);
      }
