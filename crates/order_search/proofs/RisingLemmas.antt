-- The lines of steps, which do not fall.
use Rattle.std.proofs.Common.{◌≡◌, ℕ, zero, suc, ◌<◌, ◌≤◌, List, [], ◌∷◌, ◌++◌, map, length, Some, ap, arith}
use Rattle.std.specs.Prelude.{slice_get}
use Rattle.order_search.specs.Outcomes.{placed_by, time_of}
use Rattle.order_search.specs.Searching.{AreRising}
use Rattle.order_search.specs.declared.step.Step.{Step}

module _ {U : Type 0} where
  -- a later line
  pub rising_further : (low : ℕ) (steps : List (Step U)) (line further : ℕ) → AreRising low steps line → line ≤ further
      → AreRising low steps further
  rising_further low [] line further h l = omega (arith, h, l)
  rising_further low (s ∷ steps) line further h l = (h.0, rising_further s.line steps line further h.1 l)

  -- one more step, at the line
  pub rising_push : (low : ℕ) (steps : List (Step U)) (s : Step U) → AreRising low steps s.line → AreRising low (steps ++ s ∷ []) s.line
  rising_push low [] s h = (h, omega arith)
  rising_push low (t ∷ steps) s h = (h.0, rising_push t.line steps s h.1)

  -- one step less
  pub rising_front : (low : ℕ) (steps : List (Step U)) (s : Step U) (line : ℕ) → AreRising low (steps ++ s ∷ []) line
      → AreRising low steps s.line
  rising_front low [] s line h = h.0
  rising_front low (t ∷ steps) s line h = (h.0, rising_front t.line steps s line h.1)

  -- ---- as times

  abbrev times : List (Step U) → ℕ → ℕ
  times steps = time_of (map placed_by steps)

  pub time_at : (steps : List (Step U)) (i : ℕ) (s : Step U) → slice_get steps i ≡ Some s → times steps i ≡ s.line
  time_at [] i s h = absurd cc
  time_at (t ∷ steps) zero s h = let e : t ≡ s = cc in ap (λ (x : Step U). x.line) e
  time_at (t ∷ steps) (suc i) s h = time_at steps i s h

  none_below : (low : ℕ) (steps : List (Step U)) (line j : ℕ) → AreRising low steps line → j < length steps → low ≤ times steps j
  none_below low [] line j h l = absurd (omega (arith, l))
  none_below low (s ∷ steps) line zero h l = h.0
  none_below low (s ∷ steps) line (suc j) h l =
      let b = none_below s.line steps line j h.1 (omega (arith, l)) in
      let a = h.0 in
      omega (arith, a, b)

  pub times_rise : (low : ℕ) (steps : List (Step U)) (line i j : ℕ) → AreRising low steps line → i ≤ j → j < length steps
      → times steps i ≤ times steps j
  times_rise low [] line i j h n l = absurd (omega (arith, l))
  times_rise low (s ∷ steps) line zero zero h n l = omega arith
  times_rise low (s ∷ steps) line zero (suc j) h n l = none_below s.line steps line j h.1 (omega (arith, l))
  times_rise low (s ∷ steps) line (suc i) zero h n l = absurd (omega (arith, n))
  times_rise low (s ∷ steps) line (suc i) (suc j) h n l = times_rise s.line steps line i j h.1 (omega (arith, n)) (omega (arith, l))
