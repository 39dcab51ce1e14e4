-- How many steps of a search are left, one step later.
use Rattle.std.proofs.Common.{ℕ, zero, suc, ◌+◌, ◌-◌, ◌*◌, ◌<◌, ◌≤◌, List, [], ◌∷◌, ◌++◌, length, arith}
use Rattle.order_search.specs.Bounds.{steps_from, steps_behind}
use Rattle.order_search.specs.declared.step.Step.{Step}

more : (a b m : ℕ) → b < a → b * m + m ≤ a * m
more zero b m l = absurd (omega (arith, l))
more (suc a) zero m l = omega arith
more (suc a) (suc b) m l = let h = more a b m (omega (arith, l)) in omega (arith, h)

-- ---- from one front

pub some_from : (n u line next : ℕ) → 0 < steps_from n u line next
some_from n zero line next = omega arith
some_from n (suc u) line next = omega arith

further_from : (n u line : ℕ) → line < n → steps_from n u (suc line) 0 + 1 ≤ steps_from n u line 0
further_from n zero line l = omega (arith, l)
further_from n (suc u) line l = omega (arith, l)

tried_from : (n u line next : ℕ) → next < u → steps_from n u line (suc next) + 1 ≤ steps_from n u line next
tried_from n zero line next l = absurd (omega (arith, l))
tried_from n (suc u) line next l =
    let h = more (suc u - next) (suc u - suc next) (1 + steps_from n u 0 0) (omega (arith, l)) in
    omega (arith, h)

fewer_from : (n u line : ℕ) → steps_from n u line 0 ≤ steps_from n u 0 0
fewer_from n zero line = omega arith
fewer_from n (suc u) line = omega arith

placed_from : (n u line next tried : ℕ) → next < tried → next < suc u
    → steps_from n (suc u) line tried + steps_from n u line 0 + 1 ≤ steps_from n (suc u) line next
placed_from n u line next tried l k =
    let h = more (suc u - next) (suc u - tried) (1 + steps_from n u 0 0) (omega (arith, l, k)) in
    let f = fewer_from n u line in
    omega (arith, h, f)

-- ---- behind steps

module _ {U : Type 0} (n : ℕ) where
  pub some_behind : (u : ℕ) (steps : List (Step U)) (line next : ℕ) → length steps ≤ u → 0 < steps_behind n u steps line next
  some_behind u [] line next l = some_from n u line next
  some_behind zero (s ∷ steps) line next l = absurd (omega (arith, l))
  some_behind (suc u) (s ∷ steps) line next l =
      let h = some_from n (suc u) s.line s.tried in
      omega (arith, h)

  pub further_behind : (u : ℕ) (steps : List (Step U)) (line : ℕ) → length steps ≤ u → line < n
      → steps_behind n u steps (suc line) 0 + 1 ≤ steps_behind n u steps line 0
  further_behind u [] line l k = further_from n u line k
  further_behind zero (s ∷ steps) line l k = absurd (omega (arith, l))
  further_behind (suc u) (s ∷ steps) line l k =
      let h = further_behind u steps line (omega (arith, l)) k in
      omega (arith, h)

  pub tried_behind : (u : ℕ) (steps : List (Step U)) (line next : ℕ) → next + length steps < u
      → steps_behind n u steps line (suc next) + 1 ≤ steps_behind n u steps line next
  tried_behind u [] line next l = tried_from n u line next (omega (arith, l))
  tried_behind zero (s ∷ steps) line next l = absurd (omega (arith, l))
  tried_behind (suc u) (s ∷ steps) line next l =
      let h = tried_behind u steps line next (omega (arith, l)) in
      omega (arith, h)

  pub placed_behind : (u : ℕ) (steps : List (Step U)) (s : Step U) (next : ℕ) → next < s.tried → next + length steps < u
      → steps_behind n u (steps ++ s ∷ []) s.line 0 + 1 ≤ steps_behind n u steps s.line next
  placed_behind zero [] s next l k = absurd (omega (arith, k))
  placed_behind (suc u) [] s next l k =
      let h = placed_from n u s.line next s.tried l (omega (arith, k)) in
      omega (arith, h)
  placed_behind zero (t ∷ steps) s next l k = absurd (omega (arith, k))
  placed_behind (suc u) (t ∷ steps) s next l k =
      let h = placed_behind u steps s next l (omega (arith, k)) in
      omega (arith, h)

  pub back_behind : (u : ℕ) (steps : List (Step U)) (s : Step U) (line next : ℕ) → length steps < u
      → steps_behind n u steps s.line s.tried + 1 ≤ steps_behind n u (steps ++ s ∷ []) line next
  back_behind zero [] s line next l = absurd (omega (arith, l))
  back_behind (suc u) [] s line next l = let h = some_from n u line next in omega (arith, h)
  back_behind zero (t ∷ steps) s line next l = absurd (omega (arith, l))
  back_behind (suc u) (t ∷ steps) s line next l =
      let h = back_behind u steps s line next (omega (arith, l)) in
      omega (arith, h)
