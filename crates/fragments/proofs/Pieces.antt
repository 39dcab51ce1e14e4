-- A front of a front.
use Rattle.std.proofs.Common.{◌≡◌, ℕ, ◌≤◌, List, length, take, sym, ap, ◌∙◌, arith}
use Rattle.std.proofs.lemmas.List.{take-take, length-take}

-- a front of a front
pub prefix_through : (old mid new : List ℕ) → take (length old) mid ≡ old → take (length mid) new ≡ mid → take (length old) new ≡ old
prefix_through old mid new a b =
    let le : length old ≤ length mid = omega (arith, ap length a, length-take (length old) mid) in
    sym (take-take (length old) (length mid) new le) ∙ rw b a
