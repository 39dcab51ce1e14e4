-- Reading places one after the other, as a loop does.
use Rattle.std.proofs.Common.{◌≡◌, ℕ, suc, ◌-◌, ◌+◌, ◌≤◌, ◌<◌, List, [], ◌∷◌, ◌++◌, Option, Some, None, refl, sym, ◌∙◌, arith}
use Rattle.lock_host.specs.declared.lock.Lock.{Lock}
use Rattle.lock_host.specs.Locks.{Places, Locks}
use Rattle.lock_host.specs.Saved.{nothing_after, place_at, with_places}

module _ (count i last : ℕ) (places seen : Places) (bytes : List ℕ) (total : Option Locks) (same : seen ≡ places)
    (so_far : with_places (count - i) last places bytes ≡ total) where
  one_more : (more : i < count) → count - i ≡ suc (count - (i + 1))
  one_more more = omega arith

  pub goes_on : (place : Option Lock) (rest : List ℕ) → i < count → Some (place, rest) ≡ place_at last seen bytes
      → with_places (count - (i + 1)) last (places ++ place ∷ []) rest ≡ total
  unfolding with_places
  goes_on place rest more e =
      let one : with_places (count - i) last places bytes ≡ with_places (count - (i + 1)) last (places ++ place ∷ []) rest =
      rw (one_more more, sym same, sym e) refl in
      sym one ∙ so_far

  pub stops : i < count → None ≡ place_at last seen bytes → None ≡ total
  unfolding with_places
  stops more e =
      let one : with_places (count - i) last places bytes ≡ None = rw (one_more more, sym same, sym e) refl in
      sym one ∙ so_far

pub ends : (count i last : ℕ) (places : Places) (bytes : List ℕ) (total : Option Locks) → with_places (count - i) last places bytes ≡ total
    → count ≤ i → nothing_after bytes (record { last = last; places = places }) ≡ total
unfolding with_places
ends count i last places bytes total so_far all =
    let none : count - i ≡ 0 = omega arith in
    let one : with_places (count - i) last places bytes ≡ nothing_after bytes (record { last = last; places = places }) = rw none refl in
    sym one ∙ so_far
