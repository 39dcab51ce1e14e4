-- What the check of an order keeps.
use Rattle.std.specs.Prelude.{◌≡◌, ◌≤◌, ◌++◌, ◌∷◌, [], ℕ, List, Some, true, false, slice_index_or}
use Rattle.std.specs.Global.{Vec}
use Rattle.std.specs.HashMap.{get}
use Rattle.std.specs.Str.{bytes_eq}
use Rattle.nop_types.specs.Lists.{Has}
use Rattle.braiding.specs.Orders.{behind, line_at, node_in, starts, IsBehindOwn}
use Rattle.braiding.specs.declared.checking.Marks.{Marks}

module _ (lines : List (List ℕ)) where
  -- of a node whose step came, a step is known that is not earlier
  abbrev pub AreLatest : Marks → List ℕ → Type 0
  AreLatest m before =
      (q : ℕ) → Has before q → starts lines q ≡ true → (name : Vec ℕ) → name.items ≡ node_in (line_at lines q)
      → (n : ℕ) × (get (λ a b. bytes_eq a.items b.items) m.last name ≡ Some n) × (q ≤ n)

  pub record AreMarked (m : Marks) (before : List ℕ) : Type 0 where
    pub seen : (p : ℕ) → Has before p → slice_index_or m.seen.items p false ≡ true
    pub behind : m.behind ≡ behind 0 before
    pub latest : AreLatest m before

  -- the line may come next, as far as its step and its node go
  pub record Follows (old new : Marks) (p : ℕ) : Type 0 where
    pub together : starts lines p ≡ false → p ≡ old.behind
    pub own : (before : List ℕ) → AreLatest old before → starts lines p ≡ true → IsBehindOwn lines before p
    pub latest : (before : List ℕ) → AreLatest old before → AreLatest new (before ++ p ∷ [])
