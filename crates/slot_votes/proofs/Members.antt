-- Who is in a list of votes.
use Rattle.std.proofs.Common.{◌≡◌, ℕ, zero, suc, ◌<◌, Bool, true, false, List, [], ◌∷◌, Some, refl, ap, ◌∙◌, sym, arith, inl, inr}
use Rattle.std.specs.Prelude.{◌==◌, ◌||◌, ◌&&◌, ◌⊎◌, ◌↔◌, slice_get}
use Rattle.std.specs.List.{range_with_len}
use Rattle.std.proofs.lemmas.Bool.Decides.{nat_tests}
use Rattle.std.proofs.lemmas.Bool.{and_parts}
use Rattle.nop_types.specs.declared.limits.TheConstants.{MAX_REPLICAS}
use Rattle.nop_types.specs.Lists.{Has}
use Rattle.slot_votes.specs.Votes.{has_vote, with_vote}
use Rattle.slot_votes.proofs.Filters.{filter_same, has_filtered, has_range, range_has, filter_apart}

has_from : (votes : List ℕ) (k : ℕ) → has_vote votes k ≡ true → Has votes k
has_from [] k e = absurd cc
has_from (v ∷ votes) k e = at (v == k) refl e (λ f. has_from votes k f)
  where
    at : (b : Bool) → (v == k) ≡ b → (b || has_vote votes k) ≡ true → (has_vote votes k ≡ true → Has votes k) → Has (v ∷ votes) k
    at true f e h = let same : v ≡ k = grind (arith, nat_tests, f) in (0, ap (λ (n : ℕ). Some n) same)
    at false f e h = let r = h e in (suc r.0, r.1)

pub has_to : (votes : List ℕ) (k i : ℕ) → slice_get votes i ≡ Some k → has_vote votes k ≡ true
has_to [] k i e = absurd cc
has_to (v ∷ votes) k zero e =
    let same : v ≡ k = cc in
    let test : (v == k) ≡ true = grind (arith, nat_tests, same) in
    ap (λ b. b || has_vote votes k) test
has_to (v ∷ votes) k (suc i) e = at (v == k) (has_to votes k i e)
  where
    at : (b : Bool) → has_vote votes k ≡ true → (b || has_vote votes k) ≡ true
    at true h = refl
    at false h = h

has_with : (votes : List ℕ) (q k : ℕ)
    → has_vote (with_vote votes q) k ≡ (((k == q) || has_vote votes k) && has_vote (range_with_len 0 MAX_REPLICAS) k)
unfolding with_vote
has_with votes q k = has_filtered (λ j. (j == q) || has_vote votes j) (range_with_len 0 MAX_REPLICAS) k

one_of : (votes : List ℕ) (q k : ℕ) (b : Bool) → (k == q) ≡ b → (b || has_vote votes k) ≡ true → (k ≡ q) ⊎ Has votes k
one_of votes q k true f e = inl (grind (arith, nat_tests, f))
one_of votes q k false f e = inr (has_from votes k e)

from_one : (votes : List ℕ) (q k : ℕ) → (k ≡ q) ⊎ Has votes k → ((k == q) || has_vote votes k) ≡ true
from_one votes q k (inl same) = let test : (k == q) ≡ true = grind (arith, nat_tests, same) in ap (λ b. b || has_vote votes k) test
from_one votes q k (inr has) = at (k == q) (has_to votes k has.0 has.1)
  where
    at : (b : Bool) → has_vote votes k ≡ true → (b || has_vote votes k) ≡ true
    at true h = refl
    at false h = h

pub members_of_with_vote : (votes : List ℕ) (q k : ℕ) → Has (with_vote votes q) k ↔ ((k < MAX_REPLICAS) × ((k ≡ q) ⊎ Has votes k))
members_of_with_vote votes q k = (
  λ h.
      let parts =
      and_parts ((k == q) || has_vote votes k) (has_vote (range_with_len 0 MAX_REPLICAS) k)
      (sym (has_with votes q k) ∙ has_to (with_vote votes q) k h.0 h.1) in
      (range_has 0 MAX_REPLICAS k parts.1, one_of votes q k (k == q) refl parts.0),
  λ h. has_from (with_vote votes q) k (has_with votes q k
      ∙ ap (λ b. b && has_vote (range_with_len 0 MAX_REPLICAS) k) (from_one votes q k h.1) ∙ has_range 0 MAX_REPLICAS k (omega arith) h.0),
)

pub with_vote_apart : (votes : List ℕ) (q i j k : ℕ) → slice_get (with_vote votes q) i ≡ Some k → slice_get (with_vote votes q) j ≡ Some k
    → i ≡ j
unfolding with_vote
with_vote_apart votes q i j k e f = filter_apart (λ l. (l == q) || has_vote votes l) 0 MAX_REPLICAS i j k e f

true_last : (a b : Bool) → b ≡ true → (a && b) ≡ a
true_last true b e = e
true_last false b e = refl

has_with_within : (votes : List ℕ) (q k : ℕ) → k < MAX_REPLICAS → has_vote (with_vote votes q) k ≡ ((k == q) || has_vote votes k)
has_with_within votes q k high = has_with votes q k
    ∙ true_last ((k == q) || has_vote votes k) (has_vote (range_with_len 0 MAX_REPLICAS) k) (has_range 0 MAX_REPLICAS k (omega arith) high)

pub with_vote_again : (votes : List ℕ) (q r : ℕ) → Has (with_vote votes q) r → with_vote (with_vote votes q) r ≡ with_vote votes q
unfolding with_vote
with_vote_again votes q r has =
    filter_same (λ k. (k == r) || has_vote (with_vote votes q) k) (λ k. (k == q) || has_vote votes k) 0 MAX_REPLICAS
    (λ k from below. at k (k == r) refl (has_with_within votes q k (omega arith)))
  where
    at : (k : ℕ) (b : Bool) → (k == r) ≡ b → has_vote (with_vote votes q) k ≡ ((k == q) || has_vote votes k)
        → (b || has_vote (with_vote votes q) k) ≡ ((k == q) || has_vote votes k)
    at k true e h =
        let same : k ≡ r = grind (arith, nat_tests, e) in
        sym (ap (has_vote (with_vote votes q)) same ∙ has_to (with_vote votes q) r has.0 has.1) ∙ h
    at k false e h = h
