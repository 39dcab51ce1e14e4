-- The votes that a leader counts.
use Rattle.std.proofs.Common.{◌≡◌, ℕ, ◌≤◌, Bool, true, false, None, refl, sym, subst, arith, inl, inr, List}
use Rattle.std.specs.Prelude.{nat_le, if◌then◌else◌}
use Rattle.std.proofs.lemmas.Bool.Decides.{nat_tests}
use Rattle.nop_types.specs.declared.replica_state.Vote.{Vote}
use Rattle.nop_types.specs.declared.replica_state.Vote.TheVariants.{Settled, Waiting}
use Rattle.slot_votes.specs.Agreement.{Agreement}
use Rattle.slot_votes.specs.Votes.{with_vote}
use Rattle.slot_votes.proofs.Members.{members_of_with_vote, with_vote_apart}
use Rattle.started_views.specs.Quorums.{counts}
use Rattle.protocol.specs.Moves.{unless_settled}
use Rattle.protocol.proofs.Facts.{counts_has, has_counts, counts_once}

pub none_needed : (f : ℕ) (b : Bool) → nat_le f 0 ≡ b → (if b then Settled else Waiting) ≡ Settled → f ≡ 0
none_needed f true e h = grind (arith, nat_tests, e)
none_needed f false e h = absurd cc

pub is_settled : (g : Agreement) (v : Vote) → unless_settled g v ≡ None → v ≡ Settled
is_settled g Settled e = refl
is_settled g Waiting e = absurd cc

pub vote_once : (votes : List ℕ) (q k : ℕ) → counts k (with_vote votes q) ≤ 1
vote_once votes q k = counts_once (with_vote votes q) (λ i j n h g. with_vote_apart votes q i j n h g) k

-- what holds of the voter and of each that voted before
pub vote_holds : (P : ℕ → Type 0) (votes : List ℕ) (q : ℕ) → P q → ((k : ℕ) → 1 ≤ counts k votes → P k) → (k : ℕ)
    → 1 ≤ counts k (with_vote votes q) → P k
vote_holds P votes q here old k h =
    elim ((members_of_with_vote votes q k).0 (counts_has (with_vote votes q) k h)).1 [
      | inl e ↦ subst P (sym e) here
      | inr i ↦ old k (has_counts votes k i)
    ]

pub enough_from : (f n : ℕ) (b : Bool) → nat_le f n ≡ b → (if b then Settled else Waiting) ≡ Settled → f ≤ n
enough_from f n true e h = grind (arith, nat_tests, e)
enough_from f n false e h = absurd cc
