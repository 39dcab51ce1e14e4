-- The replicas that voted, as the list of their numbers.
use Rattle.std.specs.Prelude.{ℕ, ◌==◌, ◌||◌, Bool, nat_le, List, length, filter, if◌then◌else◌}
use Rattle.std.specs.List.{list_any, range_with_len}
use Rattle.nop_types.specs.declared.limits.TheConstants.{MAX_REPLICAS}
use Rattle.nop_types.specs.declared.replica_state.Vote.{Vote}
use Rattle.nop_types.specs.declared.replica_state.Vote.TheVariants.{Settled, Waiting}

-- whether the replica q voted
abbrev pub has_vote : List ℕ → ℕ → Bool
has_vote votes q = list_any (λ v. v == q) votes

-- with the vote of the replica q: in ascending order, each replica that is q or voted before
unfoldable pub with_vote : List ℕ → ℕ → List ℕ
with_vote votes q = filter (λ k. (k == q) || has_vote votes k) (range_with_len 0 MAX_REPLICAS)

-- settled where f replicas voted
abbrev pub vote_of : ℕ → List ℕ → Vote
vote_of f votes = if nat_le f (length votes) then Settled else Waiting
