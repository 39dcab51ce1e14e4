-- Votes as the bits of a number.
use Rattle.std.specs.Prelude.{ℕ, ◌==◌, List, filter}
use Rattle.std.specs.Int.{bit_at}
use Rattle.std.specs.List.{range_with_len}
use Rattle.nop_types.specs.declared.limits.TheConstants.{MAX_REPLICAS}

-- the replicas whose bits are set
unfoldable pub voters_of : ℕ → List ℕ
voters_of mask = filter (λ k. bit_at mask k == 1) (range_with_len 0 MAX_REPLICAS)
