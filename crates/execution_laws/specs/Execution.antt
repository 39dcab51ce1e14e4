-- What the laws on executions speak of.
use Rattle.std.specs.Prelude.{◌≡◌, ℕ, ◌+◌, ◌&&◌, List, [], ◌∷◌, nat_lt}
use Rattle.std.specs.List.Sorted.{IsStrictlyIncreasing}
use Rattle.nop_types.specs.declared.request.Request.{Request}
use Rattle.nop_types.specs.Meaning.{Meaning}
use Rattle.nop_types.specs.Lists.{IsGreatest, is_in}
use Rattle.nop_types.specs.Tables.{Account, kept_ids}
use Rattle.nop_types.specs.Execution.{Executed, execute}

-- what an account has of the ids that its client has in a log
pub record IsAccountOf (window : ℕ) (ids : List ℕ) (a : Account) : Type 0 where
  -- the greatest of them, executed or not
  pub greatest : IsGreatest ids a.greatest
  -- it keeps a result with exactly those that are less than a window behind
  pub kept : (id : ℕ) → is_in (kept_ids a.kept) id ≡ (is_in ids id && nat_lt a.greatest (id + window))
  pub ascending : IsStrictlyIncreasing (kept_ids a.kept)

-- executes each of the requests, one after the other
abbrev pub execute_all : {S : Type 0} → Meaning S → Executed S → List Request → Executed S
execute_all m x [] = x
execute_all m x (r ∷ rs) = execute_all m (execute m x r) rs
