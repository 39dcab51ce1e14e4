use Rattle.std.proofs.Common.{◌≡◌, ◌++◌}
use Rattle.std.specs.VecDeque.Iter.{deque_iter_rest}
use Rattle.client_table.proofs.account.Account.try_clone_kept.Given as goal

-- the results that were copied, and those that are left
abbrev pub invariant-loop-answered : goal.invariant-loop-answered
invariant-loop-answered l = l.copy.items ++ deque_iter_rest l.answered-iterator ≡ l.self.kept
