use Rattle.std.proofs.Common.{◌≡◌, ◌++◌, map, take}
use Rattle.client_quorum.specs.ClientSteps.{sent}
use Rattle.client_quorum.proofs.rows.retry.Given as goal

-- the first ones were sent
abbrev pub invariant-loop-open : goal.invariant-loop-open
invariant-loop-open l = l.out ≡ l.initial.out ++ map (λ o. sent o.request) (take l.open-index l.open-items)
