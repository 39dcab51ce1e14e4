use Rattle.std.proofs.Common.{◌≡◌, ◌+◌, ◌-◌, ◌^◌, min, length, take}
use Rattle.std.specs.List.{sum_by}
use Rattle.kv_host.proofs.saved.saved_len.Given as goal

abbrev pub invariant-loop-key : goal.invariant-loop-key
invariant-loop-key l = l.len ≡ min (4 + sum_by (λ r. 4 + length r.0.now + length r.1.now) (take l.key-index l.rows)) (2 ^ 64 - 1)
