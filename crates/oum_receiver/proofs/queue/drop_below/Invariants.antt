use Rattle.std.proofs.Common.{◌≡◌}
use Rattle.std.specs.FinMap as finite
use Rattle.std.specs.BTreeMap.{btree_map_len}
use Rattle.oum_receiver.specs.Requests.{is_from}
use Rattle.oum_receiver.specs.Table.{map_of}
use Rattle.oum_receiver.proofs.queue.drop_below.Given as goal

-- what is to be kept is still there
abbrev pub invariant-loop-requests : goal.invariant-loop-requests
invariant-loop-requests l =
    finite.retain_keys (map_of l.requests.entries) (is_from l.next) ≡ finite.retain_keys (map_of l.initial.requests.entries)
    (is_from l.next)

abbrev pub decreases-loop-requests : goal.decreases-loop-requests
decreases-loop-requests l = btree_map_len l.requests
