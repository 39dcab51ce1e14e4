use Rattle.std.proofs.Common.{◌≡◌, drop}
use Rattle.std.specs.List.{position_from}
use Rattle.network.specs.Finding.{has_bytes, first_index}
use Rattle.network.specs.Marks.{all_sent}
use Rattle.network.proofs.network.finding.walk.Given as goal

-- the first of the datagrams that are left is the first of all
abbrev pub invariant-loop-i : goal.invariant-loop-i
invariant-loop-i l =
    position_from (has_bytes l.wanted) l.i (all_sent l.bytes (drop l.i l.marks)) ≡ first_index l.wanted (all_sent l.bytes l.marks)
