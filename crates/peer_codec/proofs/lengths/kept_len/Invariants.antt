use Rattle.std.proofs.Common.{◌≡◌, ◌*◌, ◌≤◌, take, length}
use Rattle.std.specs.List.{sum_by}
use Rattle.peer_codec.specs.Spelling.{answered_bytes}
use Rattle.peer_codec.proofs.lengths.kept_len.Given as goal

abbrev pub invariant-loop-answered : goal.invariant-loop-answered
invariant-loop-answered l =
    record {
      exact : l.len ≡ sum_by (λ a. length (answered_bytes a)) (take l.answered-index l.kept);
      small : l.len ≤ 267 * l.answered-index;
    }
