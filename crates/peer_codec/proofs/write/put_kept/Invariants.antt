use Rattle.std.proofs.Common.{◌≡◌, ◌++◌, take}
use Rattle.std.specs.List.{flat_map}
use Rattle.peer_codec.specs.Spelling.{answered_bytes}
use Rattle.peer_codec.proofs.write.put_kept.Given as goal

abbrev pub invariant-loop-answered : goal.invariant-loop-answered
invariant-loop-answered l = l.to.items ≡ l.fn.to.items ++ flat_map answered_bytes (take l.answered-index l.kept)
