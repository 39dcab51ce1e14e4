use Rattle.std.proofs.Common.{◌≡◌, ◌++◌, take}
use Rattle.std.specs.List.{flat_map}
use Rattle.roll_call.specs.Lines.{standing_lines}
use Rattle.roll_call.specs.Nodes.{news_of}
use Rattle.roll_call.proofs.lines.put_news.Given as goal

abbrev pub invariant-loop-asked : goal.invariant-loop-asked
invariant-loop-asked l =
    l.to.items ≡ l.fn.to.items ++ flat_map (λ a. standing_lines a.node.actor (news_of l.now a)) (take l.asked-index l.nodes)
