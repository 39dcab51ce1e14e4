use Rattle.std.proofs.Common.{◌≡◌, ◌-◌}
use Rattle.saved_fields.specs.Lists.{elements_at}
use Rattle.saved_fields.proofs.ListLemmas.{with_front}
use Rattle.saved_fields.proofs.saved_list.each.Given as goal

abbrev pub invariant-loop : goal.invariant-loop
invariant-loop g l =
    with_front l.elements.items (elements_at g.E.Field.read_at (l.count - l.counter) l.rest)
    ≡ elements_at g.E.Field.read_at l.count l.bytes
