use Rattle.std.proofs.Common.{◌≡◌, ◌++◌, take}
use Rattle.std.specs.List.{flat_map}
use Rattle.saved_fields.proofs.saved_list.put_each.Given as goal

abbrev pub invariant-loop-element : goal.invariant-loop-element
invariant-loop-element g l = l.to.items ≡ l.fn.to.items ++ flat_map g.E.Field.spell (take l.element-index l.elements)
