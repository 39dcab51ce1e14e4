use Rattle.std.proofs.Common.{◌≡◌, take}
use Rattle.braiding.specs.Ending.{written}
use Rattle.braiding.specs.Orders.{texts_of}
use Rattle.braiding.proofs.running.text_of.Given as goal

abbrev pub invariant-loop-place : goal.invariant-loop-place
invariant-loop-place l = l.text.items ≡ written (texts_of l.lines) (take l.place-index l.order)
