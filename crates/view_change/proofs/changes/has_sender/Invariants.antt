use Rattle.std.proofs.Common.{◌≡◌, drop}
use Rattle.view_change.specs.Gathering.{has_sender, change_sender}
use Rattle.view_change.proofs.changes.has_sender.Given as goal

abbrev pub invariant-loop-change : goal.invariant-loop-change
invariant-loop-change l = has_sender change_sender (drop l.change-index l.changes) l.sender ≡ has_sender change_sender l.changes l.sender
