use Rattle.std.proofs.Common.{◌≡◌, drop}
use Rattle.attached_links.specs.Attaching.{lost_after, lost_of}
use Rattle.attached_links.proofs.attaching.lost_of.Given as goal

-- what is left adds up to all
abbrev pub invariant-loop-held : goal.invariant-loop-held
invariant-loop-held g l = lost_after l.lost (drop l.held-index l.links) ≡ lost_of l.links
