use Rattle.std.proofs.Common.{refl, ◌∙◌}
use Rattle.udp_ports.proofs.GoingOn.{may_and_then, may_stay}
use Rattle.udp_ports.proofs.link.receive.Goals as goal

pub loop-init : goal.loop-init
loop-init g c = (refl, (refl, may_stay c.args.guard.now))

pub loop-preserved-then-greet : goal.loop-preserved-then-greet
loop-preserved-then-greet g c = (
  c.loop.invariant.0,
  (
    c.receive.ensures.places ∙ c.loop.invariant.1.0,
    may_and_then c.args.guard.now c.loop.guard c.greet.new.guard c.loop.invariant.1.1 c.greet.ensures,
  ),
)

pub returns-then-is_heard-clause-guard : goal.returns-then-is_heard-clause-guard
returns-then-is_heard-clause-guard g c =
    may_and_then c.args.guard.now c.loop.guard c.greet.new.guard c.loop.invariant.1.1 c.greet.ensures

pub loop-preserved : goal.loop-preserved
loop-preserved g c = (
  c.loop.invariant.0,
  (
    c.receive.ensures.places ∙ c.loop.invariant.1.0,
    may_and_then c.args.guard.now c.loop.guard c.greet.new.guard c.loop.invariant.1.1 c.greet.ensures,
  ),
)
