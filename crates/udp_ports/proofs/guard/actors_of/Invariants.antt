use Rattle.std.proofs.Common.{◌≡◌, ◌++◌, map, drop}
use Rattle.udp_ports.proofs.guard.actors_of.Given as goal

abbrev pub invariant-loop-place : goal.invariant-loop-place
invariant-loop-place l = l.actors.items ++ map (λ p. p.actor) (drop l.place-index l.places) ≡ map (λ p. p.actor) l.places
