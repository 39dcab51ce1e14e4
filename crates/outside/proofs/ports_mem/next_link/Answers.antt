use Rattle.std.proofs.lemmas.List.Elements.{All-drop}
use Rattle.outside.specs.Memory.{IsFresh}
use Rattle.outside.proofs.ports_mem.next_link.Goals as goal

pub returns-in-Some-clause-rest : goal.returns-in-Some-clause-rest
returns-in-Some-clause-rest g c =
    rw c.pop_front.ensures.rest (All-drop (IsFresh g.P.CallPlan.fault_count) 1 _ c.requires)
