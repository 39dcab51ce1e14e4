use Rattle.std.proofs.Common.{◌∷◌, []}
use Rattle.udp_node.specs.Effects.{Line, sends_in}
use Rattle.udp_node.proofs.NodeLemmas.{does_then, does_less}
use Rattle.udp_node.proofs.node.Node.give_traced.Goals as goal

pub returns-in-Ok : goal.returns-in-Ok
returns-in-Ok g c =
    does_then g.C.Core g.L.Link g.W.Sink _ _ _ (Line _ ∷ []) (λ at. sends_in at c.args.outs.now) _ c.in-Ok.ensures c.send_all.ensures

pub returns-in-Err : goal.returns-in-Err
returns-in-Err g c =
    does_less g.C.Core g.L.Link g.W.Sink _ _ c.args.self.now (Line _ ∷ []) (sends_in c.args.self.now.at c.args.outs.now) _
    c.in-Err.ensures
