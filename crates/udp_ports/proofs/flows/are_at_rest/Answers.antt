use Rattle.std.proofs.Common.{◌≡◌, ◌∙◌, true, sym, List, subst}
use Rattle.std.specs.List.{All}
use Rattle.std.proofs.lemmas.List.{take_all}
use Rattle.std.proofs.lemmas.List.Elements.{All-more}
use Rattle.resending.specs.Sending.{Outgoing, is_at_rest}
use Rattle.udp_ports.proofs.flows.are_at_rest.Goals as goal

abbrev Rests : Outgoing → Type 0
Rests flow = is_at_rest flow ≡ true

pub loop-flow-preserved : goal.loop-flow-preserved
loop-flow-preserved c =
    All-more Rests c.args.flows.now c.loop-flow.flow-index c.flow-item.result c.loop-flow-test.true c.loop-flow.invariant
    (subst Rests c.flow-item.is (sym c.is_at_rest.ensures ∙ c.if-not-is_at_rest.false))

pub returns : goal.returns
returns c is =
    subst (λ (flows : List Outgoing). All Rests flows) (take_all c.loop-flow.flow-index c.args.flows.now c.loop-flow-test.false)
    c.loop-flow.invariant
