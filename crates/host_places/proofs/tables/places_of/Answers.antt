use Rattle.std.proofs.Common.{ℕ, ◌++◌, ap, ◌∙◌}
use Rattle.nop_types.specs.declared.output.Actor.TheVariants.{Controller, Client}
use Rattle.host_places.specs.Tables.{place_of}
use Rattle.host_places.proofs.Below.{one_more}
use Rattle.host_places.proofs.tables.places_of.Goals as goal

pub loop-controller-preserved : goal.loop-controller-preserved
loop-controller-preserved c =
    one_more c.args.at.now.base c.args.list.now Controller c.loop-controller.controller c.loop-sequencer.places.items
    c.loop-controller.places.items c.add-in-loop-controller.new.places.items c.loop-controller.invariant c.in_ok-add-3.ensures

pub loop-client-preserved : goal.loop-client-preserved
loop-client-preserved c =
    one_more c.args.at.now.base c.args.list.now Client c.loop-client.client c.loop-controller.places.items c.loop-client.places.items
    c.add-in-loop-client.new.places.items c.loop-client.invariant
    (c.in_ok-add-4.ensures
    ∙ ap (λ (m : ℕ). c.loop-client.places.items ++ place_of c.args.at.now.base c.args.list.now (Client m)) c.from.ensures)
