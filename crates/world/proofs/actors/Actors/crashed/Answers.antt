use Rattle.world.proofs.SeatLemmas.{crashed_at}
use Rattle.world.proofs.actors.Actors.crashed.Goals as goal

pub returns-in-Replica : goal.returns-in-Replica
returns-in-Replica g c =
    rw c.in-Replica.is (crashed_at (λ r. r.state) c.deref.result.now c.args.self.now.replicas.items c.in-Replica.i c.is_crashed.result
    c.deref.ensures.value c.is_crashed.ensures)

pub returns-in-Sequencer : goal.returns-in-Sequencer
returns-in-Sequencer g c =
    rw c.in-Sequencer.is (crashed_at (λ s. s.state) c.deref-in-Sequencer.result.now c.args.self.now.sequencers.items c.in-Sequencer.i
    c.is_crashed-in-Sequencer.result c.deref-in-Sequencer.ensures.value c.is_crashed-in-Sequencer.ensures)

pub returns-in-Client : goal.returns-in-Client
returns-in-Client g c =
    rw c.in-Client.is (crashed_at (λ k. k.state) c.deref-in-Client.result.now c.args.self.now.clients.items c.in-Client.i
    c.is_crashed-in-Client.result c.deref-in-Client.ensures.value c.is_crashed-in-Client.ensures)

pub returns-in-Controller : goal.returns-in-Controller
returns-in-Controller g c =
    rw c.in-Controller.is (crashed_at (λ k. k.state) c.deref-in-Controller.result.now c.args.self.now.controllers.items c.in-Controller.i
    c.is_crashed-in-Controller.result c.deref-in-Controller.ensures.value c.is_crashed-in-Controller.ensures)

pub returns-in-Observer : goal.returns-in-Observer
returns-in-Observer g c =
    rw c.in-Observer.is (crashed_at (λ o. o.state) c.deref-in-Observer.result.now c.args.self.now.observers.items c.in-Observer.i
    c.is_crashed-in-Observer.result c.deref-in-Observer.ensures.value c.is_crashed-in-Observer.ensures)
