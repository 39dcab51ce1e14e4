use Rattle.std.proofs.Common.{sym, ap}
use Rattle.nop_types.specs.Logs.{Trimmed}
use Rattle.replica_rows.specs.Rows.{stamped}
use Rattle.replica_state.specs.Sends.{when}
use Rattle.replica_rows.specs.Messages.{arrival_of, loads_in, on_message, ticked, arrive}
use Rattle.replica_rows.proofs.Running.{on_ok, does_as}
use Rattle.replica_rows.proofs.member.Member.arrive.Goals as goal

pub returns-in-Stamped : goal.returns-in-Stamped
unfolding arrive
returns-in-Stamped g c =
    let m = g.H.Host.meaning in
    on_ok c.stamped.result _ _
    (does_as g.H.Host c.args.self.now _ (stamped m Trimmed c.in-Stamped.packet) (λ s. arrive m Trimmed s (arrival_of c.args.arrival))
    (ap (λ a. arrive m Trimmed c.args.self.now.state (arrival_of a)) (sym c.in-Stamped.is)))
    c.stamped.ensures

pub returns-in-PeerMessage : goal.returns-in-PeerMessage
unfolding arrive
returns-in-PeerMessage g c =
    let m = g.H.Host.meaning in
    on_ok c.peer_message.result _ _
    (does_as g.H.Host c.args.self.now _ (when (loads_in m c.in-PeerMessage.message.body) (on_message m Trimmed c.in-PeerMessage.message)) (λ s. arrive m Trimmed s (arrival_of c.args.arrival))
    (ap (λ a. arrive m Trimmed c.args.self.now.state (arrival_of a)) (sym c.in-PeerMessage.is)))
    c.peer_message.ensures

pub returns-in-Ticked : goal.returns-in-Ticked
unfolding arrive
returns-in-Ticked g c =
    let m = g.H.Host.meaning in
    on_ok c.ticked.result _ _
    (does_as g.H.Host c.args.self.now _ (ticked m Trimmed c.in-Ticked.tick) (λ s. arrive m Trimmed s (arrival_of c.args.arrival))
    (ap (λ a. arrive m Trimmed c.args.self.now.state (arrival_of a)) (sym c.in-Ticked.is)))
    c.ticked.ensures
