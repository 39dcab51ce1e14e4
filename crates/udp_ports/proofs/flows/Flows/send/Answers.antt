use Rattle.std.proofs.Common.{◌≡◌, ◌<◌, ◌%◌, ◌∙◌, ℕ, List, length, get_or, ap, arith, rules, subst}
use Rattle.std.proofs.lemmas.List.{get_or_default}
use Rattle.resending.specs.Sending.{Outgoing, at_time, opening}
use Rattle.udp_ports.specs.Turns.{Goes, flow_to}
use Rattle.udp_ports.proofs.flows.Flows.send.Goals as goal

pub returns : goal.returns
returns g c =
    let lanes : List Outgoing = c.self.inside.lanes in
    let long : length lanes ≡ 64 = search rules depth 20 in
    let at : c.lane_of.result ≡ c.args.port % 64 = c.lane_of.ensures in
    let lt : c.lane_of.result < length lanes = omega (arith, long, at) in
    let same : get_or lanes c.lane_of.result c.index-self-lane_of.result ≡ flow_to c.args.port c.args.self.now =
    get_or_default lanes c.lane_of.result c.index-self-lane_of.result opening lt
    ∙ ap (λ (n : ℕ). get_or lanes n opening) at
    ∙ ap (λ (flows : List Outgoing). get_or flows (c.args.port % 64) opening) c.self.view_is in
    let time : c.set_time.new.self ≡ at_time c.unwrap_or.result (flow_to c.args.port c.args.self.now) =
    c.set_time.ensures ∙ ap (at_time c.unwrap_or.result) same in (
      c.unwrap_or.result,
      (
        c.send_part.new.flow,
        (
          subst (λ (flow : Outgoing). Goes c.args.port c.args.bytes.now flow c.send_part.new.flow c.send_part.result) time c.send_part.ensures,
          search rules,
        ),
      ),
    )
