use Rattle.std.proofs.Common.{◌∙◌, arith}
use Rattle.replica_state.specs.Moves.{overlay}
use Rattle.replica_rows.proofs.Adopted.{overlay_sends}
use Rattle.replica_rows.proofs.Running.{on_ok}
use Rattle.replica_rows.proofs.member.Member.overlay.Goals as goal

pub replies_above-requires-clause-kept : goal.replies_above-requires-clause-kept
replies_above-requires-clause-kept g c =
    let points = c.in_ok-lay_over.ensures.runs.within.points in
    omega (arith, points)

pub replies_above-requires-clause-behind : goal.replies_above-requires-clause-behind
replies_above-requires-clause-behind g c = omega (arith, c.in_ok-lay_over.ensures.behind)

pub returns : goal.returns
unfolding overlay
returns g c =
    let is = c.in_ok-lay_over.ensures.state in
    on_ok c.to_leader.result _ _
    (λ does. record {
      runs = does.runs;
      state = does.state ∙ c.replies_above.ensures.state ∙ is;
      sends =
          overlay_sends g.H.Host.meaning c.args.self.now.state c.lay_over.new.self.state c.replies_above.new.self.state c.args.log
          c.max-answered.result c.len-leader_len.result c.args.self.now.sends c.lay_over.new.self.sends c.replies_above.new.self.sends
          _ is (omega arith) c.len-leader_len.ensures.len c.lay_over.ensures.sends c.replies_above.ensures.state
          c.in_ok-replies_above.ensures.sends does.sends;
    })
    c.to_leader.ensures.does
