use Rattle.std.proofs.Common.{◌∙◌, ap, arith}
use Rattle.nop_types.specs.Logs.{Trimmed}
use Rattle.replica_state.specs.declared.state.ReplicaState.{ReplicaState}
use Rattle.replica_state.specs.Moves.{adopted, adopt, drain}
use Rattle.replica_state.specs.Replies.{replies_above}
use Rattle.replica_rows.proofs.Adopted.{replied_above}
use Rattle.replica_rows.proofs.Running.{on_ok, does_then}
use Rattle.replica_rows.proofs.member.Member.adopt.Goals as goal

pub replies_above-requires-clause-kept : goal.replies_above-requires-clause-kept
replies_above-requires-clause-kept g c =
    let points = c.in_ok-adopt_log.ensures.runs.within.points in
    omega (arith, points, c.sync_point-synced.ensures)

pub replies_above-requires-clause-behind : goal.replies_above-requires-clause-behind
replies_above-requires-clause-behind g c = omega (arith, c.in_ok-adopt_log.ensures.behind, c.sync_point-synced.ensures)

pub returns : goal.returns
unfolding adopt
returns g c =
    let m = g.H.Host.meaning in
    let s = c.args.self.now.state in
    let is = c.in_ok-adopt_log.ensures.state in
    let taken = adopted Trimmed s c.args.view c.args.next c.args.log in
    let into = λ (t : ReplicaState). adopted Trimmed t c.args.view c.args.next c.args.log in
    on_ok c.drain.result _ _
    (does_then g.H.Host c.args.self.now c.replies_above.new.self _ (λ t. (into t, replies_above m Trimmed (into t) (into t).sync.sync_point))
    (drain m Trimmed)
    (record {
      runs = c.in_ok-replies_above.ensures.runs;
      state = c.replies_above.ensures.state ∙ is;
      sends =
          replied_above m c.adopt_log.new.self.state taken c.sync_point-synced.result taken.sync.sync_point c.args.self.now.sends
          c.adopt_log.new.self.sends c.replies_above.new.self.sends is
          (c.sync_point-synced.ensures ∙ ap (λ t. t.sync.sync_point) is)
          c.adopt_log.ensures.sends c.in_ok-replies_above.ensures.sends;
    }))
    c.drain.ensures
