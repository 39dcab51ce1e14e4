use Rattle.std.proofs.Common.{◌++◌, ap, ◌∙◌, sym, arith, append-nil}
use Rattle.nop_types.specs.Logs.{Trimmed, length_of}
use Rattle.replica_rows.proofs.Replying.{replies_on, none_left}
use Rattle.replica_rows.proofs.member.Member.replies_above.Goals as goal

pub loop-at-preserved : goal.loop-at-preserved
loop-at-preserved g c =
    let i = c.loop-at.invariant in
    let same = c.in_ok-reply_at.ensures.state in
    let point = ap (λ s. s.log.sync_point) same in
    let low = i.kept in
    record {
      runs = c.in_ok-reply_at.ensures.runs;
      state = same ∙ i.state;
      ends = i.ends ∙ ap (λ s. length_of Trimmed s.log) (sym same);
      kept = omega (arith, point, low);
      behind = c.in_ok-reply_at.ensures.behind;
      replied =
          replies_on g.H.Host.meaning c.loop-at.self.state _ c.loop-at.at _ _ _ i.state low
          (omega (arith, c.loop-at-test.true, i.ends)) c.in_ok-reply_at.ensures.sends i.replied;
    }

pub returns-clause-sends : goal.returns-clause-sends
returns-clause-sends g c =
    let sent = c.loop-at.self.sends in
    let none =
    none_left g.H.Host.meaning c.args.self.now.state c.loop-at.at (omega (arith, c.loop-at-test.false, c.len-at-end.ensures.len)) in
    sym (append-nil sent) ∙ ap (λ xs. sent ++ xs) (sym none) ∙ c.loop-at.invariant.replied
