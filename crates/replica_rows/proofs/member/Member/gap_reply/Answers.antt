use Rattle.std.proofs.Common.{◌≡◌, refl, sym, ap, subst, ◌∙◌}
use Rattle.std.specs.Prelude.{IfSome}
use Rattle.nop_types.specs.Logs.{Trimmed}
use Rattle.replica_state.specs.Moves.{count_gap_vote, drain}
use Rattle.replica_rows.specs.Rows.{gap_reply_at, gap_reply}
use Rattle.replica_rows.proofs.Branches.{counts_vote}
use Rattle.replica_rows.proofs.Running.{on_ok, does_of, does_nothing}
use Rattle.replica_rows.proofs.member.Member.gap_reply.Goals as goal

pub returns-in_default : goal.returns-in_default
unfolding gap_reply
returns-in_default g c =
    let m = g.H.Host.meaning in
    does_nothing g.H.Host c.args.self.now (gap_reply m Trimmed c.args.sender c.args.slot)
    (ap (λ o. gap_reply_at m Trimmed o c.args.sender c.args.slot c.args.self.now.state) c.in_default.is) c.requires.runs

pub returns : goal.returns
returns g c =
    let m = g.H.Host.meaning in
    let old = c.args.self.now in
    let s = old.state in
    let counted = record old { state = c.count_gap_vote.new.self } in
    let is = subst (λ o. IfSome o (λ a. counted.state ≡ (count_gap_vote s a c.args.sender).0)) c.in-Some.is c.count_gap_vote.ensures.waits in
    on_ok c.drain.result _ _
    (does_of g.H.Host old counted _ (drain m Trimmed) (gap_reply m Trimmed c.args.sender c.args.slot) refl
    (ap (drain m Trimmed) is
    ∙ counts_vote m Trimmed s c.in-Some.gap c.args.sender c.args.slot c.in-Some.is (sym c.slot.ensures ∙ c.if-slot.false)))
    c.drain.ensures
