use Rattle.std.proofs.Common.{refl, ap, ◌∙◌, arith}
use Rattle.nop_types.specs.Logs.{Trimmed}
use Rattle.replica_state.specs.Moves.{drain}
use Rattle.replica_rows.specs.Rows.{new_session, stamped}
use Rattle.replica_rows.proofs.Entered.{of_greater_session, of_no_greater_session}
use Rattle.replica_rows.proofs.Running.{on_ok, does_as, does_of, queued_runs}
use Rattle.replica_rows.proofs.member.Member.stamped.Goals as goal

pub returns-then-self-packet : goal.returns-then-self-packet
returns-then-self-packet g c =
    let m = g.H.Host.meaning in
    on_ok c.new_session.result _ _
    (does_as g.H.Host c.args.self.now _ (new_session m Trimmed c.args.packet) (stamped m Trimmed c.args.packet)
    (of_greater_session m Trimmed c.args.self.now.state c.args.packet (omega arith)))
    c.new_session.ensures

pub returns : goal.returns
returns g c =
    let m = g.H.Host.meaning in
    let old = c.args.self.now in
    let queued = record old { state = c.queue.new.self } in
    on_ok c.drain.result _ _
    (does_of g.H.Host old queued _ (drain m Trimmed) (stamped m Trimmed c.args.packet) refl
    (ap (drain m Trimmed) c.in_ok-queue.ensures.ok ∙ of_no_greater_session m Trimmed old.state c.args.packet (omega arith)))
    c.drain.ensures

pub drain-requires : goal.drain-requires
drain-requires g c = record {
  runs = queued_runs g.H.Host c.args.self.now.state _ _ c.args.packet c.in_ok-queue.ensures.ok c.requires.runs;
}
