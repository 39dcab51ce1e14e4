use Rattle.std.proofs.Common.{ap, arith}
use Rattle.nop_types.specs.Logs.{Trimmed}
use Rattle.replica_rows.proofs.Draining.{goes_on, ended, is_done, on, off}
use Rattle.replica_rows.proofs.member.Member.drain.Goals as goal

pub returns-then-not-branch : goal.returns-then-not-branch
returns-then-not-branch g c =
    let stop =
    off g.H.Host.meaning Trimmed c.loop.self.state c.drain_one.new.self.state c.loop.self.sends c.drain_one.new.self.sends
    c.in_ok-drain_one.field-0 c.if-not-branch.true c.in_ok-drain_one.ensures.taken in
    let whole =
    ended g.H.Host.meaning Trimmed c.loop.self.state c.drain_one.new.self.state c.loop.self.sends c.drain_one.new.self.sends
    _ stop c.loop.invariant.goes in
    record { runs = c.in_ok-drain_one.ensures.runs; state = ap (λ e. e.0) whole; sends = ap (λ e. e.1) whole }

pub loop-preserved : goal.loop-preserved
loop-preserved g c =
    let turn =
    on g.H.Host.meaning Trimmed c.loop.self.state c.drain_one.new.self.state c.loop.self.sends c.drain_one.new.self.sends
    c.in_ok-drain_one.field-0 c.if-not-branch.false c.in_ok-drain_one.ensures.taken in
    record {
      runs = c.in_ok-drain_one.ensures.runs;
      goes =
          goes_on g.H.Host.meaning Trimmed c.loop.self.state c.drain_one.new.self.state c.loop.self.sends c.drain_one.new.self.sends
          _ turn c.loop.invariant.goes;
      filled = omega (arith, c.loop.invariant.filled, turn.filled);
    }

pub returns : goal.returns
returns g c =
    let whole =
    is_done g.H.Host.meaning Trimmed c.loop.self.state c.loop.self.sends _ (omega (arith, c.loop.invariant.filled)) c.loop.invariant.goes in
    record { runs = c.loop.invariant.runs; state = ap (λ e. e.0) whole; sends = ap (λ e. e.1) whole }
