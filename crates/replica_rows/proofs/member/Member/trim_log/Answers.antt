use Rattle.std.proofs.Common.{◌+◌, ap, ◌∙◌, arith}
use Rattle.replica_rows.proofs.TrimmedLogs.{raised_executes, stays, trims_none, trims_with, trims_some}
use Rattle.replica_rows.proofs.member.Member.trim_log.Goals as goal

pub returns-clause-executes : goal.returns-clause-executes
returns-clause-executes g c =
    let s = c.args.self.now.state in
    let log = s.log in
    let there = c.requires.there in
    let slot = c.sync_point-sync_point.ensures in
    let run = c.in_ok-stand_at.ensures.run in
    raised_executes g.H.Host log c.trim.new.self.log s.sync.sync_point _ c.in_ok-checkpoint.checkpoint c.rebase.new.self
    c.requires.executes.fits (omega (arith, c.if-sync_point-below.false, c.sync_point-below.ensures, slot)) there
    c.host-host.ensures.fits c.in_ok-checkpoint.ensures.loads (c.in_ok-checkpoint.ensures.executed log run)
    (c.in_ok-stand_at.ensures.reached ∙ slot) (c.rebase.ensures.run log run) (ap (λ t. t.log) c.in_ok-entries.ensures.ok)

pub returns-then-sync_point-below-clause-state : goal.returns-then-sync_point-below-clause-state
returns-then-sync_point-below-clause-state g c =
    let s = c.args.self.now.state in
    stays g.H.Host.meaning s (omega (arith, c.if-sync_point-below.true, c.sync_point-below.ensures, c.sync_point-sync_point.ensures))

pub returns-then-sync_point-below-clause-trimmed : goal.returns-then-sync_point-below-clause-trimmed
returns-then-sync_point-below-clause-trimmed g c =
    let s = c.args.self.now.state in
    trims_none s (omega (arith, c.if-sync_point-below.true, c.sync_point-below.ensures, c.sync_point-sync_point.ensures))

pub checkpoint-requires : goal.checkpoint-requires
checkpoint-requires g c =
    record { run = (c.args.self.now.state.log, (c.requires.executes.fits, c.in_ok-stand_at.ensures.run)) }

pub returns-clause-state : goal.returns-clause-state
returns-clause-state g c =
    let s = c.args.self.now.state in
    let slot = c.sync_point-sync_point.ensures in
    trims_with g.H.Host.meaning s c.trim.new.self c.in_ok-checkpoint.checkpoint _
    (omega (arith, c.if-sync_point-below.false, c.sync_point-below.ensures, slot))
    (c.in_ok-checkpoint.ensures.executed s.log c.in_ok-stand_at.ensures.run)
    (c.in_ok-stand_at.ensures.reached ∙ slot) c.in_ok-entries.ensures.ok

pub returns-clause-trimmed : goal.returns-clause-trimmed
returns-clause-trimmed g c =
    let s = c.args.self.now.state in
    let below = c.sync_point-below.ensures in
    trims_some s (record { first = c.sync_point-below.result + 1; entries = c.in_ok-entries.entries })
    (omega (arith, c.if-sync_point-below.false, below, c.sync_point-sync_point.ensures))
    (omega (arith, below)) c.in_ok-entries.ensures.entries
