use Rattle.std.proofs.Common.{rules, ◌≡◌, ◌+◌, ◌-◌, ◌≤◌, ◌<◌, true, Some, length, ap, refl, sym, ◌∙◌}
use Rattle.std.specs.Prelude.{slice_range}
use Rattle.std.specs.Option.{option_map}
use Rattle.nop_types.specs.Checkpoints.{KeepsTo}
use Rattle.nop_types.specs.Execution.{exec_kept}
use Rattle.nop_types.specs.Views.{is_view}
use Rattle.executor.specs.Running.{execution}
use Rattle.observer.specs.Known.{ToldFits, candidate_of, execution_in, log_of, observing_of}
use Rattle.observer.proofs.Following.{commit_is}
use Rattle.observer.proofs.synced.SyncedHost.commit.Goals as goal

pub returns-clause-state : goal.returns-clause-state
returns-clause-state g c =
    let keeps : KeepsTo g.H.Host.meaning g.H.Host.is_sound = search (g.met.H.Host) in
    let is : c.args.self.now.candidate ≡ Some c.in-Some.told = search rules in
    let fits : ToldFits c.args.self.now.position c.in-Some.told = search rules in
    let same : is_view c.in-Some.told.view c.args.view ≡ true = search rules in
    let within : c.args.len ≤ c.in-Some.told.log.sync_point + length c.in-Some.told.log.entries = search rules in
    let up : c.args.self.now.position < c.args.len = search rules in
    let run : execution (g.H.Host.state c.follow.new.host) c.follow.new.table
    ≡ exec_kept g.H.Host.meaning (execution_in g.H.Host c.args.self.now)
    (slice_range c.in-Some.told.log.entries (c.args.self.now.position - c.in-Some.told.log.sync_point)
    (c.args.len - c.in-Some.told.log.sync_point)) = search rules in
    ap (λ x. record (observing_of g.H.Host c.args.self.now) { known = log_of g.H.Host.meaning c.args.len x }) run
    ∙ sym (commit_is g.H.Host.meaning g.H.Host.is_sound keeps (observing_of g.H.Host c.args.self.now) (candidate_of c.in-Some.told)
    c.args.self.now.position (execution_in g.H.Host c.args.self.now) c.args.view c.args.len refl (ap (option_map candidate_of) is)
    c.requires.ready.sound c.requires.ready.opens fits.low same within up)
