use Rattle.std.proofs.Common.{rules, ◌≡◌, ◌<◌, Some, ap, sym, ◌∙◌}
use Rattle.nop_types.specs.Checkpoints.{KeepsTo, loaded_of}
use Rattle.nop_types.specs.Execution.{Executed}
use Rattle.executor.specs.Running.{execution}
use Rattle.observer.specs.Known.{execution_in, log_of}
use Rattle.observer.proofs.Following.{takes_is}
use Rattle.observer.proofs.synced.SyncedHost.take_checkpoint.Goals as goal

pub returns-clause-known : goal.returns-clause-known
returns-clause-known g c =
    let keeps : KeepsTo g.H.Host.meaning g.H.Host.is_sound = search (g.met.H.Host) in
    let taken : Executed g.H.Host.State = execution (g.H.Host.state c.in-Some-2.host) c.in-Some-2.table in
    let has : c.args.log.now.checkpoint ≡ Some c.in-Some.checkpoint.now = search rules in
    let loads : loaded_of g.H.Host.meaning c.in-Some.checkpoint.now ≡ Some taken = search rules in
    let up : c.args.self.now.position < c.args.log.now.sync_point = search rules in
    let at : c.sync_point-self.result ≡ c.args.log.now.sync_point = search rules in
    ap (λ n. log_of g.H.Host.meaning n taken) at
    ∙ sym (takes_is g.H.Host.meaning g.H.Host.is_sound keeps c.args.log.now c.in-Some.checkpoint.now c.args.self.now.position
    (execution_in g.H.Host c.args.self.now) taken c.requires.fits has loads up)
