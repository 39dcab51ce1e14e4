use Rattle.std.proofs.Common.{◌≡◌, ◌∙◌, Some, ap, rules}
use Rattle.std.specs.Prelude.{map}
use Rattle.std.specs.FinMap as finite
use Rattle.nop_types.specs.Checkpoints.{Checkpoint, saved_account, is_checkpoint, checkpoint_of, KeepsTo}
use Rattle.nop_types.specs.CheckpointedLogs.{loads_by}
use Rattle.executor.specs.Running.{execution}
use Rattle.executor.proofs.ResultLemmas.{checkpoint_of_executed, loads_of_executed}
use Rattle.executor.proofs.executor.Executor.checkpoint.Goals as goal

pub unwrap-requires : goal.unwrap-requires
unwrap-requires g c =
    let m = g.H.Host.meaning in
    let now = c.args.self.now in
    let keeps : KeepsTo m g.H.Host.is_sound = search (g.met.H.Host) in
    let host : c.in_ok-host.host ≡ m.saved (g.H.Host.state now.host) = search rules in
    let clients : map saved_account c.in_ok-clients.clients.items ≡ finite.entries now.table = search rules in
    c.new.ensures.some ∙ (λ i. is_checkpoint (record { host = host i; clients = clients i }))
    ∙ checkpoint_of_executed g.H.Host.state m g.H.Host.undo_of c.requires.run.0 now c.requires.run.1.1 g.H.Host.is_sound keeps
    c.requires.run.1.0

pub returns-clause-loads : goal.returns-clause-loads
returns-clause-loads g c =
    let m = g.H.Host.meaning in
    let now = c.args.self.now in
    let keeps : KeepsTo m g.H.Host.is_sound = search (g.met.H.Host) in
    let saved : c.unwrap.result ≡ checkpoint_of m (execution (g.H.Host.state now.host) now.table) = search rules in
    ap (λ (x : Checkpoint). loads_by m (Some x)) saved
    ∙ loads_of_executed g.H.Host.state m g.H.Host.undo_of c.requires.run.0 now c.requires.run.1.1 g.H.Host.is_sound keeps
