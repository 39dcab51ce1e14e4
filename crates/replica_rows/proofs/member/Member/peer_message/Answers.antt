use Rattle.std.proofs.Common.{sym, ap, ◌∙◌}
use Rattle.nop_types.specs.Logs.{Trimmed}
use Rattle.replica_state.specs.Sends.{when}
use Rattle.replica_rows.specs.Messages.{loads_in, on_message}
use Rattle.replica_rows.proofs.Running.{on_ok, does_as, does_nothing}
use Rattle.replica_rows.proofs.member.Member.peer_message.Goals as goal

pub returns-then-not-branch : goal.returns-then-not-branch
returns-then-not-branch g c =
    let m = g.H.Host.meaning in
    let p = c.args.message in
    does_nothing g.H.Host c.args.self.now (when (loads_in m p.body) (on_message m Trimmed p))
    (ap (λ b. when b (on_message m Trimmed p) c.args.self.now.state) (sym c.in_ok-loads_in.ensures ∙ c.if-not-branch.true)) c.requires.runs

pub returns : goal.returns
returns g c =
    let m = g.H.Host.meaning in
    let p = c.args.message in
    on_ok c.on_message.result _ _
    (does_as g.H.Host c.args.self.now _ (on_message m Trimmed p) (when (loads_in m p.body) (on_message m Trimmed p))
    (ap (λ b. when b (on_message m Trimmed p) c.args.self.now.state) (sym (sym c.in_ok-loads_in.ensures ∙ c.if-not-branch.false))))
    c.on_message.ensures
