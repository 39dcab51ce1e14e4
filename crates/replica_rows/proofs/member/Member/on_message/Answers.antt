use Rattle.std.proofs.Common.{sym, ap, ◌∙◌}
use Rattle.nop_types.specs.Logs.{Trimmed}
use Rattle.replica_state.specs.Sends.{when}
use Rattle.replica_rows.specs.Messages.{on_body, on_message}
use Rattle.replica_rows.proofs.Running.{on_ok, does_as, does_nothing}
use Rattle.replica_rows.proofs.member.Member.on_message.Goals as goal

pub returns-then-not-is_other : goal.returns-then-not-is_other
unfolding on_message
returns-then-not-is_other g c =
    let m = g.H.Host.meaning in
    let p = c.args.message in
    does_nothing g.H.Host c.args.self.now (on_message m Trimmed p)
    (ap (λ b. when b (on_body m Trimmed p p.body) c.args.self.now.state) (sym c.is_other.ensures ∙ c.if-not-is_other.true)) c.requires.runs

pub returns : goal.returns
unfolding on_message
returns g c =
    let m = g.H.Host.meaning in
    let p = c.args.message in
    on_ok c.on_body.result _ _
    (does_as g.H.Host c.args.self.now _ (on_body m Trimmed p p.body) (on_message m Trimmed p)
    (ap (λ b. when b (on_body m Trimmed p p.body) c.args.self.now.state) (sym (sym c.is_other.ensures ∙ c.if-not-is_other.false))))
    c.on_body.ensures
