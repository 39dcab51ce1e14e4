use Rattle.std.proofs.Common.{◌≡◌, false}
use Rattle.std.specs.Prelude.{is_err}
use Rattle.nop_types.specs.Given.{given}
use Rattle.client_call.proofs.Sessions.{run_stepped}
use Rattle.client_call.proofs.session_core.SessionCoreCore.step.Goals as goal

pub invariant_of-self : goal.invariant_of-self
invariant_of-self c = λ alive.
    let value = c.is_err-self-inside.ensures.value in
    let ok : is_err c.step-stepped.result ≡ false = cc in
    run_stepped c.self.inside.config c.self.inside.number c.self.inside.client.state c.step-stepped.new.self.state (given c.args.input)
    c.step-stepped.result (c.self.invariant c.if-self.false) c.step-stepped.ensures.state ok
