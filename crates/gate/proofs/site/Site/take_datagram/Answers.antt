use Rattle.std.proofs.Common.{ℕ, ap, sym, ◌∙◌}
use Rattle.gate.specs.Carrying.{datagram_of}
use Rattle.gate.specs.Sides.{side, users_seen}
use Rattle.gate.proofs.Running.{ended_none, took_is}
use Rattle.gate.proofs.site.Site.take_datagram.Goals as goal

pub returns-in-Ok : goal.returns-in-Ok
returns-in-Ok g c =
    let old = c.args.self.now in
    let new = c.poll.new.self in
    let before = side g.L.Link g.U.Users old c.args.users.now in
    c.take_polled.ensures before
    (took_is _ _ before _
    (ap (λ (n : ℕ). datagram_of n old.now c.args.place c.in-Ok.datagram) (sym c.in-Ok.ensures.cores)
    ∙ ap (λ (t : ℕ). datagram_of new.lines.cores t c.args.place c.in-Ok.datagram) (sym c.in-Ok.ensures.now))
    (c.in-Ok.ensures.asks (users_seen g.U.Users c.args.users.now)))

pub returns-in-Err : goal.returns-in-Err
returns-in-Err g c =
    ended_none c.in-Err.e _ _ (c.in-Err.ensures.asks (users_seen g.U.Users c.args.users.now))
