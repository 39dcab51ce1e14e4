use Rattle.gate.specs.Sides.{users_seen}
use Rattle.gate.proofs.Calling.{event_came, users_stopped}
use Rattle.gate.proofs.user_events.next_event.Goals as goal

pub returns-in-Ok : goal.returns-in-Ok
returns-in-Ok g c = λ state links.
    event_came state links (users_seen g.U.Users c.args.users.now) (users_seen g.U.Users c.next.new.self) c.in-Ok.event c.in-Ok.ensures.answer
    c.in-Ok.ensures.trace c.in-Ok.ensures.count

pub returns-in-Err : goal.returns-in-Err
returns-in-Err g c = λ state links.
    users_stopped state links (users_seen g.U.Users c.args.users.now) (users_seen g.U.Users c.next.new.self) c.in-Err.e _ c.users_fault.ensures
    c.in-Err.ensures.answer c.in-Err.ensures.trace c.in-Err.ensures.count
