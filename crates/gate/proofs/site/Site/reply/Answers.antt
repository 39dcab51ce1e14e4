use Rattle.std.proofs.Common.{ap}
use Rattle.gate.specs.Sides.{links_seen, users_seen}
use Rattle.gate.proofs.Calling.{call_made, call_failed}
use Rattle.gate.proofs.Running.{makes_all, made_ready}
use Rattle.users.specs.declared.event.UserCall.TheVariants as calls
use Rattle.std.proofs.Common.{◌∷◌, []}
use Rattle.gate.proofs.site.Site.reply.Goals as goal

pub returns-in-Ok-clause-makes : goal.returns-in-Ok-clause-makes
returns-in-Ok-clause-makes g c =
    let a = users_seen g.U.Users c.args.users.now in
    let b = users_seen g.U.Users c.reply.new.self in
    let x = calls.Replied c.args.user c.args.bytes.now in
    let ls = links_seen g.L.Link c.args.self.now.lines in
    makes_all (x ∷ []) c.make_ready.result _ _
    (made_ready (x ∷ []) c.args.self.now.state c.make_ready.new.self.state a b ls (links_seen g.L.Link c.make_ready.new.self.lines)
    (call_made c.args.self.now.state ls a b x c.in-Ok.ensures.ok c.in-Ok.ensures.kept c.in-Ok.ensures.faults)
    (ap (λ z. links_seen g.L.Link z) c.make_ready.ensures.lines))

pub returns-in-Err-clause-makes : goal.returns-in-Err-clause-makes
returns-in-Err-clause-makes g c =
    call_failed c.args.self.now.state (links_seen g.L.Link c.args.self.now.lines) (users_seen g.U.Users c.args.users.now)
    (users_seen g.U.Users c.reply.new.self) (calls.Replied c.args.user c.args.bytes.now) c.in-Err.ensures.err c.in-Err.ensures.kept
    c.in-Err.ensures.faults
