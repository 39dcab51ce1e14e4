use Rattle.std.proofs.Common.{ap}
use Rattle.gate.specs.Sides.{links_seen, users_seen}
use Rattle.gate.proofs.Calling.{accepted_act, answered_act, call_all, closed_act, reading_act, replied_act, sent_act, submitted_act, waits_act}
use Rattle.users.specs.declared.event.UserCall.TheVariants as calls
use Rattle.gate.proofs.site.Site.carry_out.Goals as goal

pub returns-in-Send-clause-makes : goal.returns-in-Send-clause-makes
returns-in-Send-clause-makes g c =
    let g0 = c.args.self.now.state in
    let us = users_seen g.U.Users c.args.users.now in
    let xs = links_seen g.L.Link c.args.self.now.lines in
    sent_act g0 us xs (links_seen g.L.Link c.send.new.self) c.args.act c.send.result _ _ _ c.in-Send.is c.send.ensures

pub returns-in-Submitted-clause-makes : goal.returns-in-Submitted-clause-makes
returns-in-Submitted-clause-makes g c =
    let g0 = c.args.self.now.state in
    let us = users_seen g.U.Users c.args.users.now in
    let xs = links_seen g.L.Link c.args.self.now.lines in
    submitted_act g0 us xs (links_seen g.L.Link c.submitted.new.self) c.args.act c.submitted.result _ _ c.in-Submitted.is c.submitted.ensures

pub returns-in-Accepted-clause-makes : goal.returns-in-Accepted-clause-makes
returns-in-Accepted-clause-makes g c =
    let g0 = c.args.self.now.state in
    let us = users_seen g.U.Users c.args.users.now in
    let xs = links_seen g.L.Link c.args.self.now.lines in
    accepted_act g0 us xs (links_seen g.L.Link c.accepted.new.self) c.args.act _ _ c.in-Accepted.is c.accepted.ensures

pub returns-in-Reading-clause-makes : goal.returns-in-Reading-clause-makes
returns-in-Reading-clause-makes g c =
    let g0 = c.args.self.now.state in
    let us = users_seen g.U.Users c.args.users.now in
    let xs = links_seen g.L.Link c.args.self.now.lines in
    reading_act g0 us xs (links_seen g.L.Link c.asked.new.self) c.args.act c.asked.result _ _ c.in-Reading.is c.asked.ensures

pub returns-in-Answered-clause-makes : goal.returns-in-Answered-clause-makes
returns-in-Answered-clause-makes g c =
    let g0 = c.args.self.now.state in
    let us = users_seen g.U.Users c.args.users.now in
    let xs = links_seen g.L.Link c.args.self.now.lines in
    answered_act g0 us xs (links_seen g.L.Link c.answered.new.self) c.args.act _ _ c.in-Answered.is c.answered.ensures

pub returns-in-Waits-clause-makes : goal.returns-in-Waits-clause-makes
returns-in-Waits-clause-makes g c =
    let us = users_seen g.U.Users c.args.users.now in
    let xs = links_seen g.L.Link c.args.self.now.lines in
    waits_act c.args.act c.make_wait.result c.args.self.now.state c.make_wait.new.self.state us xs
    (links_seen g.L.Link c.make_wait.new.self.lines) _ _ c.in-Waits.is c.make_wait.ensures.state
    (ap (λ z. links_seen g.L.Link z) c.make_wait.ensures.lines)

pub returns-in-Reply-clause-makes : goal.returns-in-Reply-clause-makes
returns-in-Reply-clause-makes g c =
    replied_act c.args.act c.reply.result _ _ _ _ _ c.in-Reply.is c.as_slice-in-Reply.ensures c.reply.ensures.makes

pub returns-in-Close-clause-makes : goal.returns-in-Close-clause-makes
returns-in-Close-clause-makes g c =
    let g0 = c.args.self.now.state in
    let us = users_seen g.U.Users c.args.users.now in
    let xs = links_seen g.L.Link c.args.self.now.lines in
    closed_act c.args.act c.close.result _ _ c.in-Close.user c.in-Close.is
    (call_all g0 xs us (users_seen g.U.Users c.close.new.self) (calls.Closed c.in-Close.user) c.close.result c.close.ensures.ok
    c.close.ensures.err c.close.ensures.kept c.close.ensures.faults)
