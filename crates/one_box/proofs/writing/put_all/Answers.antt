use Rattle.std.proofs.Common.{rules}
use Rattle.one_box.proofs.TextLemmas.{all_put}
use Rattle.one_box.proofs.writing.put_all.Goals as goal

pub returns-clause-ok : goal.returns-clause-ok
returns-clause-ok g c =
    let x = c.args.course.now in
    all_put c.args.config x.events.items x.text.items x.world.state c.args.turns c.args.lost x.stray c.args.to.now.items
    c.header_line.new.to.items c.put_events.new.to.items c.transcript_line.new.to.items c.extend_from_slice.new.self.items
    c.final_lines.new.to.items c.put_served.new.to.items c.in_ok-header_line.ensures.ok
    (search (rules, c.in_ok-put_events.ensures.ok)) c.in_ok-transcript_line.ensures.ok
    (search (rules, c.in_ok-extend_from_slice.ensures.items)) c.in_ok-final_lines.ensures.ok c.in_ok-put_served.ensures
