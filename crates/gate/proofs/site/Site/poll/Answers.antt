use Rattle.std.proofs.Common.{◌≡◌, ◌<◌, arith, length, refl, Some}
use Rattle.std.specs.Prelude.{slice_get}
use Rattle.std.proofs.lemmas.Option.{slice_get_read}
use Rattle.gate.proofs.Calling.{polled_ok, poll_stopped}
use Rattle.gate.proofs.site.Site.poll.Goals as goal

pub returns-in-Ok-clause-asks : goal.returns-in-Ok-clause-asks
returns-in-Ok-clause-asks g c = λ users.
    let ys = c.args.self.now.lines.lines.items in
    let x = c.index_mut-line.result.now in
    let within : c.args.place < length ys = omega (arith, c.if-place-len.false, c.len.ensures, c.args.self.now.lines.lines.ok.0) in
    let found : slice_get ys c.args.place ≡ Some x = slice_get_read ys (length ys) c.args.place x refl within c.index_mut-line.ensures.value in
    polled_ok g.L.Link c.args.self.now.lines.cores ys c.args.place x c.poll.new.self found c.args.self.now.state users c.args.self.now.now c.in-Ok.datagram c.in-Ok.ensures.answer
    c.in-Ok.ensures.count

pub returns-in-Err-clause-asks : goal.returns-in-Err-clause-asks
returns-in-Err-clause-asks g c = λ users.
    let ys = c.args.self.now.lines.lines.items in
    let x = c.index_mut-line.result.now in
    let within : c.args.place < length ys = omega (arith, c.if-place-len.false, c.len.ensures, c.args.self.now.lines.lines.ok.0) in
    let found : slice_get ys c.args.place ≡ Some x = slice_get_read ys (length ys) c.args.place x refl within c.index_mut-line.ensures.value in
    poll_stopped g.L.Link c.args.self.now.lines.cores ys c.args.place x c.poll.new.self found c.args.self.now.state users c.args.self.now.now c.in-Err.e _ c.link_fault.ensures c.in-Err.ensures.answer
    c.in-Err.ensures.count
