use Rattle.std.proofs.Common.{◌≡◌, ◌<◌, arith, length, refl, Some}
use Rattle.std.specs.Prelude.{slice_get}
use Rattle.std.proofs.lemmas.Option.{slice_get_read}
use Rattle.gate.proofs.Calling.{line_sent}
use Rattle.gate.proofs.lines.Lines.ask.Goals as goal

pub returns : goal.returns
returns g c =
    let ys = c.args.self.now.lines.items in
    let place = c.args.self.now.cores in
    let x = c.index_mut-line.result.now in
    let within : place < length ys = omega (arith, c.if-place-len.false, c.len.ensures, c.args.self.now.lines.ok.0) in
    let found : slice_get ys place ≡ Some x = slice_get_read ys (length ys) place x refl within c.index_mut-line.ensures.value in
    line_sent g.L.Link place ys place x _ found c.ask.ensures.answers c.ask.ensures.faults
