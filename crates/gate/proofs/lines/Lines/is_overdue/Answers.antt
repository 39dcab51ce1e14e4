use Rattle.std.proofs.Common.{◌≡◌, ◌<◌, arith, length, refl, Some}
use Rattle.std.specs.Prelude.{slice_get}
use Rattle.std.proofs.lemmas.Option.{slice_get_read}
use Rattle.gate.proofs.Calling.{line_kept}
use Rattle.gate.proofs.lines.Lines.is_overdue.Goals as goal

pub returns : goal.returns
returns g c =
    let ys = c.args.self.now.lines.items in
    let x = c.index_mut-line.result.now in
    let within : c.args.core < length ys = omega (arith, c.if-core-len.false, c.len.ensures, c.args.self.now.lines.ok.0) in
    let found : slice_get ys c.args.core ≡ Some x = slice_get_read ys (length ys) c.args.core x refl within c.index_mut-line.ensures.value in
    line_kept g.L.Link c.args.self.now.cores ys c.args.core x _ found refl
