use Rattle.std.proofs.Common.{◌≡◌, ◌∙◌, ap, false}
use Rattle.line_reader.specs.Reading.{Reading}
use Rattle.line_reader.proofs.Takings.{filled, failed}
use Rattle.line_reader.proofs.line_reader.LineReader.read_piece.Goals as goal

pub returns-in-Ok-clause-takes : goal.returns-in-Ok-clause-takes
returns-in-Ok-clause-takes g c =
    let left = g.S.Source.left in
    let inside = c.self.inside in
    let going : inside.ended ≡ false = ap (λ (r : Reading). r.ended) c.self.view_is ∙ c.requires.going in
    let was : Reading = record { most = inside.most; line = inside.line; pending = inside.buffer.items; ended = inside.ended } in
    rw (← c.self.view_is) (filled was c.in-Ok.count c.fill.new.bytes.items going (left c.args.source.now) (left c.fill.new.source)
    c.in-Ok.ensures.fills)

pub returns-in-Err-clause-takes : goal.returns-in-Err-clause-takes
returns-in-Err-clause-takes g c =
    let left = g.S.Source.left in
    let inside = c.self.inside in
    let going : inside.ended ≡ false = ap (λ (r : Reading). r.ended) c.self.view_is ∙ c.requires.going in
    let was : Reading = record { most = inside.most; line = inside.line; pending = inside.buffer.items; ended = inside.ended } in
    rw (← c.self.view_is) (failed was c.fill.new.bytes.items going (left c.args.source.now) (left c.fill.new.source) c.in-Err.e
    c.in-Err.ensures.fills)
