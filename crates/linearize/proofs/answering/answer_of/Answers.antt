use Rattle.linearize.proofs.Answered.{names, right, writable}
use Rattle.linearize.proofs.answering.answer_of.Goals as goal
use Rattle.std.proofs.Common.{length}
use Rattle.transcript_reader.specs.Claims.{lines_of}
use Rattle.unknown_results.specs.Asking.{unknown_in}

pub in_lines-requires : goal.in_lines-requires
in_lines-requires g c =
    let ls = lines_of c.args.claims.items in
    names g.P.Service.Host.meaning g.P.Service.Host.is_sound g.met.P.Service.Host.opens_sound g.met.P.Service.Host.stays_sound
    g.met.P.Service.Host.answers_short g.P.Parted.part g.P.Parted.MAX_PARTS (unknown_in c.args.marks.now ls) ls c.requires.input.fit
    (lines_of c.in-Ok.claims.items) c.in-Ok.found (length c.args.numbers.now) c.in-Ok.ensures.answer c.requires.input.numbered

pub returns-in-Ok-clause-right : goal.returns-in-Ok-clause-right
returns-in-Ok-clause-right g c =
    let ls = lines_of c.args.claims.items in
    right g.P.Service.Host.meaning g.P.Service.Host.is_sound g.met.P.Service.Host.opens_sound g.met.P.Service.Host.stays_sound
    g.met.P.Service.Host.answers_short g.P.Parted.part g.P.Parted.MAX_PARTS (unknown_in c.args.marks.now ls) ls c.requires.input.fit
    c.args.numbers.now c.args.most c.in-Ok.claims c.in-Ok.found c.in_lines.result c.in-Ok.ensures.answer c.in_lines.ensures

pub returns-in-Ok-clause-writable : goal.returns-in-Ok-clause-writable
returns-in-Ok-clause-writable g c =
    let ls = lines_of c.args.claims.items in
    writable g.P.Service.Host.meaning g.P.Service.Host.is_sound g.met.P.Service.Host.opens_sound g.met.P.Service.Host.stays_sound
    g.met.P.Service.Host.answers_short g.P.Parted.part g.P.Parted.MAX_PARTS (unknown_in c.args.marks.now ls) ls c.requires.input.fit
    c.args.numbers.now c.in-Ok.claims c.in-Ok.found c.in_lines.result c.in-Ok.ensures.answer c.in_lines.ensures
