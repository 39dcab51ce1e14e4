use Rattle.std.proofs.Common.{length, arith}
use Rattle.std.proofs.lemmas.List.{length-map}
use Rattle.filled_orders.proofs.Placed.{accept_within, unknown_none, unknown_some}
use Rattle.filled_orders.proofs.asking.is_unknown.Goals as goal
use Rattle.transcript_reader.specs.Claims.{line_of, lines_of}

pub mark_at-requires : goal.mark_at-requires
mark_at-requires c =
    let claims = c.args.claims.now in
    let l = accept_within c.args.marks.now (lines_of claims) (length claims) c.args.pairs.now.accepts.items c.args.pairs.now.submits.items
    c.requires.paired c.requires.once (length-map claims line_of) c.requires.whole c.args.place c.in-Some.accept c.in-Some.ensures in
    omega (arith, l, c.requires.whole)

pub returns-in-Some : goal.returns-in-Some
returns-in-Some c line at =
    let claims = c.args.claims.now in
    unknown_some c.args.marks.now (lines_of claims) (length claims) c.args.pairs.now.accepts.items c.args.pairs.now.submits.items
    c.requires.paired c.requires.once (length-map claims line_of) c.requires.whole c.args.place c.in-Some.accept c.mark_at.result
    c.in-Some.ensures c.mark_at.ensures line at

pub returns-in-None : goal.returns-in-None
returns-in-None c line at =
    let claims = c.args.claims.now in
    unknown_none c.args.marks.now (lines_of claims) (length claims) c.args.pairs.now.accepts.items c.args.pairs.now.submits.items
    c.requires.paired c.requires.once (length-map claims line_of) c.requires.whole c.args.place c.in-None.ensures line at
