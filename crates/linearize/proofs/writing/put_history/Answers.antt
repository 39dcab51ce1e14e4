use Rattle.std.proofs.Common.{◌∙◌, arith}
use Rattle.linearize.proofs.Numbered.{one_written, place_within, submits_there}
use Rattle.linearize.proofs.writing.put_history.Goals as goal
use Rattle.transcript_reader.specs.Claims.{line_of, lines_of}

pub claim_at-requires : goal.claim_at-requires
claim_at-requires c =
    place_within c.args.claims.now c.args.places.now c.loop-place.place-index c.requires.submit c.loop-place-test.true

pub put_member-requires : goal.put_member-requires
put_member-requires c =
    submits_there (lines_of c.args.claims.now) c.args.places.now c.loop-place.place-index (line_of c.claim_at.result.now) c.requires.submit
    c.loop-place-test.true c.claim_at.ensures

pub loop-place-preserved : goal.loop-place-preserved
loop-place-preserved c = record {
  number = omega arith;
  text =
      one_written (lines_of c.args.claims.now) c.args.places.now c.loop-place.place-index c.loop-place.number
      (line_of c.claim_at.result.now) c.loop-place.to.items c.put_member.new.to.items c.requires.submit c.loop-place-test.true
      c.claim_at.ensures c.in_ok-put_member.ensures
      ∙ c.loop-place.invariant.text;
}
