use Rattle.linearize.proofs.Spelled.{all_written}
use Rattle.linearize.proofs.writing.put_transcript.Goals as goal
use Rattle.order_search.specs.Turns.{history_at}
use Rattle.transcript_reader.specs.Claims.{lines_of}

pub returns : goal.returns
returns c =
    all_written (lines_of c.args.claims.now) (history_at (lines_of c.args.claims.now) c.args.places.now) c.args.to.now.items
    c.put_first_line.new.to.items c.put_claims.new.to.items c.put_history.new.to.items c.end_line.new.to.items c.end_line.result
    c.in_ok-put_first_line.ensures c.in_ok-put_claims.ensures c.in_ok-put_history.ensures c.end_line.ensures.ok
