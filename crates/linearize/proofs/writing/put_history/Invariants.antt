use Rattle.std.proofs.Common.{◌≡◌, ◌+◌, ◌++◌, drop}
use Rattle.std.specs.List.{flat_map}
use Rattle.linearize.proofs.writing.put_history.Given as goal
use Rattle.order_search.specs.Turns.{history_at}
use Rattle.transcript_reader.specs.Claims.{lines_of}
use Rattle.transcript_reader.specs.Transcripts.{members}
use Rattle.transcript_rows.specs.Rows.{row_text}

-- what is left to write
abbrev pub invariant-loop-place : goal.invariant-loop-place
invariant-loop-place l = record {
  number : l.number ≡ l.place-index + 1;
  text : l.to.items ++ flat_map row_text (members l.number (history_at (lines_of l.claims) (drop l.place-index l.places)))
      ≡ l.fn.to.items ++ flat_map row_text (members 1 (history_at (lines_of l.claims) l.places));
}
