-- The rows of what a run tells.
use Rattle.std.specs.Prelude.{length, slice_index}
use Rattle.nop_types.specs.Lines.{Line}
use Rattle.nop_types.specs.Lines as lines
use Rattle.transcript_rows.specs.declared.row.Row.{Row}
use Rattle.transcript_rows.specs.declared.row.Row.TheVariants.{Dead, Submit, Accept, Busy, Read, Answer, Sent}

-- of a datagram its kind, which is the fourth byte, and its length
abbrev pub row_of : Line → Row
row_of (lines.Dead actor) = Dead actor
row_of (lines.Submit request) = Submit request
row_of (lines.Accept client id result) = Accept client id result
row_of (lines.Busy client) = Busy client
row_of (lines.Read client id observer key) = Read client id observer key
row_of (lines.Answer client id observer position result) = Answer client id observer position result
row_of (lines.Send index from dest datagram) = Sent index from dest (slice_index datagram 3) (length datagram)
