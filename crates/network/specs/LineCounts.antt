-- Lines as text, and how many of them are sends and accepts.
use Rattle.std.specs.Prelude.{◌≡◌, ◌+◌, ◌++◌, List, count_by, Bool, true, false}
use Rattle.nop_types.specs.Lines.{Line, Accept, Send}
use Rattle.transcript_text.specs.Transcript.{lines_text}
use Rattle.network.specs.declared.lines.Lines.{Lines}
use Rattle.network.specs.declared.lines.Tally.{Tally}

abbrev pub is_send : Line → Bool
is_send (Send index from dest datagram) = true
is_send _ = false

abbrev pub is_accept : Line → Bool
is_accept (Accept client id result) = true
is_accept _ = false

-- the text of these lines, and the counts
pub record Shows (lines : Lines) (are : List Line) : Type 0 where
  pub text : lines.text ≡ lines_text are
  pub sends : lines.sends ≡ count_by is_send are
  pub accepts : lines.accepts ≡ count_by is_accept are

-- these lines were added
pub record Grows (old new : Tally) (more : List Line) : Type 0 where
  pub text : new.text.items ≡ old.text.items ++ lines_text more
  pub sends : new.sends ≡ old.sends + count_by is_send more
  pub accepts : new.accepts ≡ old.accepts + count_by is_accept more
