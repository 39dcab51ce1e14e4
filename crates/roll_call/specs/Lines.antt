-- The lines that say how nodes stand.
use Rattle.std.specs.Prelude.{ℕ, List, [], ◌∷◌, Bool, true, false, Option, Some, None, codes, decimal}
use Rattle.nop_types.specs.declared.output.Actor.{Actor}
use Rattle.transcript_text.specs.LineText.{line_of}
use Rattle.transcript_text.specs.Transcript.{actor_text}
use Rattle.roll_call.specs.declared.node.Standing.{Standing}

abbrev pub standing_word : Bool → List ℕ
standing_word true = codes "answers"
standing_word false = codes "silent"

-- the node, whether it answers, and since when
unfoldable pub node_line : Actor → Standing → List ℕ
node_line actor s = line_of (codes "node") (actor_text actor ∷ standing_word s.answers ∷ decimal s.since ∷ [])

abbrev pub standing_lines : Actor → Option Standing → List ℕ
standing_lines actor None = []
standing_lines actor (Some s) = node_line actor s
