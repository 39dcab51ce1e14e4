-- The lines at the end of a transcript.
use Rattle.std.specs.Prelude.{ℕ, ◌+◌, List, [], ◌∷◌, ◌++◌}
use Rattle.nop_types.specs.declared.request.Request.{Request}
use Rattle.transcript_text.specs.Transcript.{history_line, end_line}
use Rattle.world.specs.StateLines.{replicas_text, observers_text}
use Rattle.world.specs.WorldSteps.{WorldState, history}

-- the members of a history, numbered on from `i`
abbrev pub history_text : ℕ → List Request → List ℕ
history_text i [] = []
history_text i (r ∷ rs) = history_line i r ++ history_text (i + 1) rs

-- the replicas, the observers, the history, and the end
unfoldable pub final_text : WorldState → List ℕ
final_text w = replicas_text w.archive 0 w.replicas ++ observers_text 0 w.observers ++ history_text 1 (history w) ++ end_line
