-- What a cluster writes at its end.
use Rattle.std.specs.Prelude.{ℕ, List, [], ◌∷◌, ◌++◌, codes, decimal}
use Rattle.nop_types.specs.Configuration.{Configuration}
use Rattle.schedule_text.specs.declared.event.Event.{Event}
use Rattle.printed_runs.specs.Printing.{LineMeans, printed}
use Rattle.transcript_text.specs.Transcript.{transcript_line}
use Rattle.world.specs.Ending.{final_text}
use Rattle.world.specs.WorldSteps.{WorldState}

-- the line that is written of an event means it
unfoldable pub IsReadBack : Event → Type 0
IsReadBack e = LineMeans e

-- three numbers, each behind its word
abbrev pub line_of : List ℕ → ℕ → List ℕ → ℕ → List ℕ → ℕ → List ℕ
line_of first a second b third c = first ++ decimal a ++ second ++ decimal b ++ third ++ decimal c ++ 10 ∷ []

-- the transcript of a run, given the text of its lines; its first line is in form 1
unfoldable pub transcript_of : Configuration → List ℕ → WorldState → List ℕ
transcript_of c text w = transcript_line 1 c ++ (text ++ final_text w)

unfoldable pub served_line : ℕ → ℕ → ℕ → List ℕ
served_line turns lost stray = line_of (codes "served ") turns (codes " lost ") lost (codes " stray ") stray

-- the schedule of the events, in form 1, its transcript, and the last line with the turns taken, the sends that failed, and the datagrams
-- that were dropped
unfoldable pub cluster_text : Configuration → List Event → List ℕ → WorldState → ℕ → ℕ → ℕ → List ℕ
cluster_text c es text w turns lost stray = printed 1 c es ++ (transcript_of c text w ++ served_line turns lost stray)
