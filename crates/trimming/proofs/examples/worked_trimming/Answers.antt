use Rattle.std.specs.FinMap as finite
use Rattle.trimming.proofs.Worked.{entries-empty, entries-insert}
use Rattle.trimming.proofs.examples.worked_trimming.Goals as goal

pub returns-clause-trim : goal.returns-clause-trim
returns-clause-trim c = simp (entries-insert, entries-empty, finite.get-entries)

pub returns-clause-result_3 : goal.returns-clause-result_3
returns-clause-result_3 c = simp (entries-insert, entries-empty, finite.get-entries, finite.len-entries)

pub returns-clause-raise : goal.returns-clause-raise
returns-clause-raise c = simp (entries-insert, entries-empty, finite.get-entries, finite.len-entries)

pub returns-clause-trim_later : goal.returns-clause-trim_later
returns-clause-trim_later c = simp (entries-insert, entries-empty, finite.get-entries)
