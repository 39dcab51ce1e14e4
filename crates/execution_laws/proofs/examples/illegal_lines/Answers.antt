use Rattle.execution_laws.proofs.Worked.{early, wrong, repeated, swapped}
use Rattle.execution_laws.proofs.examples.illegal_lines.Goals as goal

pub returns-clause-early : goal.returns-clause-early
returns-clause-early c = early

pub returns-clause-wrong : goal.returns-clause-wrong
returns-clause-wrong c = wrong

pub returns-clause-repeated : goal.returns-clause-repeated
returns-clause-repeated c = repeated

pub returns-clause-swapped : goal.returns-clause-swapped
returns-clause-swapped c = swapped
