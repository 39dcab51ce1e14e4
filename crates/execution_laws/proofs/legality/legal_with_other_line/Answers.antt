use Rattle.execution_laws.proofs.Legal.{legal_with_other_line, legal_with_other_lines}
use Rattle.execution_laws.proofs.legality.legal_with_other_line.Goals as goal

pub returns-clause-line : goal.returns-clause-line
returns-clause-line g c = legal_with_other_line

pub returns-clause-others : goal.returns-clause-others
returns-clause-others g c = legal_with_other_lines
