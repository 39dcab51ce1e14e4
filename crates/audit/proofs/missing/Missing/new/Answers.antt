use Rattle.audit.proofs.missing.Missing.new.Goals as goal

pub returns : goal.returns
returns c = λ a. rw c.new.ensures at c.of.ensures a 0
