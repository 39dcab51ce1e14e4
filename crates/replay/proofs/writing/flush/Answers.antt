use Rattle.replay.proofs.writing.flush.Goals as goal

pub returns-in-Err-Failed-clause-writes : goal.returns-in-Err-Failed-clause-writes
returns-in-Err-Failed-clause-writes g c = rw c.deref.ensures.value at c.in-Err-Failed.ensures.err

pub returns-in-Err-NoMemory-clause-writes : goal.returns-in-Err-NoMemory-clause-writes
returns-in-Err-NoMemory-clause-writes g c = rw c.deref.ensures.value at c.in-Err-NoMemory.ensures.err
