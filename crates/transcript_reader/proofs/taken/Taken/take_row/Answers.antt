use Rattle.transcript_reader.proofs.taken.Taken.take_row.Goals as goal

pub returns-in-Dead : goal.returns-in-Dead
returns-in-Dead c = rw c.in-Dead.is (c.take_event.ensures c.args.line)

pub returns-in-Busy : goal.returns-in-Busy
returns-in-Busy c = rw c.in-Busy.is (c.take_event-in-Busy.ensures c.args.line)

pub returns-in-Read : goal.returns-in-Read
returns-in-Read c = rw c.in-Read.is (c.take_event-in-Read.ensures c.args.line)

pub returns-in-Answer : goal.returns-in-Answer
returns-in-Answer c = rw c.in-Answer.is (c.take_event-in-Answer.ensures c.args.line)

pub returns-in-Sent : goal.returns-in-Sent
returns-in-Sent c = rw c.in-Sent.is (c.take_event-in-Sent.ensures c.args.line)
