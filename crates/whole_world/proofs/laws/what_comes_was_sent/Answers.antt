use Rattle.whole_world.proofs.Coming.{datagrams_were_sent, heard_is_answer, junk_is_no_datagram, messages_were_sent}
use Rattle.whole_world.proofs.laws.what_comes_was_sent.Goals as goal

pub returns-clause-datagrams : goal.returns-clause-datagrams
returns-clause-datagrams c = datagrams_were_sent

pub returns-clause-junk : goal.returns-clause-junk
returns-clause-junk c = junk_is_no_datagram

pub returns-clause-heard : goal.returns-clause-heard
returns-clause-heard c = heard_is_answer

pub returns-clause-messages : goal.returns-clause-messages
returns-clause-messages c = messages_were_sent
