use Rattle.host_list.proofs.Grammar.{text_is_read, read_is_text}
use Rattle.host_list.proofs.laws.addresses_are_of_the_grammar.Goals as goal

pub returns-clause-read : goal.returns-clause-read
returns-clause-read c = text_is_read

pub returns-clause-text : goal.returns-clause-text
returns-clause-text c = read_is_text
