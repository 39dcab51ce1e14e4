use Rattle.std.proofs.Common.{sym}
use Rattle.host_list.proofs.Grammar.{nothing_is_read, text_is_read}
use Rattle.host_list.proofs.addresses.spelled_address.Goals as goal

pub returns-in-Ok : goal.returns-in-Ok
returns-in-Ok c = sym (text_is_read c.args.word.now c.in-Ok.address c.in-Ok.ensures)

pub returns-in-Err : goal.returns-in-Err
returns-in-Err c = nothing_is_read c.args.word.now c.in-Err.ensures
