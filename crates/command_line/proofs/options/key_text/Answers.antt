use Rattle.std.proofs.Common.{codes, sym}
use Rattle.clap.specs.Words.{found_of}
use Rattle.command_line.proofs.FoundLemmas.{found}
use Rattle.command_line.proofs.options.key_text.Goals as goal

pub returns : goal.returns
returns c = sym (found (found_of c.args.matches.now) (codes "key") c.get_str.result c.get_str.ensures)
