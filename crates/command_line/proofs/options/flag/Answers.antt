use Rattle.std.proofs.Common.{ap, sym, ◌∙◌}
use Rattle.clap.specs.Words.{found_of}
use Rattle.command_line.specs.Commands.{is_set}
use Rattle.command_line.proofs.FoundLemmas.{found}
use Rattle.command_line.proofs.options.flag.Goals as goal

pub returns : goal.returns
returns c =
    c.is_set.ensures ∙ ap is_set (sym (found (found_of c.args.matches.now) c.args.name.now c.get_str.result c.get_str.ensures))
