-- The table of the program's commands.
use Rattle.std.specs.Prelude.{◌≡◌, List, false, true}
use Rattle.std.specs.List.{fold}
use Rattle.clap.specs.Words.{App, Rule, app_of, new_app, with_rule, with_subcommand}
use Rattle.clap.specs.declared.builder.command.Command.{Command}
use Rattle.clap.specs.declared.builder.command.Command.TheViews.{out-Command}
use Rattle.command_line.specs.Program.{option_rule, flag_rule, value_rule, ops_rule}
use Rattle.command_line.specs.declared.program.Row.{Row}
use Rattle.command_line.specs.declared.program.Word.{Word}
use Rattle.command_line.specs.declared.program.Word.TheVariants.{Required, Optional, Flag, Value, Ops}

-- clap sees this of the command, which has no global argument
pub record HasApp (a : App) (c : Command) : Type 0 where
  pub app : app_of c ≡ a
  pub local : (out-Command c).has_globals ≡ false

abbrev pub rule_for : Word → Rule
rule_for (Required name) = option_rule name.now true
rule_for (Optional name) = option_rule name.now false
rule_for (Flag name) = flag_rule name.now
rule_for (Value name) = value_rule name.now
rule_for Ops = ops_rule

abbrev pub with_word : App → Word → App
with_word a word = with_rule a (rule_for word)

abbrev pub with_words : App → List Word → App
with_words a words = fold with_word a words

abbrev pub row_app : Row → App
row_app row = with_words (with_words (new_app row.name.now) row.shared.now) row.own.now

abbrev pub with_row : App → Row → App
with_row a row = with_subcommand a (row_app row).top

-- each row is a subcommand
abbrev pub with_rows : App → List Row → App
with_rows a rows = fold with_row a rows
