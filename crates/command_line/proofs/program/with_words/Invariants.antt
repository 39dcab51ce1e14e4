use Rattle.std.proofs.Common.{◌≡◌, false, drop}
use Rattle.clap.specs.Words.{app_of}
use Rattle.clap.specs.declared.builder.command.Command.TheViews.{out-Command}
use Rattle.command_line.specs.Rows.{with_words}
use Rattle.command_line.proofs.program.with_words.Given as goal

abbrev pub invariant-loop-word : goal.invariant-loop-word
invariant-loop-word l = record {
  app : with_words (app_of l.command) (drop l.word-index l.words) ≡ with_words (app_of l.initial.command) l.words;
  local : (out-Command l.command).has_globals ≡ false;
}
