use Rattle.std.proofs.Common.{sym, refl, ◌∙◌}
use Rattle.clap.specs.Words.{app_of}
use Rattle.command_line.specs.Rows.{with_word}
use Rattle.command_line.proofs.FoldLemmas.{fold_next, fold_done}
use Rattle.command_line.proofs.program.with_words.Goals as goal

pub with_word-requires : goal.with_word-requires
with_word-requires c = c.loop-word.invariant.local

pub loop-word-init : goal.loop-word-init
loop-word-init c = record { app = refl; local = c.requires }

pub loop-word-preserved : goal.loop-word-preserved
loop-word-preserved c = record {
  app = fold_next with_word (app_of c.loop-word.command) (app_of c.in-Ok.more) c.args.words.now c.loop-word.word-index _
      c.loop-word-test.true c.in-Ok.ensures.app ∙ c.loop-word.invariant.app;
  local = c.in-Ok.ensures.local;
}

pub returns : goal.returns
returns c = record {
  app = sym (fold_done with_word (app_of c.loop-word.command) c.args.words.now c.loop-word.word-index c.loop-word-test.false)
      ∙ c.loop-word.invariant.app;
  local = c.loop-word.invariant.local;
}
