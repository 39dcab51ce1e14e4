use Rattle.std.proofs.Common.{ap, sym, ◌∙◌}
use Rattle.std.specs.List.{fold}
use Rattle.clap.specs.Words.{app_of}
use Rattle.command_line.specs.Rows.{with_row}
use Rattle.command_line.proofs.FoldLemmas.{fold_next, fold_done}
use Rattle.command_line.proofs.program.with_rows.Goals as goal

pub with_row-requires : goal.with_row-requires
with_row-requires c = c.loop-row.invariant.local

pub loop-row-init : goal.loop-row-init
loop-row-init c = record { app = ap (λ a. fold with_row a c.args.rows.now) c.new-program.ensures.app; local = c.new-program.ensures.local }

pub loop-row-preserved : goal.loop-row-preserved
loop-row-preserved c = record {
  app = fold_next with_row (app_of c.loop-row.program) (app_of c.in-Ok.more) c.args.rows.now c.loop-row.row-index _
      c.loop-row-test.true c.in-Ok.ensures.app ∙ c.loop-row.invariant.app;
  local = c.in-Ok.ensures.local;
}

pub returns : goal.returns
returns c = record {
  app = sym (fold_done with_row (app_of c.loop-row.program) c.args.rows.now c.loop-row.row-index c.loop-row-test.false)
      ∙ c.loop-row.invariant.app;
  local = c.loop-row.invariant.local;
}
