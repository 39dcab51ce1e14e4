use Rattle.std.proofs.Common.{◌≡◌, false, drop}
use Rattle.clap.specs.Words.{app_of, new_app}
use Rattle.clap.specs.declared.builder.command.Command.TheViews.{out-Command}
use Rattle.command_line.specs.Rows.{with_rows}
use Rattle.command_line.proofs.program.with_rows.Given as goal

abbrev pub invariant-loop-row : goal.invariant-loop-row
invariant-loop-row l = record {
  app : with_rows (app_of l.program) (drop l.row-index l.rows) ≡ with_rows (new_app l.name) l.rows;
  local : (out-Command l.program).has_globals ≡ false;
}
