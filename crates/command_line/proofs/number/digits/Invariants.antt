use Rattle.std.proofs.Common.{◌≡◌, ◌≤◌, drop, Some}
use Rattle.command_line.specs.Numbers.{number_on}
use Rattle.command_line.proofs.number.digits.Given as goal

abbrev pub invariant-loop-d : goal.invariant-loop-d
invariant-loop-d l = record {
  value : number_on l.most (Some l.n) (drop l.d-index l.text) ≡ number_on l.most (Some 0) l.text;
  limit : l.n ≤ l.most;
}
