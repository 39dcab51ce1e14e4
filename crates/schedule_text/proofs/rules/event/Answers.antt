use Rattle.std.proofs.Common.{◌≡◌, true, false, arith, length}
use Rattle.std.specs.Prelude.{nat_le, nat_lt}
use Rattle.std.specs.List.{list_all}
use Rattle.std.proofs.lemmas.Bool.Decides.{nat_tests}
use Rattle.schedule_text.specs.Rules.{is_plain, event_of}
use Rattle.schedule_text.proofs.Plains.{event_plain}
use Rattle.schedule_text.proofs.rules.event.Goals as goal

pub returns-in-Ok : goal.returns-in-Ok
unfolding event_of
returns-in-Ok c =
    let line = c.args.line.now in
    let few : nat_le 1000000 c.args.before ≡ false = grind (arith, nat_tests, c.if-before-ge-MAX_LINES.false) in
    let short : nat_lt 4096 (length line) ≡ false = grind (arith, nat_tests, c.if-line-gt-MAX_LINE_BYTES.false) in
    let plain : list_all is_plain line ≡ true = event_plain c.args.config line c.in-Ok.event c.in-Ok.ensures in
    rw (few, short, plain) c.in-Ok.ensures
