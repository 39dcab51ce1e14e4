use Rattle.std.proofs.Common.{◌≤◌, true≢false, sym, arith}
use Rattle.std.proofs.lemmas.Bool.Decides.{nat_tests}
use Rattle.oum_receiver.proofs.Entries.{drop_none_empty, drop_none_least}
use Rattle.oum_receiver.proofs.queue.starts_below.Goals as goal

pub returns-in-Some-clause-none_below : goal.returns-in-Some-clause-none_below
returns-in-Some-clause-none_below c = λ high.
    let from : c.args.next ≤ c.in-Some.number.now = grind (arith, nat_tests, high) in
    drop_none_least c.args.next c.in-Some.number.now c.args.requests.now c.in-Some.ensures.least from

pub returns-in-None-clause-none_below : goal.returns-in-None-clause-none_below
returns-in-None-clause-none_below c =
    λ _. drop_none_empty c.args.next c.args.requests.now.entries (λ some. true≢false (sym (c.in-None.ensures.variant.1 some)))
