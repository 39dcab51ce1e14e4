use Rattle.std.proofs.Common.{◌≡◌, length, arith}
use Rattle.client_table.proofs.AccountLemmas.{parts_of}
use Rattle.client_table.proofs.dropped.take_several.Goals as goal

pub returns-clause-front : goal.returns-clause-front
returns-clause-front c =
    let end = c.loop-test.false in
    let within = c.loop.auto.counter-end in
    let n = c.loop.invariant.count in
    let all : length c.loop.results.items ≡ c.args.count = omega (arith, end, within, n) in
    (parts_of c.loop.results.items c.loop.kept.items c.args.kept.now.items c.args.count c.loop.invariant.whole all).0

pub returns-clause-rest : goal.returns-clause-rest
returns-clause-rest c =
    let end = c.loop-test.false in
    let within = c.loop.auto.counter-end in
    let n = c.loop.invariant.count in
    let all : length c.loop.results.items ≡ c.args.count = omega (arith, end, within, n) in
    (parts_of c.loop.results.items c.loop.kept.items c.args.kept.now.items c.args.count c.loop.invariant.whole all).1
