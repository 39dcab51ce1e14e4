use Rattle.std.proofs.Common.{◌<◌, refl, arith, length}
use Rattle.std.proofs.lemmas.Option.{slice_get_read}
use Rattle.world.specs.WorldSteps.{step_at, stimulus_of}
use Rattle.world.proofs.SeatLemmas.{moves_at, refuses_at}
use Rattle.world.proofs.seat.take_at.Goals as goal

pub returns-clause-ok : goal.returns-clause-ok
returns-clause-ok g c =
    let seats = c.args.seats.now.items in
    let before = c.index_mut-seat.result.now in
    let within : c.args.i < length seats = omega (arith, c.len.ensures, c.args.seats.now.ok.0, c.if-i-len.false) in
    moves_at g.C.Core.state (λ p. step_at g.C.Core.next p (stimulus_of c.args.config c.args.network.now c.args.event.now)) seats c.args.i
    before c.take.new.self (slice_get_read seats (length seats) c.args.i before refl within c.index_mut-seat.ensures.value) c.take.result
    c.take.ensures.ok

pub returns-clause-err : goal.returns-clause-err
returns-clause-err g c =
    let seats = c.args.seats.now.items in
    let before = c.index_mut-seat.result.now in
    let within : c.args.i < length seats = omega (arith, c.len.ensures, c.args.seats.now.ok.0, c.if-i-len.false) in
    refuses_at g.C.Core.state (λ p. step_at g.C.Core.next p (stimulus_of c.args.config c.args.network.now c.args.event.now)) seats c.args.i
    before c.take.new.self (slice_get_read seats (length seats) c.args.i before refl within c.index_mut-seat.ensures.value) c.take.result
    c.take.ensures.err
