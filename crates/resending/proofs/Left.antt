-- What an acknowledgement leaves in flight.
use Rattle.std.proofs.Common.{◌≡◌, ℕ, Bool, true, false, List, refl, ap}
use Rattle.std.specs.Prelude.{not}
use Rattle.nop_types.specs.Lists.{Has}
use Rattle.lemmas.proofs.Members.{Has-filter, Has-from_filter}
use Rattle.resending.specs.declared.acks.Ack.{Ack}
use Rattle.resending.specs.declared.flight.Sent.{Sent}
use Rattle.resending.specs.Flights.{is_taken, left}

is_false : (b : Bool) → not b ≡ true → b ≡ false
is_false false e = refl
is_false true e = absurd cc

pub gone : (port : ℕ) (ack : Ack) (flight : List Sent) (s : Sent) → Has (left port ack flight) s
    → Has flight s × (is_taken port ack s ≡ false)
gone port ack flight s has =
    let kept = Has-from_filter (λ (x : Sent). not (is_taken port ack x)) s flight has in
    (kept.0, is_false (is_taken port ack s) kept.1)

pub stays : (port : ℕ) (ack : Ack) (flight : List Sent) (s : Sent) → Has flight s → is_taken port ack s ≡ false
    → Has (left port ack flight) s
stays port ack flight s has e = Has-filter (λ (x : Sent). not (is_taken port ack x)) s flight has (ap not e)
