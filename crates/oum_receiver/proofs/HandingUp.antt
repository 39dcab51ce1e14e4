-- What a run of calls hands up.
use Rattle.std.proofs.Common.{◌≡◌, ℕ, zero, suc, Some, None, refl, subst, List, [], ◌∷◌, ◌++◌}
use Rattle.std.proofs.lemmas.Option.{same_Some, none-some}
use Rattle.nop_types.specs.declared.request.Request.{Request}
use Rattle.nop_types.specs.declared.datagram.Stamped.{Stamped}
use Rattle.nop_types.specs.Lists.{Has}
use Rattle.oum_receiver.specs.declared.verdict.Verdict.{Verdict}
use Rattle.oum_receiver.specs.declared.verdict.Verdict.TheVariants.{Queued}
use Rattle.oum_receiver.specs.Front.{Front, Nothing, Message, Dropped}
use Rattle.oum_receiver.specs.Receiving.{Receiving, opened, verdict_of, judged, offered, front_of, front_taken, advanced}
use Rattle.nop_types.specs.Stamps.{WasStamped}
use Rattle.oum_receiver.specs.Runs.{Call, Offer, TakeFront, TakeMessage, Advance, Reset, HandedUp, past_front, past_message, handed_front}
use Rattle.oum_receiver.specs.Runs.{handed_message, handed_up, packets_of, IsUninterrupted, IsConsecutive, IsStampedBy, HaveOneRequest}
use Rattle.oum_receiver.proofs.Stamps.{opened_stamped, offered_stamped, taken_stamped, advanced_stamped, front_stamped}

-- an offer changes neither session nor next number
offer_then : (r : Receiving) (packet : Stamped) (calls : List Call)
    → ((s : Receiving) → IsConsecutive s.session s.next (handed_up s calls)) → (v : Verdict)
    → IsConsecutive r.session r.next (handed_up (judged v r packet) calls)
offer_then r packet calls rest Queued = rest (judged Queued r packet)
offer_then r packet calls rest _ = rest r

front_then : (r : Receiving) (calls : List Call) → ((s : Receiving) → IsConsecutive s.session s.next (handed_up s calls)) → (f : Front)
    → IsConsecutive r.session r.next (handed_front f r ++ handed_up (past_front f r) calls)
front_then r calls rest Nothing = rest r
front_then r calls rest (Message request) = (refl, refl, rest (front_taken r))
front_then r calls rest Dropped = (refl, refl, rest (front_taken r))

message_then : (r : Receiving) (calls : List Call) → ((s : Receiving) → IsConsecutive s.session s.next (handed_up s calls)) → (f : Front)
    → IsConsecutive r.session r.next (handed_message f r ++ handed_up (past_message f r) calls)
message_then r calls rest Nothing = rest r
message_then r calls rest (Message request) = (refl, refl, rest (front_taken r))
message_then r calls rest Dropped = rest r

pub hands_up_consecutive : (r : Receiving) (calls : List Call) → IsUninterrupted calls → IsConsecutive r.session r.next (handed_up r calls)
hands_up_consecutive r [] free = tt
hands_up_consecutive r (Offer packet ∷ calls) free =
    offer_then r packet calls (λ s. hands_up_consecutive s calls free) (verdict_of r packet)
hands_up_consecutive r (TakeFront ∷ calls) free = front_then r calls (λ s. hands_up_consecutive s calls free) (front_of r)
hands_up_consecutive r (TakeMessage ∷ calls) free = message_then r calls (λ s. hands_up_consecutive s calls free) (front_of r)
hands_up_consecutive r (Advance next ∷ calls) free = absurd free
hands_up_consecutive r (Reset session next ∷ calls) free = absurd free

-- the request of what is handed up was stamped
abbrev IsFrom : List Stamped → HandedUp → Type 0
IsFrom packets h = (request : Request) → h.request ≡ Some request → WasStamped packets h.session h.number request

-- the packets of some calls are among these
abbrev Covers : List Stamped → List Call → Type 0
Covers packets calls = (packet : Stamped) → Has (packets_of calls) packet → Has packets packet

abbrev RestIsFrom : List Stamped → List Call → Type 0
RestIsFrom packets calls = (s : Receiving) → IsStampedBy packets s → (h : HandedUp) → Has (handed_up s calls) h → IsFrom packets h

module _ (packets : List Stamped) (r : Receiving) (stamped : IsStampedBy packets r) (calls : List Call)
    (rest : RestIsFrom packets calls) where
  first_from : (request : Request) (h : HandedUp) → front_of r ≡ Message request
      → Some (record { session = r.session; number = r.next; request = Some request }) ≡ Some h → IsFrom packets h
  first_from request h is e =
      subst (IsFrom packets) (same_Some _ h e) (λ (q : Request) (same : Some request ≡ Some q).
      subst (WasStamped packets r.session r.next) (same_Some request q same) (front_stamped packets r request stamped is))

  front_from : (f : Front) → front_of r ≡ f → (h : HandedUp) → Has (handed_front f r ++ handed_up (past_front f r) calls) h
      → IsFrom packets h
  front_from Nothing is h has = rest r stamped h has
  front_from (Message request) is h (zero, e) = first_from request h is e
  front_from (Message request) is h (suc i, e) = rest (front_taken r) (taken_stamped packets r stamped) h (i, e)
  front_from Dropped is h (zero, e) =
      subst (IsFrom packets) (same_Some _ h e) (λ (q : Request) (none : None ≡ Some q). absurd (none-some q none))
  front_from Dropped is h (suc i, e) = rest (front_taken r) (taken_stamped packets r stamped) h (i, e)

  message_from : (f : Front) → front_of r ≡ f → (h : HandedUp) → Has (handed_message f r ++ handed_up (past_message f r) calls) h
      → IsFrom packets h
  message_from Nothing is h has = rest r stamped h has
  message_from (Message request) is h (zero, e) = first_from request h is e
  message_from (Message request) is h (suc i, e) = rest (front_taken r) (taken_stamped packets r stamped) h (i, e)
  message_from Dropped is h has = rest r stamped h has

run_from : (packets : List Stamped) (calls : List Call) → Covers packets calls → RestIsFrom packets calls
run_from packets [] covers s stamped h has = absurd (none-some h has.1)
run_from packets (Offer packet ∷ calls) covers s stamped h has =
    run_from packets calls (λ p in_calls. covers p (suc in_calls.0, in_calls.1)) (offered s packet)
    (offered_stamped packets s packet stamped (covers packet (zero, refl))) h has
run_from packets (TakeFront ∷ calls) covers s stamped h has =
    front_from packets s stamped calls (run_from packets calls covers) (front_of s) refl h has
run_from packets (TakeMessage ∷ calls) covers s stamped h has =
    message_from packets s stamped calls (run_from packets calls covers) (front_of s) refl h has
run_from packets (Advance next ∷ calls) covers s stamped h has =
    run_from packets calls covers (advanced s next) (advanced_stamped packets s next stamped) h has
run_from packets (Reset session next ∷ calls) covers s stamped h has =
    run_from packets calls covers (opened session next) (opened_stamped packets session next) h has

pub hands_up_offered : (session next : ℕ) (calls : List Call) (h : HandedUp) (request : Request)
    → Has (handed_up (opened session next) calls) h → h.request ≡ Some request → WasStamped (packets_of calls) h.session h.number request
hands_up_offered session next calls h request has is =
    run_from (packets_of calls) calls (λ packet in_calls. in_calls) (opened session next)
    (opened_stamped (packets_of calls) session next) h has request is

pub receivers_agree : (s n t m : ℕ) (calls others : List Call) → HaveOneRequest (packets_of calls) (packets_of others)
    → (g h : HandedUp) → Has (handed_up (opened s n) calls) g → Has (handed_up (opened t m) others) h → g.session ≡ h.session
    → g.number ≡ h.number
    → (a b : Request) → g.request ≡ Some a → h.request ≡ Some b → a ≡ b
receivers_agree s n t m calls others one g h has_g has_h same_session same_number a b is_a is_b =
    one h.session h.number a b
    (subst (λ (p : ℕ × ℕ). WasStamped (packets_of calls) p.0 p.1 a) (λ i. (same_session i, same_number i))
    (hands_up_offered s n calls g a has_g is_a))
    (hands_up_offered t m others h b has_h is_b)
