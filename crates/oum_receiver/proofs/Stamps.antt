-- Queued requests were stamped.
use Rattle.std.proofs.Common.{◌≡◌, ℕ, Bool, true, false, cond, Option, Some, None, refl, sym, subst, ◌∙◌, arith, List}
use Rattle.std.specs.Prelude.{◌==◌, nat_lt, nat_le}
use Rattle.std.specs.Ordering.{nat_cmp, eq_by_cmp}
use Rattle.std.specs.Cmp.{nat_cmp_total}
use Rattle.std.specs.FinMap as finite
use Rattle.std.proofs.lemmas.Bool.Decides.{nat_tests}
use Rattle.std.proofs.lemmas.Option.{none-some, same_Some}
use Rattle.std.proofs.lemmas.Bool.{or_parts}
use Rattle.nop_types.specs.declared.limits.TheConstants.{MAX_QUEUED}
use Rattle.nop_types.specs.declared.request.Request.{Request}
use Rattle.nop_types.specs.declared.datagram.Stamped.{Stamped}
use Rattle.nop_types.specs.Lists.{Has}
use Rattle.oum_receiver.specs.declared.verdict.Verdict.{Verdict}
use Rattle.oum_receiver.specs.declared.verdict.Verdict.TheVariants.{Queued, Old, Terminated, Full}
use Rattle.oum_receiver.specs.Front.{Message, front_at}
use Rattle.oum_receiver.specs.Requests.{is_from}
use Rattle.oum_receiver.specs.Receiving.{Receiving, opened, is_old, verdict_of, judged, offered, front_of, front_taken, advanced}
use Rattle.nop_types.specs.Stamps.{WasStamped}
use Rattle.oum_receiver.specs.Runs.{IsStampedBy}
use Rattle.oum_receiver.proofs.Entries.{get_kept}
use Rattle.oum_receiver.proofs.Sound.{queued_tests, same_number}

pub opened_stamped : (packets : List Stamped) (session next : ℕ) → IsStampedBy packets (opened session next)
opened_stamped packets session next number request is = absurd (none-some request (sym (finite.get-empty nat_cmp number) ∙ is))

-- what is found where some is left out
part_found : (b : Bool) (o : Option Request) (request : Request) → cond b o None ≡ Some request → o ≡ Some request
part_found true o request is = is
part_found false o request is = absurd (none-some request is)

rest_found : (b : Bool) (o : Option Request) (request : Request) → cond b None o ≡ Some request → o ≡ Some request
rest_found true o request is = absurd (none-some request is)
rest_found false o request is = is

pub advanced_stamped : (packets : List Stamped) (r : Receiving) (next : ℕ) → IsStampedBy packets r → IsStampedBy packets (advanced r next)
advanced_stamped packets r next stamped number request is =
    stamped number request
    (part_found (is_from next number) (finite.get r.queued number) request (sym (get_kept r.queued next number) ∙ is))

pub taken_stamped : (packets : List Stamped) (r : Receiving) → IsStampedBy packets r → IsStampedBy packets (front_taken r)
taken_stamped packets r stamped number request is =
    stamped number request
    (rest_found (eq_by_cmp nat_cmp number r.next) (finite.get r.queued number) request
    (sym (finite.get-remove nat_cmp_total r.queued r.next number) ∙ is))

-- the request in front is queued at the next number
pub front_found : (b : Bool) (o : Option Request) (request : Request) → front_at b o ≡ Message request → o ≡ Some request
front_found true o request is = cc
front_found false None request is = cc
front_found false (Some x) request is = cc

pub judged_next : (v : Verdict) (r : Receiving) (p : Stamped) → (judged v r p).next ≡ r.next
judged_next Queued r p = refl
judged_next _ r p = refl

pub front_stamped : (packets : List Stamped) (r : Receiving) (request : Request) → IsStampedBy packets r → front_of r ≡ Message request
    → WasStamped packets r.session r.next request
front_stamped packets r request stamped is =
    stamped r.next request (front_found (finite.len r.queued == 0) (finite.get r.queued r.next) request is)

-- a packet that is queued is of the receiver's session
same_session : (r : Receiving) (packet : Stamped) → verdict_of r packet ≡ Queued → packet.session ≡ r.session
unfolding verdict_of
same_session r packet verdict =
    let tests =
    queued_tests (nat_lt r.session packet.session) (is_old r packet) (nat_le MAX_QUEUED (finite.len r.queued)) packet.session verdict in
    let older : nat_lt packet.session r.session ≡ false = (or_parts (nat_lt packet.session r.session) _ tests.1).0 in
    grind (arith, nat_tests, tests.0, older)

queued_stamped : (packets : List Stamped) (r : Receiving) (packet : Stamped) → IsStampedBy packets r → Has packets packet
    → packet.session ≡ r.session → IsStampedBy packets (judged Queued r packet)
queued_stamped packets r packet stamped has same number request is =
    at (eq_by_cmp nat_cmp number packet.number) refl (sym (finite.get-insert nat_cmp_total r.queued packet.number packet.request number)
    ∙ is)
  where
    at : (b : Bool) → eq_by_cmp nat_cmp number packet.number ≡ b → cond b (Some packet.request) (finite.get r.queued number) ≡ Some request
        → WasStamped packets r.session number request
    at true tied found =
        let numbers : packet.number ≡ number = sym (same_number number packet.number tied) in
        let requests : packet.request ≡ request = same_Some packet.request request found in
        let whole : packet ≡ record { session = r.session; number = number; request = request } =
        λ i. record { session = same i; number = numbers i; request = requests i } in
        subst (Has packets) whole has
    at false tied found = stamped number request found

pub offered_stamped : (packets : List Stamped) (r : Receiving) (packet : Stamped) → IsStampedBy packets r → Has packets packet
    → IsStampedBy packets (offered r packet)
offered_stamped packets r packet stamped has = at (verdict_of r packet) refl
  where
    at : (v : Verdict) → verdict_of r packet ≡ v → IsStampedBy packets (judged v r packet)
    at Queued is = queued_stamped packets r packet stamped has (same_session r packet is)
    at Old is = stamped
    at (Terminated session) is = stamped
    at Full is = stamped
