-- Each call keeps a receiver sound.
use Rattle.std.proofs.Common.{◌≡◌, ◌≢◌, ℕ, ◌+◌, ◌<◌, ◌≤◌, Bool, true, false, cond, Option, Some, None, is_some, IfSome, true≢false, refl}
use Rattle.std.proofs.Common.{sym, ap, subst, ◌∙◌, arith, eq-eqb}
use Rattle.std.specs.Prelude.{◌==◌, nat_lt, nat_le, if◌then◌else◌}
use Rattle.std.specs.Ordering.{nat_cmp, eq_by_cmp}
use Rattle.std.specs.Cmp.{nat_cmp_total, unsigned_tied}
use Rattle.std.specs.FinMap as finite
use Rattle.std.proofs.lemmas.Bool.Decides.{nat_tests}
use Rattle.std.proofs.lemmas.Bool.{or_parts}
use Rattle.nop_types.specs.declared.limits.TheConstants.{MAX_QUEUED, NUMBER_END}
use Rattle.nop_types.specs.declared.request.Request.{Request}
use Rattle.nop_types.specs.declared.datagram.Stamped.{Stamped}
use Rattle.nop_types.specs.Ranges.{StampedFits}
use Rattle.oum_receiver.specs.declared.verdict.Verdict.{Verdict}
use Rattle.oum_receiver.specs.declared.verdict.Verdict.TheVariants.{Queued, Old, Terminated, Full}
use Rattle.oum_receiver.specs.Front.{Nothing, Message, front_at}
use Rattle.oum_receiver.specs.Requests.{is_from}
use Rattle.oum_receiver.proofs.Counts.{some_key, len_some, len_kept, len_removed}
use Rattle.oum_receiver.proofs.Entries.{get_kept}
use Rattle.oum_receiver.specs.Receiving.{Receiving, QueuedFits, IsSound, opened, is_old, verdict_of, judged, offered, front_of, front_taken}
use Rattle.oum_receiver.specs.Receiving.{advanced}

-- what holds of both choices holds of the one taken
chosen : {A : Type 0} (P : A → Type 0) (b : Bool) (o p : Option A) → (b ≡ true → IfSome o P) → (b ≡ false → IfSome p P)
    → IfSome (cond b o p) P
chosen P b o p first second = elim b as (λ v. b ≡ v → IfSome (cond v o p) P) [ true ↦ first | false ↦ second ] refl

-- what follows of a value follows of the one that is there
turned : {A : Type 0} (P Q : A → Type 0) (o : Option A) → ((x : A) → P x → Q x) → IfSome o P → IfSome o Q
turned P Q None turn has = tt
turned P Q (Some x) turn has = turn x has

pub opened_sound : (session next : ℕ) → next ≤ NUMBER_END → IsSound (opened session next)
opened_sound session next high = record {
  next = high;
  few = rw (finite.len-empty nat_cmp Request) (omega arith);
  each = λ number. rw (finite.get-empty nat_cmp number) tt;
}

-- what the verdict says of its tests
pub queued_tests : (later old full : Bool) (session : ℕ)
    → (if later then Terminated session else (if old then Old else (if full then Full else Queued))) ≡ Queued
    → (later ≡ false) × (old ≡ false) × (full ≡ false)
queued_tests true old full session e = cc
queued_tests false true full session e = cc
queued_tests false false true session e = cc
queued_tests false false false session e = (refl, refl, refl)

pub same_number : (a b : ℕ) → eq_by_cmp nat_cmp a b ≡ true → a ≡ b
same_number a b tied = let test : (a == b) ≡ true = sym (unsigned_tied a b) ∙ tied in grind (arith, nat_tests, test)

other_number : (a b : ℕ) → eq_by_cmp nat_cmp a b ≡ false → a ≡ b → ⊥
other_number a b tied same = let test : (a == b) ≡ false = sym (unsigned_tied a b) ∙ tied in grind (arith, nat_tests, test)

pub queued_sound : (r : Receiving) (packet : Stamped) → IsSound r → StampedFits packet → verdict_of r packet ≡ Queued
    → IsSound (judged Queued r packet)
unfolding verdict_of
queued_sound r packet sound fits verdict =
    let tests =
    queued_tests (nat_lt r.session packet.session) (is_old r packet) (nat_le MAX_QUEUED (finite.len r.queued)) packet.session verdict in
    let old = or_parts (nat_lt packet.session r.session) _ tests.1 in
    let passed = or_parts (nat_lt packet.number r.next) (finite.contains_key r.queued packet.number) old.1 in
    record {
      next = sound.next;
      few = rw (finite.len-insert nat_cmp_total r.queued packet.number packet.request) (rw passed.1 (grind (arith, nat_tests, tests.2)));
      each = λ number.
          rw (finite.get-insert nat_cmp_total r.queued packet.number packet.request number)
          (chosen (QueuedFits r.next number) (eq_by_cmp nat_cmp number packet.number) (Some packet.request) (finite.get r.queued number)
          (λ tied. let same : number ≡ packet.number = same_number number packet.number tied in record {
            low = grind (arith, nat_tests, passed.0, same);
            high = omega (arith, fits.number, same);
            fits = fits.request;
          })
          (λ _. sound.each number));
    }

-- a packet that is queued is not there yet
pub queued_absent : (r : Receiving) (packet : Stamped) → verdict_of r packet ≡ Queued → finite.get r.queued packet.number ≡ None
unfolding verdict_of
queued_absent r packet verdict =
    let tests =
    queued_tests (nat_lt r.session packet.session) (is_old r packet) (nat_le MAX_QUEUED (finite.len r.queued)) packet.session verdict in
    let old = or_parts (nat_lt packet.session r.session) _ tests.1 in
    at (finite.get r.queued packet.number) (or_parts (nat_lt packet.number r.next) (finite.contains_key r.queued packet.number) old.1).1
  where
    at : (o : Option Request) → is_some o ≡ false → o ≡ None
    at None none = refl
    at (Some x) none = absurd (true≢false none)

-- where something is in front, the next number is not the end
in_front : (r : Receiving) → IsSound r → front_of r ≢ Nothing → r.next < NUMBER_END
in_front r sound some =
    let key =
    some_key r.queued
    (λ none. some (ap (λ (b : Bool). front_at b (finite.get r.queued r.next)) (eq-eqb (finite.len r.queued) 0 none))) in
    let fits : QueuedFits r.next key.0 key.1 =
    subst (λ (o : Option Request). IfSome o (QueuedFits r.next key.0)) key.2 (sound.each key.0) in
    omega (arith, fits.low, fits.high)

pub taken_sound : (r : Receiving) → IsSound r → front_of r ≢ Nothing → IsSound (front_taken r)
taken_sound r sound some = record {
  next = omega (arith, in_front r sound some);
  few = omega (arith, len_removed r.queued r.next, sound.few);
  each = λ number.
      rw (finite.get-remove nat_cmp_total r.queued r.next number)
      (chosen (QueuedFits (r.next + 1) number) (eq_by_cmp nat_cmp number r.next) None (finite.get r.queued number)
      (λ _. tt)
      (λ tied. turned (QueuedFits r.next number) (QueuedFits (r.next + 1) number) (finite.get r.queued number)
      (λ request fits. record {
        low = omega (arith, fits.low, other_number number r.next tied);
        high = fits.high;
        fits = fits.fits;
      }) (sound.each number)));
}

pub advanced_sound : (r : Receiving) (next : ℕ) → IsSound r → next ≤ NUMBER_END → IsSound (advanced r next)
advanced_sound r next sound high = record {
  next = high;
  few = omega (arith, len_kept r.queued (is_from next), sound.few);
  each = λ number.
      rw (get_kept r.queued next number) (chosen (QueuedFits next number) (is_from next number) (finite.get r.queued number) None
      (λ from. turned (QueuedFits r.next number) (QueuedFits next number) (finite.get r.queued number)
      (λ request fits. record { low = grind (arith, nat_tests, from); high = fits.high; fits = fits.fits }) (sound.each number))
      (λ _. tt));
}

-- a request that stands at the next number is in front
pub message_front : (r : Receiving) (request : Request) → finite.get r.queued r.next ≡ Some request → front_of r ≡ Message request
message_front r request is =
    rw (is, not_zero (finite.len r.queued) (len_some r.queued r.next (ap is_some is))) refl
  where
    not_zero : (n : ℕ) → 0 < n → (n == 0) ≡ false
    not_zero n some = grind (arith, nat_tests, some)

pub message_sound : (r : Receiving) (request : Request) → IsSound r → finite.get r.queued r.next ≡ Some request → IsSound (front_taken r)
message_sound r request sound is = taken_sound r sound (λ none. absurd (message_apart request (sym (message_front r request is) ∙ none)))
  where
    message_apart : (request : Request) → Message request ≡ Nothing → ⊥
    message_apart request e = cc

pub offered_sound : (r : Receiving) (packet : Stamped) → IsSound r → StampedFits packet → IsSound (offered r packet)
offered_sound r packet sound fits = at (verdict_of r packet) refl
  where
    at : (v : Verdict) → verdict_of r packet ≡ v → IsSound (judged v r packet)
    at Queued is = queued_sound r packet sound fits is
    at Old is = sound
    at (Terminated session) is = sound
    at Full is = sound
