-- A state that enters a view or hears of its leader stays in its ranges, and so do messages.
use Rattle.std.proofs.Common.{◌≡◌, ◌≢◌, ◌<◌, ◌≤◌, ℕ, Bool, true, false, cond, Option, Some, None, refl, ap, subst}
use Rattle.std.proofs.Common.{arith, List, [], ◌∷◌, ◌++◌}
use Rattle.std.specs.Prelude.{◌==◌, nat_lt, IfSome}
use Rattle.std.specs.List.{AllByRecursion}
use Rattle.std.specs.FinMap as finite
use Rattle.std.proofs.lemmas.Bool.{ltb-true}
use Rattle.nop_types.specs.declared.view.View.{View}
use Rattle.nop_types.specs.declared.request.Request.{Request}
use Rattle.nop_types.specs.declared.datagram.Stamped.{Stamped}
use Rattle.nop_types.specs.declared.peer.Body.{Body}
use Rattle.nop_types.specs.Logs.{Keeping}
use Rattle.nop_types.specs.Ranges.{RequestFits, BodyIsIn, ViewFits, ChangeIsIn}
use Rattle.oum_receiver.specs.declared.verdict.Verdict.{Verdict}
use Rattle.oum_receiver.specs.declared.verdict.Verdict.TheVariants as verdicts
use Rattle.oum_receiver.specs.Front.{Nothing, Message, front_at}
use Rattle.oum_receiver.specs.Receiving.{Receiving, QueuedFits, IsSound, judged, front_of}
use Rattle.replica_state.specs.declared.sending.Sending.{Sending}
use Rattle.replica_state.specs.declared.state.ReplicaState.{ReplicaState}
use Rattle.replica_state.specs.State.{max_faults}
use Rattle.replica_state.specs.Sends.{Effect, still, then_do, when, to_replica, to_all, to_all_if, SendingIsIn}
use Rattle.replica_state.specs.Moves.{hear, entered, own_change}
use Rattle.replica_state.specs.Within.{IsIn}
use Rattle.replica_rows.proofs.Fields.{with_heard}
use Rattle.network_laws.specs.Ranges.{StaysInRanges}

-- ---- tests

pub below : (a b : ℕ) → nat_lt a b ≡ true → a < b
below a b e = ltb-true _ _ e

-- ---- a state and what is sent

pub record IsGood (k : Keeping) (s : ReplicaState) : Type 0 where
  pub within : IsIn k s
  pub sound : IsSound s.receiver

pub good : {k : Keeping} (e : Effect) → IsGood k e.0 → AllByRecursion (SendingIsIn k) e.1 → StaysInRanges k e
good e g fits = record { within = g.within; receiver = g.sound; sends = fits }

pub after : {k : Keeping} (e : Effect) → StaysInRanges k e → IsGood k e.0
after e h = record { within = h.within; sound = h.receiver }

pub all_behind : (k : Keeping) (a b : List Sending) → AllByRecursion (SendingIsIn k) a → AllByRecursion (SendingIsIn k) b
    → AllByRecursion (SendingIsIn k) (a ++ b)
all_behind k [] b f g = g
all_behind k (x ∷ a) b f g = (f.0, all_behind k a b f.1 g)

pub still_stays : {k : Keeping} (s : ReplicaState) → IsGood k s → StaysInRanges k (still s)
still_stays s g = good (still s) g tt

pub then_stays : {k : Keeping} (e : Effect) (f : ReplicaState → Effect) → StaysInRanges k e → StaysInRanges k (f e.0)
    → StaysInRanges k (then_do e f)
then_stays {k} e f first then =
    record { within = then.within; receiver = then.receiver; sends = all_behind k e.1 (f e.0).1 first.sends then.sends }

pub when_stays : {k : Keeping} (b : Bool) (f : ReplicaState → Effect) (s : ReplicaState) → IsGood k s → (b ≡ true → StaysInRanges k (f s))
    → StaysInRanges k (when b f s)
when_stays true f s g h = h refl
when_stays false f s g h = still_stays s g

-- ---- messages

pub number_small : {k : Keeping} (s : ReplicaState) → IsIn k s → s.number ≤ 6
number_small s w = let less = w.number in let few = w.few in omega arith

pub own_change_fits : {k : Keeping} (s : ReplicaState) → IsIn k s → ChangeIsIn k (own_change s)
own_change_fits s w =
    record { sender = number_small s w; rest = record { view = w.last_normal; number = w.next; log_fits = w.log } }

pub to_replica_fits : {k : Keeping} (s : ReplicaState) (q : ℕ) (body : Body) → IsIn k s → BodyIsIn k body
    → AllByRecursion (SendingIsIn k) (to_replica s q body)
to_replica_fits s q body w fits = (record { sender = number_small s w; view = w.view; body = fits }, tt)

pub all_if_fits : {k : Keeping} (b : Bool) (s : ReplicaState) (body : Body) → IsIn k s → BodyIsIn k body
    → AllByRecursion (SendingIsIn k) (to_all_if b s body)
all_if_fits true s body w fits = tt
all_if_fits false s body w fits = (record { sender = number_small s w; view = w.view; body = fits }, tt)

pub to_all_fits : {k : Keeping} (s : ReplicaState) (body : Body) → IsIn k s → BodyIsIn k body
    → AllByRecursion (SendingIsIn k) (to_all s body)
to_all_fits s body w fits = all_if_fits (max_faults s == 0) s body w fits

-- ---- the receiver

pub judged_next : (v : Verdict) (r : Receiving) (p : Stamped) → (judged v r p).next ≡ r.next
judged_next verdicts.Queued r p = refl
judged_next _ r p = refl

pub cond_sound : (b : Bool) (x y : Receiving) → IsSound x → IsSound y → IsSound (cond b x y)
cond_sound true x y f g = f
cond_sound false x y f g = g

found_in_front : (b : Bool) (o : Option Request) (r : Request) → front_at b o ≡ Message r → o ≡ Some r
found_in_front true o r e = absurd cc
found_in_front false (Some q) r e = let same : q ≡ r = cc in ap Some same
found_in_front false None r e = absurd cc

pub message_fits : (x : Receiving) (r : Request) → IsSound x → front_of x ≡ Message r → RequestFits r
message_fits x r sound e =
    let found = found_in_front (finite.len x.queued == 0) (finite.get x.queued x.next) r e in
    let fits : QueuedFits x.next x.next r = subst (λ (o : Option Request). IfSome o (QueuedFits x.next x.next)) found (sound.each x.next) in
    fits.fits

pub not_nothing : (x : Receiving) (r : Request) → front_of x ≡ Message r → front_of x ≢ Nothing
not_nothing x r e none = absurd cc

-- ---- views and messages of the leader

pub entered_within : {k : Keeping} (s : ReplicaState) (v : View) → IsIn k s → ViewFits v → IsIn k (entered s v)
entered_within s v w view = record {
  number = w.number;
  few = w.few;
  view = view;
  last_normal = w.last_normal;
  log = w.log;
  next = w.next;
  base = w.base;
  start = w.start;
  receiver = λ e. absurd cc;
  gap = tt;
  points = w.points;
  sync_point = w.sync_point;
  syncing = tt;
  prepared = omega arith;
  changes = tt;
}

pub hears : {k : Keeping} (s : ReplicaState) → IsGood k s → IsGood k (hear s)
hears {k} s g = record { within = with_heard k s true g.within; sound = g.sound }
