-- A packet of a greater session, and entering a view where there are others.
use Rattle.std.proofs.Common.{◌≡◌, ◌<◌, Bool, true, false, refl, sym, ap, subst, ◌∙◌, arith, List, ◌++◌}
use Rattle.std.specs.Prelude.{◌/◌, ◌==◌, ◌&&◌, not, nat_lt}
use Rattle.std.proofs.lemmas.Bool.Decides.{nat_tests}
use Rattle.std.proofs.lemmas.List.{append-nil}
use Rattle.nop_types.specs.declared.view.View.{View}
use Rattle.nop_types.specs.declared.replica_state.Phase.{Phase}
use Rattle.nop_types.specs.declared.replica_state.Phase.TheVariants.{Change}
use Rattle.nop_types.specs.declared.datagram.Stamped.{Stamped}
use Rattle.nop_types.specs.declared.peer.Body.TheVariants as bodies
use Rattle.nop_types.specs.Configuration.{Configuration}
use Rattle.nop_types.specs.Logs.{Whole}
use Rattle.nop_types.specs.Meaning.{Meaning}
use Rattle.oum_receiver.specs.declared.verdict.Verdict.{Verdict}
use Rattle.oum_receiver.specs.declared.verdict.Verdict.TheVariants.{Queued}
use Rattle.oum_receiver.specs.Receiving.{Receiving, verdict_of, judged, offered, opened}
use Rattle.replica_state.specs.declared.sending.Sending.{Sending}
use Rattle.replica_state.specs.declared.state.ReplicaState.{ReplicaState}
use Rattle.replica_state.specs.State.{max_faults, leads, drains, is_normal, waits, has_room}
use Rattle.replica_state.specs.Sends.{Effect, then_do, to_all_if}
use Rattle.replica_state.specs.Moves.{session_view, begin_session, queue, drain, left, listening, entered, enter_as, enter, change_sent}
use Rattle.replica_rows.specs.Rows.{enter_and_drain}
use Rattle.replica_rows.proofs.Draining.{drains_nothing}
use Rattle.replica_rows.proofs.Opening.{enters_with_others}

-- ---- the session begins before the view is entered, or after it

judged_session : (v : Verdict) (r : Receiving) (p : Stamped) → (judged v r p).session ≡ r.session
judged_session Queued r p = refl
judged_session _ r p = refl

-- a view that is entered with this receiver
abbrev entering : ReplicaState → View → Receiving → ReplicaState
entering s v x = record (left s) { view = v; status = Change; receiver = x }

-- the receiver that is entered with
with_packet : (s : ReplicaState) (p : Stamped) → s.view.session < p.session
    → listening (begin_session s p) (session_view s p) ≡ offered (opened p.session 1) p
with_packet s p less =
    let here : (offered (opened p.session 1) p).session ≡ p.session =
    judged_session (verdict_of (opened p.session 1) p) (opened p.session 1) p in
    let same : ((offered (opened p.session 1) p).session == p.session) ≡ true = grind (arith, nat_tests, here) in
    let newer : nat_lt s.view.session p.session ≡ true = grind (arith, nat_tests, less) in
    rw (same, newer) refl

without_packet : (s : ReplicaState) (p : Stamped) → s.receiver.session ≡ s.view.session → s.view.session < p.session
    → listening s (session_view s p) ≡ opened p.session 1
without_packet s p at less =
    let apart : (s.receiver.session == p.session) ≡ false = grind (arith, nat_tests, at, less) in
    let newer : nat_lt s.view.session p.session ≡ true = grind (arith, nat_tests, less) in
    rw (apart, newer) refl

-- what is sent does not look at the receiver
sent_alike : (b : Bool) (s : ReplicaState) (v : View) (x y : Receiving)
    → to_all_if b (entering s v x) bodies.ViewChangeReq ≡ to_all_if b (entering s v y) bodies.ViewChangeReq
sent_alike true s v x y = refl
sent_alike false s v x y = refl

by_leading : (b : Bool) (s : ReplicaState) (v : View) (x : Receiving) (p : Stamped)
    → enter_as b (entering s v (offered x p)) ≡ then_do (enter_as b (entering s v x)) (λ t. queue t p)
by_leading true s v x p =
    ap (λ (xs : List Sending). ((enter_as true (entering s v (offered x p))).0, xs))
    (sent_alike (max_faults s == 0) s v (offered x p) x ∙ sym (append-nil (enter_as true (entering s v x)).1))
by_leading false s v x p =
    let change : List Sending = change_sent (entering s v x) in
    ap (λ (xs : List Sending). (entering s v (offered x p), xs))
    (ap (λ (xs : List Sending). xs ++ change) (sent_alike (max_faults s == 0) s v (offered x p) x)
    ∙ sym (append-nil (enter_as false (entering s v x)).1))

pub enters_then_queues : (s : ReplicaState) (p : Stamped) → s.receiver.session ≡ s.view.session → s.view.session < p.session
    → enter (begin_session s p) (session_view s p) ≡ then_do (enter s (session_view s p)) (λ t. queue t p)
unfolding enter
enters_then_queues s p at less =
    let v = session_view s p in
    let one : entered (begin_session s p) v ≡ entering s v (offered (opened p.session 1) p) =
    ap (λ (x : Receiving). entering s v x) (with_packet s p less) in
    let two : entering s v (opened p.session 1) ≡ entered s v = ap (λ (x : Receiving). entering s v x) (sym (without_packet s p at less)) in
    ap (λ (t : ReplicaState). enter_as (leads t) t) one
    ∙ by_leading (leads (entering s v (opened p.session 1))) s v (opened p.session 1) p
    ∙ ap (λ (t : ReplicaState). then_do (enter_as (leads t) t) (λ q. queue q p)) two

-- ---- where there are others, a view that is entered does not start at once

status_by : (b : Bool) (s : ReplicaState) → (enter_as b s).0.status ≡ s.status
status_by true s = refl
status_by false s = refl

config_by : (b : Bool) (s : ReplicaState) → (enter_as b s).0.config ≡ s.config
config_by true s = refl
config_by false s = refl

status_after : (s : ReplicaState) (v : View) → (enter s v).0.status ≡ Change
unfolding enter
status_after s v = status_by (leads (entered s v)) (entered s v)

config_after : (s : ReplicaState) (v : View) → (enter s v).0.config ≡ s.config
unfolding enter
config_after s v = config_by (leads (entered s v)) (entered s v)

changing : (s : ReplicaState) → s.status ≡ Change → drains Whole s ≡ false
changing s e = ap (λ (x : Phase). is_normal x && (not (waits s.gap) && has_room Whole s)) e

pub enters_only : {S : Type 0} (m : Meaning S) (s : ReplicaState) (v : View) → 0 < max_faults s
    → enter_and_drain m Whole v s ≡ enter s v
enters_only m s v more =
    let here : 0 < max_faults (enter s v).0 = subst (λ (c : Configuration). 0 < c.replicas / 2) (sym (config_after s v)) more in
    ap (λ (e : Effect). then_do e (drain m Whole)) (enters_with_others m Whole s v here)
    ∙ ap (λ (x : Effect). (x.0, (enter s v).1 ++ x.1)) (drains_nothing m Whole (enter s v).0 (changing (enter s v).0 (status_after s v)))
    ∙ ap (λ (xs : List Sending). ((enter s v).0, xs)) (append-nil (enter s v).1)
