-- The move `take_front`.
use Rattle.std.proofs.Common.{◌≡◌, ℕ, ◌+◌, ◌*◌, ◌<◌, refl, sym, ap, subst, ◌∙◌, length, [], ◌∷◌, ◌++◌}
use Rattle.nop_types.specs.declared.view.View.{View}
use Rattle.nop_types.specs.declared.request.Request.{Request}
use Rattle.nop_types.specs.declared.request.Entry.TheVariants.{Req}
use Rattle.nop_types.specs.Meaning.{Meaning}
use Rattle.nop_types.specs.Stamps.{WasStamped}
use Rattle.oum_receiver.specs.Receiving.{front_taken}
use Rattle.oum_receiver.proofs.Stamps.{front_stamped, taken_stamped}
use Rattle.lemmas.proofs.Members.{Has-none}
use Rattle.protocol.specs.Conf.{Conf, after}
use Rattle.protocol.specs.Invariant.{Own, Inv}
use Rattle.protocol.specs.LocalState.{LocalState, leads}
use Rattle.protocol.specs.Moves.{logged, take_front, MayTakeFront}
use Rattle.protocol.specs.Replies.{reply_to}
use Rattle.protocol.proofs.Appends.{append_keeps}
use Rattle.protocol.proofs.Growing.{Kept}
use Rattle.protocol.proofs.Replying.{reply_true}
use Rattle.protocol.proofs.Places.{by_number}
use Rattle.protocol.proofs.Facts.{next_slot}
use Rattle.protocol.proofs.Spoken.{none_spoken}

module _ {S : Type 0} (m : Meaning S) (f : ℕ) (c : Conf) (r : ℕ) (inv : Inv m f c) (within : r < 2 * f + 1) where
  abbrev p : LocalState
  p = c.replicas r

  own : Own f c r p
  own = inv.own r within

  pub take_front_keeps : (q : Request) → MayTakeFront p q → Kept m f c (after f c r (take_front m p q))
  take_front_keeps q may =
      append_keeps m f c r inv within (Req q) (front_taken p.receiver) p.gap [] (reply_to m (logged p q) (length p.log + 1) q) (record {
        normal = may.normal;
        closed = λ a. may.no_gap;
        stamped = λ y e. let same : q ≡ y = cc in subst (WasStamped c.stamps p.last_normal.session p.next) same here;
        noop = λ e. absurd cc;
        announced = λ e. absurd cc;
        session = refl;
        number = ap (λ (i : ℕ). i + 1) (own.queue.front may.normal);
        queued = λ stamps h. taken_stamped stamps p.receiver h;
        waits = λ g e. absurd (let none = may.no_gap in cc);
        last = λ a none e. absurd cc;
      }) (none_spoken p.view) (λ d ev had y i. absurd (Has-none y i))
      (λ d had. reply_true m f d (logged p q) own.replicas (by_number m f c r inv within d (p.log ++ Req q ∷ []) view had)
      (length p.log + 1) q (next_slot p.log (Req q)) (leads (logged p q)) refl)
    where
      view : p.last_normal ≡ p.view
      view = own.place.normal may.normal

      here : WasStamped c.stamps p.last_normal.session p.next q
      here =
          let session : p.receiver.session ≡ p.last_normal.session = own.queue.session ∙ ap (λ (v : View). v.session) (sym view) in
          let there : WasStamped c.stamps p.receiver.session p.receiver.next q =
          front_stamped c.stamps p.receiver q own.queue.queued may.front in
          subst (λ (n : ℕ). WasStamped c.stamps n p.next q) session (subst (λ (i : ℕ). WasStamped c.stamps p.receiver.session i q)
          (own.queue.front may.normal) there)
