-- The move `fill`.
use Rattle.std.proofs.Common.{◌≡◌, ℕ, ◌+◌, ◌*◌, ◌<◌, ◌≤◌, Some, refl, sym, ap, subst, arith, length, [], ◌∷◌, ◌++◌}
use Rattle.std.specs.Prelude.{◌-◌}
use Rattle.nop_types.specs.declared.view.View.{View}
use Rattle.nop_types.specs.declared.request.Request.{Request}
use Rattle.nop_types.specs.declared.request.Entry.TheVariants.{Req}
use Rattle.nop_types.specs.Meaning.{Meaning}
use Rattle.nop_types.specs.Stamps.{WasStamped}
use Rattle.nop_types.specs.Views.{leader_of}
use Rattle.log_merge.specs.Starting.{Start}
use Rattle.oum_receiver.specs.Receiving.{advanced}
use Rattle.oum_receiver.proofs.Stamps.{advanced_stamped}
use Rattle.lemmas.proofs.Members.{Has-none}
use Rattle.lemmas.proofs.Prefixes.{length-prefix}
use Rattle.protocol.specs.Conf.{Conf, after}
use Rattle.protocol.specs.Invariant.{Own, Inv}
use Rattle.protocol.specs.LocalState.{LocalState, leads, leader}
use Rattle.protocol.specs.Moves.{appended, fill, MayFill}
use Rattle.protocol.specs.Replies.{reply_to}
use Rattle.protocol.specs.Said.{Found, says}
use Rattle.protocol.specs.Truth.{LeaderHas}
use Rattle.protocol.proofs.Appends.{append_keeps}
use Rattle.protocol.proofs.Growing.{Kept}
use Rattle.protocol.proofs.Replying.{reply_true}
use Rattle.lemmas.proofs.Options.{same_Some-at}
use Rattle.protocol.proofs.Places.{follows_it, follows_last, by_number}
use Rattle.protocol.proofs.Facts.{next_slot}
use Rattle.protocol.proofs.Spoken.{none_spoken}

module _ {S : Type 0} (m : Meaning S) (f : ℕ) (c : Conf) (r : ℕ) (inv : Inv m f c) (within : r < 2 * f + 1) where
  abbrev p : LocalState
  p = c.replicas r

  own : Own f c r p
  own = inv.own r within

  -- what the leader has just above the log of a follower is of the number that comes next
  pub fill_keeps : (q : Request) → MayFill c p q → Kept m f c (after f c r (fill m p q))
  fill_keeps q may =
      append_keeps m f c r inv within (Req q) (advanced p.receiver (p.next + 1)) p.gap []
      (reply_to m (appended p (Req q)) (length p.log + 1) q) (record {
        normal = may.normal;
        closed = λ a. absurd (follows_last m f c r inv within may a);
        stamped = λ y e. let same : q ≡ y = cc in subst (WasStamped c.stamps p.last_normal.session p.next) same here;
        noop = λ e. absurd cc;
        announced = λ e. absurd cc;
        session = refl;
        number = refl;
        queued = λ stamps h. advanced_stamped stamps p.receiver (p.next + 1) h;
        waits = λ g e. absurd (follows_it m f c r inv within may.follows (own.gap.waits g e).leads);
        last = λ a none e. absurd cc;
      }) (none_spoken p.view) (λ d ev had y i. absurd (Has-none y i)) (λ d had. reply_true m f d (appended p (Req q)) own.replicas
      (by_number m f c r inv within d (p.log ++ Req q ∷ []) view had) (length p.log + 1) q (next_slot p.log (Req q))
      (leads (appended p (Req q))) refl)
    where
      view : p.last_normal ≡ p.view
      view = own.place.normal may.normal

      said : LeaderHas f c (leader p) p.view (length p.log + 1) (Req q)
      said = inv.said (says (leader p) p.view (Found (length p.log + 1) q)) may.said

      here : WasStamped c.stamps p.last_normal.session p.next q
      here =
          let good = inv.logs (leader_of p.view (2 * f + 1)) p.view said.lead said.leads in
          let mine = inv.logs r p.last_normal p.log (inv.current r within) in
          let is_start : c.past.start p.view ≡ Some own.place.start =
          subst (λ (w : View). c.past.start w ≡ Some own.place.start) view own.place.is_start in
          let same : good.start ≡ own.place.start = same_Some-at (c.past.start p.view) good.start own.place.start good.is_start is_start in
          let low : length own.place.start.log ≤ length p.log = subst (λ (y : Start). length y.log ≤ length p.log)
          (same_Some-at (c.past.start p.last_normal) mine.start own.place.start mine.is_start own.place.is_start)
          (length-prefix mine.start.log p.log mine.begins) in
          let lens : length good.start.log ≡ length own.place.start.log = ap (λ (y : Start). length y.log) same in
          let counted : p.next + length good.start.log ≡ good.start.next + length p.log =
          subst (λ (y : Start). p.next + length y.log ≡ y.next + length p.log) (sym same) own.place.counted in
          let there = good.by_number (length p.log + 1) q (omega (arith, low, lens)) said.entry in
          let number : good.start.next + (length p.log + 1 - length good.start.log - 1) ≡ p.next = omega (arith, counted, low, lens) in
          subst (λ (w : View). WasStamped c.stamps w.session p.next q) (sym view)
          (subst (λ (i : ℕ). WasStamped c.stamps p.view.session i q) number there)
