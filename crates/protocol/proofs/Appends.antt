-- Moves of a replica that append an entry.
use Rattle.std.proofs.Common.{◌≡◌, ℕ, suc, ◌+◌, ◌*◌, ◌<◌, Option, Some, None, refl, sym, ap, subst, ◌∙◌, arith, inl, inr, length, List, []}
use Rattle.std.proofs.Common.{◌∷◌, ◌++◌}
use Rattle.std.specs.Prelude.{◌-◌, ◌⊎◌}
use Rattle.std.proofs.lemmas.Bool.{cases_eq}
use Rattle.std.proofs.lemmas.Bool.Decides.{nat_tests}
use Rattle.nop_types.specs.declared.view.View.{View}
use Rattle.nop_types.specs.declared.replica_state.Phase.TheVariants.{Normal}
use Rattle.nop_types.specs.declared.request.Request.{Request}
use Rattle.nop_types.specs.declared.request.Entry.{Entry}
use Rattle.nop_types.specs.declared.request.Entry.TheVariants.{NoOp, Req}
use Rattle.nop_types.specs.declared.datagram.Stamped.{Stamped}
use Rattle.nop_types.specs.declared.datagram.Reply.{Reply}
use Rattle.nop_types.specs.Lists.{Has, slot_of}
use Rattle.nop_types.specs.Meaning.{Meaning}
use Rattle.nop_types.specs.Stamps.{WasStamped}
use Rattle.nop_types.specs.Views.{leader_of}
use Rattle.slot_votes.specs.Agreement.{Agreement}
use Rattle.lemmas.proofs.Members.{Has-append_cases, Has-one}
use Rattle.log_merge.specs.Starting.{Start}
use Rattle.oum_receiver.specs.Receiving.{Receiving}
use Rattle.oum_receiver.specs.Runs.{IsStampedBy}
use Rattle.started_views.specs.Past.{HadLog, LeaderHad}
use Rattle.started_views.proofs.Logs.{toward_append}
use Rattle.lemmas.proofs.Slots.{slot_of-prefix, slot_of-last, slot_of-push_cases}
use Rattle.lemmas.proofs.Prefixes.{IsPrefixOf-trans}
use Rattle.protocol.specs.Conf.{Conf, Effect, DidSay, WasSubmitted, after}
use Rattle.protocol.specs.Evolves.{Evolves}
use Rattle.protocol.specs.Invariant.{GoodLog, TrueReply, Waits, Own, Inv}
use Rattle.protocol.specs.LocalState.{LocalState}
use Rattle.protocol.specs.Said.{Said, GapCommit, says}
use Rattle.protocol.specs.Truth.{TrueWord}
use Rattle.protocol.proofs.Growing.{Kept}
use Rattle.protocol.proofs.Local.{Turns, local_keeps_saying}
use Rattle.lemmas.proofs.Options.{same_Some-at}
use Rattle.protocol.proofs.Stays.{log_lasts, own_lasts, stamped_lasts, submitted_lasts, settled_lasts, waits_last}
use Rattle.protocol.proofs.Facts.{push_length}
use Rattle.protocol.specs.Conf as conf
use Rattle.protocol.proofs.Spoken.{IsSpokenIn}

module _ {S : Type 0} (m : Meaning S) (f : ℕ) (c : Conf) (r : ℕ) (inv : Inv m f c) (within : r < 2 * f + 1) (x : Entry) (rest : Receiving)
    (gap : Option Agreement) (said : List Said) (replies : List Reply) where
  abbrev p : LocalState
  p = c.replicas r

  abbrev l : List Entry
  l = p.log ++ x ∷ []

  abbrev s : LocalState
  s = record p { log = l; next = p.next + 1; receiver = rest; gap = gap }

  abbrev e : Effect
  e = record { state = s; said = said; replies = replies }

  -- when an entry may be appended
  pub record MayAppend : Type 0 where
    pub normal : p.status ≡ Normal
    pub closed : r ≡ leader_of p.last_normal (2 * f + 1) → p.gap ≡ None
    pub stamped : (q : Request) → x ≡ Req q → WasStamped c.stamps p.last_normal.session p.next q
    pub noop : x ≡ NoOp → (r ≡ leader_of p.last_normal (2 * f + 1) → ⊥) → (k : List Entry) × LeaderHad f c.past p.last_normal k
        × (slot_of k (suc (length p.log)) ≡ Some NoOp)
    pub announced : x ≡ NoOp → r ≡ leader_of p.last_normal (2 * f + 1)
        → (f ≡ 0) ⊎ Has said (says r p.last_normal (GapCommit (suc (length p.log))))
    pub session : rest.session ≡ p.receiver.session
    pub number : rest.next ≡ p.next + 1
    pub queued : (stamps : List Stamped) → IsStampedBy stamps p.receiver → IsStampedBy stamps rest
    pub waits : (g : Agreement) → gap ≡ Some g → Waits f c.said r p.view p.status l g
    pub last : r ≡ leader_of p.view (2 * f + 1) → gap ≡ None → x ≡ NoOp → conf.Settled f c.said p.view (suc (length p.log))

  module _ (may : MayAppend) where
    view : p.last_normal ≡ p.view
    view = (inv.own r within).place.normal may.normal

    turns : Turns f c r l
    turns = record { here = inr view; leads = λ a. (x ∷ [], refl); follows = λ k h a. toward_append k p.log (x ∷ []) }

    known : (q : Request) → x ≡ Req q → WasSubmitted c.lines q
    known q is = (inv.stamps (record { session = p.last_normal.session; number = p.next; request = q }) (may.stamped q is)).submitted

    module _ (d : Conf) (ev : Evolves f c d) (had : HadLog d.past r p.last_normal l) (new : (y : Said) → Has said y → Has d.said y) where
      good : GoodLog f d r p.last_normal p.log
      good = log_lasts m f c d ev r p.last_normal p.log (inv.logs r p.last_normal p.log (inv.current r within))

      own : Own f d r p
      own = own_lasts m f c d ev r p (inv.own r within)

      same_start : good.start ≡ own.place.start
      same_start = same_Some-at (d.past.start p.last_normal) good.start own.place.start good.is_start own.place.is_start

      numbered : (k : ℕ) (q : Request) → length good.start.log < k → slot_of l k ≡ Some (Req q)
          → WasStamped d.stamps p.last_normal.session (good.start.next + (k - length good.start.log - 1)) q
      numbered k q a h =
          elim (slot_of-push_cases p.log x k (Req q) h) [
            | inl (at, this) ↦
                let counted : p.next + length good.start.log ≡ good.start.next + length p.log =
                subst (λ (y : Start). p.next + length y.log ≡ y.next + length p.log) (sym same_start) own.place.counted in
                let number : good.start.next + (k - length good.start.log - 1) ≡ p.next = omega (arith, counted, at, a) in
                rw number (stamped_lasts m f c d ev p.last_normal.session p.next q (may.stamped q (sym this)))
            | inr old ↦ good.by_number k q a old
          ]

      submitted : (q : Request) → Has l (Req q) → WasSubmitted d.lines q
      submitted q i =
          elim (Has-append_cases p.log (x ∷ []) (Req q) i) [
            | inl old ↦ good.submitted q old
            | inr last ↦ submitted_lasts m f c d ev q (known q (sym (Has-one (Req q) x last)))
          ]

      announced : r ≡ leader_of p.last_normal (2 * f + 1) → (k : ℕ) → length good.start.log < k → slot_of l k ≡ Some NoOp
          → (f ≡ 0) ⊎ DidSay d.said r p.last_normal (GapCommit k)
      announced a k b h =
          elim (slot_of-push_cases p.log x k NoOp h) [
            | inl (at, this) ↦ elim (may.announced (sym this) a) [
              | inl none ↦ inl none
              | inr i ↦
                  inr (subst (λ (j : ℕ). DidSay d.said r p.last_normal (GapCommit j)) (sym at)
                  (new (says r p.last_normal (GapCommit (suc (length p.log)))) i))
            ]
            | inr old ↦ good.announced a k b old
          ]

      -- what was the leader's last slot is settled
      was_last : r ≡ leader_of p.last_normal (2 * f + 1) → (k : ℕ) → length good.start.log < k → k ≡ length p.log
          → slot_of p.log k ≡ Some NoOp → conf.Settled f d.said p.last_normal k
      was_last a k b is h =
          let base : p.base ≡ length own.place.start.log = own.place.base a in
          let start : length good.start.log ≡ length own.place.start.log = ap (λ (y : Start). length y.log) same_start in
          let there : conf.Settled f d.said p.view (length p.log) =
          own.gap.last (a ∙ ap (λ (w : View). leader_of w (2 * f + 1)) view) may.normal (may.closed a)
          (omega (arith, base, start, b, is)) (subst (λ (j : ℕ). slot_of p.log j ≡ Some NoOp) is h) in
          subst (conf.Settled f d.said p.last_normal) (sym is) (subst (λ (w : View). conf.Settled f d.said w (length p.log))
          (sym view) there)

      settled : r ≡ leader_of p.last_normal (2 * f + 1) → (k : ℕ) → length good.start.log < k → k < length l → slot_of l k ≡ Some NoOp
          → conf.Settled f d.said p.last_normal k
      settled a k b low h =
          elim (slot_of-push_cases p.log x k NoOp h) [
            | inl (at, this) ↦ absurd (omega (arith, at, low, push_length p.log x))
            | inr old ↦ elim (cases_eq k (length p.log)) [
              | inl is ↦ was_last a k b is old
              | inr n ↦ good.settled a k b (let len = push_length p.log x in grind (arith, nat_tests, low, len, n)) old
            ]
          ]

      with_lead : (k : List Entry) → LeaderHad f d.past p.last_normal k → ((i : ℕ) → length good.start.log < i → slot_of l i ≡ Some NoOp
          → slot_of k i ≡ Some NoOp) → GoodLog f d r p.last_normal l
      with_lead k led noops = record {
        start = good.start;
        is_start = good.is_start;
        lead = k;
        leads = led;
        begins = IsPrefixOf-trans good.start.log p.log l good.begins (x ∷ [], refl);
        by_number = numbered;
        noops = noops;
        submitted = submitted;
        session = good.session;
        announced = announced;
        settled = settled;
      }

      follower_noop : (r ≡ leader_of p.last_normal (2 * f + 1) → ⊥) → (i : ℕ) → length good.start.log < i → slot_of l i ≡ Some NoOp
          → slot_of good.lead i ≡ Some NoOp
      follower_noop other i a h =
          elim (slot_of-push_cases p.log x i NoOp h) [
            | inl (at, this) ↦
                let k = may.noop (sym this) other in
                let n = ev.leads p.last_normal k.0 k.1 in
                let same : n.0 ≡ good.lead =
                same_Some-at (d.past.log (leader_of p.last_normal (2 * f + 1)) p.last_normal) n.0 good.lead n.1 good.leads in
                subst (λ (j : ℕ). slot_of good.lead j ≡ Some NoOp) (sym at)
                (subst (λ (y : List Entry). slot_of y (suc (length p.log)) ≡ Some NoOp) same
                (slot_of-prefix k.0 n.0 (suc (length p.log)) NoOp n.2 k.2))
            | inr old ↦ good.noops i a old
          ]

      log : GoodLog f d r p.last_normal l
      log = elim (cases_eq r (leader_of p.last_normal (2 * f + 1))) [
        | inl mine ↦ with_lead l (subst (λ (i : ℕ). d.past.log i p.last_normal ≡ Some l) mine had) (λ i a h. h)
        | inr other ↦ with_lead good.lead good.leads (follower_noop other)
      ]

      last : r ≡ leader_of p.view (2 * f + 1) → gap ≡ None → slot_of l (length l) ≡ Some NoOp → conf.Settled f d.said p.view (length l)
      last a none h =
          let len = push_length p.log x in
          let end : slot_of l (length l) ≡ Some x = subst (λ (j : ℕ). slot_of l j ≡ Some x) (sym len) (slot_of-last p.log x) in
          let is : x ≡ NoOp = same_Some-at (slot_of l (length l)) x NoOp end h in
          subst (conf.Settled f d.said p.view) (sym len) (settled_lasts m f c d ev p.view (suc (length p.log)) (may.last a none is))

      own_after : Own f d r s
      own_after = record {
        number = own.number;
        replicas = own.replicas;
        place = record {
          normal = own.place.normal;
          change = own.place.change;
          start = own.place.start;
          is_start = own.place.is_start;
          counted = omega (arith, own.place.counted, push_length p.log x);
          base = own.place.base;
        };
        queue = record {
          session = may.session ∙ own.queue.session;
          front = λ n. may.number;
          queued = may.queued d.stamps own.queue.queued;
        };
        gap = record { waits = λ g h. waits_last m f c d ev r p.view p.status l g (may.waits g h); last = λ a n none b h. last a none h };
        changes = record {
          entered = λ n. absurd (let now = may.normal in cc);
          gathers = λ g h. own.changes.gathers g h;
          leads = λ n a. own.changes.leads n a;
        };
      }

    pub append_keeps : IsSpokenIn p.view said
        → ((d : Conf) → Evolves f c d → HadLog d.past r p.last_normal l → (y : Said) → Has said y
        → TrueWord f d y.sender y.view y.word) → ((d : Conf) → HadLog d.past r p.last_normal l → (y : Reply) → Has replies y
        → TrueReply m f d y) → Kept m f c (after f c r e)
    append_keeps spoken words answers = local_keeps_saying m f c r e inv within refl refl turns (λ d ev had new. record {
      log = log d ev had new;
      spoken = spoken;
      said = words d ev had;
      replies = answers d had;
      own = own_after d ev had new;
    })
