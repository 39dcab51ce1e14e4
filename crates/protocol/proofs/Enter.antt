-- The move by which a replica enters a greater view.
use Rattle.std.proofs.Common.{◌≡◌, ℕ, ◌+◌, ◌*◌, ◌<◌, Bool, true, false, cond, not, Option, Some, None, refl, sym, ap, subst, ◌∙◌, arith}
use Rattle.std.proofs.Common.{inl, inr, List, [], ◌∷◌}
use Rattle.std.specs.Prelude.{◌==◌, ◌&&◌, nat_lt}
use Rattle.std.proofs.lemmas.Bool.Decides.{nat_tests}
use Rattle.nop_types.specs.declared.view.View.{View}
use Rattle.nop_types.specs.declared.replica_state.Phase.TheVariants.{Change}
use Rattle.nop_types.specs.declared.request.Entry.{Entry}
use Rattle.nop_types.specs.Lists.{Has}
use Rattle.nop_types.specs.Meaning.{Meaning}
use Rattle.nop_types.specs.Views.{AtMost, Below, is_view, leader_of}
use Rattle.lemmas.proofs.Members.{Has-append_cases, Has-one, Has-first, Has-none}
use Rattle.oum_receiver.proofs.Stamps.{opened_stamped}
use Rattle.started_views.specs.Past.{Past, HadLog, with_log, entered_with, started_with}
use Rattle.std.proofs.lemmas.Bool.{eqb-true, and_parts}
use Rattle.lemmas.proofs.Bools.{not-both}
use Rattle.started_views.proofs.Past.{log_here, log_places, log_cases, entry_here, entry_places, entry_cases, start_places, start_cases}
use Rattle.lemmas.proofs.Views.{is_view-same, is_view-apart, AtMost-refl, AtMost-trans, AtMost-antisym}
use Rattle.nop_types.specs.PlainChanges as plain
use Rattle.oum_receiver.specs.Receiving as receiving
use Rattle.view_change.specs.Gathering as gathering
use Rattle.protocol.specs.Conf.{Conf, Effect, after}
use Rattle.protocol.specs.Invariant.{GoodQueue, Gathers, GoodChanges, Own, Inv}
use Rattle.protocol.specs.LocalState.{LocalState, PlainGathering, standing, leads, leader, max_faults}
use Rattle.protocol.specs.Moves.{say_all, own_change, entered, enter_as, enter, MayEnter, say}
use Rattle.protocol.specs.Said.{Said, Plain, ViewChange, says}
use Rattle.protocol.specs.Truth.{TrueWord}
use Rattle.protocol.proofs.Places.{normal_low}
use Rattle.protocol.proofs.Saying.{said_unless}
use Rattle.protocol.proofs.Growing.{Kept, Forward, grows_keeps}
use Rattle.protocol.proofs.Facts.{half_of}
use Rattle.protocol.proofs.Replying.{leads_from}
use Rattle.lemmas.proofs.Options.{same_Some-at}
use Rattle.protocol.proofs.Stays.{own_lasts}
use Rattle.protocol.proofs.Spoken.{IsSpokenIn, one_spoken, unless_spoken, both_spoken}

not_self : (w : View) (b : Bool) → (not (is_view w w) && b) ≡ true → ⊥
not_self w b e = not-both (is_view w w) (and_parts (not (is_view w w)) b e).0 (is_view-same w w refl)

module _ {S : Type 0} (m : Meaning S) (f : ℕ) (c : Conf) (r : ℕ) (inv : Inv m f c) (within : r < 2 * f + 1) (v : View)
    (may : MayEnter c (c.replicas r) v) where
  abbrev p : LocalState
  p = c.replicas r

  abbrev t : LocalState
  t = entered p v

  up : Below p.view v
  up = may.greater

  own : Own f c r p
  own = inv.own r within

  below : Below p.last_normal v
  below = record {
    at_most = AtMost-trans p.last_normal p.view v (normal_low m f c r inv within) up.at_most;
    apart = λ e. up.apart (AtMost-antisym p.view v up.at_most (subst (λ (w : View). AtMost w p.view) e (normal_low m f c r inv within)));
  }

  -- whose change it keeps
  mine : leads t ≡ true → r ≡ leader_of v (2 * f + 1)
  mine e = sym own.number ∙ sym (eqb-true (leader t) p.number e) ∙ ap (leader_of v) own.replicas

  others_are : max_faults t ≡ f
  others_are = half_of f p.replicas own.replicas

  abbrev starts : Bool
  starts = not (is_view p.last_normal p.last_normal) && (r == leader_of p.last_normal (2 * f + 1))

  same_log : (q : ℕ) (w : View) (l : List Entry) → q ≡ r → w ≡ p.last_normal → HadLog c.past q w l → l ≡ p.log
  same_log q w l a b h =
      same_Some-at (c.past.log r p.last_normal) l p.log (subst (λ (i : ℕ). c.past.log i p.last_normal ≡ Some l) a
      (subst (λ (x : View). c.past.log q x ≡ Some l) b h)) (inv.current r within)

  at_place : (past : Past) (q : ℕ) (w : View) (l : List Entry) → q ≡ r → w ≡ p.last_normal → l ≡ p.log → HadLog past r p.last_normal p.log
      → HadLog past q w l
  at_place past q w l a b k h =
      subst (λ (i : ℕ). HadLog past i w l) (sym a)
      (subst (λ (x : View). HadLog past r x l) (sym b) (subst (HadLog past r p.last_normal) (sym k) h))

  -- the receiver
  listens : (d : Conf) → Own f d r p → (b : Bool) → (nat_lt p.view.session v.session && not (p.receiver.session == v.session)) ≡ b
      → GoodQueue d.stamps v.session Change p.next (cond b (receiving.opened v.session 1) p.receiver)
  listens d o true is = record { session = refl; front = λ n. absurd cc; queued = opened_stamped d.stamps v.session 1 }
  listens d o false is = record {
    session = (let a = o.queue.session in let b = up.at_most.session in grind (arith, nat_tests, is, a, b));
    front = λ n. absurd cc;
    queued = o.queue.queued;
  }

  -- the changes of its leader, and of another
  own_gathers : (past : Past) → past.entry r v ≡ Some (entered_with (standing p)) → leads t ≡ true
      → Gathers f past r v Change (gathering.entered v (max_faults t) (own_change t))
  own_gathers past here is = record {
    view = refl;
    count = others_are;
    change = refl;
    leads = mine is;
    own = (own_change t, Has-first (own_change t) (own_change t) [] refl, own.number);
    once = λ q. grind (arith, nat_tests);
    within = λ x i. subst (λ (y : plain.Change). y.sender < 2 * f + 1) (sym (Has-one x (own_change t) i))
        (subst (λ (j : ℕ). j < 2 * f + 1) (sym own.number) within);
    entries = λ x i. subst (λ (y : plain.Change). past.entry y.sender v
        ≡ Some (record { last_normal = y.last_normal; next = y.next; sync_point = y.sync_point; log = y.log }))
        (sym (Has-one x (own_change t) i)) (subst (λ (j : ℕ). past.entry j v ≡ Some (entered_with (standing p))) (sym own.number) here);
  }

  changes_good : (past : Past) → past.entry r v ≡ Some (entered_with (standing p)) → (b : Bool) → leads t ≡ b
      → GoodChanges f past r v Change (entered_with (standing p)) (enter_as b t).state.changes
  changes_good past here true is = record {
    entered = λ n. here;
    gathers = λ g h. let same : gathering.entered v (max_faults t) (own_change t) ≡ g = cc in
        subst (Gathers f past r v Change) same (own_gathers past here is);
    leads = λ n a. (gathering.entered v (max_faults t) (own_change t), refl);
  }
  changes_good past here false is = record {
    entered = λ n. here;
    gathers = λ g h. absurd cc;
    leads = λ n a. absurd (let yes = leads_from f t own.replicas (own.number ∙ a) in cc);
  }

  words : (d : Conf) → d.past.entry r v ≡ Some (entered_with (standing p)) → (b : Bool) (y : Said) → Has (enter_as b t).said y
      → TrueWord f d y.sender y.view y.word
  words d here true y i = said_unless f d t Plain tt (max_faults t == 0) y i
  words d here false y i = elim (Has-append_cases (say_all t Plain)
      (says p.number v (ViewChange p.last_normal p.next p.sync.sync_point p.log) ∷ []) y i) [
        | inl g ↦ said_unless f d t Plain tt (max_faults t == 0) y g
        | inr g ↦ said_unless f d t (ViewChange p.last_normal p.next p.sync.sync_point p.log)
            (subst (λ (j : ℕ). d.past.entry j v ≡ Some (entered_with (standing p))) (sym own.number) here) false y g
      ]

  spoken : (b : Bool) → IsSpokenIn v (enter_as b t).said
  spoken true = unless_spoken (max_faults t == 0) t Plain
  spoken false = both_spoken v (say_all t Plain) (say t (ViewChange p.last_normal p.next p.sync.sync_point p.log))
      (unless_spoken (max_faults t == 0) t Plain) (one_spoken t (ViewChange p.last_normal p.next p.sync.sync_point p.log))

  -- with these changes, saying this
  module _ (g : Option PlainGathering) (said : List Said) where
    abbrev e : Effect
    e = record { state = record t { changes = g }; said = said; replies = [] }

    abbrev d : Conf
    d = after f c r e

    abbrev rises : Bool
    rises = not (is_view v p.view)

    forward : Forward c d r
    forward = record {
      logs = λ q w l h. elim (log_places c.past r p.last_normal p.log q w) [
        | inl (a, b) ↦ at_place d.past q w l a b (same_log q w l a b h) (log_here c.past r p.last_normal p.log)
        | inr g ↦ g ∙ h
      ];
      entries = λ q w o h. elim (entry_places rises r v (entered_with (standing p)) (with_log r p.last_normal p.log c.past) q w) [
        | inl (a, b, k) ↦
            let reached : AtMost v p.view =
            subst (λ (x : View). AtMost x p.view) k (subst (λ (i : ℕ). AtMost w (c.replicas i).view) b (inv.entries q w o h).reached) in
            absurd (up.apart (AtMost-antisym p.view v up.at_most reached))
        | inr g ↦ g ∙ h
      ];
      starts = λ w x h. elim (start_places starts p.last_normal (started_with (standing e.state)) c.past w) [
        | inl (a, b) ↦ absurd (not_self p.last_normal (r == leader_of p.last_normal (2 * f + 1)) a)
        | inr g ↦ g ∙ h
      ];
    }

    here : d.past.entry r v ≡ Some (entered_with (standing p))
    here = entry_here rises r v (entered_with (standing p)) (with_log r p.last_normal p.log c.past)
        (rw (is_view-apart v p.view (λ a. up.apart (sym a))) refl)

    enters_keeps : ((d : Conf) → d.past.entry r v ≡ Some (entered_with (standing p))
        → GoodChanges f d.past r v Change (entered_with (standing p)) g) → IsSpokenIn v said
        → ((d : Conf) → d.past.entry r v ≡ Some (entered_with (standing p)) → (y : Said) → Has said y
        → TrueWord f d y.sender y.view y.word) → Kept m f c d
    enters_keeps changes spoken words = grows_keeps m f c r e inv within forward up.at_most (AtMost-refl p.last_normal) below (λ ev.
        let o : Own f d r p = own_lasts m f c d ev r p own in
        record {
          logs = λ q w l h. elim (log_cases c.past r p.last_normal p.log q w l h) [
            | inl (a, b, k) ↦ inl (at_place c.past q w l a b k (inv.current r within))
            | inr g ↦ inl g
          ];
          entries = λ q w o h. elim (entry_cases rises r v (entered_with (standing p)) (with_log r p.last_normal p.log c.past) q w o h) [
            | inl (a, b, k, u) ↦ inr (record { by = b; at_view = k; same = u })
            | inr g ↦ inl g
          ];
          starts = λ w x h. elim (start_cases starts p.last_normal (started_with (standing e.state)) c.past w x h) [
            | inl (a, b, k) ↦ absurd (not_self p.last_normal (r == leader_of p.last_normal (2 * f + 1)) a)
            | inr g ↦ inl g
          ];
          current = log_here c.past r p.last_normal p.log;
          session = may.given;
          spoken = spoken;
          said = words d here;
          replies = λ y i. absurd (Has-none y i);
          own = record {
            number = o.number;
            replicas = o.replicas;
            place = record {
              normal = λ n. absurd cc;
              change = λ n. below;
              start = o.place.start;
              is_start = o.place.is_start;
              counted = o.place.counted;
              base = o.place.base;
            };
            queue = listens d o (nat_lt p.view.session v.session && not (p.receiver.session == v.session)) refl;
            gap = record { waits = λ g h. absurd cc; last = λ a n none b h. absurd cc };
            changes = changes d here;
          };
        })

  enter_as_keeps : (b : Bool) → leads t ≡ b → Kept m f c (after f c r (enter_as b t))
  enter_as_keeps true is = enters_keeps (enter_as true t).state.changes (enter_as true t).said (λ d h. changes_good d.past h true is)
      (spoken true) (λ d h. words d h true)
  enter_as_keeps false is = enters_keeps None (enter_as false t).said (λ d h. changes_good d.past h false is)
      (spoken false) (λ d h. words d h false)

  pub enter_keeps : Kept m f c (after f c r (enter p v))
  enter_keeps = enter_as_keeps (leads t) refl
