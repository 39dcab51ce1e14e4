-- What the moves by which a log is adopted have in common.
use Rattle.std.proofs.Common.{◌≡◌, ℕ, ◌+◌, ◌*◌, ◌<◌, Bool, true, false, cond, not, refl, sym, ap, subst, ◌∙◌, arith, inl, inr, length, List}
use Rattle.std.specs.Prelude.{◌==◌, ◌&&◌, nat_lt}
use Rattle.std.proofs.lemmas.Bool.Decides.{nat_tests}
use Rattle.nop_types.specs.declared.view.View.{View}
use Rattle.nop_types.specs.declared.replica_state.Phase.TheVariants.{Normal}
use Rattle.nop_types.specs.declared.request.Entry.{Entry}
use Rattle.nop_types.specs.Lists.{Has}
use Rattle.nop_types.specs.Meaning.{Meaning}
use Rattle.nop_types.specs.Views.{AtMost, Below, is_view, leader_of}
use Rattle.oum_receiver.specs.Receiving.{advanced}
use Rattle.oum_receiver.proofs.Stamps.{opened_stamped, advanced_stamped}
use Rattle.started_views.specs.Past.{HadLog, IsStart, with_log, with_entry, entered_with, started_with}
use Rattle.std.proofs.lemmas.Bool.{eq-eqb, eqb-true, and_parts}
use Rattle.lemmas.proofs.Bools.{not-both}
use Rattle.started_views.proofs.Past.{log_here, log_places, log_cases, entry_places, entry_cases, start_here, start_places, start_cases}
use Rattle.lemmas.proofs.Views.{is_view-same, is_view-apart, AtMost-antisym}
use Rattle.oum_receiver.specs.Receiving as receiving
use Rattle.protocol.specs.Conf.{Conf, after, HasOwner}
use Rattle.protocol.specs.Evolves.{Evolves}
use Rattle.protocol.specs.Invariant.{GoodLog, GoodStart, GoodQueue, Own, Inv}
use Rattle.protocol.specs.LocalState.{LocalState, standing}
use Rattle.protocol.specs.Moves.{adopted, adopt_saying}
use Rattle.protocol.specs.Said.{Said}
use Rattle.protocol.specs.Truth.{TrueWord}
use Rattle.protocol.proofs.Growing.{Kept, Forward, grows_keeps}
use Rattle.protocol.proofs.Replying.{above_true}
use Rattle.protocol.proofs.Stays.{own_lasts}
use Rattle.protocol.proofs.Spoken.{IsSpokenIn}

module _ {S : Type 0} (m : Meaning S) (f : ℕ) (c : Conf) (r : ℕ) (inv : Inv m f c) (within : r < 2 * f + 1) where
  abbrev p : LocalState
  p = c.replicas r

  own : Own f c r p
  own = inv.own r within

  -- what an adopted log owes
  pub record Adopts (d : Conf) (v : View) (x z : ℕ) (l : List Entry) (said : List Said) : Type 0 where
    pub log : GoodLog f d r v l
    pub counted : x + length log.start.log ≡ log.start.next + length l
    pub base : r ≡ leader_of v (2 * f + 1) → length l ≡ length log.start.log
    pub started : r ≡ leader_of v (2 * f + 1) → GoodStart f d.past v (started_with (standing (adopted p v x z l)))
    pub session : HasOwner c.installs v.session
    pub spoken : IsSpokenIn v said
    pub words : (y : Said) → Has said y → TrueWord f d y.sender y.view y.word

  module _ (v : View) (x z : ℕ) (l : List Entry) (said : List Said) (up : AtMost p.view v) (below : Below p.last_normal v) where
    abbrev s : LocalState
    s = adopted p v x z l

    abbrev d : Conf
    d = after f c r (adopt_saying m said p v x z l)

    -- whether the view is entered with it, and started
    abbrev rises : Bool
    rises = not (is_view v p.view)

    abbrev starts : Bool
    starts = not (is_view v p.last_normal) && (r == leader_of v (2 * f + 1))

    -- the replica was not in the view yet
    not_yet : (q : ℕ) (w : View) (k : List Entry) → q ≡ r → w ≡ v → HadLog c.past q w k → ⊥
    not_yet q w k a b h =
        let reached : AtMost v p.last_normal =
        subst (λ (y : View). AtMost y p.last_normal) b (subst (λ (i : ℕ). AtMost w (c.replicas i).last_normal) a
        (inv.reached q w k h)) in
        below.apart (AtMost-antisym p.last_normal v below.at_most reached)

    is_leader : starts ≡ true → r ≡ leader_of v (2 * f + 1)
    is_leader e = eqb-true r (leader_of v (2 * f + 1)) (and_parts (not (is_view v p.last_normal)) (r == leader_of v (2 * f + 1)) e).1

    forward : Forward c d r
    forward = record {
      logs = λ q w k h. elim (log_places c.past r v l q w) [ inl (a, b) ↦ absurd (not_yet q w k a b h) | inr g ↦ g ∙ h ];
      entries = λ q w o h. elim (entry_places rises r v (entered_with (standing p)) (with_log r v l c.past) q w) [
        | inl (a, b, t) ↦
            let reached : AtMost v p.view =
            subst (λ (y : View). AtMost y p.view) t (subst (λ (i : ℕ). AtMost w (c.replicas i).view) b (inv.entries q w o h).reached) in
            absurd (not-both (is_view v p.view) a (is_view-same v p.view (AtMost-antisym v p.view reached up)))
        | inr g ↦ g ∙ h
      ];
      starts = λ w y h. elim (start_places starts v (started_with (standing s)) c.past w) [
        | inl (a, t) ↦
            let good = inv.starts w y h in
            absurd (not_yet (leader_of w (2 * f + 1)) w good.lead (ap (λ (i : View). leader_of i (2 * f + 1)) t ∙ sym (is_leader a))
            t good.leads)
        | inr g ↦ g ∙ h
      ];
    }

    listens : (e : Evolves f c d) → Own f d r p → (b : Bool) → nat_lt p.receiver.session v.session ≡ b
        → GoodQueue d.stamps v.session Normal x (cond b (receiving.opened v.session x) (advanced p.receiver x))
    listens e o true t = record { session = refl; front = λ n. refl; queued = opened_stamped d.stamps v.session x }
    listens e o false t = record {
      session = (let a = o.queue.session in let b = up.session in grind (arith, nat_tests, t, a, b));
      front = λ n. refl;
      queued = advanced_stamped d.stamps p.receiver x o.queue.queued;
    }

    own_after : (e : Evolves f c d) → Adopts d v x z l said → Own f d r s
    own_after e owed =
        let o : Own f d r p = own_lasts m f c d e r p own in
        record {
          number = o.number;
          replicas = o.replicas;
          place = record {
            normal = λ n. refl;
            change = λ n. absurd cc;
            start = owed.log.start;
            is_start = owed.log.is_start;
            counted = owed.counted;
            base = owed.base;
          };
          queue = listens e o (nat_lt p.receiver.session v.session) refl;
          gap = record { waits = λ g h. absurd cc; last = λ a n none b h. absurd (omega (arith, b)) };
          changes = record { entered = λ n. absurd cc; gathers = λ g h. absurd cc; leads = λ n a. absurd cc };
        }

    pub begun : r ≡ leader_of v (2 * f + 1) → IsStart d.past v (started_with (standing s))
    begun mine =
        let apart : is_view v p.last_normal ≡ false = is_view-apart v p.last_normal (λ e. below.apart (sym e)) in
        let same : (r == leader_of v (2 * f + 1)) ≡ true = eq-eqb r (leader_of v (2 * f + 1)) mine in
        start_here starts v (started_with (standing s)) (with_entry rises r v (entered_with (standing p)) (with_log r v l c.past))
        (rw (apart, same) refl)

    pub adopted_keeps : ((e : Evolves f c d) → HadLog d.past r v l
        → (r ≡ leader_of v (2 * f + 1) → IsStart d.past v (started_with (standing s))) → Adopts d v x z l said) → Kept m f c d
    adopted_keeps due = grows_keeps m f c r (adopt_saying m said p v x z l) inv within forward up below.at_most below (λ e.
        let here : HadLog d.past r v l = log_here c.past r v l in
        let owed = due e here begun in
        let mine = own_after e owed in
        record {
          logs = λ q w k h. elim (log_cases c.past r v l q w k h) [
            | inl (a, b, t) ↦ inr (record {
              by = a;
              at_view = b;
              normal = refl;
              good = subst (λ (i : ℕ). GoodLog f d i w k) (sym a)
                  (subst (λ (y : View). GoodLog f d r y k) (sym b) (subst (GoodLog f d r v) (sym t) owed.log));
            })
            | inr g ↦ inl g
          ];
          entries = λ q w k h. elim (entry_cases rises r v (entered_with (standing p)) (with_log r v l c.past) q w k h) [
            | inl (a, b, t, u) ↦ inr (record { by = b; at_view = t; same = u })
            | inr g ↦ inl g
          ];
          starts = λ w y h. elim (start_cases starts v (started_with (standing s)) c.past w y h) [
            | inl (a, t, u) ↦ inr
                (subst (λ (i : View). GoodStart f d.past i y) (sym t) (subst (GoodStart f d.past v) (sym u) (owed.started (is_leader a))))
            | inr g ↦ inl g
          ];
          current = here;
          session = owed.session;
          spoken = owed.spoken;
          said = owed.words;
          replies = above_true m f d s own.replicas (subst (λ (i : ℕ). HadLog d.past i v l) (sym own.number) here) s.sync.sync_point;
          own = mine;
        })
