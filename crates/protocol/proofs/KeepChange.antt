-- The move `keep_change`.
use Rattle.std.proofs.Common.{◌≡◌, ℕ, ◌+◌, ◌*◌, ◌<◌, Bool, true, false, cond, Some, refl, sym, subst, ◌∙◌, arith, inl, inr, [], ◌∷◌, ◌++◌}
use Rattle.std.proofs.Common.{map}
use Rattle.std.proofs.lemmas.Bool.{cases_eq}
use Rattle.std.proofs.lemmas.Bool.Decides.{nat_tests}
use Rattle.nop_types.specs.Meaning.{Meaning}
use Rattle.lemmas.proofs.Members.{Has-append_left, Has-append_cases, Has-one, Has-none}
use Rattle.started_views.specs.Past.{Entered, Past}
use Rattle.started_views.specs.Quorums.{counts}
use Rattle.view_change.specs.Gathering.{has_sender}
use Rattle.view_change.proofs.Senders.{none_there}
use Rattle.nop_types.specs.PlainChanges as plain
use Rattle.view_change.specs.Gathering as gathering
use Rattle.protocol.specs.Conf.{Conf, after}
use Rattle.protocol.specs.Evolves.{Evolves}
use Rattle.protocol.specs.Invariant.{GoodLog, Gathers, Own, Inv}
use Rattle.protocol.specs.LocalState.{LocalState, PlainGathering}
use Rattle.protocol.specs.Moves.{keep_change, MayKeepChange}
use Rattle.protocol.specs.Said.{ViewChange, says}
use Rattle.protocol.proofs.Growing.{Kept}
use Rattle.protocol.proofs.Local.{turns_same, local_keeps}
use Rattle.protocol.proofs.Stays.{log_lasts, own_lasts}
use Rattle.protocol.proofs.Facts.{counts_member, counts_push, zero_unless}
use Rattle.protocol.proofs.Spoken.{none_spoken}

module _ {S : Type 0} (m : Meaning S) (f : ℕ) (c : Conf) (r : ℕ) (inv : Inv m f c) (within : r < 2 * f + 1) where
  abbrev p : LocalState
  p = c.replicas r

  own : Own f c r p
  own = inv.own r within

  log_same : (d : Conf) → Evolves f c d → GoodLog f d r p.last_normal p.log
  log_same d ev = log_lasts m f c d ev r p.last_normal p.log (inv.logs r p.last_normal p.log (inv.current r within))

  module _ (g : PlainGathering) (x : plain.Change) (may : MayKeepChange f c p g x) where
    abbrev e : Entered
    e = record { last_normal = x.last_normal; next = x.next; sync_point = x.sync_point; log = x.log }

    is_entry : c.past.entry x.sender p.view ≡ Some e
    is_entry = inv.said (says x.sender p.view (ViewChange x.last_normal x.next x.sync_point x.log)) may.change.said

    with_it : (past : Past) → past.entry x.sender p.view ≡ Some e → Gathers f past r p.view p.status g → (b : Bool)
        → has_sender plain.sender_of g.changes x.sender ≡ b
        → Gathers f past r p.view p.status (record g { changes = cond b g.changes (g.changes ++ x ∷ []) })
    with_it past here t true is = record {
      view = t.view;
      count = t.count;
      change = t.change;
      leads = t.leads;
      own = t.own;
      once = t.once;
      within = t.within;
      entries = t.entries;
    }
    with_it past here t false is = record {
      view = t.view;
      count = t.count;
      change = t.change;
      leads = t.leads;
      own = (t.own.0, Has-append_left g.changes (x ∷ []) t.own.0 t.own.1, t.own.2);
      once = λ q. elim (cases_eq x.sender q) [
        | inl e ↦
            let none : counts q (map (λ y. y.sender) g.changes) ≡ 0 = zero_unless (counts q (map (λ y. y.sender) g.changes)) (λ h.
            let y = counts_member (λ y. y.sender) g.changes q h in
            none_there plain.sender_of g.changes x.sender is y.1.0 y.0 y.1.1 (y.2 ∙ sym e)) in
            let pushed = counts_push (λ (y : plain.Change). y.sender) g.changes x q in
            grind (arith, nat_tests, none, pushed)
        | inr n ↦
            let pushed = counts_push (λ (y : plain.Change). y.sender) g.changes x q in
            let one = t.once q in
            grind (arith, nat_tests, n, one, pushed)
      ];
      within = λ y i. elim (Has-append_cases g.changes (x ∷ []) y i) [
        | inl old ↦ t.within y old
        | inr new ↦
            subst (λ (z : plain.Change). z.sender < 2 * f + 1) (sym (Has-one y x new)) may.change.within
      ];
      entries = λ y i. elim (Has-append_cases g.changes (x ∷ []) y i) [
        | inl old ↦ t.entries y old
        | inr new ↦ subst (λ (z : plain.Change). past.entry z.sender p.view
            ≡ Some (record { last_normal = z.last_normal; next = z.next; sync_point = z.sync_point; log = z.log }))
            (sym (Has-one y x new)) here
      ];
    }

    pub keep_change_keeps : Kept m f c (after f c r (keep_change p g x))
    keep_change_keeps = local_keeps m f c r (keep_change p g x) inv within refl refl (turns_same f c r) (λ d ev had.
        let o : Own f d r p = own_lasts m f c d ev r p own in
        let more : Gathers f d.past r p.view p.status (gathering.change_added plain.sender_of g x) =
        with_it d.past (ev.entries x.sender p.view e is_entry)
        (o.changes.gathers g may.gathers) (has_sender plain.sender_of g.changes x.sender) refl in
        record {
          log = log_same d ev;
          spoken = none_spoken p.view;
          said = λ y i. absurd (Has-none y i);
          replies = λ y i. absurd (Has-none y i);
          own = record {
            number = o.number;
            replicas = o.replicas;
            place = o.place;
            queue = o.queue;
            gap = o.gap;
            changes = record {
              entered = o.changes.entered;
              gathers = λ h e.
                  let same : gathering.change_added plain.sender_of g x ≡ h = cc in
                  subst (Gathers f d.past r p.view p.status) same more;
              leads = λ n a. (gathering.change_added plain.sender_of g x, refl);
            };
          };
        })
