-- The move `open_view`.
use Rattle.std.proofs.Common.{◌≡◌, ℕ, suc, ◌+◌, ◌*◌, ◌<◌, ◌≤◌, Some, refl, ap, subst, ◌∙◌, arith, length, List, take}
use Rattle.std.specs.Prelude.{◌-◌, ◌==◌}
use Rattle.nop_types.specs.declared.view.View.{View}
use Rattle.nop_types.specs.declared.request.Request.{Request}
use Rattle.nop_types.specs.declared.request.Entry.{Entry}
use Rattle.nop_types.specs.declared.request.Entry.TheVariants.{NoOp, Req}
use Rattle.nop_types.specs.Lists.{Has, slot_of}
use Rattle.nop_types.specs.Meaning.{Meaning}
use Rattle.nop_types.specs.Views.{Below}
use Rattle.log_merge.specs.Merge.{merge}
use Rattle.log_merge.specs.Starting.{Start, kept, start_of, start_point}
use Rattle.log_merge.proofs.Winners.{Winner, Nobody, Somebody, winner}
use Rattle.started_views.specs.Past.{LeaderHad, IsStart, started_with}
use Rattle.log_merge.proofs.Kept.{kept_from}
use Rattle.lemmas.proofs.Slots.{slot_of-within}
use Rattle.lemmas.proofs.Prefixes.{IsPrefixOf-refl}
use Rattle.std.proofs.Math.Seq.{take-length}
use Rattle.lemmas.proofs.Views.{AtMost-refl}
use Rattle.view_change.specs.Gathering.{IsOfSender}
use Rattle.nop_types.specs.PlainChanges as plain
use Rattle.protocol.specs.Conf.{Conf, WasSubmitted, after}
use Rattle.protocol.specs.Invariant.{Gathers, Own, Inv}
use Rattle.protocol.specs.LocalState.{LocalState, PlainGathering, standing, max_faults}
use Rattle.protocol.specs.Moves.{say_all, adopted, open_view, MayOpenView}
use Rattle.protocol.specs.Said.{StartView}
use Rattle.protocol.proofs.Growing.{Kept}
use Rattle.protocol.proofs.Stays.{own_lasts, submitted_lasts, owner_lasts}
use Rattle.protocol.proofs.Saying.{said_unless}
use Rattle.protocol.proofs.Adopting.{begun, adopted_keeps}
use Rattle.protocol.proofs.Spoken.{unless_spoken}

-- each entry of a merge is one of a log that is merged
merge_from : (cs : List plain.Change) (k : ℕ) (x : Entry) → slot_of (merge cs) k ≡ Some x
    → (y : plain.Change) × Has cs y × (slot_of y.log k ≡ Some x)
merge_from cs k x e = at (winner cs k)
  where
    at : Winner cs k → (y : plain.Change) × Has cs y × (slot_of y.log k ≡ Some x)
    at (Nobody none nobody) = absurd cc
    at (Somebody w slot has wins) =
        let same : w.entry ≡ x = cc in
        (has.source.change, has.source.member, ap (λ (l : List Entry). slot_of l k) has.source.log ∙ has.entry ∙ ap (λ (y : Entry). Some y) same)

module _ {S : Type 0} (m : Meaning S) (f : ℕ) (c : Conf) (r : ℕ) (inv : Inv m f c) (within : r < 2 * f + 1) where
  abbrev p : LocalState
  p = c.replicas r

  own : Own f c r p
  own = inv.own r within

  module _ (g : PlainGathering) (may : MayOpenView p g) where
    abbrev s : Start
    s = start_of g.view g.changes

    abbrev z : ℕ
    z = start_point g.changes

    was : Gathers f c.past r p.view p.status g
    was = own.changes.gathers g may.gathers

    below : Below p.last_normal p.view
    below = own.place.change was.change

    session : 1 ≤ p.last_normal.session
    session = (inv.starts p.last_normal own.place.start own.place.is_start).session

    start_parts : (x z : ℕ) (l : List Entry) → started_with (standing (adopted p p.view x z l)) ≡ record { next = x; log = l }
    start_parts x z l =
        let a : x - (length l - length l) ≡ x = omega arith in
        let b : take (length l) l ≡ l = take-length l in
        cc

    same_start : started_with (standing (adopted p p.view s.next z s.log)) ≡ s
    same_start = start_parts s.next z s.log

    out : (k : ℕ) (y : Entry) → length s.log < k → slot_of s.log k ≡ Some y → ⊥
    out k y a e = omega (arith, a, (slot_of-within s.log k y e).1)

    merged : (q : Request) → Has s.log (Req q) → WasSubmitted c.lines q
    merged q (i, e) =
        let x = merge_from (kept g.changes) (suc i) (Req q) e in
        let y = (kept_from g.changes x.0 x.1).0 in
        let entry = inv.entries x.0.sender p.view
        (record { last_normal = x.0.last_normal; next = x.0.next; sync_point = x.0.sync_point; log = x.0.log }) (was.entries x.0 y) in
        (inv.logs x.0.sender x.0.last_normal x.0.log entry.log).submitted q (i, x.2)

    -- the view starts with what is merged
    pub view_starts : IsStart (after f c r (open_view m p g)).past p.view s
    view_starts = subst (IsStart (after f c r (open_view m p g)).past p.view) same_start
        (begun m f c r inv within p.view s.next z s.log (say_all p (StartView s.next z s.log)) (AtMost-refl p.view) below was.leads)

    pub open_view_keeps : Kept m f c (after f c r (open_view m p g))
    open_view_keeps = adopted_keeps m f c r inv within p.view s.next z s.log (say_all p (StartView s.next z s.log))
        (AtMost-refl p.view) below (λ e here starts.
        let d = after f c r (open_view m p g) in
        let t : Gathers f d.past r p.view p.status g = (own_lasts m f c d e r p own).changes.gathers g may.gathers in
        let is_start : IsStart d.past p.view s = subst (IsStart d.past p.view) same_start (starts t.leads) in
        let led : LeaderHad f d.past p.view s.log = subst (λ (i : ℕ). d.past.log i p.view ≡ Some s.log) t.leads here in
        record {
          log = record {
            start = s;
            is_start = is_start;
            lead = s.log;
            leads = led;
            begins = IsPrefixOf-refl s.log;
            by_number = λ k y a h. absurd (out k (Req y) a h);
            noops = λ k a h. h;
            submitted = λ y i. submitted_lasts m f c d e y (merged y i);
            session = owner_lasts m f c d e p.view.session (inv.views r);
            announced = λ a k b h. absurd (out k NoOp b h);
            settled = λ a k b l h. absurd (out k NoOp b h);
          };
          counted = refl;
          base = λ a. refl;
          started = λ a. record {
            session = omega (arith, session, below.at_most.session);
            lead = s.log;
            leads = led;
            by = λ b. record {
              changes = g.changes;
              certificate = record { enough = omega (arith, may.enough, t.count); once = t.once; within = t.within; entries = t.entries };
              leader = subst (IsOfSender plain.sender_of g.changes) t.leads t.own;
              opens = same_start ∙ ap (λ (w : View). start_of w g.changes) t.view;
            };
          };
          session = inv.views r;
          spoken = unless_spoken (max_faults p == 0) p (StartView s.next z s.log);
          words = said_unless f d p (StartView s.next z s.log) (record {
            sender = own.number ∙ t.leads;
            start = s;
            is_start = is_start;
            lead = s.log;
            leads = led;
            within = omega arith;
            begins = IsPrefixOf-refl s.log;
            counted = refl;
          }) (max_faults p == 0);
        })
