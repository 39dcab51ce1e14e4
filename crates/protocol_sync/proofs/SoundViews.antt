-- Views and their starts are sound.
use Rattle.std.proofs.Common.{◌≡◌, ℕ, ◌+◌, ◌*◌, Some, ap, subst, arith, List, []}
use Rattle.nop_types.specs.declared.view.View.{View}
use Rattle.nop_types.specs.declared.request.Entry.{Entry}
use Rattle.nop_types.specs.Lists.{IsPrefixOf}
use Rattle.nop_types.specs.Meaning.{Meaning}
use Rattle.nop_types.specs.Views.{first_view, leader_of}
use Rattle.log_merge.specs.Starting.{Start}
use Rattle.started_views.specs.Past.{Entered, IsStart}
use Rattle.started_views.proofs.Certificates.{started_are_comparable}
use Rattle.lemmas.proofs.Prefixes.{IsPrefixOf-shorter}
use Rattle.protocol.specs.Conf.{Conf, DidSay, last_normals}
use Rattle.protocol.specs.Invariant.{Inv}
use Rattle.protocol.specs.Said.{ViewChange, StartView, says}
use Rattle.protocol.specs.Truth.{Begun}
use Rattle.protocol.proofs.Grounding.{grounds_of}
use Rattle.lemmas.proofs.Options.{same_Some-at}
use Rattle.protocol_sync.specs.Sound.{ChangeIsSound, ViewsAreSound, StartIsSound, IsGoodStart, StartsAreSound}
use Rattle.protocol_sync.specs.Synced.{Sync}
use Rattle.protocol_sync.proofs.SoundPoints.{synchronised, good_log_synchronised}

module _ {S : Type 0} (m : Meaning S) (f : ℕ) (c : Conf) (inv : Inv m f c) (sync : Sync f c) where
  change_sound : (r : ℕ) (v u : View) (x z : ℕ) (l : List Entry) → DidSay c.said r v (ViewChange u x z l)
      → ChangeIsSound f c r v u x z l
  change_sound r v u x z l h =
      let here : Entered = record { last_normal = u; next = x; sync_point = z; log = l } in
      let e : c.past.entry r v ≡ Some here = inv.said (says r v (ViewChange u x z l)) h in
      let t = inv.entries r v here e in
      let at = sync.points.entries r v here e in
      record {
        entered = e;
        had = t.log;
        start = t.start;
        is_start = t.is_start;
        next = omega (arith, t.counted);
        point = λ one. synchronised m f c inv sync u l z one at.anchored at.agrees;
        one = λ w y o k g.
            let other : Entered = record { last_normal = w; next = y; sync_point = o; log = k } in
            let i : c.past.entry r v ≡ Some other = inv.said (says r v (ViewChange w y o k)) g in
            let same : other ≡ here = same_Some-at (c.past.entry r v) other here i e in (
              ap (λ (t : Entered). t.last_normal) same,
              ap (λ (t : Entered). t.next) same,
              ap (λ (t : Entered). t.sync_point) same,
              ap (λ (t : Entered). t.log) same,
            );
      }

  pub views_sound : ViewsAreSound f c
  views_sound = record {
    started = λ r l. let own = inv.own r l in (own.place.start, own.place.is_start);
    normal = λ r l. (inv.own r l).place.normal;
    change = λ r l. (inv.own r l).place.change;
    changes = change_sound;
  }

  start_sound : (w : View) (x : Start) → IsStart c.past w x → (w ≡ first_view → ⊥) → StartIsSound f c w x
  start_sound w x is apart =
      let t = (inv.starts w x is).by apart in
      record { changes = t.changes; entered = t.certificate; leader = t.leader; opens = t.opens }

  start_is_sent : (q : ℕ) (w : View) (x z : ℕ) (l : List Entry) → DidSay c.said q w (StartView x z l) → IsGoodStart f c q w x z l
  start_is_sent q w x z l h =
      let t : Begun f c q w x l = inv.said (says q w (StartView x z l)) h in
      let good = inv.logs (leader_of w (2 * f + 1)) w t.lead t.leads in
      let same : good.start ≡ t.start = same_Some-at (c.past.start w) good.start t.start good.is_start t.is_start in
      let led : IsPrefixOf t.start.log t.lead = subst (λ (y : Start). IsPrefixOf y.log t.lead) same good.begins in
      record {
        sender = t.sender;
        start = t.start;
        is_start = t.is_start;
        begins = IsPrefixOf-shorter t.start.log l t.lead led t.begins t.within;
        lead = t.lead;
        leads = t.leads;
        of_lead = t.begins;
        next = omega (arith, t.counted);
        point = λ one. good_log_synchronised m f c inv sync w z l t.lead one t.leads t.begins (sync.points.starts q w x z l h);
      }

  pub starts_sound : IsStart c.past first_view (record { next = 1; log = [] }) → StartsAreSound f c
  starts_sound first = record {
    first = first;
    by = start_sound;
    sent = start_is_sent;
    comparable = started_are_comparable f c.stamps (last_normals c) c.past (grounds_of m f c inv);
  }
