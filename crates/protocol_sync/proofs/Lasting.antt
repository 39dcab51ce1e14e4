-- What is said of sync points lasts.
use Rattle.std.proofs.Common.{◌≡◌, ℕ, ◌+◌, ◌*◌, ◌<◌, ◌≤◌, sym, subst, arith, inl, inr, length, List, take}
use Rattle.std.proofs.lemmas.List.{length-take-le}
use Rattle.nop_types.specs.declared.view.View.{View}
use Rattle.nop_types.specs.declared.request.Entry.{Entry}
use Rattle.nop_types.specs.Lists.{IsPrefixOf}
use Rattle.nop_types.specs.Meaning.{Meaning}
use Rattle.nop_types.specs.Views.{AtMost, Below, leader_of}
use Rattle.log_merge.specs.Starting.{Start}
use Rattle.started_views.specs.Fixes.{HadSame}
use Rattle.started_views.specs.Logs.{SameTo, Toward}
use Rattle.started_views.specs.Past.{Entered, HadLog}
use Rattle.started_views.specs.Settled.{Fixed}
use Rattle.started_views.proofs.Fixing.{sync_fixes}
use Rattle.started_views.specs.Growing.{Grows}
use Rattle.started_views.proofs.Growing.{fixed_stays}
use Rattle.started_views.proofs.Keeping.{fixed_prefixes_are_kept}
use Rattle.lemmas.proofs.Prefixes.{length-prefix, IsPrefixOf-trans}
use Rattle.started_views.proofs.Logs.{same_grown, same_from_prefix, toward_keeps_same}
use Rattle.lemmas.proofs.Views.{AtMost-refl, AtMost-trans, Below-after_at_most}
use Rattle.protocol.specs.Conf.{Conf, DidSay, last_normals}
use Rattle.protocol.specs.Evolves.{Evolves}
use Rattle.protocol.specs.Invariant.{Inv}
use Rattle.protocol.specs.LocalState.{LocalState}
use Rattle.protocol.specs.Said.{SyncRep}
use Rattle.protocol_sync.specs.Synced.{GoodLog, GoodPoint, Synced, Anchored, Agrees, TrueSyncRep, TrueSyncCommit, GoodSync, Sync}
use Rattle.protocol.proofs.Grounding.{grounds_of}
use Rattle.lemmas.proofs.Options.{same_Some-at}
use Rattle.protocol.proofs.Stays.{said_lasts, others_weaker}
use Rattle.protocol_sync.proofs.Facts.{same_none}

-- what is synchronised is fixed
pub synced_fixes : (f : ℕ) (c : Conf) → Sync f c → (u : View) (s : ℕ) (x : Synced f c u s) → Fixed f c.past u x.lead s
synced_fixes f c sync u s x =
    sync_fixes f c.past u x.lead s (record {
      leads = x.leads;
      within = x.within;
      others = others_weaker f (leader_of u (2 * f + 1)) (λ q. DidSay c.said q u (SyncRep s)) (HadSame c.past u s x.lead) (λ q h.
          let t = sync.reps q u s h in (
            t.log,
            t.had,
            subst (SameTo s t.log)
                (same_Some-at (c.past.log (leader_of u (2 * f + 1)) u) t.agrees.lead x.lead t.agrees.leads x.leads) t.agrees.same,
          )) x.others;
    })

module _ {S : Type 0} (m : Meaning S) (f : ℕ) (c d : Conf) (inv : Inv m f c) (ev : Evolves f c d) where
  pub synced_lasts : (u : View) (s : ℕ) → Synced f c u s → Synced f d u s
  synced_lasts u s x =
      let n = ev.leads u x.lead x.leads in
      record {
        lead = n.0;
        leads = n.1;
        within = omega (arith, x.within, length-prefix x.lead n.0 n.2);
        others = others_weaker f (leader_of u (2 * f + 1)) (λ q. DidSay c.said q u (SyncRep s)) (λ q. DidSay d.said q u (SyncRep s))
            (λ q h. said_lasts m f c d ev q u (SyncRep s) h) x.others;
      }

  pub anchored_lasts : (w v : View) (s : ℕ) → AtMost w v → Anchored f c w s → Anchored f d v s
  anchored_lasts w v s low (inl e) = inl e
  anchored_lasts w v s low (inr (u, a, x)) = inr (u, AtMost-trans u w v a low, synced_lasts u s x)

  -- what does not go on agrees still
  pub agrees_stays : (w : View) (l : List Entry) (s : ℕ) → Agrees f c w l s → Agrees f d w l s
  agrees_stays w l s t =
      let n = ev.leads w t.lead t.leads in record { lead = n.0; leads = n.1; same = same_grown s l t.lead n.0 t.same n.2 }

  pub good_log_lasts : (w : View) (z : ℕ) (l : List Entry) → GoodLog f c w z l → GoodLog f d w z l
  good_log_lasts w z l t = record { within = t.within; anchored = anchored_lasts w w z (AtMost-refl w) t.anchored }

  pub point_lasts : (e : Entered) → GoodPoint f c e → GoodPoint f d e
  point_lasts e t = record {
    anchored = anchored_lasts e.last_normal e.last_normal e.sync_point (AtMost-refl e.last_normal) t.anchored;
    agrees = agrees_stays e.last_normal e.log e.sync_point t.agrees;
  }

  pub agrees_lasts : (q : ℕ) (w : View) (l j : List Entry) (s : ℕ) → HadLog c.past q w l → HadLog d.past q w j → Agrees f c w l s
      → Agrees f d w j s
  agrees_lasts q w l j s a b t =
      let g = ev.logs q w l a in
      let n = ev.leads w t.lead t.leads in
      let same : g.0 ≡ j = same_Some-at (d.past.log q w) g.0 j g.1 b in
      let lead : n.0 ≡ g.2 = same_Some-at (d.past.log (leader_of w (2 * f + 1)) w) n.0 g.2 n.1 g.3 in
      record {
        lead = g.2;
        leads = g.3;
        same = toward_keeps_same g.2 l j s (subst (λ (y : List Entry). Toward g.2 l y) same g.4)
            (subst (SameTo s l) lead (same_grown s l t.lead n.0 t.same n.2));
      }

  pub rep_lasts : (q : ℕ) (w : View) (s : ℕ) → TrueSyncRep f c q w s → TrueSyncRep f d q w s
  rep_lasts q w s t = let j = ev.logs q w t.log t.had in record {
    apart = t.apart;
    log = j.0;
    had = j.1;
    agrees = agrees_lasts q w t.log j.0 s t.had j.1 t.agrees;
  }

  pub commit_lasts : (q : ℕ) (w : View) (s : ℕ) → TrueSyncCommit f c q w s → TrueSyncCommit f d q w s
  commit_lasts q w s t = record {
    sender = t.sender;
    started = (t.started.0, ev.starts w t.started.0 t.started.1);
    anchored = anchored_lasts w w s (AtMost-refl w) t.anchored;
  }

  grows : Grows f c.past d.past
  grows = record {
    starts = ev.starts;
    entries = ev.entries;
    leaders = ev.leads;
    logs = λ r w l h. let k = ev.logs r w l h in (k.0, k.1, inr (k.2, k.3, k.4));
  }

  module _ (sync : Sync f c) (q : ℕ) (within : q < 2 * f + 1) where
    abbrev old : LocalState
    old = c.replicas q

    o : GoodSync f c q old
    o = sync.own q within

    -- in the same view nothing is lost
    pub inside : (l : List Entry) → HadLog d.past q old.last_normal l → GoodSync f d q (record old { log = l })
    inside l here =
        let g = ev.logs q old.last_normal old.log (inv.current q within) in
        let longer : length old.log ≤ length l = subst (λ (k : List Entry). length old.log ≤ length k)
        (same_Some-at (d.past.log q old.last_normal) g.0 l g.1 here) g.4.longer in
        record {
          count = o.count;
          anchored = anchored_lasts old.last_normal old.last_normal old.sync.sync_point (AtMost-refl old.last_normal) o.anchored;
          agrees = agrees_lasts q old.last_normal old.log l old.sync.sync_point (inv.current q within) here o.agrees;
          prepared = λ one.
              let h = o.prepared one in
              let view : old.last_normal ≡ old.view = (inv.own q within).place.normal h.normal in
              record {
                normal = h.normal;
                follows = h.follows;
                agrees = agrees_lasts q old.view old.log l old.sync.prepared
                    (subst (λ (w : View). HadLog c.past q w old.log) view (inv.current q within))
                    (subst (λ (w : View). HadLog d.past q w l) view here) h.agrees;
                said = said_lasts m f c d ev q old.view (SyncRep old.sync.prepared) h.said;
              };
          syncing = λ x e.
              let h = o.syncing x e in
              record {
                normal = h.normal;
                leads = h.leads;
                above = h.above;
                within = omega (arith, h.within, longer);
                once = h.once;
                members = h.members;
                apart = h.apart;
                voted = λ k i. said_lasts m f c d ev k old.view (SyncRep x.len) (h.voted k i);
              };
        }

    -- in a later view what was fixed is there
    pub risen : Inv m f d → (v : View) (l : List Entry) → HadLog d.past q v l → Below old.last_normal v → Agrees f d v l old.sync.sync_point
    risen new v l here below =
        elim o.anchored [
          | inl e ↦ (let good = new.logs q v l here in
              subst (Agrees f d v l) (sym e) (record { lead = good.lead; leads = good.leads; same = same_none l good.lead }))
          | inr (u, low, x) ↦
              let before = inv.logs (leader_of u (2 * f + 1)) u x.lead x.leads in
              let n = fixed_stays f c.past d.past u x.lead old.sync.sync_point grows (before.start, before.is_start)
              (synced_fixes f c sync u old.sync.sync_point x) in
              let good = new.logs q v l here in
              let lead = new.logs (leader_of v (2 * f + 1)) v good.lead good.leads in
              let start : lead.start ≡ good.start = same_Some-at (d.past.start v) lead.start good.start lead.is_start good.is_start in
              let led : IsPrefixOf good.start.log good.lead = subst (λ (y : Start). IsPrefixOf y.log good.lead) start lead.begins in
              let kept : IsPrefixOf (take old.sync.sync_point n.0) good.start.log =
              fixed_prefixes_are_kept f d.stamps (last_normals d) d.past (grounds_of m f d new) u v n.0 old.sync.sync_point good.start
              n.2 (Below-after_at_most u old.last_normal v low below) good.is_start in
              let long : old.sync.sync_point ≤ length (take old.sync.sync_point n.0) =
              omega (arith, length-take-le old.sync.sync_point n.0 n.2.within) in
              record {
                lead = good.lead;
                leads = good.leads;
                same = same_from_prefix old.sync.sync_point (take old.sync.sync_point n.0) l good.lead long
                    (IsPrefixOf-trans (take old.sync.sync_point n.0) good.start.log l kept good.begins)
                    (IsPrefixOf-trans (take old.sync.sync_point n.0) good.start.log good.lead kept led);
              }
        ]
