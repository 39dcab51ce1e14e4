-- What is synchronised in a view, of which log.
use Rattle.std.proofs.Common.{◌≡◌, ℕ, ◌+◌, ◌*◌, ◌≤◌, sym, subst, ◌∙◌, inl, inr, arith, length, List, take}
use Rattle.std.proofs.lemmas.List.{length-take-le}
use Rattle.nop_types.specs.declared.view.View.{View}
use Rattle.nop_types.specs.declared.request.Entry.{Entry}
use Rattle.nop_types.specs.Lists.{IsPrefixOf}
use Rattle.nop_types.specs.Meaning.{Meaning}
use Rattle.nop_types.specs.Views.{leader_of}
use Rattle.started_views.specs.Past.{LeaderHad}
use Rattle.started_views.proofs.Keeping.{fixed_prefixes_are_kept, leader_begins}
use Rattle.started_views.proofs.Logs.{same_from_prefix}
use Rattle.lemmas.proofs.Prefixes.{IsPrefixOf-refl, IsPrefixOf-take}
use Rattle.protocol.specs.Conf.{Conf, last_normals}
use Rattle.protocol.specs.Invariant.{Inv}
use Rattle.protocol.proofs.Grounding.{grounds_of}
use Rattle.protocol_sync.specs.Sound.{PrefixIsSynchronised}
use Rattle.protocol_sync.specs.Synced.{Anchored, Agrees, GoodLog, Sync}
use Rattle.protocol_sync.proofs.Lasting.{synced_fixes}

module _ {S : Type 0} (m : Meaning S) (f : ℕ) (c : Conf) (inv : Inv m f c) (sync : Sync f c) where
  -- it begins each log that the leader of the view or of a later one has
  pub led_synchronised : (w : View) (l : List Entry) (s : ℕ) → 1 ≤ s → LeaderHad f c.past w l → Anchored f c w s
      → PrefixIsSynchronised f c w l s
  led_synchronised w l s one led (inl zero) = absurd (omega (arith, one, zero))
  led_synchronised w l s one led (inr (u, low, x)) =
      let good = inv.logs (leader_of u (2 * f + 1)) u x.lead x.leads in
      let fixed = synced_fixes f c sync u s x in
      record {
        view = u;
        started = (good.start, good.is_start);
        at_most = low;
        others = x.others;
        lead = x.lead;
        leads = x.leads;
        within = x.within;
        begins = leader_begins f c.stamps (last_normals c) c.past (grounds_of m f c inv) u w x.lead l s fixed low led;
        kept = λ v y below is. fixed_prefixes_are_kept f c.stamps (last_normals c) c.past
            (grounds_of m f c inv) u v x.lead s y fixed below is;
      }

  -- and each log that agrees with it so far
  agreed : (w : View) (l k : List Entry) (s : ℕ) → s ≤ length l → s ≤ length k → take s l ≡ take s k
      → PrefixIsSynchronised f c w k s → PrefixIsSynchronised f c w l s
  agreed w l k s left right same t =
      let long : s ≤ length (take s t.lead) = omega (arith, length-take-le s t.lead t.within) in
      let so_far = same_from_prefix s (take s t.lead) t.lead k long (IsPrefixOf-take s t.lead) t.begins in
      record {
        view = t.view;
        started = t.started;
        at_most = t.at_most;
        others = t.others;
        lead = t.lead;
        leads = t.leads;
        within = t.within;
        begins = subst (λ (y : List Entry). IsPrefixOf y l) (same ∙ sym so_far.same) (IsPrefixOf-take s l);
        kept = t.kept;
      }

  pub synchronised : (w : View) (l : List Entry) (s : ℕ) → 1 ≤ s → Anchored f c w s → Agrees f c w l s
      → PrefixIsSynchronised f c w l s
  synchronised w l s one anchored a =
      agreed w l a.lead s a.same.left a.same.right a.same.same (led_synchronised w a.lead s one a.leads anchored)

  -- of a log that the leader tells
  pub good_log_synchronised : (w : View) (z : ℕ) (l k : List Entry) → 1 ≤ z → LeaderHad f c.past w k → IsPrefixOf l k → GoodLog f c w z l
      → PrefixIsSynchronised f c w l z
  good_log_synchronised w z l k one led begins good_log =
      synchronised w l z one good_log.anchored (record {
        lead = k;
        leads = led;
        same = same_from_prefix z l l k good_log.within (IsPrefixOf-refl l) begins;
      })
