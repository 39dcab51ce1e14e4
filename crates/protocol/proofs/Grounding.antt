-- The invariant grounds the theorems on started views.
use Rattle.std.proofs.Common.{◌≡◌, ℕ, ◌+◌, ◌*◌, ◌<◌, Some, sym, subst, length, List}
use Rattle.std.specs.Prelude.{◌-◌}
use Rattle.nop_types.specs.declared.request.Entry.{Entry}
use Rattle.nop_types.specs.declared.request.Entry.TheVariants.{NoOp}
use Rattle.nop_types.specs.Lists.{IsPrefixOf, slot_of}
use Rattle.nop_types.specs.Meaning.{Meaning}
use Rattle.nop_types.specs.Stamps.{WasStamped}
use Rattle.nop_types.specs.Views.{leader_of}
use Rattle.log_merge.specs.Starting.{Start}
use Rattle.started_views.specs.Started.{Grounds}
use Rattle.protocol.specs.Conf.{Conf, last_normals}
use Rattle.protocol.specs.Invariant.{Inv}
use Rattle.lemmas.proofs.Options.{same_Some-at}

pub grounds_of : {S : Type 0} (m : Meaning S) (f : ℕ) (c : Conf) → Inv m f c → Grounds f c.stamps (last_normals c) c.past
grounds_of m f c inv = record {
  stamped_once = inv.stamped_once;
  session_positive = λ w s. (inv.starts w s.0 s.1).session;
  current_log = λ r l. ((c.replicas r).log, inv.current r l);
  log_in_started = λ r w l h. let g = inv.logs r w l h in ((g.start, g.is_start), inv.reached r w l h);
  started_has_leader = λ w s. let g = inv.starts w s.0 s.1 in (g.lead, g.leads);
  entry_order = λ r v e h. (inv.entries r v e h).order;
  entry_log = λ r v e h. (inv.entries r v e h).log;
  entries_chain = inv.chain;
  nothing_between = inv.between;
  certificate = λ w x h apart. let s = (inv.starts w x h).by apart in (s.changes, s.certificate, s.opens);
  begins_with_start = λ r w l x h i. let g = inv.logs r w l h in
      subst (λ (y : Start). IsPrefixOf y.log l) (same_Some-at (c.past.start w) g.start x g.is_start i) g.begins;
  request_by_number = λ r w l x k q h i a e.
      let g = inv.logs r w l h in
      let same : g.start ≡ x = same_Some-at (c.past.start w) g.start x g.is_start i in
      subst (λ (y : Start). WasStamped c.stamps w.session (y.next + (k - length y.log - 1)) q) same
      (g.by_number k q (subst (λ (y : Start). length y.log < k) (sym same) a) e);
  noop_is_leaders = λ r w l n x k h led i a e.
      let g = inv.logs r w l h in
      let same : g.start ≡ x = same_Some-at (c.past.start w) g.start x g.is_start i in
      subst (λ (y : List Entry). slot_of y k ≡ Some NoOp) (same_Some-at (c.past.log (leader_of w (2 * f + 1)) w) g.lead n g.leads led)
      (g.noops k (subst (λ (y : Start). length y.log < k) (sym same) a) e);
}
