-- What the invariant says of the state of a replica.
use Rattle.std.proofs.Common.{◌≡◌, ℕ, ◌+◌, ◌*◌, ◌≤◌, true, false, Some, sym, ap, subst, ◌∙◌, arith, length}
use Rattle.std.specs.Prelude.{◌-◌, take}
use Rattle.std.proofs.lemmas.Bool.{eqb-true}
use Rattle.std.proofs.lemmas.List.{length-take}
use Rattle.nop_types.specs.declared.view.View.{View}
use Rattle.nop_types.specs.declared.replica_state.Phase.TheVariants.{Normal, Change}
use Rattle.nop_types.specs.declared.request.Entry.{Entry}
use Rattle.nop_types.specs.Lists.{slot_of}
use Rattle.nop_types.specs.Meaning.{Meaning}
use Rattle.nop_types.specs.Views.{leader_of}
use Rattle.lemmas.proofs.Options.{same_Some-at}
use Rattle.lemmas.proofs.Prefixes.{IsPrefixOf-take, length-prefix}
use Rattle.log_merge.specs.Starting.{Start}
use Rattle.started_views.specs.Past.{HadLog, LeaderHad, IsStart, entered_with}
use Rattle.replica_state.specs.declared.state.ReplicaState.{ReplicaState}
use Rattle.replica_state.specs.State.{leads, leader}
use Rattle.replica_state.specs.Moves.{start_len}
use Rattle.protocol.specs.Conf.{Conf, HasOwner}
use Rattle.protocol.specs.Invariant.{GoodLog, Own}
use Rattle.protocol.specs.LocalState.{LocalState, standing}
use Rattle.protocol.specs.Moves.{MayLead, MaySay}
use Rattle.protocol.specs.Said.{StartView, SyncPrepare}
use Rattle.protocol.specs.Truth.{LeaderHas, Begun, Prepared}
use Rattle.protocol.proofs.Replying.{leads_from}
use Rattle.protocol_sync.proofs.Above.{synced_is_prepared}
use Rattle.refinement.specs.Projection.{local_state_of}
use Rattle.refinement.specs.Replicas.{Matches}

module _ {S : Type 0} (m : Meaning S) (f : ℕ) (c : Conf) (r : ℕ) (s : ReplicaState) (h : Matches m f c r s) where
  pub own : Own f c r (local_state_of s)
  own = subst (λ (p : LocalState). Own f c r p) h.state (h.inv.own r h.within)

  -- the session of its view was given to a sequencer
  pub session_given : HasOwner c.installs s.view.session
  session_given = subst (λ (p : LocalState). HasOwner c.installs p.view.session) h.state (h.inv.views r)

  -- the log is noted
  pub current : HadLog c.past r s.last_normal s.log.entries
  current = subst (λ (p : LocalState). HadLog c.past r p.last_normal p.log) h.state (h.inv.current r h.within)

  log : GoodLog f c r s.last_normal s.log.entries
  log = h.inv.logs r s.last_normal s.log.entries current

  -- who leads, and who follows

  leads_it : leads s ≡ true → r ≡ leader_of s.view (2 * f + 1)
  leads_it e = sym own.number ∙ sym (eqb-true (leader s) s.number e) ∙ ap (leader_of s.view) own.replicas

  follows_it : leads s ≡ false → r ≡ leader_of s.view (2 * f + 1) → ⊥
  follows_it e a = let yes : leads s ≡ true = leads_from f (local_state_of s) own.replicas (own.number ∙ a) in cc

  pub follows_last : s.status ≡ Normal → leads s ≡ false → r ≡ leader_of s.last_normal (2 * f + 1) → ⊥
  follows_last normal e a = follows_it e (a ∙ ap (λ (w : View). leader_of w (2 * f + 1)) (own.place.normal normal))

  -- ---- what its last normal view started with

  same_start : own.place.start ≡ log.start
  same_start = same_Some-at (c.past.start s.last_normal) own.place.start log.start own.place.is_start log.is_start

  counted : s.next + length log.start.log ≡ log.start.next + length s.log.entries
  counted = subst (λ (x : Start). s.next + length x.log ≡ x.next + length s.log.entries) same_start own.place.counted

  base_is : r ≡ leader_of s.last_normal (2 * f + 1) → s.base ≡ length log.start.log
  base_is a = own.place.base a ∙ ap (λ (x : Start). length x.log) same_start

  -- no more than the replica has
  pub base_within : r ≡ leader_of s.last_normal (2 * f + 1) → s.base ≤ length s.log.entries
  base_within a =
      let base = base_is a in
      let low = length-prefix log.start.log s.log.entries log.begins in
      omega (arith, base, low)

  -- ---- what may be said again

  -- the log of a leader in its view
  leader_log : MayLead (local_state_of s) → LeaderHad f c.past s.view s.log.entries
  leader_log may =
      subst (λ (q : ℕ). HadLog c.past q s.view s.log.entries) (leads_it may.leads)
      (subst (λ (w : View). HadLog c.past r w s.log.entries) (own.place.normal may.normal) current)

  -- a leader has the entry in the slot
  pub leader_has : (k : ℕ) (x : Entry) → MayLead (local_state_of s) → slot_of s.log.entries k ≡ Some x
      → LeaderHas f c s.number s.view k x
  leader_has k x may at =
      record { sender = own.number ∙ leads_it may.leads; lead = s.log.entries; leads = leader_log may; entry = at }

  -- what is synchronised is in the log
  pub synced_within : s.sync.sync_point ≤ length s.log.entries
  synced_within =
      subst (λ (p : LocalState). p.sync.sync_point ≤ length p.log) h.state (h.sync.own r h.within).agrees.same.left

  -- the first b entries reach the sync point, where b is no less
  reached : (b : ℕ) → s.sync.sync_point ≤ b → s.sync.sync_point ≤ length (take b s.log.entries)
  reached b low =
      let synced = synced_within in
      let taken = length-take b s.log.entries in
      omega (arith, synced, taken, low)

  point_reached : (b : ℕ) → s.sync.sync_point ≤ b → s.log.sync_point ≤ length (take b s.log.entries)
  point_reached b low = subst (λ (n : ℕ). n ≤ length (take b s.log.entries)) (sym h.points) (reached b low)

  -- the first b entries, where the view started with no more
  begun_with : (b : ℕ) → MayLead (local_state_of s) → s.base ≤ b → b ≤ length s.log.entries
      → Begun f c s.number s.view (s.next - (length s.log.entries - b)) (take b s.log.entries)
  begun_with b may above high =
      let leader : r ≡ leader_of s.view (2 * f + 1) = leads_it may.leads in
      let at : s.last_normal ≡ s.view = own.place.normal may.normal in
      let base = base_is (leader ∙ ap (λ (w : View). leader_of w (2 * f + 1)) (sym at)) in
      let low = length-prefix log.start.log s.log.entries log.begins in
      let taken = length-take b s.log.entries in
      let count = counted in
      record {
        sender = own.number ∙ leader;
        start = log.start;
        is_start = subst (λ (w : View). IsStart c.past w log.start) at log.is_start;
        lead = s.log.entries;
        leads = leader_log may;
        within = omega (arith, base, low, taken, above, high);
        begins = IsPrefixOf-take b s.log.entries;
        counted = omega (arith, base, low, taken, count, above, high);
      }

  -- what its view started with, and what is synchronised
  begun : MayLead (local_state_of s)
      → Begun f c s.number s.view (s.next - (length s.log.entries - start_len s)) (take (start_len s) s.log.entries)
  begun may =
      let leader : r ≡ leader_of s.view (2 * f + 1) = leads_it may.leads in
      let at : s.last_normal ≡ s.view = own.place.normal may.normal in
      let base = base_within (leader ∙ ap (λ (w : View). leader_of w (2 * f + 1)) (sym at)) in
      let synced = synced_within in
      begun_with (start_len s) may (omega arith) (omega (arith, base, synced))

  pub may_say_start : MayLead (local_state_of s)
      → MaySay f c (local_state_of s)
      (StartView (s.next - (length s.log.entries - start_len s)) s.log.sync_point (take (start_len s) s.log.entries))
  may_say_start may = record { true = begun may; point = (h.points, point_reached (start_len s) (omega arith)) }

  -- what is synchronised
  synced_prepared : MayLead (local_state_of s) → Prepared f c s.number s.view (take s.sync.sync_point s.log.entries)
  synced_prepared may =
      let here : MayLead (c.replicas r) = subst MayLead (sym h.state) may in
      let all = synced_is_prepared m f c r h.inv h.sync h.above h.within here in
      subst (λ (q : ℕ). Prepared f c q s.view (take s.sync.sync_point s.log.entries)) (sym own.number)
      (subst (λ (p : LocalState). Prepared f c r p.view (take p.sync.sync_point p.log)) h.state all)

  pub may_say_synced : MayLead (local_state_of s)
      → MaySay f c (local_state_of s) (SyncPrepare s.log.sync_point (take s.sync.sync_point s.log.entries))
  may_say_synced may = record { true = synced_prepared may; point = (h.points, point_reached s.sync.sync_point (omega arith)) }

  -- what a replica entered its view with
  pub entered_with_it : s.status ≡ Change → c.past.entry s.number s.view ≡ Some (entered_with (standing (local_state_of s)))
  entered_with_it change =
      subst (λ (q : ℕ). c.past.entry q s.view ≡ Some (entered_with (standing (local_state_of s)))) (sym own.number) (own.changes.entered change)
