-- What holds of a world that moves lead to: replicas agree, the lines are legal of the history, what is accepted stands from its slot on,
-- and what is open is stale in no log.
use Rattle.std.proofs.Common.{◌≡◌, ℕ, ◌+◌, ◌*◌, ◌<◌, ◌≤◌, Some, sym, ap, subst, ◌∙◌, arith, List, take}
use Rattle.std.specs.Prelude.{slice_get}
use Rattle.std.proofs.lemmas.Option.{slice_get_within}
use Rattle.nop_types.specs.Configuration.{Configuration}
use Rattle.nop_types.specs.Legality.{Legal}
use Rattle.nop_types.specs.Lines.{Line}
use Rattle.nop_types.specs.Lists.{IsPrefixOf, slot_of}
use Rattle.nop_types.specs.Meaning.{Meaning}
use Rattle.nop_types.specs.declared.request.Entry.{Entry}
use Rattle.client_quorum.specs.declared.state.ClientState.{ClientState}
use Rattle.protocol.specs.Conf.{Conf, opening}
use Rattle.protocol.specs.Invariant.{Inv}
use Rattle.protocol.specs.LocalState.{LocalState}
use Rattle.protocol.proofs.Opening.{opening_meets}
use Rattle.protocol_sync.specs.Laws.{AcceptedStand, OpenIsNotStaleIn}
use Rattle.protocol_sync.specs.Sound.{Sound}
use Rattle.protocol_sync.specs.Synced.{Sync}
use Rattle.protocol_sync.proofs.Agreeing.{synchronised_begin, synchronised_prefixes_agree}
use Rattle.protocol_sync.proofs.Concluding.{accepted_stand, lines_are_legal, open_is_never_stale}
use Rattle.protocol_sync.proofs.Opening.{opening_is_synced}
use Rattle.protocol_sync.proofs.Runs.{syncs_keep}
use Rattle.protocol_sync.proofs.Sounding.{runs_are_sound}
use Rattle.world.specs.Others.{Clients}
use Rattle.world.specs.Seats.{Seated}
use Rattle.whole_world.specs.Whole.{WholeReplica, WholeWorld, Agreed, main_view, main_log, history}
use Rattle.whole_world.specs.Passed.{Passed}
use Rattle.whole_world.specs.Safe.{Leads, OpenIsNotStale}
use Rattle.whole_world.specs.Shows.{ShowsActors}
use Rattle.whole_world.proofs.At.{At}
use Rattle.whole_world.proofs.MainLogs.{is_main_log}
use Rattle.whole_world.proofs.Moving.{ran_holds}

module _ {S : Type 0} (m : Meaning S) (f : ℕ) (config : Configuration) (count : config.replicas ≡ 2 * f + 1) (c : Conf) where
  pub ran_synced : Leads m f (opening config) c → Sync f c
  ran_synced ran = subst (Sync f) ran.ends
      (syncs_keep m f (opening config) ran.moves (opening_meets m f config count) (opening_is_synced f config count) ran.may)

  pub ran_sound : Leads m f (opening config) c → Sound m f c
  ran_sound ran = subst (Sound m f) ran.ends (runs_are_sound m f config ran.moves count ran.may)

  module _ (p : Passed) (at : At m f config p c) where
    abbrev w : WholeWorld
    w = p.world

    shown : ShowsActors f w c
    shown = at.stands.actors

    pub inv : Inv m f c
    inv = ran_holds m f config count c at.ran

    pub sync : Sync f c
    sync = ran_synced at.ran

    within : (i : ℕ) (q : Seated WholeReplica) → slice_get w.replicas i ≡ Some q → i < 2 * f + 1
    within i q e = omega (arith, slice_get_within w.replicas i q e, shown.replica_count, shown.config)

    begins : (i : ℕ) (q : Seated WholeReplica) → slice_get w.replicas i ≡ Some q
        → IsPrefixOf (take q.state.state.sync.sync_point q.state.state.log.entries) (main_log w)
    begins i q e = subst (λ (s : LocalState). IsPrefixOf (take s.sync.sync_point s.log) (main_log w)) (shown.replicas i q e)
        (synchronised_begin m f c inv sync i (within i q e) (main_view w) (main_log w) (is_main_log m f w c inv shown))

    agree : (i j slot : ℕ) (a b : Seated WholeReplica) → slice_get w.replicas i ≡ Some a → slice_get w.replicas j ≡ Some b
        → slot ≤ a.state.state.sync.sync_point → slot ≤ b.state.state.sync.sync_point
        → slot_of a.state.state.log.entries slot ≡ slot_of b.state.state.log.entries slot
    agree i j slot a b e g low other =
        ap (λ (s : LocalState). slot_of s.log slot) (sym (shown.replicas i a e))
        ∙ synchronised_prefixes_agree m f c inv sync i j slot (within i a e) (within j b g)
        (subst (λ (s : LocalState). slot ≤ s.sync.sync_point) (sym (shown.replicas i a e)) low)
        (subst (λ (s : LocalState). slot ≤ s.sync.sync_point) (sym (shown.replicas j b g)) other)
        ∙ ap (λ (s : LocalState). slot_of s.log slot) (shown.replicas j b g)

    pub agreed : Agreed w
    agreed = record { pairs = λ i j slot a b e g. agree i j slot a b e g; main = begins }

    pub legal : Legal m p.world.lines (history w)
    legal = subst (λ (t : List Line). Legal m t (history w)) (sym at.lines)
        (lines_are_legal m f c inv (main_view w) (main_log w) (is_main_log m f w c inv shown))

    pub accepted : AcceptedStand m c (main_log w)
    accepted = accepted_stand m f c inv (main_view w) (main_log w) (is_main_log m f w c inv shown)

    pub not_stale : OpenIsNotStale w
    not_stale i k a q e there =
        let log : (c.replicas i).log ≡ a.state.state.log.entries = ap (λ (s : LocalState). s.log) (shown.replicas i a e) in
        let requests : c.clients k ≡ q.state.requests = shown.others Clients k q there in
        subst (λ (l : List Entry). OpenIsNotStaleIn l k q.state.requests) log
        (subst (λ (s : ClientState). OpenIsNotStaleIn (c.replicas i).log k s) requests
        (open_is_never_stale m f c inv i k (within i a e)))
