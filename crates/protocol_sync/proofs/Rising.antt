-- No sync point falls, and what is synchronised stays.
use Rattle.std.proofs.Common.{◌≡◌, ℕ, ◌+◌, ◌*◌, ◌<◌, ◌≤◌, Bool, true, false, cond, Option, Some, None, refl, sym, subst, ◌∙◌, arith, inl}
use Rattle.std.proofs.Common.{inr, length, List, [], ◌∷◌, take}
use Rattle.std.specs.Prelude.{◌==◌, max, nat_le, nat_lt}
use Rattle.std.proofs.lemmas.Bool.Decides.{nat_tests}
use Rattle.std.proofs.lemmas.List.{length-take-le}
use Rattle.nop_types.specs.declared.view.View.{View}
use Rattle.nop_types.specs.declared.replica_state.Vote.{Vote}
use Rattle.nop_types.specs.declared.replica_state.Vote.TheVariants.{Settled, Waiting}
use Rattle.nop_types.specs.declared.request.Entry.{Entry}
use Rattle.nop_types.specs.Lists.{IsPrefixOf}
use Rattle.nop_types.specs.Meaning.{Meaning}
use Rattle.nop_types.specs.Views.{Below, leader_of}
use Rattle.started_views.specs.Logs.{SameTo, Toward}
use Rattle.started_views.specs.Past.{HadLog, LeaderHad}
use Rattle.started_views.proofs.Keeping.{start_synchronised}
use Rattle.started_views.proofs.Logs.{same_from_prefix, same_grown, toward_keeps_same}
use Rattle.lemmas.proofs.Prefixes.{IsPrefixOf-trans, IsPrefixOf-take}
use Rattle.lemmas.proofs.Views.{cases_View, AtMost-refl}
use Rattle.slot_votes.specs.Synchronisation.{Round, Synchronisation, closed, counted_in, with_vote_for, round_vote}
use Rattle.protocol.specs.Conf.{Conf, last_normals}
use Rattle.protocol.specs.Evolves.{Evolves}
use Rattle.protocol.specs.Invariant.{Inv}
use Rattle.protocol.specs.LocalState.{LocalState, leads}
use Rattle.protocol.specs.Moves.{entered, enter_as}
use Rattle.protocol.specs.Runs.{Act, Enter}
use Rattle.protocol.specs.Runs.{Obey, OpenSync, CountSyncVote, Move, Acts}
use Rattle.protocol.specs.Runs.{effect, happens, run}
use Rattle.protocol.proofs.Grounding.{grounds_of}
use Rattle.lemmas.proofs.Functions.{put-all}
use Rattle.protocol.proofs.Runs.{run_keeps}
use Rattle.lemmas.proofs.Options.{same_Some-at}
use Rattle.protocol_sync.specs.Laws.{SyncPointsNeverFall}
use Rattle.protocol_sync.specs.Synced.{GoodSync, Sync}
use Rattle.protocol_sync.proofs.Agreeing.{fixed_from}
use Rattle.protocol_sync.proofs.Lasting.{anchored_lasts}
use Rattle.protocol_sync.proofs.Runs.{run_syncs}

-- ---- by one move

abbrev Rises : Synchronisation → Synchronisation → Type 0
Rises s t = s.sync_point ≤ t.sync_point

commit_rises : (s : Synchronisation) (k : ℕ) (b : Bool) → Rises s (cond b (record s { sync_point = max s.sync_point k }) s)
commit_rises s k true = omega arith
commit_rises s k false = omega arith

round_rises : (s : Synchronisation) (k : ℕ) (b a : Bool) → nat_lt s.sync_point k ≡ b
    → Rises s (cond b (cond a (record s { sync_point = k; syncing = None })
    (record s { syncing = Some (record { len = k; votes = [] }) })) s)
round_rises s k false a is = omega arith
round_rises s k true true is = grind (arith, nat_tests, is)
round_rises s k true false is = omega arith

closed_rises : (s : Synchronisation) (x : Round) (v : Vote) → Rises s (closed s x v)
closed_rises s x Waiting = omega arith
closed_rises s x Settled = omega arith

vote_rises : (s : Synchronisation) (q k : ℕ) (o : Option Round) → Rises s (counted_in s o q k)
vote_rises s q k None = omega arith
vote_rises s q k (Some x) = closed_rises s (with_vote_for x q k) (round_vote s.f x q k)

entered_rises : (p : LocalState) (v : View) (b : Bool) → Rises p.sync (enter_as b (entered p v)).state.sync
entered_rises p v true = omega arith
entered_rises p v false = omega arith

module _ {S : Type 0} (m : Meaning S) (f : ℕ) where
  act_rises : (p : LocalState) (a : Act) → Rises p.sync (effect m p a).state.sync
  act_rises p (Enter v) = entered_rises p v (leads (entered p v))
  act_rises p (Obey k) = commit_rises p.sync k (nat_le k p.sync.prepared)
  act_rises p OpenSync =
      let s = p.sync in
      let k = length p.log in
      round_rises s k (nat_lt s.sync_point k) (s.f == 0) refl
  act_rises p (CountSyncVote q k) = vote_rises p.sync q k p.sync.syncing
  act_rises p _ = omega arith

  abbrev AllRise : Conf → Conf → Type 0
  AllRise c d = (r : ℕ) → Rises (c.replicas r).sync (d.replicas r).sync

  happens_rises : (c : Conf) (x : Move) → AllRise c (happens m f c x)
  happens_rises c (Acts r a) =
      put-all (λ q t. Rises (c.replicas q).sync t.sync) c.replicas r (effect m (c.replicas r) a).state
      (act_rises (c.replicas r) a) (λ q n. omega arith)
  happens_rises c _ = λ r. omega arith

  run_rises : (c : Conf) (xs : List Move) → AllRise c (run m f c xs)
  run_rises c [] = λ r. omega arith
  run_rises c (x ∷ xs) =
      let one = happens_rises c x in
      let more = run_rises (happens m f c x) xs in
      λ r. omega (arith, one r, more r)

  -- ---- what is synchronised stays

  module _ (c d : Conf) (inv : Inv m f c) (sync : Sync f c) (ev : Evolves f c d) (new : Inv m f d) (news : Sync f d) (r : ℕ)
      (within : r < 2 * f + 1) where
    abbrev u : View
    u = (c.replicas r).last_normal

    abbrev v : View
    v = (d.replicas r).last_normal

    abbrev l : List Entry
    l = (c.replicas r).log

    abbrev k : List Entry
    k = (d.replicas r).log

    abbrev s : ℕ
    s = (c.replicas r).sync.sync_point

    own : GoodSync f c r (c.replicas r)
    own = sync.own r within

    -- as far as the leader has it now
    lead : (n : List Entry) × LeaderHad f d.past u n × IsPrefixOf own.agrees.lead n
    lead = ev.leads u own.agrees.lead own.agrees.leads

    same : SameTo s l lead.0
    same = same_grown s l own.agrees.lead lead.0 own.agrees.same lead.2

    in_view : u ≡ v → SameTo s l k
    in_view e =
        let g = ev.logs r u l (inv.current r within) in
        let here : g.0 ≡ k = same_Some-at (d.past.log r u) g.0 k g.1
        (subst (λ (w : View). HadLog d.past r w k) (sym e) (new.current r within)) in
        let led : g.2 ≡ lead.0 = same_Some-at (d.past.log (leader_of u (2 * f + 1)) u) g.2 lead.0 g.3 lead.1 in
        let moved : Toward lead.0 l k =
        subst (λ (x : List Entry). Toward x l k) led (subst (λ (x : List Entry). Toward g.2 l x) here g.4) in
        let now : SameTo s k lead.0 = toward_keeps_same lead.0 l k s moved same in
        record { left = same.left; right = now.left; same = same.same ∙ sym now.same }

    later : Below u v → SameTo s l k
    later below =
        let good = new.logs r v k (new.current r within) in
        let anchored = fixed_from f d news u s (anchored_lasts m f c d inv ev u u s (AtMost-refl u) own.anchored) in
        let begins : IsPrefixOf (take s l) good.start.log = start_synchronised f d.stamps (last_normals d) d.past
        (grounds_of m f d new) u v good.start lead.0 l s lead.1 same anchored good.is_start below in
        same_from_prefix s (take s l) l k (omega (arith, length-take-le s l same.left)) (IsPrefixOf-take s l)
        (IsPrefixOf-trans (take s l) good.start.log k begins good.begins)

    pub synchronised_stays : SameTo s l k
    synchronised_stays = elim (cases_View u v) [ inl e ↦ in_view e | inr a ↦ later (record { at_most = ev.normals r; apart = a }) ]

pub sync_points_never_fall : {S : Type 0} (m : Meaning S) → SyncPointsNeverFall m
sync_points_never_fall m f c xs inv sync may =
    let kept = run_keeps m f c xs inv may in
    record {
      points = run_rises m f c xs;
      prefixes = λ r l. (synchronised_stays m f c (run m f c xs) inv sync kept.1 kept.0 (run_syncs m f c xs inv sync may) r l).same;
    }
