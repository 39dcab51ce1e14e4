-- In a safe whole world sync points are within the logs, changes that are gathered agree, and so do fronts.
use Rattle.std.proofs.Common.{◌≡◌, ◌≤◌, ◌+◌, ◌*◌, ℕ, zero, suc, true, Some, None, refl, subst, arith, List, length, take, length-take}
use Rattle.std.specs.Prelude.{◌/◌, slice_get}
use Rattle.std.proofs.lemmas.Option.{slice_get_within, same_Some}
use Rattle.nop_types.specs.Configuration.{Configuration}
use Rattle.nop_types.specs.Lists.{Has, IsPrefixOf}
use Rattle.nop_types.specs.Logs.{Log, Whole}
use Rattle.nop_types.specs.Meaning.{Meaning}
use Rattle.nop_types.specs.Ranges.{BodyIsIn}
use Rattle.nop_types.specs.declared.output.Actor.{Actor}
use Rattle.nop_types.specs.declared.peer.Body.{Body}
use Rattle.nop_types.specs.declared.peer.Body.TheVariants as bodies
use Rattle.nop_types.specs.declared.peer.Change.{Change}
use Rattle.nop_types.specs.declared.request.Entry.{Entry}
use Rattle.nop_types.specs.declared.view.View.{View}
use Rattle.started_views.specs.Logs.{SameTo}
use Rattle.started_views.proofs.Logs.{same_from_prefix, same_sym, same_trans, same_less}
use Rattle.lemmas.proofs.Prefixes.{IsPrefixOf-take}
use Rattle.view_change.specs.Gathering.{Gathering, change_added, change_sender}
use Rattle.replica_state.specs.declared.state.ReplicaState.{ReplicaState}
use Rattle.replica_state.specs.State.{PointsMeet, is_other}
use Rattle.protocol.specs.Conf.{Conf, opening}
use Rattle.protocol.specs.LocalState.{LocalState}
use Rattle.protocol.specs.Said.{says}
use Rattle.protocol.proofs.Opening.{opening_meets}
use Rattle.protocol_sync.specs.Above.{GapsAreAbove}
use Rattle.protocol_sync.specs.Synced.{GoodSync}
use Rattle.protocol_sync.proofs.Above.{gaps_open_above, gaps_stay_above}
use Rattle.protocol_sync.proofs.Opening.{opening_is_synced}
use Rattle.world.specs.Seats.{Seated}
use Rattle.refinement.specs.Projection.{local_state_of, word_of, said_of}
use Rattle.refinement.specs.Replicas.{Matches}
use Rattle.whole_world.specs.Passed.{passed}
use Rattle.whole_world.specs.Safe.{IsSafe}
use Rattle.trimmed_rows.specs.Premises.{PointsWithin, Opens, after_request}
use Rattle.trimmed_rows.proofs.Alone.{entered_opens}
use Rattle.whole_world.specs.Trimming.{log_in_body, AllWithin, StartsAgree, PrefixesAgree, CanTrim}
use Rattle.whole_world.specs.Trimming.{SafeCanTrim, WholeCanTrim}
use Rattle.whole_world.specs.Whole.{WholeReplica, WholeWorld, Letter, Brings, main_view, main_log}
use Rattle.whole_world.proofs.Counts.{counts_from}
use Rattle.whole_world.proofs.Gathered.{gathered_within, gathered_open, with_change_opens}
use Rattle.whole_world.proofs.MainLogs.{is_main_log}
use Rattle.whole_world.proofs.Mapped.{Has-map}
use Rattle.whole_world.proofs.Safe.{whole_runs_are_safe}
use Rattle.whole_world.proofs.MainPrefixes.{MainPrefix, log_prefix}

prepared_within : (f : ℕ) (c : Conf) (r : ℕ) (p : LocalState) → GoodSync f c r p → (n : ℕ) → p.sync.prepared ≡ n → n ≤ length p.log
prepared_within f c r p good zero is = omega arith
prepared_within f c r p good (suc n) is =
    let h = good.prepared (omega (arith, is)) in
    let low : p.sync.prepared ≤ length p.log = h.agrees.same.left in
    omega (arith, low, is)

good_within : (f : ℕ) (c : Conf) (r : ℕ) (s : ReplicaState) → PointsMeet s → GoodSync f c r (local_state_of s) → PointsWithin s
good_within f c r s meet good = record {
  points = meet;
  sync_point = good.agrees.same.left;
  prepared = prepared_within f c r (local_state_of s) good s.sync.prepared refl;
  round = λ x e. (let h = good.syncing x e in (h.above, h.within));
}

-- a log that has a front of another up to there is the same up to there
prefix_same : (s : ℕ) (l a : List Entry) → s ≤ length l → IsPrefixOf (take s l) a → SameTo s l a
prefix_same s l a low h =
    let long : s ≤ length (take s l) = simp length-take (omega (arith, low)) in
    same_from_prefix s (take s l) l a long (IsPrefixOf-take s l) h

-- two logs that have fronts of a third are the same as far as both fronts go
prefixes_same : (s t n : ℕ) (l k a : List Entry) → SameTo s l a → SameTo t k a → n ≤ s → n ≤ t → SameTo n l k
prefixes_same s t n l k a h g low other = same_trans n l a k (same_less s n l a low h) (same_sym n k a (same_less t n k a other g))

-- a log that is sent is whole
no_checkpoint : (b : Body) (l : Log) → BodyIsIn Whole b → log_in_body b ≡ Some l → l.checkpoint ≡ None
no_checkpoint (bodies.ViewChange u n l) k fits e = subst (λ (x : Log). x.checkpoint ≡ None) (same_Some l k e) fits.log_fits.checkpoint
no_checkpoint (bodies.StartView n l) k fits e = subst (λ (x : Log). x.checkpoint ≡ None) (same_Some l k e) fits.log_fits.checkpoint
no_checkpoint (bodies.SyncPrepare l) k fits e = subst (λ (x : Log). x.checkpoint ≡ None) (same_Some l k e) fits.checkpoint
no_checkpoint _ k fits e = absurd cc

module _ {S : Type 0} (m : Meaning S) (config : Configuration) (count : config.replicas ≡ 2 * (config.replicas / 2) + 1)
    (es : List (Actor × Brings)) (safe : IsSafe m config es) where
  abbrev f : ℕ
  f = config.replicas / 2

  abbrev c : Conf
  c = safe.conf

  abbrev w : WholeWorld
  w = (passed m config es).world

  -- ---- the protocol matches each replica

  above : GapsAreAbove f c
  above =
      subst (GapsAreAbove f) safe.ran.ends (gaps_stay_above m f (opening config) safe.ran.moves (opening_meets m f config count)
      (opening_is_synced f config count) (gaps_open_above f config) safe.ran.may)

  matches : (i : ℕ) (p : Seated WholeReplica) → slice_get w.replicas i ≡ Some p → Matches m f c i p.state.state
  matches i p e =
      let shown = safe.shows.actors in
      record {
        within = omega (arith, slice_get_within w.replicas i p e, shown.replica_count, shown.config);
        inv = safe.inv;
        sync = safe.sync;
        above = above;
        state = shown.replicas i p e;
        points = shown.points i p e;
      }

  -- ---- what a letter says was said

  said : (x : Letter) → Has w.letters x → Has c.said (said_of x.peer)
  said x i = safe.shows.tells.all x.peer (Has-map (λ (y : Letter). y.peer) w.letters x i)

  log_is_prefix : (x : Letter) (l : Log) → Has w.letters x → log_in_body x.peer.body ≡ Some l → MainPrefix (main_log w) l
  log_is_prefix x l i e =
      log_prefix m f c safe.inv safe.sync (main_view w) (main_log w) (is_main_log m f w c safe.inv safe.shows.actors) x.peer.sender
      x.peer.view x.peer.body l (said x i) e

  -- ---- sync points

  good : (i : ℕ) (p : Seated WholeReplica) → slice_get w.replicas i ≡ Some p → PointsWithin p.state.state
  good i p e =
      let h = matches i p e in
      good_within f c i p.state.state h.points (subst (GoodSync f c i) h.state (safe.sync.own i h.within))

  within : AllWithin w
  within = record {
    replicas = good;
    letters = λ x l i e. (log_is_prefix x l i e).within;
    whole = λ x l i e. no_checkpoint x.peer.body l (safe.shows.tells.fits x.peer (Has-map (λ (y : Letter). y.peer) w.letters x i)).body e;
    gathered = λ i p g x e gathers has. gathered_within m f c i p.state.state (matches i p e) g gathers x has;
  }

  -- ---- changes

  with_letter : (i : ℕ) (p : Seated WholeReplica) (x : Letter) (u : View) (n : ℕ) (l : Log) (g : Gathering Change)
      → slice_get w.replicas i ≡ Some p → Has w.letters x → is_other p.state.state x.peer.sender ≡ true
      → x.peer.body ≡ bodies.ViewChange u n l
      → (after_request m x.peer p.state.state).view ≡ x.peer.view → (after_request m x.peer p.state.state).changes ≡ Some g
      → Opens (change_added change_sender g (record { sender = x.peer.sender; last_normal = u; next = n; log = l }))
  with_letter i p x u n l g e has other body view gathers =
      with_change_opens m f c i p.state.state x.peer.view
      (record { sender = x.peer.sender; last_normal = u; next = n; log = l }) g (matches i p e) other
      (subst (λ (b : Body). Has c.said (says x.peer.sender x.peer.view (word_of b))) body (said x has)) view gathers

  starts : StartsAgree m w
  starts = record {
    gathered = λ i p g e gathers. gathered_open m f c i p.state.state (matches i p e) g gathers;
    entered = λ i p v g e gathers. let k = good i p e in entered_opens p.state.state v g (omega (arith, k.points, k.sync_point)) gathers;
    with_letter = with_letter;
  }

  -- ---- fronts

  own_same : (i : ℕ) (p : Seated WholeReplica) → slice_get w.replicas i ≡ Some p
      → SameTo p.state.state.sync.sync_point p.state.state.log.entries (main_log w)
  own_same i p e =
      prefix_same p.state.state.sync.sync_point p.state.state.log.entries (main_log w) (good i p e).sync_point (safe.agreed.main i p e)

  same_to_main : (x : Letter) (l : Log) → Has w.letters x → log_in_body x.peer.body ≡ Some l → SameTo l.sync_point l.entries (main_log w)
  same_to_main x l i e = let h = log_is_prefix x l i e in prefix_same l.sync_point l.entries (main_log w) h.within h.begins

  prefixes : PrefixesAgree w
  prefixes = record {
    replicas = λ i j n p q a b low other. prefixes_same p.state.state.sync.sync_point q.state.state.sync.sync_point n
        p.state.state.log.entries q.state.state.log.entries (main_log w) (own_same i p a) (own_same j q b) low other;
    letters = λ i n p x l a b e low other. prefixes_same p.state.state.sync.sync_point l.sync_point n p.state.state.log.entries
        l.entries (main_log w) (own_same i p a) (same_to_main x l b e) low other;
  }

  can_trim : CanTrim m w
  can_trim = record { within = within; starts = starts; prefixes = prefixes }

pub safe_can_trim : {S : Type 0} (m : Meaning S) → SafeCanTrim m
safe_can_trim m config es is safe = can_trim m config (counts_from config is).replicas es safe

pub whole_can_trim : {S : Type 0} (m : Meaning S) → WholeCanTrim m
whole_can_trim m short config es is fit = safe_can_trim m config es is (whole_runs_are_safe m short config es is fit).at_last
