-- The rounds of a leader.
use Rattle.std.proofs.Common.{◌≡◌, ℕ, ◌+◌, ◌*◌, ◌<◌, ◌≤◌, Bool, true, false, cond, Option, Some, None, refl, sym, ap, subst, ◌∙◌, arith}
use Rattle.std.proofs.Common.{inr, length, []}
use Rattle.std.specs.Prelude.{◌==◌, max, nat_le, nat_lt}
use Rattle.std.proofs.lemmas.Bool.Decides.{nat_tests}
use Rattle.nop_types.specs.declared.view.View.{View}
use Rattle.nop_types.specs.declared.replica_state.Vote.{Vote}
use Rattle.nop_types.specs.declared.replica_state.Vote.TheVariants.{Settled, Waiting}
use Rattle.nop_types.specs.Meaning.{Meaning}
use Rattle.nop_types.specs.Views.{leader_of}
use Rattle.slot_votes.specs.Votes.{vote_of, with_vote}
use Rattle.started_views.specs.Past.{HadLog, LeaderHad}
use Rattle.started_views.proofs.Logs.{same_refl}
use Rattle.std.proofs.lemmas.Bool.{eqb-true}
use Rattle.lemmas.proofs.Views.{AtMost-refl}
use Rattle.slot_votes.specs.Synchronisation.{Round, Synchronisation, closed, counted_in, vote_in}
use Rattle.protocol.specs.Conf.{Conf, Effect, DidSay, after}
use Rattle.protocol.specs.Invariant.{Own, Inv}
use Rattle.protocol.specs.LocalState.{LocalState, max_faults}
use Rattle.protocol.specs.Moves.{say_all, open_sync, commit_if, count_sync_vote, MayCountSyncVote, MayLead}
use Rattle.protocol.specs.Said.{SyncPrepare, SyncRep, SyncCommit}
use Rattle.protocol_sync.specs.Synced.{GoodLog, Synced, Anchored, Agrees, TrueSyncCommit, Syncing, GoodSync, Sync}
use Rattle.protocol.proofs.Growing.{Kept}
use Rattle.protocol.proofs.Places.{leads_it}
use Rattle.protocol.proofs.Stays.{said_lasts}
use Rattle.protocol_sync.proofs.Moves.{said_all}
use Rattle.protocol_sync.proofs.Saying.{now, sync_after, quiet_after, quiet_none, quiet_unless, none_say, unless_says}
use Rattle.protocol_sync.proofs.Lasting.{inside}
use Rattle.protocol.proofs.Votes.{vote_once, vote_holds, enough_from}

module _ {S : Type 0} (m : Meaning S) (f : ℕ) (c : Conf) (r : ℕ) (inv : Inv m f c) (sync : Sync f c) (within : r < 2 * f + 1)
    (may : MayLead (c.replicas r)) where
  abbrev p : LocalState
  p = c.replicas r

  own : Own f c r p
  own = inv.own r within

  view : p.last_normal ≡ p.view
  view = own.place.normal may.normal

  mine : r ≡ leader_of p.view (2 * f + 1)
  mine = leads_it m f c r inv within may.leads

  -- its log is the leader's
  led : (d : Conf) → HadLog d.past r p.last_normal p.log → LeaderHad f d.past p.last_normal p.log
  led d had = subst (λ (i : ℕ). d.past.log i p.last_normal ≡ Some p.log) (mine ∙ ap (λ (w : View). leader_of w (2 * f + 1)) (sym view)) had

  all_agree : (d : Conf) (s : ℕ) → HadLog d.past r p.last_normal p.log → s ≤ length p.log → Agrees f d p.last_normal p.log s
  all_agree d s had low = record { lead = p.log; leads = led d had; same = same_refl s p.log low }

  with_sync : Synchronisation → Effect
  with_sync s = record { state = record p { sync = s }; said = say_all p (SyncPrepare p.sync.sync_point p.log); replies = [] }

  -- the own log is sent with the own sync point
  own_log_is_good : (d : Conf) → GoodSync f d r (record p { log = p.log }) → GoodLog f d p.view p.sync.sync_point p.log
  own_log_is_good d g = record { within = g.agrees.same.left; anchored = subst (λ (w : View). Anchored f d w p.sync.sync_point) view g.anchored }

  -- ---- a round begins

  pub opening_round : p.sync.sync_point < length p.log → Kept m f c (after f c r (open_sync p)) → Sync f (after f c r (open_sync p))
  opening_round longer kept = at (nat_lt p.sync.sync_point (length p.log)) (p.sync.f == 0) refl refl kept
    where
      at : (b a : Bool) → nat_lt p.sync.sync_point (length p.log) ≡ b → (p.sync.f == 0) ≡ a
          → Kept m f c (after f c r
          (record {
            state = record p {
              sync = cond b (cond a (record p.sync { sync_point = length p.log; syncing = None })
                  (record p.sync { syncing = Some (record { len = length p.log; votes = [] }) })) p.sync;
            };
            said = say_all p (SyncPrepare p.sync.sync_point p.log);
            replies = [];
          }))
          → Sync f (after f c r
          (record {
            state = record p {
              sync = cond b (cond a (record p.sync { sync_point = length p.log; syncing = None })
                  (record p.sync { syncing = Some (record { len = length p.log; votes = [] }) })) p.sync;
            };
            said = say_all p (SyncPrepare p.sync.sync_point p.log);
            replies = [];
          }))
      at false a is alone kept = absurd (grind (arith, nat_tests, is, longer))
      at true true is alone kept =
          let e : Effect = record {
            state = record p { sync = record p.sync { sync_point = length p.log; syncing = None } };
            said = say_all p (SyncPrepare p.sync.sync_point p.log);
            replies = [];
          } in
          let d = after f c r e in
          let had = now m f c r e inv sync within kept in
          let g = inside m f c d inv kept.1 sync r within p.log had in
          let none : p.sync.f ≡ 0 = eqb-true p.sync.f 0 alone in
          quiet_after m f c r e inv sync within kept
          (quiet_unless (max_faults p == 0) p (SyncPrepare p.sync.sync_point p.log) (λ s. (λ i. cc, λ i. cc)))
          (unless_says (max_faults p == 0) f d p (SyncPrepare p.sync.sync_point p.log) (own_log_is_good d g)) (record {
            count = g.count;
            anchored = inr (
              p.last_normal,
              AtMost-refl p.last_normal,
              record {
                lead = p.log;
                leads = led d had;
                within = omega arith;
                others = record {
                  members = [];
                  enough = omega (arith, none, g.count);
                  once = λ q. omega arith;
                  within = λ q i. absurd (omega (arith, i));
                  apart = λ q i a. omega (arith, i);
                  holds = λ q i. absurd (omega (arith, i));
                };
              },
            );
            agrees = all_agree d (length p.log) had (omega arith);
            prepared = λ one. absurd ((g.prepared one).follows mine);
            syncing = λ x i. absurd cc;
          })
      at true false is alone kept =
          let e : Effect = record {
            state = record p { sync = record p.sync { syncing = Some (record { len = length p.log; votes = [] }) } };
            said = say_all p (SyncPrepare p.sync.sync_point p.log);
            replies = [];
          } in
          let d = after f c r e in
          let g = inside m f c d inv kept.1 sync r within p.log (now m f c r e inv sync within kept) in
          quiet_after m f c r e inv sync within kept
          (quiet_unless (max_faults p == 0) p (SyncPrepare p.sync.sync_point p.log) (λ s. (λ i. cc, λ i. cc)))
          (unless_says (max_faults p == 0) f d p (SyncPrepare p.sync.sync_point p.log) (own_log_is_good d g)) (record {
            count = g.count;
            anchored = g.anchored;
            agrees = g.agrees;
            prepared = g.prepared;
            syncing = λ x i.
                let same : record { len = length p.log; votes = [] } ≡ x = cc in
                subst (Syncing f d r p.view p.status p.sync.sync_point (length p.log)) same (record {
                  normal = may.normal;
                  leads = mine;
                  above = longer;
                  within = omega arith;
                  once = λ q. omega arith;
                  members = λ q i. absurd (omega (arith, i));
                  apart = λ q i a. omega (arith, i);
                  voted = λ q i. absurd (omega (arith, i));
                });
          })

  -- ---- a vote is counted

  module _ (q k : ℕ) (vote : MayCountSyncVote f c p q k) where
    abbrev effect_of : Option Round → Effect
    effect_of o = record {
      state = record p { sync = counted_in p.sync o q k };
      said = commit_if p k (vote_in p.sync.f o q k);
      replies = [];
    }

    abbrev voted : Round → Round
    voted x = record x { votes = with_vote x.votes q }

    abbrev effect_by : Round → Bool → Vote → Effect
    effect_by x b v = record {
      state = record p { sync = closed p.sync (cond b (voted x) x) (cond b v Waiting) };
      said = commit_if p k (cond b v Waiting);
      replies = [];
    }

    module _ (x : Round) (syncs : p.sync.syncing ≡ Some x) where
      more : (d : Conf) → GoodSync f d r p → DidSay d.said q p.view (SyncRep k) → x.len ≡ k
          → Syncing f d r p.view p.status p.sync.sync_point (length p.log) (voted x)
      more d g said same =
          let h = g.syncing x syncs in
          record {
            normal = h.normal;
            leads = h.leads;
            above = h.above;
            within = h.within;
            once = vote_once x.votes q;
            members = vote_holds (λ i. i < 2 * f + 1) x.votes q vote.vote.within h.members;
            apart = vote_holds (λ i. i ≡ r → ⊥) x.votes q (λ e. vote.vote.apart (e ∙ sym own.number)) h.apart;
            voted = vote_holds (λ i. DidSay d.said i p.view (SyncRep x.len)) x.votes q
                (subst (λ (n : ℕ). DidSay d.said q p.view (SyncRep n)) (sym same) said) h.voted;
          }

      at : (b : Bool) (v : Vote) → (x.len == k) ≡ b → vote_of p.sync.f (with_vote x.votes q) ≡ v
          → Kept m f c (after f c r (effect_by x b v)) → Sync f (after f c r (effect_by x b v))
      at false v is settles kept =
          let e = effect_by x false v in
          let g = inside m f c (after f c r e) inv kept.1 sync r within p.log (now m f c r e inv sync within kept) in
          quiet_after m f c r e inv sync within kept quiet_none (none_say f (after f c r e)) (record {
            count = g.count;
            anchored = g.anchored;
            agrees = g.agrees;
            prepared = g.prepared;
            syncing = λ y i. g.syncing y (syncs ∙ i);
          })
      at true Waiting is settles kept =
          let e = effect_by x true Waiting in
          let d = after f c r e in
          let g = inside m f c d inv kept.1 sync r within p.log (now m f c r e inv sync within kept) in
          let said = said_lasts m f c d kept.1 q p.view (SyncRep k) vote.vote.said in
          quiet_after m f c r e inv sync within kept quiet_none (none_say f (after f c r e)) (record {
            count = g.count;
            anchored = g.anchored;
            agrees = g.agrees;
            prepared = g.prepared;
            syncing = λ y i. let same : voted x ≡ y = cc in subst (Syncing f d r p.view p.status p.sync.sync_point (length p.log)) same
                (more d g said (eqb-true x.len k is));
          })
      at true Settled is settles kept =
          let e = effect_by x true Settled in
          let d = after f c r e in
          let had = now m f c r e inv sync within kept in
          let g = inside m f c d inv kept.1 sync r within p.log had in
          let same : x.len ≡ k = eqb-true x.len k is in
          let said = said_lasts m f c d kept.1 q p.view (SyncRep k) vote.vote.said in
          let h = more d g said same in
          let top : x.len ≡ max p.sync.sync_point x.len = omega (arith, h.above) in
          let enough : p.sync.f ≤ length (with_vote x.votes q) = enough_from p.sync.f (length (with_vote x.votes q))
          (nat_le p.sync.f (length (with_vote x.votes q))) refl settles in
          let synced : Synced f d p.view x.len = record {
            lead = p.log;
            leads = subst (λ (w : View). LeaderHad f d.past w p.log) view (led d had);
            within = h.within;
            others = record {
              members = with_vote x.votes q;
              enough = omega (arith, enough, g.count);
              once = h.once;
              within = h.members;
              apart = λ i j a. h.apart i j (a ∙ sym mine);
              holds = h.voted;
            };
          } in
          let anchored : Anchored f d p.view x.len = inr (p.view, AtMost-refl p.view, synced) in
          let start = kept.1.starts p.last_normal own.place.start own.place.is_start in
          let commit : TrueSyncCommit f d r p.view x.len =
          record {
            sender = mine;
            started = (own.place.start, subst (λ (w : View). d.past.start w ≡ Some own.place.start) view start);
            anchored = anchored;
          } in
          sync_after m f c r e inv sync within kept
          (λ i w s j. absurd (let a = said_all (max_faults p == 0) p (SyncCommit k) (SyncRep s) i w j in let b = a.2 in cc))
          (λ i w s j.
          let a = said_all (max_faults p == 0) p (SyncCommit k) (SyncCommit s) i w j in
          let len : s ≡ k = (let b = a.2 in cc) in
          subst (λ (n : ℕ). TrueSyncCommit f d n w s) (sym (a.0 ∙ own.number)) (subst (λ (v : View). TrueSyncCommit f d r v s) (sym a.1)
          (subst (TrueSyncCommit f d r p.view) (same ∙ sym len) commit)))
          (unless_says (max_faults p == 0) f d p (SyncCommit k) tt)
          (record {
            count = g.count;
            anchored = subst (λ (n : ℕ). Anchored f d p.last_normal n) top (subst (λ (w : View). Anchored f d w x.len) (sym view) anchored);
            agrees = subst (λ (n : ℕ). Agrees f d p.last_normal p.log n) top (all_agree d x.len had h.within);
            prepared = λ one. absurd ((g.prepared one).follows mine);
            syncing = λ y i. absurd cc;
          })

    by_round : (o : Option Round) → p.sync.syncing ≡ o → Kept m f c (after f c r (effect_of o)) → Sync f (after f c r (effect_of o))
    by_round None is kept =
        let e = effect_of None in
        let g = inside m f c (after f c r e) inv kept.1 sync r within p.log (now m f c r e inv sync within kept) in
        quiet_after m f c r e inv sync within kept quiet_none (none_say f (after f c r e)) (record {
          count = g.count;
          anchored = g.anchored;
          agrees = g.agrees;
          prepared = g.prepared;
          syncing = g.syncing;
        })
    by_round (Some x) is kept = at x is (x.len == k) (vote_of p.sync.f (with_vote x.votes q)) refl refl kept

    pub voting_round : Kept m f c (after f c r (count_sync_vote p q k)) → Sync f (after f c r (count_sync_vote p q k))
    voting_round kept = by_round p.sync.syncing refl kept
