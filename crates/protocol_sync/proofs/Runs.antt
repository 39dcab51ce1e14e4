-- Lists of moves keep what holds of sync points.
use Rattle.std.proofs.Common.{◌≡◌, ℕ, ◌+◌, ◌*◌, ◌<◌, Bool, true, false, refl, sym, ap, subst, length, List, [], ◌∷◌, Some}
use Rattle.std.specs.Prelude.{◌==◌}
use Rattle.nop_types.specs.declared.view.View.{View}
use Rattle.nop_types.specs.declared.request.Entry.TheVariants.{NoOp, Req}
use Rattle.nop_types.specs.Lists.{Has}
use Rattle.nop_types.specs.Meaning.{Meaning}
use Rattle.nop_types.specs.Slots.{set_slot}
use Rattle.nop_types.specs.Views.{leader_of}
use Rattle.lemmas.proofs.Prefixes.{IsPrefixOf-refl, IsPrefixOf-trans}
use Rattle.lemmas.proofs.Views.{AtMost-refl}
use Rattle.log_merge.specs.Starting.{start_of, start_point}
use Rattle.oum_receiver.specs.Receiving.{offered, front_taken, advanced}
use Rattle.slot_votes.specs.Agreement.{begun, gap_vote_counted}
use Rattle.started_views.specs.Past.{Past, HadLog}
use Rattle.started_views.proofs.Logs.{same_from_prefix}
use Rattle.protocol.specs.Conf.{Conf, after}
use Rattle.protocol.specs.Evolves.{Evolves}
use Rattle.protocol.specs.Invariant.{Inv}
use Rattle.protocol_sync.specs.Laws.{SyncsKeep}
use Rattle.protocol.specs.LocalState.{LocalState, leads, max_faults}
use Rattle.protocol.specs.Moves as moves
use Rattle.protocol.specs.Moves.{say, say_all, waiting, logged, appended, entered, enter_as}
use Rattle.protocol.specs.Replies.{reply_to}
use Rattle.protocol.specs.Runs.{Act, Queue, TakeFront, Fill, OpenGap, CountGapVote, WriteGap, AddGap, Enter, KeepChange, OpenView, Adopt}
use Rattle.protocol.specs.Runs.{Say, Overlay, Obey, OpenSync, CountSyncVote, RepeatCommit, Move, Acts}
use Rattle.protocol.specs.Runs.{happens, May, run, MayAll}
use Rattle.protocol.specs.Said.{Said, Word, Plain, Found, GapCommit, GapRep, ViewChange, StartView, SyncPrepare, SyncRep, SyncCommit, says}
use Rattle.protocol_sync.specs.Synced.{GoodSync, Sync}
use Rattle.protocol.specs.Truth.{Begun, MayRepeat}
use Rattle.protocol.proofs.Places.{below_of}
use Rattle.protocol.proofs.Growing.{Kept}
use Rattle.protocol.proofs.Runs.{happens_keeps}
use Rattle.protocol_sync.proofs.Moves.{in_view, entering, adopting, overlaying, obeying, repeating}
use Rattle.protocol_sync.proofs.Rounds.{opening_round, voting_round}
use Rattle.protocol_sync.proofs.Saying.{quiet_none, quiet_one, quiet_unless, quiet_both}
use Rattle.protocol_sync.proofs.Saying.{none_say, one_says, unless_says, both_say}
use Rattle.protocol_sync.proofs.Lasting.{anchored_lasts, commit_lasts, inside, point_lasts, rep_lasts, good_log_lasts}
use Rattle.protocol_sync.proofs.SentLogs.{say_is_good, start_is_good, start_agrees}

-- what may be said again is neither an answer nor a commit of a sync point
quiet_word : (f : ℕ) (c : Conf) (q : ℕ) (w : View) (x : Word) → MayRepeat f c q w x → (s : ℕ) → (SyncRep s ≡ x → ⊥) × (SyncCommit s ≡ x → ⊥)
quiet_word f c q w Plain t s = (λ e. cc, λ e. cc)
quiet_word f c q w (Found k r) t s = (λ e. cc, λ e. cc)
quiet_word f c q w (GapCommit k) t s = (λ e. cc, λ e. cc)
quiet_word f c q w (GapRep k) t s = (λ e. cc, λ e. cc)
quiet_word f c q w (ViewChange u x z l) t s = (λ e. cc, λ e. cc)
quiet_word f c q w (StartView x z l) t s = (λ e. cc, λ e. cc)
quiet_word f c q w (SyncPrepare z l) t s = (λ e. cc, λ e. cc)
quiet_word f c q w (SyncRep k) t s = absurd t
quiet_word f c q w (SyncCommit k) t s = absurd t

module _ {S : Type 0} (m : Meaning S) (f : ℕ) where
  module _ (c : Conf) (r : ℕ) (inv : Inv m f c) (sync : Sync f c) where
    abbrev p : LocalState
    p = c.replicas r

    entered_syncs : (v : View) (b : Bool) → r < 2 * f + 1 → Kept m f c (after f c r (enter_as b (entered p v)))
        → Sync f (after f c r (enter_as b (entered p v)))
    entered_syncs v true l kept = entering m f c r inv sync l v (enter_as true (entered p v)).state.changes
        (enter_as true (entered p v)).said kept (quiet_unless (max_faults p == 0) (entered p v) Plain (λ s. (λ e. cc, λ e. cc)))
        (unless_says (max_faults p == 0) f (after f c r (enter_as true (entered p v))) (entered p v) Plain tt)
    entered_syncs v false l kept =
        entering m f c r inv sync l v (enter_as false (entered p v)).state.changes (enter_as false (entered p v)).said kept
        (quiet_both (say_all (entered p v) Plain) (say (entered p v) (ViewChange p.last_normal p.next p.sync.sync_point p.log))
        (quiet_unless (max_faults p == 0) (entered p v) Plain (λ s. (λ e. cc, λ e. cc)))
        (quiet_one (entered p v) (ViewChange p.last_normal p.next p.sync.sync_point p.log) (λ s. (λ e. cc, λ e. cc))))
        (let d = after f c r (enter_as false (entered p v)) in
        both_say f d (say_all (entered p v) Plain) (say (entered p v) (ViewChange p.last_normal p.next p.sync.sync_point p.log))
        (unless_says (max_faults p == 0) f d (entered p v) Plain tt)
        (one_says f d (entered p v) (ViewChange p.last_normal p.next p.sync.sync_point p.log) tt))

    act_syncs : (a : Act) → May f c (Acts r a) → Kept m f c (happens m f c (Acts r a)) → Sync f (happens m f c (Acts r a))
    act_syncs (Queue x) (l, may) kept = in_view m f c r inv sync l p.log p.next (offered p.receiver x) p.gap p.changes [] [] kept quiet_none
        (none_say f (happens m f c (Acts r (Queue x))))
    act_syncs (TakeFront q) (l, may) kept = in_view m f c r inv sync l (logged p q).log (p.next + 1)
        (front_taken p.receiver) p.gap p.changes [] (reply_to m (logged p q) (length p.log + 1) q) kept quiet_none
        (none_say f (happens m f c (Acts r (TakeFront q))))
    act_syncs (Fill q) (l, may) kept = in_view m f c r inv sync l (appended p (Req q)).log (p.next + 1)
        (advanced p.receiver (p.next + 1)) p.gap p.changes [] (reply_to m (appended p (Req q)) (length p.log + 1) q) kept quiet_none
        (none_say f (happens m f c (Acts r (Fill q))))
    act_syncs OpenGap (l, may) kept = in_view m f c r inv sync l (appended p NoOp).log (p.next + 1) (advanced p.receiver (p.next + 1))
        (waiting (begun (length p.log + 1) (max_faults p))) p.changes (say_all p (GapCommit (length p.log + 1))) [] kept
        (quiet_unless (max_faults p == 0) p (GapCommit (length p.log + 1)) (λ s. (λ e. cc, λ e. cc)))
        (unless_says (max_faults p == 0) f (happens m f c (Acts r OpenGap)) p (GapCommit (length p.log + 1)) tt)
    act_syncs (CountGapVote g q) (l, may) kept = in_view m f c r inv sync l p.log p.next p.receiver
        (waiting (gap_vote_counted g q)) p.changes [] [] kept quiet_none
        (none_say f (happens m f c (Acts r (CountGapVote g q))))
    act_syncs (WriteGap k) (l, may) kept = in_view m f c r inv sync l (set_slot p.log k NoOp) p.next p.receiver p.gap p.changes
        (say p (GapRep k)) [] kept (quiet_one p (GapRep k) (λ s. (λ e. cc, λ e. cc)))
        (one_says f (happens m f c (Acts r (WriteGap k))) p (GapRep k) tt)
    act_syncs AddGap (l, may) kept = in_view m f c r inv sync l (appended p NoOp).log (p.next + 1)
        (advanced p.receiver (p.next + 1)) p.gap p.changes (say p (GapRep (length p.log + 1))) [] kept
        (quiet_one p (GapRep (length p.log + 1)) (λ s. (λ e. cc, λ e. cc)))
        (one_says f (happens m f c (Acts r AddGap)) p (GapRep (length p.log + 1)) tt)
    act_syncs (Enter v) (l, may) kept = entered_syncs v (leads (entered p v)) l kept
    act_syncs (KeepChange g x) (l, may) kept = in_view m f c r inv sync l p.log p.next p.receiver p.gap
        (moves.keep_change p g x).state.changes [] [] kept quiet_none
        (none_say f (happens m f c (Acts r (KeepChange g x))))
    act_syncs (OpenView g) (l, may) kept =
        let s = start_of g.view g.changes in
        let was = (inv.own r l).changes.gathers g may.gathers in
        let z : ℕ = start_point g.changes in
        let d = happens m f c (Acts r (OpenView g)) in
        let point = start_is_good m f c r inv sync l g may kept in
        adopting m f c r inv sync l p.view s.next z s.log (say_all p (StartView s.next z s.log)) (moves.open_view m p g).replies
        ((inv.own r l).place.change was.change) kept (quiet_unless (max_faults p == 0) p (StartView s.next z s.log) (λ s. (λ e. cc, λ e. cc)))
        (unless_says (max_faults p == 0) f d p (StartView s.next z s.log) point)
        point.anchored (start_agrees m f c r inv sync l g may kept)
    act_syncs (Adopt v x z log) (l, may) kept =
        let e = moves.adopt m p v x z log in
        let d = after f c r e in
        let good_log = sync.points.starts (leader_of v p.replicas) v x z log may.said in
        let begun : Begun f c (leader_of v p.replicas) v x log = inv.said (says (leader_of v p.replicas) v (StartView x z log)) may.said in
        let n = kept.1.leads v begun.lead begun.leads in
        adopting m f c r inv sync l v x z log [] e.replies (below_of m f c r inv l v may.at_most may.change) kept quiet_none
        (none_say f d) (anchored_lasts m f c d inv kept.1 v v z (AtMost-refl v) good_log.anchored)
        (record {
          lead = n.0;
          leads = n.1;
          same = same_from_prefix z log log n.0 good_log.within (IsPrefixOf-refl log) (IsPrefixOf-trans log begun.lead n.0 begun.begins n.2);
        })
    act_syncs (Say x) (l, may) kept = in_view m f c r inv sync l p.log p.next p.receiver p.gap p.changes (say p x) [] kept
        (quiet_one p x (quiet_word f c p.number p.view x may.true))
        (one_says f (happens m f c (Acts r (Say x))) p x (say_is_good m f c r inv sync l x kept may.point))
    act_syncs (Overlay z log) (l, may) kept = overlaying m f c r inv sync l z log may kept
    act_syncs (Obey k) (l, may) kept = obeying m f c r inv sync l k may kept
    act_syncs OpenSync (l, may) kept = opening_round m f c r inv sync l may.may_lead may.longer kept
    act_syncs (CountSyncVote q k) (l, may) kept = voting_round m f c r inv sync l may.may_lead q k may kept
    act_syncs RepeatCommit (l, may) kept = repeating m f c r inv sync l may kept

  -- a move that leaves the replicas, what they said and the past
  outside : (c : Conf) (x : Move) → Inv m f c → Sync f c → May f c x → (happens m f c x).replicas ≡ c.replicas
      → (happens m f c x).said ≡ c.said → (happens m f c x).past ≡ c.past → Sync f (happens m f c x)
  outside c x inv sync may replicas said past =
      let d : Conf = happens m f c x in
      let ev : Evolves f c d = (happens_keeps m f c x inv may).1 in
      let before : (y : Said) → Has d.said y → Has c.said y = λ y i. subst (λ (l : List Said). Has l y) said i in
      record {
        reps = λ q w s h. rep_lasts m f c d inv ev q w s (sync.reps q w s (before (says q w (SyncRep s)) h));
        commits = λ q w s h. commit_lasts m f c d inv ev q w s (sync.commits q w s (before (says q w (SyncCommit s)) h));
        points = record {
          entries = λ q v o h. point_lasts m f c d inv ev o
              (sync.points.entries q v o (subst (λ (t : Past). t.entry q v ≡ Some o) past h));
          starts = λ q w n z l h. good_log_lasts m f c d inv ev w z l (sync.points.starts q w n z l (before (says q w (StartView n z l)) h));
          prepares = λ q w z l h. good_log_lasts m f c d inv ev w z l (sync.points.prepares q w z l (before (says q w (SyncPrepare z l)) h));
        };
        own = λ q l.
            let had : HadLog d.past q (c.replicas q).last_normal (c.replicas q).log =
            subst (λ (t : Past). HadLog t q (c.replicas q).last_normal (c.replicas q).log) (sym past) (inv.current q l) in
            let g = inside m f c d inv ev sync q l (c.replicas q).log had in
            subst (GoodSync f d q) (sym (ap (λ (t : ℕ → LocalState). t q) replicas)) (record {
              count = g.count;
              anchored = g.anchored;
              agrees = g.agrees;
              prepared = g.prepared;
              syncing = g.syncing;
            });
      }

  pub happens_syncs : (c : Conf) (x : Move) → Inv m f c → Sync f c → May f c x → Sync f (happens m f c x)
  happens_syncs c (Acts r a) inv sync may = act_syncs c r inv sync a may (happens_keeps m f c (Acts r a) inv may)
  happens_syncs c x inv sync may = outside c x inv sync may refl refl refl

  pub run_syncs : (c : Conf) (xs : List Move) → Inv m f c → Sync f c → MayAll m f c xs → Sync f (run m f c xs)
  run_syncs c [] inv sync may = sync
  run_syncs c (x ∷ xs) inv sync (may, rest) = run_syncs (happens m f c x) xs (happens_keeps m f c x inv may).0
      (happens_syncs c x inv sync may) rest

pub syncs_keep : {S : Type 0} (m : Meaning S) → SyncsKeep m
syncs_keep m f c xs inv sync may = run_syncs m f c xs inv sync may
