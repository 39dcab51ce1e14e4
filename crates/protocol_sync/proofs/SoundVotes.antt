-- Answers, votes and sync points are sound.
use Rattle.std.proofs.Common.{ℕ}
use Rattle.nop_types.specs.Meaning.{Meaning}
use Rattle.protocol.specs.Conf.{Conf}
use Rattle.protocol.specs.Invariant.{Inv}
use Rattle.protocol.specs.Said.{GapRep, says}
use Rattle.protocol.specs.Truth.{Answered}
use Rattle.protocol.proofs.Facts.{has_counts}
use Rattle.protocol_sync.specs.Sound.{VotesAreSound, SyncRepliesAreSound, SyncPointsAreSound}
use Rattle.protocol_sync.specs.Synced.{Sync}
use Rattle.protocol_sync.proofs.SoundPoints.{led_synchronised, synchronised}

module _ {S : Type 0} (m : Meaning S) (f : ℕ) (c : Conf) (inv : Inv m f c) (sync : Sync f c) where
  pub votes_sound : VotesAreSound f c
  votes_sound = record {
    replies = λ q w k h. let t : Answered f c q w k = inv.said (says q w (GapRep k)) h in (t.log, t.had, t.noop);
    gap = λ r g q l e i. ((inv.own r l).gap.waits g e).voted q (has_counts g.votes q i);
    sync = λ r x q l e i. ((sync.own r l).syncing x e).voted q (has_counts x.votes q i);
  }

  pub sync_replies_sound : SyncRepliesAreSound f c
  sync_replies_sound = record {
    replies = λ q w s h.
        let t = sync.reps q w s h in
        record {
          log = t.log;
          had = t.had;
          lead = t.agrees.lead;
          leads = t.agrees.leads;
          within = t.agrees.same.right;
          same = t.agrees.same;
        };
    prepared = λ r l one. ((sync.own r l).prepared one).said;
  }

  pub sync_points_sound : SyncPointsAreSound f c
  sync_points_sound = record {
    points = λ r within one.
        let o = sync.own r within in
        let p = c.replicas r in
        synchronised m f c inv sync p.last_normal p.log p.sync.sync_point one o.anchored o.agrees;
    commits = λ q w s h.
        let t = sync.commits q w s h in
        let start = inv.starts w t.started.0 t.started.1 in
        record {
          sender = t.sender;
          lead = start.lead;
          leads = start.leads;
          point = λ one. led_synchronised m f c inv sync w start.lead s one start.leads t.anchored;
        };
  }
