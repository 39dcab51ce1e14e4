-- Replies and accepts are sound.
use Rattle.std.proofs.Common.{ℕ, ◌+◌, ◌*◌}
use Rattle.nop_types.specs.Meaning.{Meaning}
use Rattle.nop_types.specs.Views.{leader_of}
use Rattle.started_views.proofs.Quorums.{leader_within}
use Rattle.protocol.specs.Conf.{Conf}
use Rattle.protocol.specs.Invariant.{Replied, Inv}
use Rattle.protocol_sync.specs.Sound.{RepliesAreSound, AcceptsAreSound}
use Rattle.protocol_sync.proofs.Facts.{quorum_with}
use Rattle.protocol_sync.proofs.Concluding.{was_replied, accepted_kept}

module _ {S : Type 0} (m : Meaning S) (f : ℕ) (c : Conf) (inv : Inv m f c) where
  pub replies_sound : RepliesAreSound m f c
  replies_sound p i =
      let t = inv.replies p i in
      record {
        low = t.low;
        log = t.log;
        had = t.had;
        within = t.within;
        leads = λ s. let q = t.leads s in (q.0, q.1, q.2, t.tag s, t.gives s);
      }

  pub accepts_sound : AcceptsAreSound m f c
  accepts_sound k client id result e =
      let a = inv.lines.grounds k client id result e in
      let said = was_replied m f c inv k client id result a in
      let q = quorum_with f (leader_of a.view (2 * f + 1)) (Replied c.replies a.view a.slot client id)
      (leader_within f a.view) a.leaders a.quorum in
      record {
        view = a.view;
        slot = a.slot;
        quorum = q.0;
        leader = q.1;
        reply = a.leaders;
        gives = a.gives;
        lead = a.log;
        leads = a.leads;
        within = a.within;
        request = said.request;
        entry = said.entry;
        same = said.same;
        answers = said.gives;
        known = a.known;
        kept = accepted_kept m f c inv k client id result a;
      }
