-- Up to its sync point a log that a letter tells begins the log from which the history is read.
use Rattle.std.proofs.Common.{◌≡◌, ℕ, List, take, Some, subst}
use Rattle.std.proofs.lemmas.Option.{same_Some}
use Rattle.nop_types.specs.Lists.{Has, IsPrefixOf}
use Rattle.nop_types.specs.Logs.{Log, IsWithin}
use Rattle.nop_types.specs.Meaning.{Meaning}
use Rattle.nop_types.specs.declared.peer.Body.{Body}
use Rattle.nop_types.specs.declared.peer.Body.TheVariants as bodies
use Rattle.nop_types.specs.declared.request.Entry.{Entry}
use Rattle.nop_types.specs.declared.view.View.{View}
use Rattle.lemmas.proofs.Prefixes.{IsPrefixOf-refl}
use Rattle.started_views.specs.Past.{LeaderHad}
use Rattle.started_views.specs.Logs.{SameTo}
use Rattle.started_views.proofs.Keeping.{synchronised_agree}
use Rattle.started_views.proofs.Logs.{same_from_prefix}
use Rattle.protocol.specs.Conf.{Conf, DidSay, last_normals}
use Rattle.protocol.specs.Invariant.{Inv}
use Rattle.protocol.specs.Said.{ViewChange, StartView, SyncPrepare, says}
use Rattle.protocol.proofs.Grounding.{grounds_of}
use Rattle.protocol_sync.specs.Laws.{IsMainLog}
use Rattle.protocol_sync.specs.Synced.{Anchored, GoodLog, Sync}
use Rattle.protocol_sync.proofs.Agreeing.{fixed_from}
use Rattle.refinement.specs.Projection.{word_of}
use Rattle.whole_world.specs.Trimming.{log_in_body}

-- the sync point is within the log, which is the same up to there as the one from which the history is read
pub record MainPrefix (main : List Entry) (l : Log) : Type 0 where
  pub within : IsWithin l
  pub begins : IsPrefixOf (take l.sync_point l.entries) main

module _ {S : Type 0} (m : Meaning S) (f : ℕ) (c : Conf) (inv : Inv m f c) (sync : Sync f c) (v : View) (main : List Entry)
    (is : IsMainLog f c v main) where
  -- what is anchored in a view, and the same as in its leader's log
  prefix_from : (w : View) (l : Log) (lead : List Entry) → LeaderHad f c.past w lead → SameTo l.sync_point l.entries lead
      → Anchored f c w l.sync_point → MainPrefix main l
  prefix_from w l lead leads same anchored = record {
    within = same.left;
    begins = synchronised_agree f c.stamps (last_normals c) c.past (grounds_of m f c inv) v w main lead l.entries l.sync_point is leads
        same (fixed_from f c sync w l.sync_point anchored);
  }

  -- what was told of the log of a view's leader
  log_of_message : (w : View) (l : Log) (lead : List Entry) → LeaderHad f c.past w lead → IsPrefixOf l.entries lead
      → GoodLog f c w l.sync_point l.entries → MainPrefix main l
  log_of_message w l lead leads begins t =
      prefix_from w l lead leads (same_from_prefix l.sync_point l.entries l.entries lead t.within (IsPrefixOf-refl l.entries) begins)
      t.anchored

  -- what a replica entered a view with
  change_prefix : (q : ℕ) (w u : View) (x : ℕ) (l : Log) → DidSay c.said q w (ViewChange u x l.sync_point l.entries) → MainPrefix main l
  change_prefix q w u x l h =
      let good = sync.points.entries q w _ (inv.said (says q w (ViewChange u x l.sync_point l.entries)) h) in
      prefix_from u l good.agrees.lead good.agrees.leads good.agrees.same good.anchored

  start_prefix : (q : ℕ) (w : View) (x : ℕ) (l : Log) → DidSay c.said q w (StartView x l.sync_point l.entries) → MainPrefix main l
  start_prefix q w x l h =
      let begun = inv.said (says q w (StartView x l.sync_point l.entries)) h in
      log_of_message w l begun.lead begun.leads begun.begins (sync.points.starts q w x l.sync_point l.entries h)

  prepare_prefix : (q : ℕ) (w : View) (l : Log) → DidSay c.said q w (SyncPrepare l.sync_point l.entries) → MainPrefix main l
  prepare_prefix q w l h =
      let prepared = inv.said (says q w (SyncPrepare l.sync_point l.entries)) h in
      log_of_message w l prepared.lead prepared.leads prepared.begins (sync.points.prepares q w l.sync_point l.entries h)

  -- whatever message tells it
  pub log_prefix : (q : ℕ) (w : View) (b : Body) (l : Log) → Has c.said (says q w (word_of b)) → log_in_body b ≡ Some l → MainPrefix main l
  log_prefix q w (bodies.ViewChange u x k) l h e = subst (MainPrefix main) (same_Some k l e) (change_prefix q w u x k h)
  log_prefix q w (bodies.StartView x k) l h e = subst (MainPrefix main) (same_Some k l e) (start_prefix q w x k h)
  log_prefix q w (bodies.SyncPrepare k) l h e = subst (MainPrefix main) (same_Some k l e) (prepare_prefix q w k h)
  log_prefix q w _ l h e = absurd cc
