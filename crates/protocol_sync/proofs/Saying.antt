-- Each move keeps what holds of sync points.
use Rattle.std.proofs.Common.{◌≡◌, ℕ, ◌+◌, ◌*◌, ◌<◌, Bool, true, false, ap, subst, sym, inl, inr, List, [], ◌++◌}
use Rattle.std.specs.Prelude.{⊤, not}
use Rattle.nop_types.specs.declared.request.Entry.{Entry}
use Rattle.nop_types.specs.Views.{is_view}
use Rattle.nop_types.specs.declared.view.View.{View}
use Rattle.nop_types.specs.Meaning.{Meaning}
use Rattle.lemmas.proofs.Members.{Has-append_cases, Has-one, Has-none}
use Rattle.started_views.specs.Past.{HadLog, with_log, entered_with}
use Rattle.started_views.proofs.Past.{entry_cases}
use Rattle.lemmas.proofs.Views.{AtMost-refl}
use Rattle.protocol.specs.Conf.{Conf, Effect, DidSay, after}
use Rattle.protocol.specs.Invariant.{Inv}
use Rattle.protocol.specs.LocalState.{LocalState, standing}
use Rattle.protocol.specs.Moves.{say, say_unless}
use Rattle.protocol.specs.Said.{Said, Word, StartView, SyncPrepare, SyncRep, SyncCommit, says}
use Rattle.protocol_sync.specs.Synced.{GoodLog, GoodPoint, TrueSyncRep, TrueSyncCommit, GoodSync, Sync}
use Rattle.protocol.proofs.Growing.{Kept}
use Rattle.lemmas.proofs.Functions.{put-here, put-other, put-all}
use Rattle.protocol_sync.proofs.Lasting.{rep_lasts, commit_lasts, inside, anchored_lasts, agrees_stays, good_log_lasts, point_lasts}

-- no answer and no commit of a sync point is among what is said
abbrev pub IsQuiet : List Said → Type 0
IsQuiet said = (q : ℕ) (w : View) (s : ℕ) → (DidSay said q w (SyncRep s) → ⊥) × (DidSay said q w (SyncCommit s) → ⊥)

pub quiet_none : IsQuiet []
quiet_none q w s = (λ h. Has-none _ h, λ h. Has-none _ h)

-- the only word
word_of : (p : LocalState) (x y : Word) (q : ℕ) (w : View) → DidSay (say p x) q w y → y ≡ x
word_of p x y q w h = ap (λ (z : Said). z.word) (Has-one (says q w y) (says p.number p.view x) h)

pub quiet_one : (p : LocalState) (x : Word) → ((s : ℕ) → (SyncRep s ≡ x → ⊥) × (SyncCommit s ≡ x → ⊥)) → IsQuiet (say p x)
quiet_one p x apart q w s = (λ h. (apart s).0 (word_of p x (SyncRep s) q w h), λ h. (apart s).1 (word_of p x (SyncCommit s) q w h))

pub quiet_unless : (b : Bool) (p : LocalState) (x : Word) → ((s : ℕ) → (SyncRep s ≡ x → ⊥) × (SyncCommit s ≡ x → ⊥))
    → IsQuiet (say_unless b p x)
quiet_unless true p x apart = quiet_none
quiet_unless false p x apart = quiet_one p x apart

pub quiet_both : (a b : List Said) → IsQuiet a → IsQuiet b → IsQuiet (a ++ b)
quiet_both a b h g q w s = (
  λ i. elim (Has-append_cases a b _ i) [ inl x ↦ (h q w s).0 x | inr x ↦ (g q w s).0 x ],
  λ i. elim (Has-append_cases a b _ i) [ inl x ↦ (h q w s).1 x | inr x ↦ (g q w s).1 x ],
)

-- ---- logs that are sent

-- each reaches its sync point
pub record SayGoodLogs (f : ℕ) (d : Conf) (said : List Said) : Type 0 where
  pub starts : (q : ℕ) (w : View) (x z : ℕ) (l : List Entry) → DidSay said q w (StartView x z l) → GoodLog f d w z l
  pub prepares : (q : ℕ) (w : View) (z : ℕ) (l : List Entry) → DidSay said q w (SyncPrepare z l) → GoodLog f d w z l

abbrev pub SaysGoodLog : ℕ → Conf → View → Word → Type 0
SaysGoodLog f d w (StartView x z l) = GoodLog f d w z l
SaysGoodLog f d w (SyncPrepare z l) = GoodLog f d w z l
SaysGoodLog f d w _ = ⊤

pub none_say : (f : ℕ) (d : Conf) → SayGoodLogs f d []
none_say f d = record { starts = λ q w x z l h. absurd (Has-none _ h); prepares = λ q w z l h. absurd (Has-none _ h) }

said_word : (f : ℕ) (d : Conf) (p : LocalState) (x y : Word) (q : ℕ) (w : View) → SaysGoodLog f d p.view x → DidSay (say p x) q w y
    → SaysGoodLog f d w y
said_word f d p x y q w t h =
    let e = Has-one (says q w y) (says p.number p.view x) h in
    let view : w ≡ p.view = ap (λ (s : Said). s.view) e in
    let word : y ≡ x = ap (λ (s : Said). s.word) e in
    subst (λ (v : View). SaysGoodLog f d v y) (sym view) (subst (SaysGoodLog f d p.view) (sym word) t)

pub one_says : (f : ℕ) (d : Conf) (p : LocalState) (x : Word) → SaysGoodLog f d p.view x → SayGoodLogs f d (say p x)
one_says f d p x t = record {
  starts = λ q w y z l h. said_word f d p x (StartView y z l) q w t h;
  prepares = λ q w z l h. said_word f d p x (SyncPrepare z l) q w t h;
}

pub unless_says : (b : Bool) (f : ℕ) (d : Conf) (p : LocalState) (x : Word) → SaysGoodLog f d p.view x → SayGoodLogs f d (say_unless b p x)
unless_says true f d p x t = none_say f d
unless_says false f d p x t = one_says f d p x t

pub both_say : (f : ℕ) (d : Conf) (a b : List Said) → SayGoodLogs f d a → SayGoodLogs f d b → SayGoodLogs f d (a ++ b)
both_say f d a b s t = record {
  starts = λ q w x z l h. elim (Has-append_cases a b _ h) [ inl i ↦ s.starts q w x z l i | inr i ↦ t.starts q w x z l i ];
  prepares = λ q w z l h. elim (Has-append_cases a b _ h) [ inl i ↦ s.prepares q w z l i | inr i ↦ t.prepares q w z l i ];
}

module _ {S : Type 0} (m : Meaning S) (f : ℕ) (c : Conf) (r : ℕ) (e : Effect) (inv : Inv m f c) (sync : Sync f c) (within : r < 2 * f + 1)
    (kept : Kept m f c (after f c r e)) where
  abbrev d : Conf
  d = after f c r e

  mine : d.replicas r ≡ e.state
  mine = put-here c.replicas r e.state

  pub now : HadLog d.past r e.state.last_normal e.state.log
  now = subst (λ (p : LocalState). HadLog d.past r p.last_normal p.log) mine (kept.0.current r within)

  abbrev Reps : Type 0
  Reps = (q : ℕ) (w : View) (s : ℕ) → DidSay e.said q w (SyncRep s) → TrueSyncRep f d q w s

  abbrev Commits : Type 0
  Commits = (q : ℕ) (w : View) (s : ℕ) → DidSay e.said q w (SyncCommit s) → TrueSyncCommit f d q w s

  -- what the replica had, where it enters a view
  point_here : GoodPoint f d (entered_with (standing (c.replicas r)))
  point_here =
      let p : LocalState = c.replicas r in
      let o = sync.own r within in
      record {
        anchored = anchored_lasts m f c d inv kept.1 p.last_normal p.last_normal p.sync.sync_point (AtMost-refl p.last_normal) o.anchored;
        agrees = agrees_stays m f c d inv kept.1 p.last_normal p.log p.sync.sync_point o.agrees;
      }

  pub sync_after : Reps → Commits → SayGoodLogs f d e.said → GoodSync f d r e.state → Sync f d
  sync_after reps commits tells own = record {
    points = record {
      entries = λ q w o h. elim (entry_cases (not (is_view e.state.view (c.replicas r).view)) r e.state.view
          (entered_with (standing (c.replicas r))) (with_log r e.state.last_normal e.state.log c.past) q w o h) [
            | inl (a, b, t, same) ↦ subst (GoodPoint f d) (sym same) point_here
            | inr old ↦ point_lasts m f c d inv kept.1 o (sync.points.entries q w o old)
          ];
      starts = λ q w x z l h. elim (Has-append_cases e.said c.said (says q w (StartView x z l)) h) [
        | inl g ↦ tells.starts q w x z l g
        | inr g ↦ good_log_lasts m f c d inv kept.1 w z l (sync.points.starts q w x z l g)
      ];
      prepares = λ q w z l h. elim (Has-append_cases e.said c.said (says q w (SyncPrepare z l)) h) [
        | inl g ↦ tells.prepares q w z l g
        | inr g ↦ good_log_lasts m f c d inv kept.1 w z l (sync.points.prepares q w z l g)
      ];
    };
    reps = λ q w s h. elim (Has-append_cases e.said c.said (says q w (SyncRep s)) h) [
      | inl g ↦ reps q w s g
      | inr g ↦
          rep_lasts m f c d inv kept.1 q w s (sync.reps q w s g)
    ];
    commits = λ q w s h. elim (Has-append_cases e.said c.said (says q w (SyncCommit s)) h) [
      | inl g ↦ commits q w s g
      | inr g ↦
          commit_lasts m f c d inv kept.1 q w s (sync.commits q w s g)
    ];
    own = put-all (λ q p. q < 2 * f + 1 → GoodSync f d q p) c.replicas r e.state (λ l. own) (λ q a l.
        let g = inside m f c d inv kept.1 sync q l (c.replicas q).log (subst (λ (p : LocalState). HadLog d.past q p.last_normal p.log)
        (put-other c.replicas r e.state q a) (kept.0.current q l)) in
        record { count = g.count; anchored = g.anchored; agrees = g.agrees; prepared = g.prepared; syncing = g.syncing });
  }

  pub quiet_after : IsQuiet e.said → SayGoodLogs f d e.said → GoodSync f d r e.state → Sync f d
  quiet_after quiet tells own = sync_after (λ q w s h. absurd ((quiet q w s).0 h)) (λ q w s h. absurd ((quiet q w s).1 h)) tells own
