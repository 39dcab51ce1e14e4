-- How a past goes on, and when a step makes it go on.
use Rattle.std.specs.Prelude.{◌≡◌, ◌⊎◌, ℕ, ◌+◌, ◌*◌, List, Some, None}
use Rattle.nop_types.specs.declared.view.View.{View}
use Rattle.nop_types.specs.declared.request.Entry.{Entry}
use Rattle.nop_types.specs.Lists.{IsPrefixOf}
use Rattle.nop_types.specs.Views.{leader_of}
use Rattle.log_merge.specs.Starting.{Start}
use Rattle.started_views.specs.Logs.{Toward}
use Rattle.started_views.specs.Past.{Entered, Past, Standing, HadLog, LeaderHad, IsStart}

-- a replica has k in w where it had l: the same log, or one that went toward the log of the leader of w
abbrev pub WentOn : ℕ → Past → View → List Entry → List Entry → Type 0
WentOn f later w l k = (l ≡ k) ⊎ ((m : List Entry) × LeaderHad f later w m × Toward m l k)

-- starts and entries stay, the logs of leaders grow, and each other log goes toward that of its leader
pub record Grows (f : ℕ) (past later : Past) : Type 0 where
  pub starts : (w : View) (x : Start) → IsStart past w x → IsStart later w x
  pub entries : (r : ℕ) (v : View) (e : Entered) → past.entry r v ≡ Some e → later.entry r v ≡ Some e
  pub leaders : (w : View) (m : List Entry) → LeaderHad f past w m → (n : List Entry) × LeaderHad f later w n × IsPrefixOf m n
  pub logs : (r : ℕ) (w : View) (l : List Entry) → HadLog past r w l → (k : List Entry) × HadLog later r w k × WentOn f later w l k

-- the log of the replica r in the view w becomes k: its first log there, a longer log of the leader, or a log of another replica that goes
-- toward that of the leader
pub data LogGoesOn (f : ℕ) (past : Past) (r : ℕ) (w : View) (k : List Entry) : Type 0 where
  First : past.log r w ≡ None → LogGoesOn f past r w k
  Leading : (l : List Entry) → r ≡ leader_of w (2 * f + 1) → HadLog past r w l → IsPrefixOf l k → LogGoesOn f past r w k
  Following : (l m : List Entry) → (r ≡ leader_of w (2 * f + 1) → ⊥) → HadLog past r w l → LeaderHad f past w m → Toward m l k
      → LogGoesOn f past r w k

-- the replica r enters a view that it had not entered, starts one that was not started, and its log goes on
pub record GoesOn (f : ℕ) (past : Past) (r : ℕ) (old new : Standing) : Type 0 where
  pub entry : (new.view ≡ old.view) ⊎ (past.entry r new.view ≡ None)
  pub start : r ≡ leader_of new.last_normal (2 * f + 1) → (new.last_normal ≡ old.last_normal) ⊎ (past.start new.last_normal ≡ None)
  pub log : LogGoesOn f past r new.last_normal new.log
