-- When a step that is noted in two parts gives the past of the whole step.
use Rattle.std.specs.Prelude.{◌≡◌, ◌⊎◌, ℕ, ◌+◌, ◌*◌}
use Rattle.nop_types.specs.declared.view.View.{View}
use Rattle.nop_types.specs.Views.{leader_of}
use Rattle.started_views.specs.Past.{Past, Standing, HadLog, entered_with, started_with}

-- both say the same of each replica and view
pub record SamePast (a b : Past) : Type 0 where
  pub logs : (r : ℕ) (w : View) → a.log r w ≡ b.log r w
  pub starts : (w : View) → a.start w ≡ b.start w
  pub entries : (r : ℕ) (w : View) → a.entry r w ≡ b.entry r w

-- the replica r goes from old to new by way of middle, and enters and adopts a view in at most one of the parts
pub record InParts (f : ℕ) (past : Past) (r : ℕ) (old middle new : Standing) : Type 0 where
  -- the second part adopts no view, or the first one leaves the log that is noted already
  pub log : (new.last_normal ≡ middle.last_normal) ⊎ HadLog past r middle.last_normal middle.log
  -- the second part enters no view, or the first one enters none and changes nothing that is noted on entering
  pub entry : (new.view ≡ middle.view) ⊎ ((middle.view ≡ old.view) × (entered_with middle ≡ entered_with old))
  -- the first part adopts no view, or the second one adopts none and keeps what a leader started its view with
  pub start : (middle.last_normal ≡ old.last_normal)
      ⊎ ((new.last_normal ≡ middle.last_normal) × (r ≡ leader_of new.last_normal (2 * f + 1) → started_with new ≡ started_with middle))
