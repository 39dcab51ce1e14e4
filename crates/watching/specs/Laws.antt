-- What is known after turns, and what was told in them.
use Rattle.std.specs.Prelude.{◌≡◌, ◌<◌, ◌^◌, ℕ, List, [], ◌∷◌, ◌++◌, Bool, false, Option, Some, None}
use Rattle.nop_types.specs.Lists.{Has}
use Rattle.nop_types.specs.Views.{outranks}
use Rattle.watching.specs.Tellings.{told_by}
use Rattle.watching.specs.Turns.{Turn, after_turn}
use Rattle.watching.specs.Watching.{Watching}
use Rattle.watching.specs.declared.lines.Change.{Change}
use Rattle.watching.specs.declared.lines.State.{State}
use Rattle.watching.specs.declared.seen.Known.{Known}
use Rattle.watching.specs.declared.seen.Seen.{Seen}
use Rattle.watching.specs.declared.telling.Telling.{Telling}

abbrev pub known_in : Option Seen → Option Known
known_in None = None
known_in (Some s) = Some s.known

-- 0 where nothing is known
abbrev pub length_in : Option Known → ℕ
length_in None = 0
length_in (Some k) = k.synced

-- the view is greater than it was
abbrev pub rose : Option Known → Option Known → Bool
rose (Some k) (Some l) = outranks l.view k.view
rose k l = false

-- what was told, and when
pub record Told : Type 0 where
  pub now : ℕ
  pub telling : Telling

abbrev pub telling_at : ℕ → Option Telling → List Told
telling_at now None = []
telling_at now (Some t) = record { now = now; telling = t } ∷ []

abbrev pub heard_at : Watching → ℕ → Option (List ℕ) → List Told
heard_at w now None = []
heard_at w now (Some bytes) = telling_at now (told_by w.replicas w.kept bytes).1

-- what leaders told in some turns
abbrev pub told_in : Watching → List Turn → List Told
told_in w [] = []
told_in w (t ∷ ts) = heard_at w t.now t.datagram ++ told_in (after_turn w t).0 ts

-- the length is one that was told; and the view is, at the time from which the age counts
pub record IsTold (ts : List Told) (k : Known) : Type 0 where
  pub its_length : (t : Told) × (Has ts t × (t.telling.len ≡ k.synced))
  pub its_view : (t : Told) × (Has ts t × ((t.telling.view ≡ k.view) × (t.now ≡ k.told)))

abbrev pub IsOfTold : List Told → Option Known → Type 0
IsOfTold ts None = ts ≡ []
IsOfTold ts (Some k) = IsTold ts k

-- numbers of 64 bits
pub record StateFits (s : State) : Type 0 where
  pub leader : s.view.leader < 2 ^ 64
  pub session : s.view.session < 2 ^ 64
  pub synced : s.synced < 2 ^ 64
  pub rate : s.rate < 2 ^ 64
  pub age : s.age < 2 ^ 64

pub record ChangeFits (c : Change) : Type 0 where
  pub leader : c.view.leader < 2 ^ 64
  pub session : c.view.session < 2 ^ 64
  pub at : c.at < 2 ^ 64
