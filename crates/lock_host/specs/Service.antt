-- The lock service as a whole, and what holds of all its states.
use Rattle.std.specs.Prelude.{◌≡◌, ℕ, ◌≤◌, List, [], ◌∷◌, length, false, Option, Some, None, ⊤}
use Rattle.std.specs.List.{list_any}
use Rattle.nop_types.specs.Meaning.{Meaning}
use Rattle.lock_host.specs.declared.lock.Lock.{Lock}
use Rattle.lock_host.specs.declared.locks.TheConstants.{MAX_LOCKS, LAST_TOKEN}
use Rattle.lock_host.specs.declared.undo.LockUndo.{LockUndo}
use Rattle.lock_host.specs.Fields.{NameFits}
use Rattle.lock_host.specs.Op.{read_op}
use Rattle.lock_host.specs.Locks.{Places, Locks, step}
use Rattle.lock_host.specs.Saved.{clashes, saved, loaded}

-- it begins without a lock, and reads each op from its bytes
abbrev pub lock_meaning : Meaning Locks
lock_meaning = record {
  opening = record { last = 0; places = [] };
  after = λ locks op. (step locks (read_op op)).locks;
  answer = λ locks op. (step locks (read_op op)).answer;
  saved = saved;
  loaded = loaded;
}

abbrev pub undo_of : Locks → List ℕ → LockUndo
undo_of locks op = (step locks (read_op op)).undo

-- ---- what holds of all states

-- the names have lengths that an op can spell, and the token was granted
pub record LockFits (last : ℕ) (lock : Lock) : Type 0 where
  pub name : NameFits lock.name
  pub owner : NameFits lock.owner
  pub least : 1 ≤ lock.token
  pub most : lock.token ≤ last

abbrev pub PlaceFits : ℕ → Option Lock → Type 0
PlaceFits last None = ⊤
PlaceFits last (Some lock) = LockFits last lock

abbrev pub PlacesFit : ℕ → Places → Type 0
PlacesFit last [] = ⊤
PlacesFit last (p ∷ places) = PlaceFits last p × PlacesFit last places

-- no lock of the places clashes with this one
abbrev pub IsApart : Option Lock → Places → Type 0
IsApart None places = ⊤
IsApart (Some lock) places = list_any (clashes lock) places ≡ false

-- no two places have locks with one name, or with one token
abbrev pub AreApart : Places → Type 0
AreApart [] = ⊤
AreApart (p ∷ places) = IsApart p places × AreApart places

pub record IsSound (locks : Locks) : Type 0 where
  pub few : length locks.places ≤ MAX_LOCKS
  pub last : locks.last ≤ LAST_TOKEN
  pub fits : PlacesFit locks.last locks.places
  pub apart : AreApart locks.places
