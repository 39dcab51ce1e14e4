-- An op that was done on the table behind the key-value service.
use Rattle.std.specs.Prelude.{◌≡◌, ℕ, ◌≤◌, List, length, Option, Some, option_map}
use Rattle.std.specs.FinMap as finite
use Rattle.kv_host.specs.declared.undo.KvUndo.{KvUndo}
use Rattle.kv_host.specs.Op.{Op}
use Rattle.kv_host.specs.Kv.{answer_to, state_after}
use Rattle.kv_host.specs.Undo.{undo_of}
use Rattle.kv_host.specs.Places.{Places, values_of, HasPlace}

-- each key that has a place in the one table has one in the other
abbrev pub KeepsPlaces : Places → Places → Type 0
KeepsPlaces old new = (u : Option KvUndo) → HasPlace old u → HasPlace new u

-- the op took the one table to the other, with this answer and this undo record
pub record IsDone (op : Op) (old new : Places) (answer : List ℕ) (undo : Option KvUndo) : Type 0 where
  pub answers : answer ≡ answer_to (values_of old) op
  pub short : length answer ≤ 257
  pub leaves : values_of new ≡ state_after (values_of old) op
  pub undoes : undo ≡ undo_of (values_of old) op
  pub fits : HasPlace new undo
  pub stays : KeepsPlaces old new

-- the key was given the value, which this undo record takes back
pub record IsWritten (old new : Places) (key value : List ℕ) (undo : Option KvUndo) : Type 0 where
  pub leaves : values_of new ≡ finite.insert (values_of old) key value
  pub undoes : undo ≡ Some (record { key = key; value = finite.get (values_of old) key })
  pub fits : HasPlace new undo
  pub stays : KeepsPlaces old new

-- the key was left without a value, which this undo record takes back
pub record IsCleared (old new : Places) (key : List ℕ) (undo : Option KvUndo) : Type 0 where
  pub leaves : values_of new ≡ finite.remove (values_of old) key
  pub undoes : undo ≡ option_map (λ value. record { key = key; value = Some value }) (finite.get (values_of old) key)
  pub fits : HasPlace new undo
  pub stays : KeepsPlaces old new
