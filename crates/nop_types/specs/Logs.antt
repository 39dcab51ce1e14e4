-- A log that is kept whole, or trimmed: in place of its entries up to the sync point a checkpoint stands.
use Rattle.std.specs.Prelude.{ℕ, ◌+◌, ◌-◌, ◌≤◌, List, [], ◌∷◌, ◌++◌, length, take, drop, cond, Option, None, Bool, nat_lt, ◌&&◌}
use Rattle.nop_types.specs.declared.limits.TheConstants.{MAX_SLOTS, MAX_LENGTH}
use Rattle.nop_types.specs.declared.request.Entry.{Entry}
use Rattle.nop_types.specs.declared.request.Entry.TheVariants.{NoOp}
use Rattle.nop_types.specs.Lists.{slot_of}
use Rattle.nop_types.specs.Slots.{set_slot, laid}
use Rattle.nop_types.specs.Checkpoints.{Checkpoint}

-- the entries that are kept. A log that is trimmed has a checkpoint where its sync point is above 0; one that is whole needs none
pub record Log : Type 0 where
  pub sync_point : ℕ
  pub checkpoint : Option Checkpoint
  pub entries : List Entry

-- a log that is kept whole
abbrev pub whole : ℕ → List Entry → Log
whole sync_point entries = record { sync_point = sync_point; checkpoint = None; entries = entries }

abbrev pub empty : Log
empty = whole 0 []

-- how a log is read: its entries are those from slot 1 on, or those above its sync point
pub data Keeping : Type 0 where
  Whole : Keeping
  Trimmed : Keeping

-- how many slots come before the first entry that is kept
abbrev pub before : Keeping → Log → ℕ
before Whole l = 0
before Trimmed l = l.sync_point

-- the last slot
abbrev pub length_of : Keeping → Log → ℕ
length_of Whole l = length l.entries
length_of Trimmed l = l.sync_point + length l.entries

-- the place of a slot among the entries that are kept, from 1; 0 where it is not kept
abbrev pub place_of : Keeping → Log → ℕ → ℕ
place_of Whole l n = n
place_of Trimmed l n = n - l.sync_point

-- of the entries that are kept, those above the slot, and those up to it
abbrev pub above : Keeping → Log → ℕ → List Entry
above k l n = drop (place_of k l n) l.entries

abbrev pub upto : Keeping → Log → ℕ → List Entry
upto k l n = take (place_of k l n) l.entries

-- nothing where the slot is not kept
abbrev pub entry_at : Keeping → Log → ℕ → Option Entry
entry_at k l n = slot_of l.entries (place_of k l n)

-- how many slots are above the sync point
abbrev pub unsynced : Keeping → Log → ℕ
unsynced k l = length_of k l - l.sync_point

-- whether one more entry may be appended
abbrev pub has_room : Keeping → Log → Bool
has_room k l = nat_lt (unsynced k l) MAX_SLOTS && nat_lt (length_of k l) MAX_LENGTH

-- the sync point of a whole log is within it
abbrev pub IsWithin : Log → Type 0
IsWithin l = l.sync_point ≤ length l.entries

-- the entries above the sync point, up to a slot
abbrev pub between : Keeping → Log → ℕ → List Entry
between k l n = take (n - l.sync_point) (above k l l.sync_point)

-- ---- what becomes of a log

abbrev pub appended : Log → Entry → Log
appended l e = record l { entries = l.entries ++ e ∷ [] }

-- the slot becomes a NO-OP, where it is kept
abbrev pub with_noop : Keeping → Log → ℕ → Log
with_noop k l n = record l { entries = set_slot l.entries (place_of k l n) NoOp }

-- the first n slots, n not below the sync point
abbrev pub first : Keeping → Log → ℕ → Log
first k l n = record l { entries = upto k l n }

-- the new log where its sync point is greater, else the own one
abbrev pub further : Log → Log → Log
further new own = cond (nat_lt own.sync_point new.sync_point) new own

-- the further one up to its sync point, and above that the new one
abbrev pub adopted : Keeping → Log → Log → Log
adopted k new own =
    let g = further new own in record g { entries = upto k g g.sync_point ++ above k new g.sync_point }

-- the same, and above the end of the new log what the own one has there
abbrev pub overlaid : Keeping → Log → Log → Log
overlaid k new own =
    let g = further new own in record g { entries = upto k g g.sync_point ++ laid (above k new g.sync_point) (above k own g.sync_point) }
