-- The locks as bytes, and the bytes read back.
use Rattle.std.specs.Prelude.{ℕ, zero, suc, List, [], ◌∷◌, ◌++◌, length, Bool, false, ◌&&◌, ◌||◌, not, ◌==◌, nat_le}
use Rattle.std.specs.Prelude.{Option, Some, None, if◌then◌else◌}
use Rattle.std.specs.List.{flat_map, list_any}
use Rattle.saved_fields.specs.Lists.{◌>>=◌}
use Rattle.saved_fields.specs.Numbers.{number_bytes, number_at}
use Rattle.lock_host.specs.declared.lock.Lock.{Lock}
use Rattle.lock_host.specs.declared.locks.TheConstants.{MAX_LOCKS}
use Rattle.lock_host.specs.Fields.{name_bytes, name_at}
use Rattle.lock_host.specs.Locks.{Places, Locks, is_same}

-- a free place is one zero; so it differs from a name, which has a byte
abbrev pub place_bytes : Option Lock → List ℕ
place_bytes None = 0 ∷ []
place_bytes (Some lock) = name_bytes lock.name ++ (name_bytes lock.owner ++ number_bytes lock.token)

-- the last token, how many places there are, and each of them
abbrev pub saved : Locks → List ℕ
saved locks = number_bytes locks.last ++ (number_bytes (length locks.places) ++ flat_map place_bytes locks.places)

-- ---- reading them back

-- whether the lock at the place has the name or the token of this one
abbrev pub clashes : Lock → Option Lock → Bool
clashes lock None = false
clashes lock (Some other) = is_same other.name lock.name || other.token == lock.token

-- whether the lock may stand beside these: its token was granted, and neither its name nor its token is that of another
abbrev pub is_allowed : ℕ → Places → Lock → Bool
is_allowed last places lock = nat_le 1 lock.token && (nat_le lock.token last && not (list_any (clashes lock) places))

unfoldable pub lock_at : List ℕ → Option (Lock × List ℕ)
lock_at bytes = do
  name ← name_at bytes
  owner ← name_at name.1
  token ← number_at owner.1
  Some (record { name = name.0; owner = owner.0; token = token.0 }, token.1)

-- a place after these, and what follows it
unfoldable pub place_at : ℕ → Places → List ℕ → Option (Option Lock × List ℕ)
place_at last places [] = None
place_at last places (b ∷ rest) =
    if b == 0 then Some (None, rest)
    else (lock_at (b ∷ rest) >>= λ lock. if is_allowed last places lock.0 then Some (Some lock.0, lock.1) else None)

-- the locks, where nothing follows
abbrev pub nothing_after : List ℕ → Locks → Option Locks
nothing_after [] locks = Some locks
nothing_after (b ∷ bytes) locks = None

-- n places after these
unfoldable pub with_places : ℕ → ℕ → Places → List ℕ → Option Locks
with_places zero last places bytes = nothing_after bytes (record { last = last; places = places })
with_places (suc n) last places bytes = do
  place ← place_at last places bytes
  with_places n last (places ++ place.0 ∷ []) place.1

unfoldable pub loaded : List ℕ → Option Locks
loaded bytes = do
  last ← number_at bytes
  count ← number_at last.1
  if nat_le count.0 MAX_LOCKS then with_places count.0 last.0 [] count.1 else None
