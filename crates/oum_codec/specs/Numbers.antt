-- Numbers as bytes, the highest byte first.
use Rattle.std.specs.Prelude.{ℕ, ◌<◌, List, [], ◌∷◌, length, slice_index, take, drop, Option, Some, None, nat_lt}
use Rattle.std.specs.Prelude.{if◌then◌else◌}
use Rattle.std.specs.Int.{Width, w32, w64, byte_len, from_be_bytes, to_be_bytes}
use Rattle.nop_types.specs.declared.view.View.{View}
pub use Rattle.nop_types.specs.Options.{◌>>=◌}

-- each of the list is a byte
abbrev pub IsBytes : List ℕ → Type 0
IsBytes bytes = (i : ℕ) → slice_index bytes i < 256

-- the number written in the bytes of a width; not an abbreviation, so that goals do not show each byte
unfoldable pub be_bytes : Width → ℕ → List ℕ
be_bytes w n = to_be_bytes w n

-- A reader answers the value at the front and the bytes after it, or nothing where its bytes are not there.

-- the number in the bytes of a width, the highest one first
abbrev pub number_at : Width → List ℕ → Option (ℕ × List ℕ)
number_at w bytes =
    if nat_lt (length bytes) (byte_len w) then None else Some (from_be_bytes w (take (byte_len w) bytes), drop (byte_len w) bytes)

-- one byte
abbrev pub byte_at : List ℕ → Option (ℕ × List ℕ)
byte_at [] = None
byte_at (b ∷ rest) = Some (b, rest)

-- the first n bytes
abbrev pub bytes_at : ℕ → List ℕ → Option (List ℕ × List ℕ)
bytes_at n bytes = if nat_lt (length bytes) n then None else Some (take n bytes, drop n bytes)

-- the leader number, then the session
unfoldable pub view_at : List ℕ → Option (View × List ℕ)
view_at bytes = do
  leader ← number_at w32 bytes
  session ← number_at w64 leader.1
  Some (record { leader = leader.0; session = session.0 }, session.1)
