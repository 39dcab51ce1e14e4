-- Fields at a place of the bytes.
use Rattle.std.specs.Prelude.{◌≡◌, ℕ, ◌+◌, ◌<◌, ◌^◌, ◌++◌, List, length, take, drop, Option, Some, None, option_map, nat_lt, if◌then◌else◌}
use Rattle.std.specs.Int.{Width, w32, w64, byte_len, from_be_bytes}
use Rattle.nop_types.specs.declared.view.View.{View}
use Rattle.nop_types.specs.declared.request.Request.{Request}
use Rattle.oum_codec.specs.Numbers.{◌>>=◌, bytes_at}
use Rattle.oum_codec.specs.Fixed.{request_fields_at, request_in_range}

-- the text is in the bytes from a place on
pub record StandsAt (at : ℕ) (text bytes : List ℕ) : Type 0 where
  pub prefix : List ℕ
  pub rest : List ℕ
  pub place : length prefix ≡ at
  pub parts : bytes ≡ prefix ++ (text ++ rest)

-- the number from a place on, the highest byte first, where all its bytes are there
abbrev pub number_in : Width → ℕ → List ℕ → Option ℕ
number_in w at bytes = if nat_lt (length bytes) (at + byte_len w) then None else Some (from_be_bytes w (take (byte_len w) (drop at bytes)))

-- the leader number, then the session
abbrev pub view_in : ℕ → List ℕ → Option View
view_in at bytes = do
  leader ← number_in w32 at bytes
  session ← number_in w64 (at + 4) bytes
  Some (record { leader = leader; session = session })

-- a view's parts fit their widths; a view in range has a session from 1 besides
pub record ViewWidths (v : View) : Type 0 where
  pub leader : v.leader < 2 ^ 32
  pub session : v.session < 2 ^ 64

-- client, id, length and op at the front, where all of them are there and in range, and the bytes after them
unfoldable pub request_at : List ℕ → Option (Request × List ℕ)
request_at bytes = do
  f ← request_fields_at bytes
  op ← if request_in_range f.0 then bytes_at f.0.op_len f.1 else None
  Some (record { client = f.0.client; id = f.0.id; op = op.0 }, op.1)

-- the request from a place on, where all of it is there and in range
abbrev pub request_in : ℕ → List ℕ → Option Request
request_in at bytes = if nat_lt (length bytes) at then None else option_map (λ x. x.0) (request_at (drop at bytes))
