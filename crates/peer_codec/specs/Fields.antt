-- The fields of messages at the front of the bytes: each with the bytes after it, or the first test that fails.
use Rattle.std.specs.Prelude.{ℕ, ◌+◌, Bool, List, Option, ok_or, Result, Ok, Err, nat_lt, nat_le, ◌&&◌, if◌then◌else◌}
use Rattle.std.specs.Int.{Width, w16, w32, w64}
use Rattle.nop_types.specs.declared.limits.TheConstants.{MAX_HOST_BYTES, MAX_LENGTH, MAX_OP_BYTES, MAX_REPLICAS, MAX_RESULT_BYTES, MAX_SERVED}
use Rattle.nop_types.specs.declared.limits.TheConstants.{MAX_SLOTS, NUMBER_END, WINDOW}
use Rattle.nop_types.specs.declared.view.View.{View}
use Rattle.nop_types.specs.declared.request.Request.{Request}
use Rattle.oum_codec.specs.Numbers.{number_at, byte_at, bytes_at}
use Rattle.oum_codec.specs.Numbers as numbers
use Rattle.oum_codec.specs.Reading.{◌>>=◌}
use Rattle.peer_codec.specs.declared.bad_peer.BadPeer.{BadPeer}
use Rattle.peer_codec.specs.declared.bad_peer.BadPeer.TheVariants.{Short, Field}

-- the bytes of a field are there
abbrev pub there : {A : Type 0} → Option A → Result A BadPeer
there found = ok_or found Short

-- they are there, then the field is in range
abbrev pub in_range : {A : Type 0} → (A → Bool) → Option (A × List ℕ) → Result (A × List ℕ) BadPeer
in_range test found = there found >>= λ x. if test x.0 then Ok x else Err Field

unfoldable pub sender_at : List ℕ → Result (ℕ × List ℕ) BadPeer
sender_at bytes = in_range (λ n. nat_lt n MAX_REPLICAS) (byte_at bytes)

-- leader numbers have any value, sessions count from 1
unfoldable pub view_at : List ℕ → Result (View × List ℕ) BadPeer
view_at bytes = in_range (λ v. nat_lt 0 v.session) (numbers.view_at bytes)

-- slots count from 1
unfoldable pub slot_at : List ℕ → Result (ℕ × List ℕ) BadPeer
slot_at bytes = in_range (λ n. nat_lt 0 n) (number_at w32 bytes)

-- the number of a session's next request
unfoldable pub next_at : List ℕ → Result (ℕ × List ℕ) BadPeer
next_at bytes = in_range (λ n. nat_lt 0 n && nat_le n NUMBER_END) (number_at w64 bytes)

-- a number of slots: a length or a sync point
unfoldable pub length_at : List ℕ → Result (ℕ × List ℕ) BadPeer
length_at bytes = there (number_at w32 bytes)

-- how many entries a log has above this sync point
unfoldable pub count_at : ℕ → List ℕ → Result (ℕ × List ℕ) BadPeer
count_at sync_point bytes = in_range (λ n. nat_le n MAX_SLOTS && nat_le (sync_point + n) MAX_LENGTH) (number_at w32 bytes)

-- ids count from 1
unfoldable pub id_at : List ℕ → Result (ℕ × List ℕ) BadPeer
id_at bytes = in_range (λ n. nat_lt 0 n) (number_at w64 bytes)

-- a length in the bytes of a width, and that many bytes
unfoldable pub counted_at : Width → ℕ → List ℕ → Result (List ℕ × List ℕ) BadPeer
counted_at w most bytes = do
  len ← in_range (λ n. nat_le n most) (number_at w bytes)
  there (bytes_at len.0 len.1)

abbrev pub op_at : List ℕ → Result (List ℕ × List ℕ) BadPeer
op_at bytes = counted_at w16 MAX_OP_BYTES bytes

unfoldable pub request_at : List ℕ → Result (Request × List ℕ) BadPeer
request_at bytes = do
  client ← there (number_at w32 bytes)
  id ← id_at client.1
  op ← op_at id.1
  Ok (record { client = client.0; id = id.0; op = op.0 }, op.1)

-- ---- of a checkpoint

-- the saved state of a host
abbrev pub host_at : List ℕ → Result (List ℕ × List ℕ) BadPeer
host_at bytes = counted_at w32 MAX_HOST_BYTES bytes

-- how many clients there are
unfoldable pub served_at : List ℕ → Result (ℕ × List ℕ) BadPeer
served_at bytes = in_range (λ n. nat_le n MAX_SERVED) (number_at w32 bytes)

-- a client's number, from this one on
unfoldable pub client_at : ℕ → List ℕ → Result (ℕ × List ℕ) BadPeer
client_at least bytes = in_range (λ n. nat_le least n) (number_at w32 bytes)

-- how many results are kept for it
unfoldable pub kept_count_at : List ℕ → Result (ℕ × List ℕ) BadPeer
kept_count_at bytes = in_range (λ n. nat_lt 0 n && nat_le n WINDOW) (byte_at bytes)

-- the id of one, from this one on up to the greatest
unfoldable pub kept_id_at : ℕ → ℕ → List ℕ → Result (ℕ × List ℕ) BadPeer
kept_id_at least greatest bytes = in_range (λ n. nat_le least n && nat_le n greatest) (number_at w64 bytes)

abbrev pub result_at : List ℕ → Result (List ℕ × List ℕ) BadPeer
result_at bytes = counted_at w16 MAX_RESULT_BYTES bytes
