-- The datagrams in which a link acknowledges parts.
use Rattle.std.specs.Prelude.{◌≡◌, ◌<◌, ◌^◌, ◌∷◌, ◌++◌, [], ℕ, List, Bool, ◌==◌, ◌&&◌, slice_index}
use Rattle.std.specs.Prelude.{drop, length, take, Option, Some, None, if◌then◌else◌}
use Rattle.std.specs.Int.{w16, w64, from_be_bytes, to_be_bytes}
use Rattle.std.specs.List.{AllByRecursion, list_any}
use Rattle.nop_types.specs.declared.kinds.TheConstants.{FIRST_MAGIC}
use Rattle.resending.specs.declared.acks.Ack.{Ack}
use Rattle.resending.specs.declared.acks.TheConstants.{ACK_BYTES, ACK_MAGIC, NAMED}
use Rattle.resending.specs.declared.names.Name.{Name}

-- one of its indexes, high byte first
abbrev pub index_bytes : Ack → ℕ → List ℕ
index_bytes ack k = to_be_bytes w16 (slice_index ack.indexes k)

-- the letters N and A, how many may be in flight, the message, and the eight indexes
unfoldable pub ack_bytes : Ack → List ℕ
ack_bytes ack =
    FIRST_MAGIC ∷ ACK_MAGIC ∷ ack.window
    ∷ (to_be_bytes w64 ack.message ++ index_bytes ack 0 ++ index_bytes ack 1 ++ index_bytes ack 2 ++ index_bytes ack 3
    ++ index_bytes ack 4 ++ index_bytes ack 5 ++ index_bytes ack 6 ++ index_bytes ack 7)

-- the number that two bytes from a place on are
abbrev pub index_at : List ℕ → ℕ → ℕ
index_at bytes place = from_be_bytes w16 (take 2 (drop place bytes))

abbrev pub read_from : List ℕ → Ack
read_from bytes = record {
  window = slice_index bytes 2;
  message = from_be_bytes w64 (take 8 (drop 3 bytes));
  indexes =
      index_at bytes 11 ∷ index_at bytes 13 ∷ index_at bytes 15 ∷ index_at bytes 17 ∷ index_at bytes 19 ∷ index_at bytes 21
      ∷ index_at bytes 23 ∷ index_at bytes 25 ∷ [];
}

-- the acknowledgement that bytes are; none where their count or a letter is another, or where nothing may be in flight
unfoldable pub reading : List ℕ → Option Ack
reading bytes =
    if length bytes == ACK_BYTES then
    (if (slice_index bytes 0 == FIRST_MAGIC) && (slice_index bytes 1 == ACK_MAGIC)
    then (if slice_index bytes 2 == 0 then None else Some (read_from bytes))
    else None)
    else None

-- no acknowledgement is spelled so
abbrev pub IsNoAck : List ℕ → Type 0
IsNoAck bytes = reading bytes ≡ None

-- what its fields can hold
pub record AckFits (ack : Ack) : Type 0 where
  pub window : 0 < ack.window
  pub message : ack.message < 2 ^ 64
  pub count : length ack.indexes ≡ NAMED
  pub indexes : AllByRecursion (λ i. i < 2 ^ 16) ack.indexes

-- the part that came last
abbrev pub newest : Ack → Name
newest ack = record { message = ack.message; index = slice_index ack.indexes 0 }

abbrev pub has_index : List ℕ → ℕ → Bool
has_index indexes index = list_any (λ i. i == index) indexes

abbrev pub is_named : Ack → Name → Bool
is_named ack name = (ack.message == name.message) && has_index ack.indexes name.index
