-- Which part of which message a datagram is.
use Rattle.std.specs.Prelude.{◌+◌, ℕ, List, [], ◌∷◌, slice_get, Option, Some, None, Bool, ◌==◌, ◌&&◌}
use Rattle.std.specs.Int.{w16, w32, w64, from_be_bytes}
use Rattle.resending.specs.declared.names.Name.{Name}
use Rattle.resending.specs.declared.names.Topic.{Topic}
use Rattle.resending.specs.declared.names.TheConstants.{INDEX_PLACE, MESSAGE_PLACE, TOPIC_PLACE}

abbrev pub or_zero : Option ℕ → ℕ
or_zero None = 0
or_zero (Some byte) = byte

-- the byte at a place, 0 past the end
abbrev pub byte_at : List ℕ → ℕ → ℕ
byte_at bytes place = or_zero (slice_get bytes place)

-- the eight bytes from a place on
abbrev pub number_at : List ℕ → ℕ → ℕ
number_at bytes place =
    from_be_bytes w64
    (byte_at bytes place ∷ byte_at bytes (place + 1) ∷ byte_at bytes (place + 2) ∷ byte_at bytes (place + 3)
    ∷ byte_at bytes (place + 4) ∷ byte_at bytes (place + 5) ∷ byte_at bytes (place + 6) ∷ byte_at bytes (place + 7) ∷ [])

abbrev pub name_of : List ℕ → Name
name_of bytes = record {
  message = number_at bytes MESSAGE_PLACE;
  index = from_be_bytes w16 (byte_at bytes INDEX_PLACE ∷ byte_at bytes (INDEX_PLACE + 1) ∷ []);
}

-- of the first part of a message: its kind and its view
abbrev pub topic_of : List ℕ → Topic
topic_of bytes = record {
  kind = byte_at bytes TOPIC_PLACE;
  leader =
      from_be_bytes w32
      (byte_at bytes (TOPIC_PLACE + 2) ∷ byte_at bytes (TOPIC_PLACE + 3) ∷ byte_at bytes (TOPIC_PLACE + 4)
      ∷ byte_at bytes (TOPIC_PLACE + 5) ∷ []);
  session = number_at bytes (TOPIC_PLACE + 6);
}

abbrev pub same_view : Topic → Topic → Bool
same_view a b = (a.leader == b.leader) && (a.session == b.session)
