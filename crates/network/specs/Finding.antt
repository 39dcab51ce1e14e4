-- Where the first datagram with some bytes is in the network.
use Rattle.std.specs.Prelude.{◌≡◌, ℕ, ⊤, List, Bool, true, false, Option, Some, None}
use Rattle.std.specs.HashMap.{get_by}
use Rattle.std.specs.List.{position_from}
use Rattle.std.specs.Str.{bytes_eq}
use Rattle.network.specs.declared.index.Index.{Index}
use Rattle.network.specs.Network.{Sent}

abbrev pub has_bytes : List ℕ → Sent → Bool
has_bytes bytes s = bytes_eq bytes s.bytes

-- the index of the first datagram that has these bytes, if one has
abbrev pub first_index : List ℕ → List Sent → Option ℕ
first_index bytes sent = position_from (has_bytes bytes) 0 sent

-- ---- the index of a network

-- what it has for some bytes
abbrev pub index_in : Index → List ℕ → Option ℕ
index_in index bytes = get_by (λ key. bytes_eq bytes key.items) index.first

-- after a datagram with this index; whether it has the bytes
abbrev pub index_after : Option ℕ → Bool → ℕ → Option ℕ
index_after (Some first) has index = Some first
index_after None true index = Some index
index_after None false index = None

-- it has the first index of all bytes that were sent
abbrev pub IsIndexOf : Index → List Sent → Type 0
IsIndexOf index sent = (bytes : List ℕ) → index_in index bytes ≡ first_index bytes sent

-- where there is one
abbrev pub MayIndex : Option Index → List Sent → Type 0
MayIndex None sent = ⊤
MayIndex (Some index) sent = IsIndexOf index sent

-- a datagram with this index was noted, where there is an index
abbrev pub NotesIn : Option Index → Option Index → List ℕ → ℕ → Type 0
NotesIn None new datagram index = new ≡ None
NotesIn (Some old) None datagram index = ⊥
NotesIn (Some old) (Some new) datagram index =
    (bytes : List ℕ) → index_in new bytes ≡ index_after (index_in old bytes) (bytes_eq bytes datagram) index

-- it finds the same
abbrev pub StaysIn : Option Index → Option Index → Type 0
StaysIn None new = new ≡ None
StaysIn (Some old) None = ⊥
StaysIn (Some old) (Some new) = (bytes : List ℕ) → index_in new bytes ≡ index_in old bytes
