-- Cutting a message into fragments.
use Rattle.std.specs.Prelude.{◌≡◌, ℕ, zero, suc, ◌+◌, ◌-◌, ◌*◌, ◌/◌, ◌<◌, ◌⊎◌, List, [], ◌∷◌, ◌++◌, length, take, drop, map}
use Rattle.nop_types.specs.declared.limits.TheConstants.{FRAGMENT_BYTES, MAX_FRAGMENTS}
use Rattle.nop_types.specs.declared.datagram.Fragment.{Fragment}
use Rattle.nop_types.specs.declared.datagram.Datagram.TheVariants as datagrams
use Rattle.nop_types.specs.declared.output.Dest.{Dest}
use Rattle.nop_types.specs.declared.output.Out.{Out}
use Rattle.nop_types.specs.declared.output.Out.TheVariants as outs
use Rattle.oum_codec.specs.Spelling.{spelling}

-- the bytes of an index: all pieces but the last are full
unfoldable pub piece : List ℕ → ℕ → List ℕ
piece bytes index = take FRAGMENT_BYTES (drop (FRAGMENT_BYTES * index) bytes)

unfoldable pub piece_count : List ℕ → ℕ
piece_count bytes = (length bytes + (FRAGMENT_BYTES - 1)) / FRAGMENT_BYTES

abbrev pub fragment_at : ℕ → ℕ → List ℕ → ℕ → Fragment
fragment_at sender number bytes index =
    record { replica = sender; message = number; index = index; count = piece_count bytes; payload = piece bytes index }

-- those of the indexes below this one
abbrev pub first_fragments : ℕ → ℕ → List ℕ → ℕ → List Fragment
first_fragments sender number bytes zero = []
first_fragments sender number bytes (suc k) = first_fragments sender number bytes k ++ fragment_at sender number bytes k ∷ []

-- all of them, in the order of their indexes
abbrev pub fragments_of : ℕ → ℕ → List ℕ → List Fragment
fragments_of sender number bytes = first_fragments sender number bytes (piece_count bytes)

-- no bytes to cut, or too many
abbrev pub HasNoCut : List ℕ → Type 0
HasNoCut bytes = (length bytes ≡ 0) ⊎ (MAX_FRAGMENTS < piece_count bytes)

-- a fragment's datagram, sent to a destination
abbrev pub send_of : Dest → Fragment → Out
send_of dest f = outs.Send dest (spelling (datagrams.Fragment f))

-- one datagram for each fragment
abbrev pub sends_of : Dest → List Fragment → List Out
sends_of dest fs = map (send_of dest) fs
