-- Datagrams in one vector of bytes, with a mark for each.
use Rattle.std.specs.Prelude.{◌≡◌, ◌≤◌, ◌+◌, ◌-◌, ℕ, List, ◌++◌, length, map, min, slice_range, take}
use Rattle.nop_types.specs.declared.kinds.TheConstants.{FRAGMENT_HEADER_BYTES}
use Rattle.network.specs.declared.network.Mark.{Mark}
use Rattle.network.specs.Network.{Sent}

-- so many bytes from a place on
abbrev pub part_of : List ℕ → ℕ → ℕ → List ℕ
part_of bytes begin len = slice_range bytes begin (begin + len)

-- how many bytes of a datagram are its head
abbrev pub head_len : Mark → ℕ
head_len mark = min mark.len FRAGMENT_HEADER_BYTES

abbrev pub rest_len : Mark → ℕ
rest_len mark = mark.len - FRAGMENT_HEADER_BYTES

abbrev pub datagram_of : List ℕ → Mark → List ℕ
datagram_of bytes mark = part_of bytes mark.head (head_len mark) ++ part_of bytes mark.rest (rest_len mark)

abbrev pub sent_of : List ℕ → Mark → Sent
sent_of bytes mark = record { from = mark.from; dest = mark.dest; bytes = datagram_of bytes mark }

-- all datagrams, in order
abbrev pub all_sent : List ℕ → List Mark → List Sent
all_sent bytes marks = map (sent_of bytes) marks

-- its head and its rest lie within so many bytes
pub record MarkFits (count : ℕ) (mark : Mark) : Type 0 where
  pub head_within : mark.head + head_len mark ≤ count
  pub rest_within : mark.rest + rest_len mark ≤ count

-- the old bytes are there yet, and others may be behind them
abbrev pub Keeps : List ℕ → List ℕ → Type 0
Keeps old new = take (length old) new ≡ old
