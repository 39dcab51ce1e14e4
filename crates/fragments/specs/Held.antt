-- How many bytes of payloads are kept.
use Rattle.std.specs.Prelude.{ℕ, List, [], length, get_or, sum_by}
use Rattle.fragments.specs.Parts.{Partial, bytes_of}
use Rattle.fragments.specs.Joining.{Waiting}

-- of an unfinished message
abbrev pub held_in : Partial → ℕ
held_in m = sum_by (λ part. length (bytes_of part)) m.parts

-- of a sender
abbrev pub held_of : Waiting → ℕ
held_of q = sum_by held_in q

-- of the sender with this number; none where there is no such sender
abbrev pub held : List Waiting → ℕ → ℕ
held all sender = held_of (get_or all sender [])
