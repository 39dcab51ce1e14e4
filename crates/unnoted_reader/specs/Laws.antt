-- Proofs: nothing here has to be believed.
-- A line as it is read has as many bytes.
use Rattle.std.proofs.Common.{◌≡◌, ℕ, ◌-◌, Bool, true, false, List, cond, length, refl, slice_set}
use Rattle.std.proofs.lemmas.List.{length-set}
use Rattle.unnoted_reader.specs.Unnoted.{as_read, is_unnoted}

by_mark : (b : Bool) (text : List ℕ) → length (cond b (slice_set text (length text - 1) 45) text) ≡ length text
by_mark true text = length-set text (length text - 1) 45
by_mark false text = refl

pub same_length : (text : List ℕ) → length (as_read text) ≡ length text
same_length text = by_mark (is_unnoted text) text
