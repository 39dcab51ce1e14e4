-- Bytes that are read or written piece by piece.
use Rattle.std.proofs.Common.{◌≡◌, ℕ, ◌+◌, ◌-◌, ◌≤◌, List, ◌++◌, length, take, drop, Option, arith, sym}
use Rattle.std.proofs.KnownBytes.{Appends-trans}
use Rattle.std.proofs.Math.Seq.{take-add}
use Rattle.std.proofs.lemmas.Grind.{common_steps}
use Rattle.std.proofs.lemmas.List.{take-append-drop, drop-drop, take_rest, take_at}
use Rattle.std.specs.Io.KnownBytes.{Appends}

-- the front was written, and then some bytes of the rest
pub Appends_more : (old mid new : Option (List ℕ)) (xs : List ℕ) (at count : ℕ) → Appends old mid (take at xs)
    → Appends mid new (take count (take (length xs - at) (drop at xs))) → Appends old new (take (at + count) xs)
Appends_more old mid new xs at count before now =
    let rest = rw (take_rest xs at) at now in
    rw take-add (Appends-trans old mid new (take at xs) (take count (drop at xs)) before rest)

-- a piece was taken from the front of what is left, and put before other bytes
pub left_split : (xs piece others : List ℕ) (at count : ℕ) → at + count ≤ length xs → piece ≡ take (at + count - at) (drop at xs)
    → drop at xs ≡ take count (piece ++ others) ++ drop (at + count) xs
left_split xs piece others at count within is =
    let prefix : drop at xs ≡ take count (drop at xs) ++ drop (at + count) xs = rw (← drop-drop count at xs)
    (sym (take-append-drop count (drop at xs))) in
    let same : piece ≡ take count (drop at xs) = grind (arith, is) in
    let len : length piece ≡ count = rw same (grind (arith, common_steps)) in
    rw (take_at piece others count len, same) prefix
