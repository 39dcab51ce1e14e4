-- Bytes that are kept behind others.
use Rattle.std.proofs.Common.{◌≡◌, ℕ, ◌+◌, ◌≤◌, List, ◌++◌, drop, length, arith, length-append}
use Rattle.std.proofs.lemmas.List.{drop-append-le, length-drop}

-- what waits, and then what is kept
pub drop_more : (taken : ℕ) (bytes more : List ℕ) → taken ≤ length bytes → drop taken (bytes ++ more) ≡ drop taken bytes ++ more
drop_more taken bytes more within = drop-append-le taken bytes more within

-- no more waits then than may
pub fits : (taken most : ℕ) (bytes more : List ℕ) → taken ≤ length bytes → length (drop taken bytes) + length more ≤ most
    → length (bytes ++ more) ≤ taken + most
fits taken most bytes more within room = omega (arith, within, room, length-append bytes more, length-drop taken bytes)
