-- How many bytes are kept: the sums of the code, and their limits.
use Rattle.std.proofs.Common.{◌≡◌, ℕ, zero, suc, ◌+◌, ◌*◌, ◌≤◌, List, [], ◌∷◌, length, get_or, drop, Option, Some, All, refl, sym}
use Rattle.std.proofs.Common.{subst, arith}
use Rattle.std.proofs.Common.{◌<◌}
use Rattle.std.specs.Prelude.{sum_by}
use Rattle.std.proofs.lemmas.List.{length-drop, length-take}
use Rattle.std.proofs.lemmas.List.Elements.{All-get_or, All-weaker}
use Rattle.std.proofs.lemmas.List.Sums.{sum_by-append, sum_by-le}
use Rattle.nop_types.specs.declared.limits.TheConstants.{FRAGMENT_BYTES, MAX_FRAGMENTS, MAX_UNFINISHED}
use Rattle.fragments.specs.Cutting.{piece}
use Rattle.fragments.specs.Prefix.{prefix_parts, parts_of}
use Rattle.fragments.specs.Held.{held_in, held_of}
use Rattle.fragments.specs.Joining.{Waiting}
use Rattle.fragments.specs.Parts.{Partial, bytes_of}
use Rattle.fragments.specs.Runs.{PartialFits, WaitingFits}

abbrev part_len : Option (List ℕ) → ℕ
part_len part = length (bytes_of part)

-- ---- the front and what stands behind it

piece_len : (prefix : List ℕ) (k : ℕ) → FRAGMENT_BYTES * suc k ≤ length prefix → length (piece prefix k) ≡ FRAGMENT_BYTES
unfolding piece
piece_len prefix k le =
    omega (arith, length-take FRAGMENT_BYTES (drop (FRAGMENT_BYTES * k) prefix), length-drop (FRAGMENT_BYTES * k) prefix)

prefix_sum : (prefix : List ℕ) (k : ℕ) → FRAGMENT_BYTES * k ≤ length prefix → sum_by part_len (prefix_parts prefix k) ≡ FRAGMENT_BYTES * k
prefix_sum prefix zero le = refl
prefix_sum prefix (suc k) le =
    let before : sum_by part_len (prefix_parts prefix k) ≡ FRAGMENT_BYTES * k = prefix_sum prefix k (omega arith) in
    let more = sum_by-append part_len (prefix_parts prefix k) (Some (piece prefix k) ∷ []) in
    let here = piece_len prefix k le in
    omega (arith, before, more, here)

-- a message's bytes are those of its front and of the parts behind it
pub split_held : (prefix : List ℕ) (k : ℕ) (later : List (Option (List ℕ))) → length prefix ≡ FRAGMENT_BYTES * k
    → length prefix + sum_by part_len (drop k later) ≡ sum_by part_len (parts_of prefix k later)
split_held prefix k later size =
    let both = sum_by-append part_len (prefix_parts prefix k) (drop k later) in
    let first = prefix_sum prefix k (omega arith) in
    omega (arith, both, first, size)

-- ---- limits

pub held_in_limit : (m : Partial) → PartialFits m → held_in m ≤ MAX_FRAGMENTS * FRAGMENT_BYTES
held_in_limit m fits = omega (arith, sum_by-le part_len FRAGMENT_BYTES m.parts fits.each, fits.count)

few_held : (q : Waiting) → All PartialFits q → All (λ m. held_in m ≤ MAX_FRAGMENTS * FRAGMENT_BYTES) q
few_held q fits = All-weaker PartialFits (λ m. held_in m ≤ MAX_FRAGMENTS * FRAGMENT_BYTES) held_in_limit q fits

pub held_of_limit : (q : Waiting) → WaitingFits q → held_of q ≤ MAX_UNFINISHED * (MAX_FRAGMENTS * FRAGMENT_BYTES)
held_of_limit q fits =
    omega (arith, sum_by-le held_in (MAX_FRAGMENTS * FRAGMENT_BYTES) q (few_held q fits.each), fits.few)

-- and of a sender that is there
pub sender_limit : (items all : List Waiting) (sender : ℕ) (q : Waiting) → items ≡ all → All WaitingFits all → sender < length items
    → q ≡ get_or items sender q → held_of q ≤ MAX_UNFINISHED * (MAX_FRAGMENTS * FRAGMENT_BYTES)
sender_limit items all sender q same fits lt here =
    held_of_limit q
    (subst WaitingFits (sym here) (All-get_or WaitingFits items sender q lt (subst (λ (qs : List Waiting). All WaitingFits qs) (sym same)
    fits)))
