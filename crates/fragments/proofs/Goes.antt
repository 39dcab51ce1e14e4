-- A fragment of a message that waits.
use Rattle.std.proofs.Common.{◌≡◌, suc, ◌≢◌, ℕ, ◌<◌, true, false, eqb, length, get_or, set, replicate, Some, None, refl, arith}
use Rattle.std.specs.Prelude.{slice_get, remove}
use Rattle.nop_types.specs.declared.datagram.Fragment.{Fragment}
use Rattle.fragments.specs.Parts.{Partial, missing, is_open, whole, with_part}
use Rattle.fragments.specs.Joining.{Waiting, found, is_in_range}
use Rattle.std.proofs.lemmas.Option.{slice_get_read}
use Rattle.std.proofs.lemmas.List.{take-set, drop-set-lt}
use Rattle.std.proofs.lemmas.Bool.{eq-eqb, ne_eqb}
use Rattle.fragments.proofs.Counting.{missing_set, open_at_first}
use Rattle.fragments.proofs.Came.{index_within}

pub found_last : (q : Waiting) (f : Fragment) (at : ℕ) (b : Partial) → slice_get q at ≡ Some b → f.count ≡ length b.parts
    → is_open b.parts f.index ≡ true → missing b.parts ≡ 1
    → found q f at (slice_get q at) ≡ (remove q at, Some (whole (with_part b f.index f.payload).parts))
found_last q f at b here same is_free one =
    let count : eqb f.count (length b.parts) ≡ true = eq-eqb _ _ same in
    let none : eqb (missing (set b.parts f.index (Some f.payload))) 0 ≡ true =
    eq-eqb _ _ (omega (arith, missing_set b.parts f.index f.payload is_free)) in
    rw (here, count, is_free, none) refl

pub found_more : (q : Waiting) (f : Fragment) (at : ℕ) (b : Partial) → slice_get q at ≡ Some b → f.count ≡ length b.parts
    → is_open b.parts f.index ≡ true → missing b.parts ≢ 1
    → found q f at (slice_get q at) ≡ (set q at (with_part b f.index f.payload), None)
found_more q f at b here same is_free more =
    let count : eqb f.count (length b.parts) ≡ true = eq-eqb _ _ same in
    let some : eqb (missing (set b.parts f.index (Some f.payload))) 0 ≡ false =
    ne_eqb _ _ (omega (arith, missing_set b.parts f.index f.payload is_free)) in
    rw (here, count, is_free, some) refl

-- what was read at an index is there
pub read_at : (q p : Waiting) (at : ℕ) (b : Partial) → p ≡ q → at < length q → b ≡ get_or p at b → slice_get q at ≡ Some b
read_at q p at b same lt e = slice_get_read q (length q) at b refl lt (rw same at e)

-- what was written at an index that is removed doesn't matter
pub remove-set : (q : Waiting) (at : ℕ) (b : Partial) → remove (set q at b) at ≡ remove q at
remove-set q at b = rw (take-set q at b, drop-set-lt (suc at) q at b (omega arith)) refl

-- where nothing came, the index of a fragment in its ranges is open
pub open_in_range : (f : Fragment) → is_in_range f ≡ true → is_open (replicate f.count None) f.index ≡ true
open_in_range f e = open_at_first f.count f.index (index_within f e)
