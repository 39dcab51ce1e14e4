-- What is cut is in its ranges, and what is kept stays within the limits.
use Rattle.std.proofs.Common.{◌≡◌, ℕ, suc, ◌+◌, ◌*◌, ◌<◌, ◌≤◌, Bool, true, false, cond, eqb, ltb, List, [], ◌∷◌, ◌++◌, length, get_or, take}
use Rattle.std.proofs.Common.{drop, replicate, All, Option, Some, None, refl, sym, subst, arith, inl, inr}
use Rattle.std.specs.Prelude.{slice_get, nat_lt, nat_le, ◌&&◌, ◌||◌, Result, Ok, Err, OnOk, OnErr}
use Rattle.std.proofs.lemmas.Bool.Decides.{nat_tests}
use Rattle.std.proofs.lemmas.Bool.{ltb-false}
use Rattle.std.proofs.lemmas.List.{length-append, length-drop, length-take, length-set, length-replicate}
use Rattle.std.proofs.lemmas.List.Elements.{All-replicate, All-push, All-drop, All-take, All-append, All-set, All-get_or}
use Rattle.std.proofs.lemmas.List.Quantifiers.{position-Some}
use Rattle.std.proofs.lemmas.Option.{slice_get-get_or, get_or_from_slice_get, slice_get_within}
use Rattle.nop_types.specs.declared.limits.TheConstants.{FRAGMENT_BYTES, MAX_FRAGMENTS, MAX_UNFINISHED}
use Rattle.nop_types.specs.declared.datagram.Fragment.{Fragment}
use Rattle.nop_types.specs.Lists.{Has}
use Rattle.nop_types.specs.Ranges.{FragmentFits}
use Rattle.fragments.specs.Cutting.{piece, piece_count, fragment_at, fragments_of, HasNoCut}
use Rattle.fragments.specs.Parts.{Partial, bytes_of, with_part}
use Rattle.fragments.specs.Joining.{Waiting, is_in_range, begun, started, refuses, completes, continued, placed, place, joined, at_sender}
use Rattle.fragments.specs.Joining.{taken, taken_if}
use Rattle.fragments.specs.Runs.{PartialFits, WaitingFits, CanBeCut}
use Rattle.fragments.proofs.Whole.{is_at}

pub fitting_is_in_range : (f : Fragment) → FragmentFits f → is_in_range f ≡ true
fitting_is_in_range f fits = in_range f.index f.count (length f.payload) fits.index fits.count fits.some fits.most fits.full
  where
    in_range : (i c l : ℕ) → i < c → c ≤ MAX_FRAGMENTS → 1 ≤ l → l ≤ FRAGMENT_BYTES → (i + 1 < c → l ≡ FRAGMENT_BYTES)
        → (nat_lt i
        c && (nat_le c MAX_FRAGMENTS && (nat_lt 0 l && (nat_le l FRAGMENT_BYTES && (nat_le c (i + 1) || nat_le FRAGMENT_BYTES l))))) ≡ true
    in_range i c l within few some most full = grind (arith, nat_tests)

-- ---- pieces

piece_len : (bytes : List ℕ) (i : ℕ) → length (piece bytes i) + 0 ≡ length (take FRAGMENT_BYTES (drop (FRAGMENT_BYTES * i) bytes))
unfolding piece
piece_len bytes i = omega arith

pub record PieceFits (bytes : List ℕ) (i : ℕ) : Type 0 where
  pub some : 1 ≤ length (piece bytes i)
  pub most : length (piece bytes i) ≤ FRAGMENT_BYTES
  pub full : i + 1 < piece_count bytes → length (piece bytes i) ≡ FRAGMENT_BYTES

piece_fits : (bytes : List ℕ) (i : ℕ) → i < piece_count bytes → PieceFits bytes i
unfolding piece_count
piece_fits bytes i lt =
    let l = piece_len bytes i in
    let t = length-take FRAGMENT_BYTES (drop (FRAGMENT_BYTES * i) bytes) in
    let d = length-drop (FRAGMENT_BYTES * i) bytes in
    record {
      some = omega (arith, l, t, d);
      most = omega (arith, l, t);
      full = λ more. omega (arith, l, t, d, more);
    }

pub few_pieces : (bytes : List ℕ) → length bytes ≤ MAX_FRAGMENTS * FRAGMENT_BYTES → piece_count bytes ≤ MAX_FRAGMENTS
unfolding piece_count
few_pieces bytes short = omega (arith, short)

pub has_cut : (bytes : List ℕ) → 1 ≤ length bytes → length bytes ≤ MAX_FRAGMENTS * FRAGMENT_BYTES → ¬ HasNoCut bytes
has_cut bytes some short none = elim none [
  | inl nothing ↦ omega (arith, some, nothing)
  | inr many ↦ omega (arith, many, few_pieces bytes short)
]

pub fragment_fits : (sender number : ℕ) (bytes : List ℕ) (i : ℕ) → CanBeCut sender number bytes → i < piece_count bytes
    → FragmentFits (fragment_at sender number bytes i)
fragment_fits sender number bytes i can lt =
    let p = piece_fits bytes i lt in
    record {
      replica = can.replica;
      message_low = can.low;
      message = can.high;
      index = lt;
      count = can.few;
      some = p.some;
      most = p.most;
      full = p.full;
    }

pub cut_fragments_fit : (sender number : ℕ) (bytes : List ℕ) (f : Fragment) → CanBeCut sender number bytes
    → Has (fragments_of sender number bytes) f → FragmentFits f
cut_fragments_fit sender number bytes f can here =
    let at = is_at sender number bytes (piece_count bytes) f here in
    subst FragmentFits (sym at.same) (fragment_fits sender number bytes f.index can at.below)

-- ---- limits

abbrev PartFits : Option (List ℕ) → Type 0
PartFits part = length (bytes_of part) ≤ FRAGMENT_BYTES

none_long : (n : ℕ) → All PartFits (replicate n None)
none_long n = All-replicate PartFits n None (omega arith)

with_part_fits : (m : Partial) (i : ℕ) (p : List ℕ) → PartialFits m → length p ≤ FRAGMENT_BYTES → PartialFits (with_part m i p)
with_part_fits m i p fits short = record {
  count = omega (arith, length-set m.parts i (Some p), fits.count);
  each = All-set PartFits m.parts i (Some p) short fits.each;
}

-- of a fragment that is in its ranges
record IsShort (f : Fragment) : Type 0 where
  pub count : f.count ≤ MAX_FRAGMENTS
  pub payload : length f.payload ≤ FRAGMENT_BYTES

is_short : (f : Fragment) → is_in_range f ≡ true → IsShort f
is_short f e =
    let few : f.count ≤ MAX_FRAGMENTS = grind (arith, nat_tests, e) in
    let short : length f.payload ≤ FRAGMENT_BYTES = grind (arith, nat_tests, e) in
    record { count = few; payload = short }

begun_fits : (f : Fragment) → IsShort f → PartialFits (begun f)
begun_fits f short =
    with_part_fits (record { number = f.message; parts = replicate f.count None }) f.index f.payload
    (record { count = omega (arith, length-replicate f.count (none_of f), short.count); each = none_long f.count }) short.payload
  where
    none_of : Fragment → Option (List ℕ)
    none_of f = None

limit_fits : (b : Bool) (q : Waiting) → ltb MAX_UNFINISHED (length q) ≡ b → length q ≤ MAX_UNFINISHED + 1 → All PartialFits q
    → WaitingFits (cond b (drop 1 q) q)
limit_fits true q e few each = record { few = omega (arith, length-drop 1 q); each = All-drop PartialFits 1 q each }
limit_fits false q e few each = record { few = ltb-false _ _ e; each = each }

started_fits : (q : Waiting) (f : Fragment) (b : Bool) → IsShort f → WaitingFits q → WaitingFits (started q f b).0
started_fits q f true short fits = fits
started_fits q f false short fits =
    let longer : length (q ++ begun f ∷ []) ≤ MAX_UNFINISHED + 1 = omega (arith, length-append q (begun f ∷ []), fits.few) in
    limit_fits _ (q ++ begun f ∷ []) refl longer (All-push PartialFits q (begun f) fits.each (begun_fits f short))

continued_fits : (q : Waiting) (f : Fragment) (at : ℕ) (m : Partial) (r l : Bool) → IsShort f → PartialFits m → WaitingFits q
    → WaitingFits (continued q f at m r l).0
continued_fits q f at m true l short own fits = fits
continued_fits q f at m false true short own fits = record {
  few = omega (arith, length-append (take at q) (drop (suc at) q), length-take at q, length-drop (suc at) q, fits.few);
  each =
      All-append PartialFits (take at q) (drop (suc at) q) (All-take PartialFits at q fits.each)
      (All-drop PartialFits (suc at) q fits.each);
}
continued_fits q f at m false false short own fits = record {
  few = omega (arith, length-set q at (with_part m f.index f.payload), fits.few);
  each = All-set PartialFits q at (with_part m f.index f.payload) (with_part_fits m f.index f.payload own short.payload) fits.each;
}

no_message : Partial
no_message = record { number = 0; parts = [] }

placed_fits : (q : Waiting) (f : Fragment) (o : Option ℕ) → IsShort f → place q f.message ≡ o → WaitingFits q → WaitingFits (placed q f o).0
placed_fits q f None short e fits = started_fits q f (eqb f.count 1) short fits
placed_fits q f (Some at) short e fits =
    let found_it = position-Some (λ (m : Partial). eqb m.number f.message) q at no_message e in
    let m = get_or q at no_message in
    rw (slice_get-get_or q at no_message found_it.0)
    (continued_fits q f at m (refuses m f) (completes m f) short (All-get_or PartialFits q at no_message found_it.0 fits.each) fits)

sender_fits : (all : List Waiting) (f : Fragment) (o : Option Waiting) → IsShort f → slice_get all f.replica ≡ o → All WaitingFits all
    → All WaitingFits (at_sender all f o).0
sender_fits all f None short e fits = fits
sender_fits all f (Some q) short e fits =
    let own : WaitingFits q =
    subst WaitingFits (get_or_from_slice_get all f.replica q [] e)
    (All-get_or WaitingFits all f.replica [] (slice_get_within all f.replica q e) fits) in
    All-set WaitingFits all f.replica (joined q f).0 (placed_fits q f (place q f.message) short refl own) fits

range_fits : (all : List Waiting) (f : Fragment) (b : Bool) → is_in_range f ≡ b → All WaitingFits all → All WaitingFits (taken_if b all f).0
range_fits all f false e fits = fits
range_fits all f true e fits = sender_fits all f (slice_get all f.replica) (is_short f e) refl fits

pub taken_fits : (all : List Waiting) (f : Fragment) → All WaitingFits all → All WaitingFits (taken all f).0
taken_fits all f fits = range_fits all f (is_in_range f) refl fits

-- what a queue becomes where a fragment was taken, or memory ran out
pub queue_fits : {A E : Type 0} (r : Result A E) (q q' : Waiting) (f : Fragment) (o : Option ℕ) → is_in_range f ≡ true
    → place q f.message ≡ o → OnOk r (q' ≡ (placed q f o).0) → OnErr r (q' ≡ q) → WaitingFits q → WaitingFits q'
queue_fits (Ok a) q q' f o e at ok err fits = subst WaitingFits (sym ok) (placed_fits q f o (is_short f e) at fits)
queue_fits (Err x) q q' f o e at ok err fits = subst WaitingFits (sym err) fits
