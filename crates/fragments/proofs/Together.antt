-- What is cut and comes in order is joined.
use Rattle.std.proofs.Common.{◌≡◌, ℕ, zero, suc, ◌+◌, ◌-◌, ◌*◌, ◌<◌, ◌≤◌, ◌≢◌, true, false, eqb, List, [], ◌∷◌, ◌++◌, length, set}
use Rattle.std.proofs.Common.{replicate, Option, Some, None, refl, sym, ap, ◌∙◌, append_assoc, arith, add-one}
use Rattle.std.specs.Prelude.{slice_get}
use Rattle.std.specs.Option.{option_to_list}
use Rattle.std.proofs.lemmas.List.{append-nil, length-append, length-set, length-replicate, set-append_right, set-set, get_or-append_right}
use Rattle.std.proofs.lemmas.List.{get_or-set_same, take_all}
use Rattle.std.proofs.lemmas.Option.{slice_get-get_or}
use Rattle.std.proofs.lemmas.Bool.{eq-eqb, ne_eqb}
use Rattle.nop_types.specs.declared.limits.TheConstants.{FRAGMENT_BYTES}
use Rattle.nop_types.specs.declared.datagram.Fragment.{Fragment}
use Rattle.fragments.specs.Cutting.{piece, piece_count, fragment_at, first_fragments, fragments_of}
use Rattle.fragments.specs.Prefix.{prefix_parts}
use Rattle.fragments.specs.Parts.{Partial, missing, is_open, whole, with_part}
use Rattle.fragments.specs.Joining.{Waiting, place, placed, joined, taken, at_sender, opening, is_in_range}
use Rattle.fragments.specs.Runs.{after_all, answered, CanBeCut}
use Rattle.fragments.proofs.Prefixes.{prefix_len, whole_taken}
use Rattle.fragments.proofs.Counting.{missing_replicate}
use Rattle.fragments.proofs.Goes.{found_last, found_more}
use Rattle.fragments.proofs.Limits.{fragment_fits, fitting_is_in_range}
use Rattle.fragments.proofs.Whole.{enough}

-- ---- the first `k` parts of a message, and `j` that are missing

abbrev parts_at : List ℕ → ℕ → ℕ → List (Option (List ℕ))
parts_at bytes k j = prefix_parts bytes k ++ replicate j None

len_at : (bytes : List ℕ) (k j : ℕ) → length (parts_at bytes k j) ≡ k + j
len_at bytes k j = let none : Option (List ℕ) = None in
    omega (arith, length-append (prefix_parts bytes k) (replicate j none), prefix_len bytes k, length-replicate j none)

missing-append : (xs ys : List (Option (List ℕ))) → missing (xs ++ ys) ≡ missing xs + missing ys
missing-append [] ys = omega arith
missing-append (None ∷ xs) ys = omega (arith, missing-append xs ys)
missing-append (Some x ∷ xs) ys = missing-append xs ys

missing_prefix : (bytes : List ℕ) (k : ℕ) → missing (prefix_parts bytes k) ≡ 0
missing_prefix bytes zero = refl
missing_prefix bytes (suc k) = missing-append (prefix_parts bytes k) (Some (piece bytes k) ∷ []) ∙ rw (missing_prefix bytes k) refl

missing_at : (bytes : List ℕ) (k j : ℕ) → missing (parts_at bytes k j) ≡ j
missing_at bytes k j = omega (arith, missing-append (prefix_parts bytes k) (replicate j None), missing_prefix bytes k, missing_replicate j)

open_at : (bytes : List ℕ) (k j : ℕ) → is_open (parts_at bytes k (suc j)) k ≡ true
open_at bytes k j =
    let none : k - k ≡ 0 = omega arith in
    rw (get_or-append_right (prefix_parts bytes k) (replicate (suc j) None) k k (Some []) (prefix_len bytes k) (omega arith), none) refl

set_at : (bytes : List ℕ) (k j : ℕ) → set (parts_at bytes k (suc j)) k (Some (piece bytes k)) ≡ parts_at bytes (suc k) j
set_at bytes k j =
    let a = prefix_parts bytes k in
    let x : Option (List ℕ) = Some (piece bytes k) in
    let rest : List (Option (List ℕ)) = replicate j None in
    let none : k - k ≡ 0 = omega arith in
    let moved : set (a ++ (None ∷ rest)) k x ≡ a ++ set (None ∷ rest) (k - k) x =
    set-append_right a (None ∷ rest) k k x (prefix_len bytes k) (omega arith) in
    moved ∙ rw none (sym (append_assoc a (x ∷ []) rest))

whole_at : (bytes : List ℕ) (k : ℕ) → piece_count bytes ≡ k → whole (parts_at bytes k 0) ≡ bytes
whole_at bytes k e =
    ap whole (append-nil (prefix_parts bytes k)) ∙ whole_taken bytes k ∙ take_all (FRAGMENT_BYTES * k) bytes (rw (← e) (enough bytes))

-- ---- one step at the sender

abbrev kept_at : ℕ → List ℕ → ℕ → ℕ → Waiting
kept_at number bytes k j = record { number = number; parts = parts_at bytes k j } ∷ []

place_own : (m : Partial) (number : ℕ) → m.number ≡ number → place (m ∷ []) number ≡ Some 0
place_own m number e = let same : eqb m.number number ≡ true = eq-eqb _ _ e in rw same refl

all_in_one : (bytes : List ℕ) → piece_count bytes ≡ 1 → piece bytes 0 ≡ bytes
unfolding piece piece_count
all_in_one bytes e = take_all FRAGMENT_BYTES bytes (omega arith)

only_joined : (s number : ℕ) (bytes : List ℕ) → piece_count bytes ≡ 1 → joined [] (fragment_at s number bytes 0) ≡ ([], Some bytes)
only_joined s number bytes e =
    let one : eqb (piece_count bytes) 1 ≡ true = eq-eqb _ _ e in
    rw one (ap (λ (b : List ℕ). ([], Some b)) (all_in_one bytes e))

first_joined : (s number : ℕ) (bytes : List ℕ) (j : ℕ) → piece_count bytes ≡ suc (suc j)
    → joined [] (fragment_at s number bytes 0) ≡ (kept_at number bytes 1 (suc j), None)
first_joined s number bytes j e =
    let more : eqb (piece_count bytes) 1 ≡ false = ne_eqb _ _ (λ one. absurd (omega (arith, e, one))) in
    rw (more, e) refl

next_joined : (s number : ℕ) (bytes : List ℕ) (k j : ℕ) → piece_count bytes ≡ k + suc (suc j)
    → joined (kept_at number bytes k (suc (suc j))) (fragment_at s number bytes k) ≡ (kept_at number bytes (suc k) (suc j), None)
next_joined s number bytes k j e =
    let m : Partial = record { number = number; parts = parts_at bytes k (suc (suc j)) } in
    let f = fragment_at s number bytes k in
    let more : missing m.parts ≢ 1 = λ one. absurd (omega (arith, missing_at bytes k (suc (suc j)), one)) in
    let left : joined (m ∷ []) f ≡ (set (m ∷ []) 0 (with_part m f.index f.payload), None) = ap (placed (m ∷ []) f) (place_own m number refl)
    ∙ found_more (m ∷ []) f 0 m refl (e ∙ sym (len_at bytes k (suc (suc j)))) (open_at bytes k (suc j)) more in
    left ∙ ap (λ (ps : List (Option (List ℕ))). (record { number = number; parts = ps } ∷ [], None)) (set_at bytes k (suc j))

last_joined : (s number : ℕ) (bytes : List ℕ) (k : ℕ) → piece_count bytes ≡ k + 1
    → joined (kept_at number bytes k 1) (fragment_at s number bytes k) ≡ ([], Some bytes)
last_joined s number bytes k e =
    let m : Partial = record { number = number; parts = parts_at bytes k 1 } in
    let f = fragment_at s number bytes k in
    let left : joined (m ∷ []) f ≡ ([], Some (whole (with_part m f.index f.payload).parts)) =
    ap (placed (m ∷ []) f) (place_own m number refl)
    ∙ found_last (m ∷ []) f 0 m refl (e ∙ sym (len_at bytes k 1)) (open_at bytes k 0) (missing_at bytes k 1) in
    left ∙ ap (λ (b : List ℕ). ([], Some b)) (ap whole (set_at bytes k 0) ∙ whole_at bytes (suc k) (e ∙ add-one k))

-- ---- a message that is joined, among the messages of all senders

abbrev only_of : ℕ → ℕ → Waiting → List Waiting
only_of n s q = set (opening n) s q

only_none : (n s : ℕ) → only_of n s [] ≡ opening n
only_none zero s = refl
only_none (suc n) zero = refl
only_none (suc n) (suc s) = ap (λ (all : List Waiting). [] ∷ all) (only_none n s)

taken_at : (n : ℕ) (f : Fragment) (q : Waiting) (r : Waiting × Option (List ℕ)) → f.replica < n → is_in_range f ≡ true → joined q f ≡ r
    → taken (only_of n f.replica q) f ≡ (only_of n f.replica r.0, r.1)
taken_at n f q r lt range e =
    let none : Waiting = [] in
    let all = only_of n f.replica q in
    let below : f.replica < length (opening n) = omega (arith, lt, length-replicate n none) in
    let here : slice_get all f.replica ≡ Some q =
    slice_get-get_or all f.replica [] (omega (arith, below, length-set (opening n) f.replica q))
    ∙ ap (λ (w : Waiting). Some w) (get_or-set_same (opening n) f.replica q [] below) in
    let left : taken all f ≡ (set all f.replica (joined q f).0, (joined q f).1) = rw range (ap (at_sender all f) here) in
    left ∙ rw e (ap (λ (w : List Waiting). (w, r.1)) (set-set (opening n) f.replica q r.0))

-- ---- all of them

after-push : (all : List Waiting) (fs : List Fragment) (f : Fragment) → after_all all (fs ++ f ∷ []) ≡ (taken (after_all all fs) f).0
after-push all [] f = refl
after-push all (g ∷ fs) f = after-push (taken all g).0 fs f

answered-push : (all : List Waiting) (fs : List Fragment) (f : Fragment)
    → answered all (fs ++ f ∷ []) ≡ answered all fs ++ option_to_list (taken (after_all all fs) f).1
answered-push all [] f = append-nil (option_to_list (taken all f).1)
answered-push all (g ∷ fs) f =
    let a = option_to_list (taken all g).1 in
    ap (λ (b : List (List ℕ)). a ++ b) (answered-push (taken all g).0 fs f)
    ∙ sym (append_assoc a (answered (taken all g).0 fs) (option_to_list (taken (after_all (taken all g).0 fs) f).1))

-- what some fragments leave and answer
record Reaches (all : List Waiting) (fs : List Fragment) (r : List Waiting × List (List ℕ)) : Type 0 where
  pub kept : after_all all fs ≡ r.0
  pub gave : answered all fs ≡ r.1

reaches_more : (all : List Waiting) (fs : List Fragment) (f : Fragment) (kept : List Waiting) (r : List Waiting × Option (List ℕ))
    → Reaches all fs (kept, []) → taken kept f ≡ r → Reaches all (fs ++ f ∷ []) (r.0, option_to_list r.1)
reaches_more all fs f kept r so_far e =
    let one : taken (after_all all fs) f ≡ r = ap (λ (w : List Waiting). taken w f) so_far.kept ∙ e in
    record {
      kept = after-push all fs f ∙ ap (λ (x : List Waiting × Option (List ℕ)). x.0) one;
      gave = answered-push all fs f ∙ ap (λ (b : List (List ℕ)). b ++ option_to_list (taken (after_all all fs) f).1) so_far.gave
          ∙ ap (λ (x : List Waiting × Option (List ℕ)). option_to_list x.1) one;
    }

range_at : (s number : ℕ) (bytes : List ℕ) (k : ℕ) → CanBeCut s number bytes → k < piece_count bytes
    → is_in_range (fragment_at s number bytes k) ≡ true
range_at s number bytes k can lt = fitting_is_in_range (fragment_at s number bytes k) (fragment_fits s number bytes k can lt)

-- the first one, where nothing is kept
begins : (n s number : ℕ) (bytes : List ℕ) (r : Waiting × Option (List ℕ)) → s < n → CanBeCut s number bytes → 1 ≤ piece_count bytes
    → joined [] (fragment_at s number bytes 0) ≡ r
    → Reaches (opening n) (first_fragments s number bytes 1) (only_of n s r.0, option_to_list r.1)
begins n s number bytes r lt can some e =
    let f = fragment_at s number bytes 0 in
    let step : taken (opening n) f ≡ (only_of n s r.0, r.1) =
    ap (λ (w : List Waiting). taken w f) (sym (only_none n s)) ∙ taken_at n f [] r lt (range_at s number bytes 0 can (omega arith)) e in
    reaches_more (opening n) [] f (opening n) (only_of n s r.0, r.1) (record { kept = refl; gave = refl }) step

partway : (n s number : ℕ) (bytes : List ℕ) (k j : ℕ) → s < n → CanBeCut s number bytes → piece_count bytes ≡ suc k + suc j
    → Reaches (opening n) (first_fragments s number bytes (suc k)) (only_of n s (kept_at number bytes (suc k) (suc j)), [])
partway n s number bytes zero j lt can e =
    begins n s number bytes (kept_at number bytes 1 (suc j), None) lt can (omega (arith, e))
    (first_joined s number bytes j (omega (arith, e)))
partway n s number bytes (suc k) j lt can e =
    let f = fragment_at s number bytes (suc k) in
    let before = partway n s number bytes k (suc j) lt can (omega (arith, e)) in
    let step =
    taken_at n f (kept_at number bytes (suc k) (suc (suc j))) (kept_at number bytes (suc (suc k)) (suc j), None) lt
    (range_at s number bytes (suc k) can (omega (arith, e))) (next_joined s number bytes (suc k) j (omega (arith, e))) in
    reaches_more (opening n) (first_fragments s number bytes (suc k)) f (only_of n s (kept_at number bytes (suc k) (suc (suc j))))
    (only_of n s (kept_at number bytes (suc (suc k)) (suc j)), None) before step

some_pieces : (bytes : List ℕ) → 1 ≤ length bytes → 1 ≤ piece_count bytes
unfolding piece_count
some_pieces bytes some = omega arith

all_joined : (n s number : ℕ) (bytes : List ℕ) (c : ℕ) → s < n → CanBeCut s number bytes → piece_count bytes ≡ c
    → answered (opening n) (first_fragments s number bytes c) ≡ bytes ∷ []
all_joined n s number bytes zero lt can e = absurd (omega (arith, e, some_pieces bytes can.some))
all_joined n s number bytes (suc zero) lt can e =
    (begins n s number bytes ([], Some bytes) lt can (omega (arith, e)) (only_joined s number bytes e)).gave
all_joined n s number bytes (suc (suc k)) lt can e =
    let f = fragment_at s number bytes (suc k) in
    let before = partway n s number bytes k 0 lt can (omega (arith, e)) in
    let step =
    taken_at n f (kept_at number bytes (suc k) 1) ([], Some bytes) lt (range_at s number bytes (suc k) can (omega (arith, e)))
    (last_joined s number bytes (suc k) (omega (arith, e))) in
    (reaches_more (opening n) (first_fragments s number bytes (suc k)) f (only_of n s (kept_at number bytes (suc k) 1))
    (only_of n s [], Some bytes) before step).gave

pub cut_is_joined : (n sender number : ℕ) (bytes : List ℕ) → sender < n → CanBeCut sender number bytes
    → answered (opening n) (fragments_of sender number bytes) ≡ bytes ∷ []
cut_is_joined n sender number bytes lt can = all_joined n sender number bytes (piece_count bytes) lt can refl
