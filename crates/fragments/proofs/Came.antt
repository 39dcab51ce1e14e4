-- What is kept came in fragments, and so did what is answered.
use Rattle.std.proofs.Common.{◌≡◌, ℕ, zero, suc, ◌<◌, Bool, true, false, cond, eqb, List, [], ◌∷◌, ◌++◌, length, get_or, map, take, drop}
use Rattle.std.proofs.Common.{replicate, All, Option, Some, None, refl, sym, subst, ◌∙◌, arith, inl, inr}
use Rattle.std.specs.Prelude.{slice_get}
use Rattle.std.proofs.lemmas.Bool.{cases_lt, cases_eq, eqb-true, ltb-true, not-false, or_parts, and_parts}
use Rattle.std.proofs.lemmas.List.{append-nil, get_or-set_same, get_or-set_other, set_past, length-set, length-map, length-replicate}
use Rattle.std.proofs.lemmas.List.Concat.{flat_map-cons}
use Rattle.std.proofs.lemmas.List.Folds.{flat_map-map}
use Rattle.std.proofs.lemmas.List.Elements.{All-nil, All-weaker, All-push, All-drop, All-take, All-append, All-set, All-get_or}
use Rattle.std.proofs.lemmas.List.Quantifiers.{position-Some}
use Rattle.std.proofs.lemmas.Option.{slice_get-get_or, get_or_from_slice_get, slice_get_within}
use Rattle.nop_types.specs.declared.datagram.Fragment.{Fragment}
use Rattle.nop_types.specs.Lists.{Has}
use Rattle.lemmas.proofs.Members.{Has-append_left, Has-push, Has-rest, Has-first}
use Rattle.fragments.specs.Parts.{Partial, missing, whole, bytes_of, with_part}
use Rattle.fragments.specs.Joining.{Waiting, begun, started, refuses, completes, continued, placed, place, joined, at_sender, taken}
use Rattle.fragments.specs.Joining.{taken_if, is_in_range, opening}
use Rattle.fragments.specs.Runs.{part_of, Came, AllCame, StepKeeps, after_all, after, CameInParts}

fragment_is : (f : Fragment) (s n i c : ℕ) (p : List ℕ) → s ≡ f.replica → n ≡ f.message → i ≡ f.index → c ≡ f.count → p ≡ f.payload
    → record { replica = s; message = n; index = i; count = c; payload = p } ≡ f
fragment_is f s n i c p e1 e2 e3 e4 e5 = rw (e1, e2, e3, e4, e5) refl

-- a message with the part that a fragment brought
Came-with : (net : List Fragment) (f : Fragment) (m : Partial) → Has net f → Came net f.replica m → m.number ≡ f.message
    → f.count ≡ length m.parts → Came net f.replica (with_part m f.index f.payload)
Came-with net f m here h number count = record {
  each = λ i p e.
      let m' = with_part m f.index f.payload in
      let same : length m'.parts ≡ length m.parts = length-set m.parts f.index (Some f.payload) in
      let old : get_or m.parts i None ≡ Some p → Has net (part_of f.replica m' i p) =
      λ (k : get_or m.parts i None ≡ Some p). rw same (h.each i p k) in
      elim (cases_eq i f.index) [
        | inl is ↦ elim (cases_lt f.index (length m.parts)) [
          | inl lt ↦
              let q : Some f.payload ≡ Some p = sym (get_or-set_same m.parts f.index (Some f.payload) None lt) ∙ (rw is at e) in
              let payload : p ≡ f.payload = cc in
              let whole_f : part_of f.replica m' i p ≡ f =
              fragment_is f f.replica m.number i _ p refl number is (same ∙ sym count) payload in
              rw whole_f here
          | inr le ↦ old (rw (set_past m.parts f.index (Some f.payload) le) at e)
        ]
        | inr other ↦ old (sym (get_or-set_other m.parts f.index i (Some f.payload) None other) ∙ e)
      ];
}

none_at : (n i : ℕ) → (let r : List (Option (List ℕ)) = replicate n None in get_or r i None) ≡ None
none_at zero i = refl
none_at (suc n) zero = refl
none_at (suc n) (suc i) = none_at n i

Came-begun : (net : List Fragment) (f : Fragment) → Has net f → Came net f.replica (begun f)
Came-begun net f here =
    Came-with net f (record { number = f.message; parts = replicate f.count None }) here
    (record { each = λ i p e. let n = none_at f.count i in absurd cc }) refl (sym (length-replicate f.count None))

all_there : (ps : List (Option (List ℕ))) (i : ℕ) → missing ps ≡ 0 → i < length ps → get_or ps i None ≡ Some (get_or (map bytes_of ps) i [])
all_there [] i h lt = absurd (omega arith)
all_there (None ∷ ps) i h lt = absurd (omega arith)
all_there (Some p ∷ ps) zero h lt = refl
all_there (Some p ∷ ps) (suc i) h lt = all_there ps i h (omega arith)

Came-whole : (net : List Fragment) (f : Fragment) (m : Partial) → Came net f.replica m → m.number ≡ f.message → length m.parts ≡ f.count
    → missing m.parts ≡ 0 → CameInParts net f (whole m.parts)
Came-whole net f m h number count none = record {
  parts = map bytes_of m.parts;
  count = length-map m.parts bytes_of ∙ count;
  joined = sym (flat_map-map (λ (p : List ℕ). p) bytes_of m.parts);
  came = λ i lt. rw (← count, ← number) (h.each i _ (all_there m.parts i none (rw count lt)));
}

-- of a step at one sender
record Keeps (net : List Fragment) (f : Fragment) (r : Waiting × Option (List ℕ)) : Type 0 where
  pub kept : All (Came net f.replica) r.0
  pub gave : (bytes : List ℕ) → r.1 ≡ Some bytes → CameInParts net f bytes

All-chosen : (P : Partial → Type 0) (b : Bool) (q : Waiting) → All P q → All P (cond b (drop 1 q) q)
All-chosen P true q all = All-drop P 1 q all
All-chosen P false q all = all

only_part : (net : List Fragment) (f : Fragment) → Has net f → f.count ≡ 1 → f.index < f.count → CameInParts net f f.payload
only_part net f here one lt = record {
  parts = f.payload ∷ [];
  count = sym one;
  joined = sym (flat_map-cons (λ (p : List ℕ). p) f.payload [] ∙ append-nil f.payload);
  came = λ i small.
      let i0 : i ≡ 0 = omega arith in
      let f0 : f.index ≡ 0 = omega arith in
      rw i0 (subst
      (λ (k : ℕ). Has net (record { replica = f.replica; message = f.message; index = k; count = f.count; payload = f.payload })) f0
      here);
}

started_keeps : (net : List Fragment) (q : Waiting) (f : Fragment) (b : Bool) → Has net f → f.index < f.count → eqb f.count 1 ≡ b
    → All (Came net f.replica) q → Keeps net f (started q f b)
started_keeps net q f true here lt one all = record {
  kept = all;
  gave = λ bytes e. let same : f.payload ≡ bytes = cc in subst (CameInParts net f) same (only_part net f here (eqb-true _ _ one) lt);
}
started_keeps net q f false here lt one all = record {
  kept = All-chosen (Came net f.replica) _ (q ++ begun f ∷ []) (All-push (Came net f.replica) q (begun f) all (Came-begun net f here));
  gave = λ bytes e. absurd cc;
}

-- the index of a fragment that is in its ranges
pub index_within : (f : Fragment) → is_in_range f ≡ true → f.index < f.count
index_within f e = ltb-true _ _ (and_parts _ _ e).0

-- a fragment that is not refused has the count that is kept
same_count : (m : Partial) (f : Fragment) → refuses m f ≡ false → f.count ≡ length m.parts
same_count m f e = eqb-true _ _ (not-false _ (or_parts _ _ e).0)

continued_keeps : (net : List Fragment) (q : Waiting) (f : Fragment) (at : ℕ) (m : Partial) (r l : Bool) → Has net f → refuses m f ≡ r
    → completes m f ≡ l → m.number ≡ f.message → Came net f.replica m → All (Came net f.replica) q → Keeps net f (continued q f at m r l)
continued_keeps net q f at m true l here er el number h all = record {
  kept = all;
  gave = λ bytes e. absurd cc;
}
continued_keeps net q f at m false true here er el number h all =
    let P = Came net f.replica in
    let m' = with_part m f.index f.payload in
    let count : f.count ≡ length m.parts = same_count m f er in
    let size : length m'.parts ≡ f.count = length-set m.parts f.index (Some f.payload) ∙ sym count in
    record {
      kept = All-append P (take at q) (drop (suc at) q) (All-take P at q all) (All-drop P (suc at) q all);
      gave = λ bytes e.
          let same : whole m'.parts ≡ bytes = cc in
          subst (CameInParts net f) same (Came-whole net f m' (Came-with net f m here h number count) number size (eqb-true _ _ el));
    }
continued_keeps net q f at m false false here er el number h all = record {
  kept = All-set (Came net f.replica) q at (with_part m f.index f.payload) (Came-with net f m here h number (same_count m f er)) all;
  gave = λ bytes e. absurd cc;
}

no_message : Partial
no_message = record { number = 0; parts = [] }

placed_keeps : (net : List Fragment) (q : Waiting) (f : Fragment) (o : Option ℕ) → Has net f → f.index < f.count → place q f.message ≡ o
    → All (Came net f.replica) q → Keeps net f (placed q f o)
placed_keeps net q f None here lt e all = started_keeps net q f (eqb f.count 1) here lt refl all
placed_keeps net q f (Some at) here lt e all =
    let found_it = position-Some (λ (m : Partial). eqb m.number f.message) q at no_message e in
    let m = get_or q at no_message in
    rw (slice_get-get_or q at no_message found_it.0)
    (continued_keeps net q f at m (refuses m f) (completes m f) here refl refl (eqb-true _ _ found_it.1)
    (All-get_or (Came net f.replica) q at no_message found_it.0 all) all)

sender_keeps : (net : List Fragment) (all : List Waiting) (f : Fragment) (o : Option Waiting) → Has net f → f.index < f.count
    → slice_get all f.replica ≡ o → AllCame net all → StepKeeps net f (at_sender all f o)
sender_keeps net all f None here lt e h = record { kept = h; gave = λ bytes k. absurd cc }
sender_keeps net all f (Some q) here lt e h =
    let one =
    placed_keeps net q f (place q f.message) here lt refl
    (subst (All (Came net f.replica)) (get_or_from_slice_get all f.replica q [] e) (h.of_sender f.replica)) in
    record {
      kept = record {
        of_sender = λ s. elim (cases_eq s f.replica) [
          | inl is ↦ rw (is, get_or-set_same all f.replica (joined q f).0 [] (slice_get_within all f.replica q e)) one.kept
          | inr other ↦ rw (get_or-set_other all f.replica s (joined q f).0 [] other) (h.of_sender s)
        ];
      };
      gave = one.gave;
    }

range_keeps : (net : List Fragment) (all : List Waiting) (f : Fragment) (b : Bool) → is_in_range f ≡ b → Has net f → AllCame net all
    → StepKeeps net f (taken_if b all f)
range_keeps net all f false e here h = record { kept = h; gave = λ bytes k. absurd cc }
range_keeps net all f true e here h = sender_keeps net all f (slice_get all f.replica) here (index_within f e) refl h

pub keeps_what_came : (net : List Fragment) (all : List Waiting) (f : Fragment) → Has net f → AllCame net all
    → StepKeeps net f (taken all f)
keeps_what_came net all f here h = range_keeps net all f (is_in_range f) refl here h

pub stays_came : (net more : List Fragment) (all : List Waiting) → AllCame net all → AllCame (net ++ more) all
stays_came net more all h = record {
  of_sender = λ s.
      All-weaker (Came net s) (Came (net ++ more) s)
      (λ m k. record { each = λ i p e. Has-append_left net more (part_of s m i p) (k.each i p e) }) (get_or all s []) (h.of_sender s);
}

after_keeps : (net : List Fragment) (all : List Waiting) (fs : List Fragment) → ((g : Fragment) → Has fs g → Has net g) → AllCame net all
    → AllCame net (after_all all fs)
after_keeps net all [] each h = h
after_keeps net all (f ∷ fs) each h =
    after_keeps net (taken all f).0 fs (λ g there. each g (Has-rest g f fs there))
    (keeps_what_came net all f (each f (Has-first f f fs refl)) h).kept

nothing_at : (n s : ℕ) → get_or (opening n) s [] ≡ []
nothing_at zero s = refl
nothing_at (suc n) zero = refl
nothing_at (suc n) (suc s) = nothing_at n s

pub opening_came : (net : List Fragment) (n : ℕ) → AllCame net (opening n)
opening_came net n = record { of_sender = λ s. rw (nothing_at n s) (All-nil (Came net s)) }

pub answers_what_came : (n : ℕ) (past : List Fragment) (f : Fragment) (bytes : List ℕ) → (taken (after n past) f).1 ≡ Some bytes
    → CameInParts (past ++ f ∷ []) f bytes
answers_what_came n past f bytes e =
    let net = past ++ f ∷ [] in
    (keeps_what_came net (after n past) f (Has-push past f)
    (after_keeps net (opening n) past (λ g. Has-append_left past (f ∷ []) g) (opening_came net n))).gave bytes e
