-- Waiting ops, and how many were submitted.
use Rattle.std.proofs.Common.{◌≡◌, ℕ, ◌+◌, refl, sym, ap, ◌∙◌, inl, inr, arith, List, [], ◌∷◌, ◌++◌, length}
use Rattle.std.proofs.Common.{append_assoc, length-append, map}
use Rattle.nop_types.specs.Configuration.{Configuration}
use Rattle.nop_types.specs.Given.{Given, Submit}
use Rattle.nop_types.specs.declared.request.Request.{Request}
use Rattle.nop_types.specs.declared.output.Out.{Out}
use Rattle.nop_types.specs.declared.output.Out.TheVariants.{Submitted}
use Rattle.client_quorum.specs.declared.state.ClientState.{ClientState}
use Rattle.client_quorum.specs.ClientSteps.{opening, next, sent}
use Rattle.client_quorum.specs.OpenRequests.{open_requests}
use Rattle.client_quorum.specs.Rows.{Row, Rests, SaysBusy, Opens, Repeats, Keeps, Accepts}
use Rattle.client_quorum.specs.Runs.{after, gave, ops_of, HasNoSubmit, EndsWith}
use Rattle.client_quorum.proofs.RowLemmas.{row_of}

ops_append : (xs ys : List Out) → ops_of (xs ++ ys) ≡ ops_of xs ++ ops_of ys
ops_append [] ys = refl
ops_append (Submitted r ∷ xs) ys = ap (λ (l : List (List ℕ)). r.op ∷ l) (ops_append xs ys)
ops_append (_ ∷ xs) ys = ops_append xs ys

sent_ops : (qs : List Request) → ops_of (map sent qs) ≡ []
sent_ops [] = refl
sent_ops (q ∷ qs) = sent_ops qs

pub no_submit : (x : Given) (xs : List Given) (op : List ℕ) → HasNoSubmit (x ∷ xs) → x ≡ Submit op → ⊥
no_submit (Submit o) xs op h e = h
no_submit _ xs op h e = cc

pub others : (x : Given) (xs : List Given) → HasNoSubmit (x ∷ xs) → HasNoSubmit xs
others (Submit op) xs h = absurd h
others _ xs h = h

-- ---- in order

row_ops : (s : ClientState) (x : Given) → ((op : List ℕ) → x ≡ Submit op → ⊥) → (y : ClientState × List Out) → Row s x y
    → ops_of y.1 ++ y.0.waiting ≡ s.waiting
row_ops s x alone y (Rests nothing) = refl
row_ops s x alone y (SaysBusy op is busy) = refl
row_ops s x alone y (Opens op waiting may (inl (is, left))) = sym left
row_ops s x alone y (Opens op waiting may (inr (is, same))) = absurd (alone op is)
row_ops s x alone y (Repeats is) = ap (λ (l : List (List ℕ)). l ++ s.waiting) (sent_ops (open_requests s))
row_ops s x alone y (Keeps p has e quorum) = refl
row_ops s x alone y (Accepts p leaders has e quorum) = refl

in_order : (xs : List Given) → HasNoSubmit xs → (s : ClientState) → ops_of (gave s xs) ++ (after s xs).waiting ≡ s.waiting
in_order [] h s = refl
in_order (x ∷ xs) h s =
    let rest = in_order xs (others x xs h) (next s x).0 in
    let first = row_ops s x (λ op e. no_submit x xs op h e) (next s x) (row_of s x) in
    ap (λ (l : List (List ℕ)). l ++ (after (next s x).0 xs).waiting) (ops_append (next s x).1 (gave (next s x).0 xs))
    ∙ append_assoc (ops_of (next s x).1) (ops_of (gave (next s x).0 xs)) (after (next s x).0 xs).waiting
    ∙ ap (λ (l : List (List ℕ)). ops_of (next s x).1 ++ l) rest
    ∙ first

pub waiting_in_order : (config : Configuration) (number : ℕ) (ops : List (List ℕ)) (inputs : List Given) → HasNoSubmit inputs
    → ops_of (gave (opening config number ops) inputs) ++ (after (opening config number ops) inputs).waiting ≡ ops
waiting_in_order config number ops inputs h = in_order inputs h (opening config number ops)

row_ends : (s : ClientState) (x : Given) (y : ClientState × List Out) → Row s x y → EndsWith s.waiting y.0.waiting
row_ends s x y (Rests nothing) = ([], refl)
row_ends s x y (SaysBusy op is busy) = ([], refl)
row_ends s x y (Opens op waiting may (inl (is, left))) = (op ∷ [], left)
row_ends s x y (Opens op waiting may (inr (is, same))) = ([], same)
row_ends s x y (Repeats is) = ([], refl)
row_ends s x y (Keeps p has e quorum) = ([], refl)
row_ends s x y (Accepts p leaders has e quorum) = ([], refl)

ends_from : (xs : List Given) (s : ClientState) → EndsWith s.waiting (after s xs).waiting
ends_from [] s = ([], refl)
ends_from (x ∷ xs) s =
    let first = row_ends s x (next s x) (row_of s x) in
    let rest = ends_from xs (next s x).0 in (
      first.0 ++ rest.0,
      first.1 ∙ ap (λ (l : List (List ℕ)). first.0 ++ l) rest.1
          ∙ sym (append_assoc first.0 rest.0 (after (next s x).0 xs).waiting),
    )

pub waiting_ends : (config : Configuration) (number : ℕ) (ops : List (List ℕ)) (inputs : List Given)
    → EndsWith ops (after (opening config number ops) inputs).waiting
waiting_ends config number ops inputs = ends_from inputs (opening config number ops)

-- ---- how many were submitted

row_counts : (s : ClientState) (x : Given) (y : ClientState × List Out) → Row s x y → y.0.last_id ≡ s.last_id + length (ops_of y.1)
row_counts s x y (Rests nothing) = omega arith
row_counts s x y (SaysBusy op is busy) = omega arith
row_counts s x y (Opens op waiting may from) = refl
row_counts s x y (Repeats is) =
    let none : length (ops_of (map sent (open_requests s))) ≡ length {A = List ℕ} [] =
    ap (λ (l : List (List ℕ)). length l) (sent_ops (open_requests s)) in
    omega (arith, none)
row_counts s x y (Keeps p has e quorum) = omega arith
row_counts s x y (Accepts p leaders has e quorum) = omega arith

counts_from : (xs : List Given) (s : ClientState) → (after s xs).last_id ≡ s.last_id + length (ops_of (gave s xs))
counts_from [] s = omega arith
counts_from (x ∷ xs) s =
    let first = row_counts s x (next s x) (row_of s x) in
    let rest = counts_from xs (next s x).0 in
    let both : length (ops_of (gave s (x ∷ xs))) ≡ length (ops_of (next s x).1) + length (ops_of (gave (next s x).0 xs)) =
    ap (λ (l : List (List ℕ)). length l) (ops_append (next s x).1 (gave (next s x).0 xs))
    ∙ length-append (ops_of (next s x).1) (ops_of (gave (next s x).0 xs)) in
    omega (arith, first, rest, both)

pub last_counts : (config : Configuration) (number : ℕ) (ops : List (List ℕ)) (inputs : List Given)
    → (after (opening config number ops) inputs).last_id ≡ length (ops_of (gave (opening config number ops) inputs))
last_counts config number ops inputs = let h = counts_from inputs (opening config number ops) in omega (arith, h)
