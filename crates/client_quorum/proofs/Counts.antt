-- A client's ops wait, are open, or were accepted.
use Rattle.std.proofs.Common.{◌≡◌, ℕ, ◌+◌, ◌<◌, true, false, refl, ap, ◌∙◌, inl, inr, arith, List, [], ◌∷◌, ◌++◌, length, length-append, map}
use Rattle.std.specs.Prelude.{◌&&◌}
use Rattle.nop_types.specs.Configuration.{Configuration}
use Rattle.nop_types.specs.Given.{Given, Submit}
use Rattle.nop_types.specs.declared.output.Out.{Out}
use Rattle.nop_types.specs.declared.output.Out.TheVariants.{Accepted}
use Rattle.nop_types.specs.declared.request.Request.{Request}
use Rattle.client_quorum.specs.declared.state.ClientState.{ClientState}
use Rattle.client_quorum.specs.ClientSteps.{opening, next, request_of, sent, kept, is_done}
use Rattle.client_quorum.specs.OpenRequests.{open_requests}
use Rattle.client_quorum.specs.Opens.{is_empty}
use Rattle.client_quorum.specs.Rows.{Row, Rests, SaysBusy, Opens, Repeats, Keeps, Accepts}
use Rattle.client_quorum.specs.Runs.{accept_count, after, gave, without, HasNoSubmit}
use Rattle.client_quorum.proofs.Apart.{one_less, opening_tidy, row_tidy, IsTidy}
use Rattle.client_quorum.proofs.OpenRequests.{closes, expected_is_open, keeps, open_has, opening_opens_none, opens}
use Rattle.client_quorum.proofs.RowLemmas.{row_of}
use Rattle.client_quorum.proofs.Waits.{no_submit, others}

accepts_append : (xs ys : List Out) → accept_count (xs ++ ys) ≡ accept_count xs + accept_count ys
accepts_append [] ys = omega arith
accepts_append (Accepted client id result ∷ xs) ys = let rest = accepts_append xs ys in omega (arith, rest)
accepts_append (_ ∷ xs) ys = accepts_append xs ys

sent_accept_none : (qs : List Request) → accept_count (map sent qs) ≡ 0
sent_accept_none [] = refl
sent_accept_none (q ∷ qs) = sent_accept_none qs

-- how many ops wait or are open
abbrev left : ClientState → ℕ
left s = length (open_requests s) + length s.waiting

-- a row accepts as many requests as are open or wait less after it
row_keeps : (s : ClientState) (x : Given) → IsTidy s → ((op : List ℕ) → x ≡ Submit op → ⊥) → (y : ClientState × List Out) → Row s x y
    → accept_count y.1 + left y.0 ≡ left s
row_keeps s x tidy alone y (Rests nothing) = omega arith
row_keeps s x tidy alone y (SaysBusy op is busy) = omega arith
row_keeps s x tidy alone y (Opens op waiting may (inl (is, from))) =
    let now = opens s (request_of s op) waiting in
    rw (now.requests, from) (omega (arith, length-append {A = Request}))
row_keeps s x tidy alone y (Opens op waiting may (inr (is, same))) = absurd (alone op is)
row_keeps s x tidy alone y (Repeats is) = let none = sent_accept_none (open_requests s) in omega (arith, none)
row_keeps s x tidy alone y (Keeps p has e quorum) = rw (keeps s p (expected_is_open s p e)).requests (omega arith)
row_keeps s x tidy alone y (Accepts p leaders has e quorum) =
    let is = expected_is_open s p e in
    let left_then : open_requests y.0 ≡ without (open_requests s) p.id =
    (closes (kept s p) p.id leaders).requests ∙ ap (λ (qs : List Request). without qs p.id) (keeps s p is).requests in
    let fewer : length (open_requests y.0) ≡ length (without (open_requests s) p.id) =
    ap (λ (qs : List Request). length qs) left_then in
    let one = one_less (open_requests s) p.id tidy.apart (open_has s p.id is) in
    omega (arith, fewer, one)

run_keeps : (xs : List Given) → HasNoSubmit xs → (s : ClientState) → IsTidy s → accept_count (gave s xs) + left (after s xs) ≡ left s
run_keeps [] alone s tidy = omega arith
run_keeps (x ∷ xs) alone s tidy =
    let one = row_keeps s x tidy (λ op e. no_submit x xs op alone e) (next s x) (row_of s x) in
    let rest = run_keeps xs (others x xs alone) (next s x).0 (row_tidy s x tidy (next s x) (row_of s x)) in
    let both = accepts_append (next s x).1 (gave (next s x).0 xs) in
    omega (arith, one, rest, both)

closed : (qs : List Request) (ops : List (List ℕ)) → (is_empty qs && is_empty ops) ≡ true → length qs + length ops ≡ 0
closed [] [] is = refl
closed [] (op ∷ ops) is = absurd cc
closed (q ∷ qs) ops is = absurd cc

still_open : (qs : List Request) (ops : List (List ℕ)) → (is_empty qs && is_empty ops) ≡ false → 0 < length qs + length ops
still_open [] [] is = absurd cc
still_open [] (op ∷ ops) is = omega arith
still_open (q ∷ qs) ops is = omega arith

module _ (config : Configuration) (number : ℕ) (ops : List (List ℕ)) (inputs : List Given) (alone : HasNoSubmit inputs) where
  abbrev s : ClientState
  s = opening config number ops

  whole : accept_count (gave s inputs) + left (after s inputs) ≡ length ops
  whole =
      let all = run_keeps inputs alone s (opening_tidy config number ops) in
      let none : length (open_requests s) ≡ 0 = rw (opening_opens_none config number ops) refl in
      omega (arith, all, none)

  pub all_accepted : is_done (after s inputs) ≡ true → accept_count (gave s inputs) ≡ length ops
  all_accepted is =
      let none = closed (open_requests (after s inputs)) (after s inputs).waiting is in
      omega (arith, whole, none)

  pub some_open : is_done (after s inputs) ≡ false → accept_count (gave s inputs) < length ops
  some_open is =
      let some = still_open (open_requests (after s inputs)) (after s inputs).waiting is in
      omega (arith, whole, some)
