-- No answer is fresh before the client is done, and one is once it is.
use Rattle.std.proofs.Common.{◌≡◌, ℕ, ◌+◌, ◌≤◌, Bool, true, false, cond, None, refl, sym, ap, subst, ◌∙◌, inl, inr, arith, List, [], ◌∷◌}
use Rattle.std.proofs.Common.{◌++◌, map}
use Rattle.std.specs.Prelude.{◌⊎◌, ◌||◌, not, nat_le}
use Rattle.std.specs.List.{list_any}
use Rattle.std.proofs.lemmas.Bool.{and_right, false≢true, not_from_true, or_from, or_left, or_right}
use Rattle.nop_types.specs.Configuration.{Configuration}
use Rattle.nop_types.specs.Given.{Given, Ticked, Read}
use Rattle.nop_types.specs.declared.input.Tick.TheVariants as ticks
use Rattle.nop_types.specs.declared.output.Out.{Out}
use Rattle.nop_types.specs.declared.request.Request.{Request}
use Rattle.client_reads.specs.ReadSteps as reads
use Rattle.client_reads.specs.ReadSteps.{ended}
use Rattle.client_reads.specs.Rows.{Row, Rests, SaysBusy, Asks, Repeats, Ends}
use Rattle.client_reads.specs.declared.state.Reads.{Reads}
use Rattle.client_reads.proofs.RowLemmas.{row_of}
use Rattle.client_quorum.specs.ClientSteps as requests
use Rattle.client_quorum.specs.Core as client
use Rattle.client_quorum.specs.Core.{Client, HasNoRead, IsNoRead}
use Rattle.client_quorum.specs.OpenRequests.{open_requests}
use Rattle.client_quorum.specs.Rows as request_rows
use Rattle.client_quorum.specs.declared.state.ClientState.{ClientState}
use Rattle.client_quorum.proofs.Alone.{step_alone}
use Rattle.client_quorum.proofs.RowLemmas.{row_of as request_row}
use Rattle.fresh_reads.specs.FreshReads.{after, asks_again, fresh_count, gave, is_done, is_fresh, next, opening, took, turned, FreshRead}

-- ---- counts

fresh_append : (least : ℕ) (xs ys : List Out) → fresh_count least (xs ++ ys) ≡ fresh_count least xs + fresh_count least ys
fresh_append least [] ys = omega arith
fresh_append least (x ∷ xs) ys = on (is_fresh least x) (fresh_append least xs ys)
  where
    on : (b : Bool) → fresh_count least (xs ++ ys) ≡ fresh_count least xs + fresh_count least ys
        → cond b (1 + fresh_count least (xs ++ ys)) (fresh_count least (xs ++ ys))
        ≡ cond b (1 + fresh_count least xs) (fresh_count least xs) + fresh_count least ys
    on true rest = omega (arith, rest)
    on false rest = rest

none_is_fresh : (least : ℕ) (xs : List Out) → fresh_count least xs ≡ 0 → list_any (λ o. is_fresh least o) xs ≡ false
none_is_fresh least [] none = refl
none_is_fresh least (x ∷ xs) none = on (is_fresh least x) none (none_is_fresh least xs)
  where
    on : (b : Bool) → cond b (1 + fresh_count least xs) (fresh_count least xs) ≡ 0
        → (fresh_count least xs ≡ 0 → list_any (λ o. is_fresh least o) xs ≡ false) → (b || list_any (λ o. is_fresh least o) xs) ≡ false
    on true some rest = absurd (omega (arith, some))
    on false few rest = rest few

one_is_fresh : (least : ℕ) (xs : List Out) → 1 ≤ fresh_count least xs → list_any (λ o. is_fresh least o) xs ≡ true
one_is_fresh least [] some = absurd (omega (arith, some))
one_is_fresh least (x ∷ xs) some = on (is_fresh least x) some (one_is_fresh least xs)
  where
    on : (b : Bool) → 1 ≤ cond b (1 + fresh_count least xs) (fresh_count least xs)
        → (1 ≤ fresh_count least xs → list_any (λ o. is_fresh least o) xs ≡ true) → (b || list_any (λ o. is_fresh least o) xs) ≡ true
    on true many rest = refl
    on false many rest = rest many

-- ---- rows

sent_none : (least : ℕ) (qs : List Request) → fresh_count least (map requests.sent qs) ≡ 0
sent_none least [] = refl
sent_none least (q ∷ qs) = sent_none least qs

-- the requests answer no read
requests_none : (least : ℕ) (s : ClientState) (x : Given) (y : ClientState × List Out) → request_rows.Row s x y → fresh_count least y.1 ≡ 0
requests_none least s x y (request_rows.Rests nothing) = refl
requests_none least s x y (request_rows.SaysBusy op is busy) = refl
requests_none least s x y (request_rows.Opens op waiting may from) = refl
requests_none least s x y (request_rows.Repeats is) = sent_none least (open_requests s)
requests_none least s x y (request_rows.Keeps p has e quorum) = refl
requests_none least s x y (request_rows.Accepts p leaders has e quorum) = refl

-- where the reads give a fresh answer, no read waits then
abbrev GivesOne : ℕ → Reads × List Out → Type 0
GivesOne least y = (fresh_count least y.1 ≡ 0) ⊎ ((fresh_count least y.1 ≡ 1) × (y.0.pending ≡ None))

reads_give : (least : ℕ) (r : Reads) (x : Given) (y : Reads × List Out) → Row r x y → GivesOne least y
reads_give least r x y (Rests nothing) = inl refl
reads_give least r x y (SaysBusy observer key is busy) = inl refl
reads_give least r x y (Asks observer key is may) = inl refl
reads_give least r x y (Repeats q is e) = inl refl
reads_give least r x y (Ends q a has e answers) = on (nat_le least a.position)
  where
    one_if : Bool → ℕ
    one_if b = cond b 1 0

    on : (b : Bool) → (one_if b ≡ 0) ⊎ ((one_if b ≡ 1) × ((ended r).pending ≡ None))
    on true = inr (refl, refl)
    on false = inl refl

-- ---- steps

-- with so many fresh answers: none, or one, and no read waits
abbrev Stands : FreshRead → ℕ → Type 0
Stands s n = ((s.reached ≡ false) × (n ≡ 0)) ⊎ ((s.reached ≡ true) × (n ≡ 1) × (s.client.reads.pending ≡ None))

turned_not : (observer : ℕ) (key : List ℕ) (x : Given) → turned false observer key x ≡ x
turned_not observer key (Ticked ticks.Retry) = refl
turned_not observer key x = refl

module _ (s : FreshRead) (x : Given) where
  abbrev given : Given
  given = turned (asks_again s) s.observer s.key x

  abbrev from_requests : List Out
  from_requests = (requests.next s.client.requests given).1

  abbrev from_reads : List Out
  from_reads = (reads.next s.client.reads given).1

  none_from_requests : fresh_count s.least from_requests ≡ 0
  none_from_requests =
      requests_none s.least s.client.requests given (requests.next s.client.requests given) (request_row s.client.requests given)

  -- where none was fresh
  open_stands : s.reached ≡ false → Stands (next s x).0 (fresh_count s.least (next s x).1)
  open_stands open_ =
      let both = fresh_append s.least from_requests from_reads in
      let none = none_from_requests in
      elim (reads_give s.least s.client.reads given (reads.next s.client.reads given) (row_of s.client.reads given)) [
        | inl few ↦
            let all : fresh_count s.least (from_requests ++ from_reads) ≡ 0 = omega (arith, both, none, few) in
            inl (
              or_from s.reached (list_any (λ o. is_fresh s.least o) (from_requests ++ from_reads)) open_
                  (none_is_fresh s.least (from_requests ++ from_reads) all),
              all,
            )
        | inr one ↦
            let some = one.0 in
            let all : fresh_count s.least (from_requests ++ from_reads) ≡ 1 = omega (arith, both, none, some) in
            inr (
              or_right s.reached (list_any (λ o. is_fresh s.least o) (from_requests ++ from_reads))
                  (one_is_fresh s.least (from_requests ++ from_reads) (omega (arith, all))),
              all,
              one.1,
            )
      ]

  -- where one was, no further one comes
  done_stands : s.reached ≡ true → s.client.reads.pending ≡ None → IsNoRead x
      → Stands (next s x).0 (1 + fresh_count s.least (next s x).1)
  done_stands reached free quiet =
      let asks : asks_again s ≡ false = and_right (client.is_done s.client) (not s.reached) (not_from_true s.reached reached) in
      let is : given ≡ x = ap (λ (b : Bool). turned b s.observer s.key x) asks ∙ turned_not s.observer s.key x in
      let alone : Client × List Out = (
        record { requests = (requests.next s.client.requests x).0; reads = s.client.reads },
        (requests.next s.client.requests x).1,
      ) in
      let same : client.next s.client given ≡ alone =
      ap (λ (y : Given). client.next s.client y) is ∙ step_alone s.client.requests s.client.reads x free quiet in
      let none : fresh_count s.least (requests.next s.client.requests x).1 ≡ 0 =
      requests_none s.least s.client.requests x (requests.next s.client.requests x) (request_row s.client.requests x) in
      subst (λ (y : Client × List Out). Stands (took s y).0 (1 + fresh_count s.least y.1)) (sym same)
      (inr (or_left s.reached (list_any (λ o. is_fresh s.least o) (requests.next s.client.requests x).1) reached, omega (arith, none), free))

step_stands : (s : FreshRead) (x : Given) (n : ℕ) → Stands s n → (s.reached ≡ true → IsNoRead x)
    → Stands (next s x).0 (n + fresh_count s.least (next s x).1)
step_stands s x n (inl (open_, none)) quiet =
    let e : fresh_count s.least (next s x).1 ≡ n + fresh_count s.least (next s x).1 = omega (arith, none) in
    subst (Stands (next s x).0) e (open_stands s x open_)
step_stands s x n (inr (reached, one, free)) quiet =
    let e : 1 + fresh_count s.least (next s x).1 ≡ n + fresh_count s.least (next s x).1 = omega (arith, one) in
    subst (Stands (next s x).0) e (done_stands s x reached free (quiet reached))

stands_after : (xs : List Given) → HasNoRead xs → (s : FreshRead) (n : ℕ) → Stands s n → Stands (after s xs) (n + fresh_count s.least (gave s xs))
stands_after [] quiet s n stands =
    let e : n ≡ n + fresh_count s.least [] = omega arith in
    subst (Stands s) e stands
stands_after (x ∷ xs) quiet s n stands =
    let one = step_stands s x n stands (λ reached. quiet.0) in
    let rest = stands_after xs quiet.1 (next s x).0 (n + fresh_count s.least (next s x).1) one in
    let both = fresh_append s.least (next s x).1 (gave (next s x).0 xs) in
    let e : (n + fresh_count s.least (next s x).1) + fresh_count s.least (gave (next s x).0 xs) ≡ n + fresh_count s.least (gave s (x ∷ xs)) =
    omega (arith, both) in
    subst (Stands (after s (x ∷ xs))) e rest

-- ---- a run

once_done : (s : FreshRead) (n : ℕ) → Stands s n → s.reached ≡ true → n ≡ 1
once_done s n (inl (open_, none)) reached = absurd (false≢true (sym open_ ∙ reached))
once_done s n (inr (reached, one, free)) is = one

until_done : (s : FreshRead) (n : ℕ) → Stands s n → s.reached ≡ false → n ≡ 0
until_done s n (inl (open_, none)) is = none
until_done s n (inr (reached, one, free)) is = absurd (false≢true (sym is ∙ reached))

module _ (config : Configuration) (number observer : ℕ) (key : List ℕ) (least : ℕ) (xs : List Given) (quiet : HasNoRead xs) where
  abbrev start : FreshRead
  start = opening config number observer key least

  abbrev inputs : List Given
  inputs = Read observer key ∷ xs

  stands : Stands (after start inputs) (fresh_count least (gave start inputs))
  stands =
      let y = next start (Read observer key) in
      let one = step_stands start (Read observer key) 0 (inl (refl, refl)) (λ e. absurd (false≢true e)) in
      let rest = stands_after xs quiet y.0 (0 + fresh_count least y.1) one in
      let both = fresh_append least y.1 (gave y.0 xs) in
      let e : (0 + fresh_count least y.1) + fresh_count least (gave y.0 xs) ≡ fresh_count least (gave start inputs) = omega (arith, both) in
      subst (Stands (after start inputs)) e rest

  pub one_fresh : is_done (after start inputs) ≡ true → fresh_count least (gave start inputs) ≡ 1
  one_fresh = once_done (after start inputs) (fresh_count least (gave start inputs)) stands

  pub none_fresh : is_done (after start inputs) ≡ false → fresh_count least (gave start inputs) ≡ 0
  none_fresh = until_done (after start inputs) (fresh_count least (gave start inputs)) stands
