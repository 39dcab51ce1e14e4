-- Reading values one after the other, as a loop does.
use Rattle.std.proofs.Common.{◌≡◌, ℕ, suc, ◌-◌, ◌+◌, ◌≤◌, ◌<◌, List, [], ◌∷◌, ◌++◌, Result, Ok, Err, refl, sym, ap, subst, ◌∙◌, append_assoc}
use Rattle.std.proofs.Common.{arith}
use Rattle.std.specs.Prelude.{map}
use Rattle.std.proofs.lemmas.List.{append-nil, map-append}
use Rattle.nop_types.specs.Checkpoints.{saved_account}
use Rattle.nop_types.specs.Tables.{Account}
use Rattle.nop_types.specs.declared.checkpoint.SavedClient.{SavedClient}
use Rattle.nop_types.specs.declared.checkpoint.Answered.{Answered}
use Rattle.nop_types.specs.declared.request.Entry.{Entry}
use Rattle.oum_codec.specs.Reading.{◌>>=◌}
use Rattle.peer_codec.specs.declared.bad_peer.BadPeer.{BadPeer}
use Rattle.peer_codec.specs.declared.bad_peer.BadPeer.TheVariants.{Short, Kind, Field, Trailing, NoMemory}
use Rattle.peer_codec.specs.Answers.{Fails}
use Rattle.peer_codec.specs.Logs.{entry_at, entries_at, answered_at, least_before, kept_at, account_at, accounts_at}

abbrev pub Read : Type 0 → Type 0
Read A = Result (A × List ℕ) BadPeer

-- what was read before, and what is still read
abbrev pub with_prefix : {A : Type 0} → List A → Read (List A) → Read (List A)
with_prefix prefix read = read >>= λ x. Ok (prefix ++ x.0, x.1)

-- one more, then the others
abbrev pub one_more : {A : Type 0} → Read A → (A × List ℕ → Read (List A)) → Read (List A)
one_more one others = one >>= λ x. others x >>= λ rest. Ok (x.0 ∷ rest.0, rest.1)

-- ---- one step of reading

regroup : {A : Type 0} (prefix : List A) (x : A) (read : Read (List A))
    → with_prefix prefix (read >>= λ rest. Ok (x ∷ rest.0, rest.1)) ≡ with_prefix (prefix ++ x ∷ []) read
regroup {A = A} prefix x (Ok y) = ap (λ (xs : List A). Ok (xs, y.1)) (simp append_assoc)
regroup prefix x (Err f) = refl

goes_on : {A : Type 0} (prefix : List A) (one : Read A) (others : A × List ℕ → Read (List A)) (x : A) (after : List ℕ) (total : Read (List A))
    → one ≡ Ok (x, after) → with_prefix prefix (one_more one others) ≡ total → with_prefix (prefix ++ x ∷ []) (others (x, after)) ≡ total
goes_on prefix one others x after total h so_far =
    let here : with_prefix prefix (one_more one others) ≡ with_prefix (prefix ++ x ∷ []) (others (x, after)) =
    rw h (regroup prefix x (others (x, after))) in
    sym here ∙ so_far

failed : {A : Type 0} (e : BadPeer) (prefix : List A) (one : Read A) (others : A × List ℕ → Read (List A)) (total : Read (List A))
    → one ≡ Err e → with_prefix prefix (one_more one others) ≡ total → total ≡ Err e
failed e prefix one others total h so_far =
    let here : with_prefix prefix (one_more one others) ≡ Err e = rw h refl in
    sym so_far ∙ here

ends : {A : Type 0} (e : BadPeer) (prefix : List A) (one : Read A) (others : A × List ℕ → Read (List A)) (total : Read (List A))
    → Fails e one → with_prefix prefix (one_more one others) ≡ total → Fails e total
ends NoMemory prefix one others total h so_far = tt
ends Short prefix one others total h so_far = failed Short prefix one others total h so_far
ends Kind prefix one others total h so_far = failed Kind prefix one others total h so_far
ends Field prefix one others total h so_far = failed Field prefix one others total h so_far
ends Trailing prefix one others total h so_far = failed Trailing prefix one others total h so_far

-- ---- entries

entries_more : (count i : ℕ) (bytes : List ℕ) → i < count
    → entries_at (count - i) bytes ≡ one_more (entry_at bytes) (λ x. entries_at (count - (i + 1)) x.1)
unfolding entries_at
entries_more count i bytes lt = let k : count - i ≡ suc (count - (i + 1)) = omega arith in rw k refl

pub entries_go_on : (prefix : List Entry) (count i : ℕ) (bytes : List ℕ) (x : Entry) (after : List ℕ) (total : Read (List Entry)) → i < count
    → entry_at bytes ≡ Ok (x, after)
    → with_prefix prefix (entries_at (count - i) bytes) ≡ total → with_prefix (prefix ++ x ∷ []) (entries_at (count - (i + 1)) after) ≡ total
entries_go_on prefix count i bytes x after total lt h so_far =
    goes_on prefix (entry_at bytes) (λ x. entries_at (count - (i + 1)) x.1) x after total h
    (ap (with_prefix prefix) (sym (entries_more count i bytes lt)) ∙ so_far)

pub entries_end : (e : BadPeer) (prefix : List Entry) (count i : ℕ) (bytes : List ℕ) (total : Read (List Entry)) → i < count
    → Fails e (entry_at bytes)
    → with_prefix prefix (entries_at (count - i) bytes) ≡ total → Fails e total
entries_end e prefix count i bytes total lt h so_far =
    ends e prefix (entry_at bytes) (λ x. entries_at (count - (i + 1)) x.1) total h
    (ap (with_prefix prefix) (sym (entries_more count i bytes lt)) ∙ so_far)

pub entries_done : (prefix : List Entry) (count i : ℕ) (bytes : List ℕ) (total : Read (List Entry)) → count ≤ i
    → with_prefix prefix (entries_at (count - i) bytes) ≡ total → total ≡ Ok (prefix, bytes)
unfolding entries_at
entries_done prefix count i bytes total le so_far =
    let k : count - i ≡ 0 = omega arith in
    let here : with_prefix prefix (entries_at (count - i) bytes) ≡ Ok (prefix, bytes) =
    rw k (ap (λ (xs : List Entry). Ok (xs, bytes)) (append-nil prefix)) in
    sym so_far ∙ here

-- ---- kept results

kept_more : (count i least greatest : ℕ) (bytes : List ℕ) → i < count
    → kept_at (count - i) least greatest bytes
    ≡ one_more (answered_at (least_before (count - (i + 1)) least greatest) greatest bytes)
    (λ x. kept_at (count - (i + 1)) (x.0.id + 1) greatest x.1)
unfolding kept_at
kept_more count i least greatest bytes lt = let k : count - i ≡ suc (count - (i + 1)) = omega arith in rw k refl

pub kept_go_on : (prefix : List Answered) (count i least greatest from number : ℕ) (bytes : List ℕ) (x : Answered) (after : List ℕ)
    (total : Read (List Answered)) → i < count → from ≡ least_before (count - (i + 1)) least greatest
    → answered_at from greatest bytes ≡ Ok (x, after) → number ≡ x.id
    → with_prefix prefix (kept_at (count - i) least greatest bytes) ≡ total
    → with_prefix (prefix ++ x ∷ []) (kept_at (count - (i + 1)) (number + 1) greatest after) ≡ total
kept_go_on prefix count i least greatest from number bytes x after total lt low h is so_far =
    let here : answered_at (least_before (count - (i + 1)) least greatest) greatest bytes ≡ Ok (x, after) =
    ap (λ (n : ℕ). answered_at n greatest bytes) (sym low) ∙ h in
    let step : with_prefix (prefix ++ x ∷ []) (kept_at (count - (i + 1)) (x.id + 1) greatest after) ≡ total =
    goes_on prefix (answered_at (least_before (count - (i + 1)) least greatest) greatest bytes)
    (λ x. kept_at (count - (i + 1)) (x.0.id + 1) greatest x.1) x after total here
    (ap (with_prefix prefix) (sym (kept_more count i least greatest bytes lt)) ∙ so_far) in
    rw is step

pub kept_end : (e : BadPeer) (prefix : List Answered) (count i least greatest from : ℕ) (bytes : List ℕ) (total : Read (List Answered))
    → i < count → from ≡ least_before (count - (i + 1)) least greatest → Fails e (answered_at from greatest bytes)
    → with_prefix prefix (kept_at (count - i) least greatest bytes) ≡ total → Fails e total
kept_end e prefix count i least greatest from bytes total lt low h so_far =
    let here : Fails e (answered_at (least_before (count - (i + 1)) least greatest) greatest bytes) =
    subst (λ (n : ℕ). Fails e (answered_at n greatest bytes)) low h in
    ends e prefix (answered_at (least_before (count - (i + 1)) least greatest) greatest bytes)
    (λ x. kept_at (count - (i + 1)) (x.0.id + 1) greatest x.1) total here
    (ap (with_prefix prefix) (sym (kept_more count i least greatest bytes lt)) ∙ so_far)

pub kept_done : (prefix : List Answered) (count i least greatest : ℕ) (bytes : List ℕ) (total : Read (List Answered)) → count ≤ i
    → with_prefix prefix (kept_at (count - i) least greatest bytes) ≡ total → total ≡ Ok (prefix, bytes)
unfolding kept_at
kept_done prefix count i least greatest bytes total le so_far =
    let k : count - i ≡ 0 = omega arith in
    let here : with_prefix prefix (kept_at (count - i) least greatest bytes) ≡ Ok (prefix, bytes) =
    rw k (ap (λ (xs : List Answered). Ok (xs, bytes)) (append-nil prefix)) in
    sym so_far ∙ here

-- ---- clients

accounts_more : (count i least : ℕ) (bytes : List ℕ) → i < count
    → accounts_at (count - i) least bytes ≡ one_more (account_at least bytes) (λ x. accounts_at (count - (i + 1)) (x.0.0 + 1) x.1)
unfolding accounts_at
accounts_more count i least bytes lt = let k : count - i ≡ suc (count - (i + 1)) = omega arith in rw k refl

pub accounts_go_on : (clients : List SavedClient) (count i least number : ℕ) (bytes : List ℕ) (c : SavedClient) (after : List ℕ)
    (total : Read (List (ℕ × Account))) → i < count → account_at least bytes ≡ Ok (saved_account c, after) → number ≡ c.client
    → with_prefix (map saved_account clients) (accounts_at (count - i) least bytes) ≡ total
    → with_prefix (map saved_account (clients ++ c ∷ [])) (accounts_at (count - (i + 1)) (number + 1) after) ≡ total
accounts_go_on clients count i least number bytes c after total lt h is so_far =
    let step : with_prefix (map saved_account clients ++ saved_account c ∷ []) (accounts_at (count - (i + 1)) (c.client + 1) after) ≡ total =
    goes_on (map saved_account clients) (account_at least bytes) (λ x. accounts_at (count - (i + 1)) (x.0.0 + 1) x.1) (saved_account c) after
    total h (ap (with_prefix (map saved_account clients)) (sym (accounts_more count i least bytes lt)) ∙ so_far) in
    rw (map-append saved_account clients (c ∷ []), is) step

pub accounts_end : (e : BadPeer) (prefix : List (ℕ × Account)) (count i least : ℕ) (bytes : List ℕ) (total : Read (List (ℕ × Account)))
    → i < count → Fails e (account_at least bytes)
    → with_prefix prefix (accounts_at (count - i) least bytes) ≡ total → Fails e total
accounts_end e prefix count i least bytes total lt h so_far =
    ends e prefix (account_at least bytes) (λ x. accounts_at (count - (i + 1)) (x.0.0 + 1) x.1) total h
    (ap (with_prefix prefix) (sym (accounts_more count i least bytes lt)) ∙ so_far)

pub accounts_done : (prefix : List (ℕ × Account)) (count i least : ℕ) (bytes : List ℕ) (total : Read (List (ℕ × Account))) → count ≤ i
    → with_prefix prefix (accounts_at (count - i) least bytes) ≡ total → total ≡ Ok (prefix, bytes)
unfolding accounts_at
accounts_done prefix count i least bytes total le so_far =
    let k : count - i ≡ 0 = omega arith in
    let here : with_prefix prefix (accounts_at (count - i) least bytes) ≡ Ok (prefix, bytes) =
    rw k (ap (λ (xs : List (ℕ × Account)). Ok (xs, bytes)) (append-nil prefix)) in
    sym so_far ∙ here
