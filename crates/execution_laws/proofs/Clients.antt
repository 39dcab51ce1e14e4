-- The first clients of a log.
use Rattle.std.proofs.Common.{◌≡◌, ℕ, ◌≤◌, ◌<◌, Bool, true, false, cond, eqb, List, [], ◌∷◌, ◌++◌, length, take, refl, ap, subst, ◌∙◌}
use Rattle.std.proofs.Common.{arith}
use Rattle.std.specs.Prelude.{◌||◌, nat_lt}
use Rattle.std.proofs.Math.Bool.{or-false}
use Rattle.std.proofs.lemmas.Bool.{eq-eqb, eqb-true, or_left, or_right, ltb-true, ltb-false}
use Rattle.std.proofs.lemmas.List.{take_all, take-append-le, length-take, length_push}
use Rattle.nop_types.specs.declared.request.Entry.{Entry}
use Rattle.nop_types.specs.declared.request.Entry.TheVariants.{NoOp, Req}
use Rattle.nop_types.specs.Lists.{is_in}
use Rattle.nop_types.specs.Execution.{ids_of, with_client, with_client_of, clients_from, clients_of}
use Rattle.execution_laws.proofs.Windows.{is_in-push}

-- ---- one client more

pub with_client_has : (cs : List ℕ) (c : ℕ) → is_in (with_client cs c) c ≡ true
with_client_has cs c = on (is_in cs c) refl
  where
    on : (b : Bool) → is_in cs c ≡ b → is_in (cond b cs (cs ++ c ∷ [])) c ≡ true
    on true e = e
    on false e = is_in-push cs c c ∙ or_right (is_in cs c) (eqb c c) (eq-eqb c c refl)

pub with_client_other : (cs : List ℕ) (c d : ℕ) → eqb c d ≡ false → is_in (with_client cs c) d ≡ is_in cs d
with_client_other cs c d apart = on (is_in cs c)
  where
    on : (b : Bool) → is_in (cond b cs (cs ++ c ∷ [])) d ≡ is_in cs d
    on true = refl
    on false = is_in-push cs c d ∙ ap (λ (b : Bool). is_in cs d || b) apart ∙ or-false (is_in cs d)

with_client_keeps : (cs : List ℕ) (c d : ℕ) → is_in cs d ≡ true → is_in (with_client cs c) d ≡ true
with_client_keeps cs c d h = on (is_in cs c)
  where
    on : (b : Bool) → is_in (cond b cs (cs ++ c ∷ [])) d ≡ true
    on true = h
    on false = is_in-push cs c d ∙ or_left (is_in cs d) (eqb c d) h

-- ---- of a log

clients_from-append : (cs : List ℕ) (xs ys : List Entry) → clients_from cs (xs ++ ys) ≡ clients_from (clients_from cs xs) ys
clients_from-append cs [] ys = refl
clients_from-append cs (e ∷ xs) ys = clients_from-append (with_client_of cs e) xs ys

pub clients_of-push : (log : List Entry) (e : Entry) → clients_of (log ++ e ∷ []) ≡ with_client_of (clients_of log) e
clients_of-push log e = clients_from-append [] log (e ∷ [])

clients_from_keep : (log : List Entry) (cs : List ℕ) (c : ℕ) → is_in cs c ≡ true → is_in (clients_from cs log) c ≡ true
clients_from_keep [] cs c h = h
clients_from_keep (NoOp ∷ log) cs c h = clients_from_keep log cs c h
clients_from_keep (Req r ∷ log) cs c h = clients_from_keep log (with_client cs r.client) c (with_client_keeps cs r.client c h)

no_ids_from : (log : List Entry) (cs : List ℕ) (c : ℕ) → is_in (clients_from cs log) c ≡ false → ids_of c log ≡ []
no_ids_from [] cs c h = refl
no_ids_from (NoOp ∷ log) cs c h = no_ids_from log cs c h
no_ids_from (Req r ∷ log) cs c h = on (eqb r.client c) refl (no_ids_from log (with_client cs r.client) c h)
  where
    on : (b : Bool) → eqb r.client c ≡ b → ids_of c log ≡ [] → cond b (r.id ∷ []) [] ++ ids_of c log ≡ []
    on false e rest = rest
    on true e rest =
        absurd (let same : r.client ≡ c = eqb-true r.client c e in
        let here : is_in (with_client cs r.client) c ≡ true = rw (← same) (with_client_has cs r.client) in
        let there = clients_from_keep log (with_client cs r.client) c here in
        cc)

-- a client that does not appear has no id
no_ids : (log : List Entry) (c : ℕ) → is_in (clients_of log) c ≡ false → ids_of c log ≡ []
no_ids log c h = no_ids_from log [] c h

-- ---- the first n of them

-- while there are fewer than n, they are all
firsts_are_all : (n : ℕ) (cs : List ℕ) → length (take n cs) < n → take n cs ≡ cs
firsts_are_all n cs l = let e = length-take n cs in take_all n cs (omega arith)

-- one more client is one more of the first n, while there are fewer
pub firsts-push : (n : ℕ) (cs : List ℕ) (c : ℕ)
    → take n (with_client cs c) ≡ cond (nat_lt (length (take n cs)) n) (with_client (take n cs) c) (take n cs)
firsts-push n cs c = on (nat_lt (length (take n cs)) n) refl
  where
    on : (b : Bool) → nat_lt (length (take n cs)) n ≡ b → take n (with_client cs c) ≡ cond b (with_client (take n cs) c) (take n cs)
    on true e =
        let low : length (take n cs) < n = ltb-true (length (take n cs)) n e in
        let all : take n cs ≡ cs = firsts_are_all n cs low in
        let short : length cs < n = subst (λ (t : List ℕ). length t < n) all low in
        rw all (more (is_in cs c) short)
      where
        more : (b : Bool) → length cs < n → take n (cond b cs (cs ++ c ∷ [])) ≡ cond b cs (cs ++ c ∷ [])
        more true l = take_all n cs (omega arith)
        more false l = let e = length_push cs c in take_all n (cs ++ c ∷ []) (omega arith)
    on false e =
        let high : n ≤ length (take n cs) = ltb-false (length (take n cs)) n e in
        let many : n ≤ length cs = (let k = length-take n cs in omega arith) in
        full (is_in cs c) many
      where
        full : (b : Bool) → n ≤ length cs → take n (cond b cs (cs ++ c ∷ [])) ≡ take n cs
        full true l = refl
        full false l = take-append-le n cs (c ∷ []) l

-- a client that is none of them has no id, while there are fewer
pub unlisted_has_no_ids : (n : ℕ) (log : List Entry) (c : ℕ) → is_in (take n (clients_of log)) c ≡ false
    → length (take n (clients_of log)) < n → ids_of c log ≡ []
unlisted_has_no_ids n log c h l =
    no_ids log c (rw (firsts_are_all n (clients_of log) l) at h)
