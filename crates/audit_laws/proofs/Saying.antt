-- What it means that outputs are those that lines tell.
use Rattle.std.proofs.Common.{◌≡◌, ℕ, ◌+◌, Bool, true, false, cond, List, [], ◌∷◌, ◌++◌, map, refl, ap, ◌∙◌}
use Rattle.std.specs.Prelude.{◌&&◌, ◌==◌}
use Rattle.std.specs.List.{flat_map}
use Rattle.std.specs.Str.{bytes_eq}
use Rattle.std.proofs.lemmas.Bool.{and_parts, eqb-true}
use Rattle.std.proofs.lemmas.Slice.Eq.{bytes_eq-Decides}
use Rattle.nop_types.specs.Lines.{Line, Submit, Accept, Busy, Read, Answer, Send}
use Rattle.nop_types.specs.declared.output.Actor.{Actor}
use Rattle.nop_types.specs.declared.output.Actor.TheVariants.{Client}
use Rattle.nop_types.specs.declared.output.Dest.{Dest}
use Rattle.nop_types.specs.declared.output.Out.{Out}
use Rattle.nop_types.specs.declared.output.Out.TheVariants as outs
use Rattle.nop_types.specs.declared.request.Request.{Request}
use Rattle.judge.specs.Saying.{claims_something, claiming}
use Rattle.network.specs.LineCounts.{is_send}
use Rattle.network.specs.Network.{Sent, sends_of, lines_from}
use Rattle.trace_rows.specs.declared.row.Gave.{Gave}
use Rattle.trace_rows.specs.declared.row.Gave.TheVariants as gaves
use Rattle.audit_laws.specs.Audits.{AllSay, claim_of, claims_of, says}
use Rattle.audit_laws.specs.Braids.{sent_by}
use Rattle.audit_laws.specs.Names.{same_actor, names_dest}
use Rattle.audit_laws.proofs.Naming.{same_actor-true}

-- ---- claims

submit_claim : (a : Actor) (r : Request) (id : ℕ) (op : List ℕ) → a ≡ Client r.client → id ≡ r.id → op ≡ r.op
    → claim_of (gaves.Submit id op) a ≡ Submit r ∷ []
submit_claim a r id op of_client of_id of_op = rw (of_client, of_id, of_op) refl

accept_claim : (a : Actor) (client other id : ℕ) (result given : List ℕ) → a ≡ Client client → id ≡ other → result ≡ given
    → claim_of (gaves.Accept id result) a ≡ Accept client other given ∷ []
accept_claim a client other id result given of_client of_id of_result = rw (of_client, of_id, of_result) refl

claimed : (a : Actor) (o : Gave) (l : Line) → says a o l ≡ true → claim_of o a ≡ claiming (l ∷ [])
claimed a (gaves.Submit id op) (Submit r) e =
    let t = and_parts (same_actor a (Client r.client)) ((id == r.id) && bytes_eq op r.op) e in
    let u = and_parts (id == r.id) (bytes_eq op r.op) t.1 in
    submit_claim a r id op (same_actor-true a (Client r.client) t.0) (eqb-true id r.id u.0) ((bytes_eq-Decides op r.op).0 u.1)
claimed a (gaves.Submit id op) _ e = absurd cc
claimed a (gaves.Accept id result) (Accept client other given) e =
    let t = and_parts (same_actor a (Client client)) ((id == other) && bytes_eq result given) e in
    let u = and_parts (id == other) (bytes_eq result given) t.1 in
    accept_claim a client other id result given (same_actor-true a (Client client) t.0) (eqb-true id other u.0)
    ((bytes_eq-Decides result given).0 u.1)
claimed a (gaves.Accept id result) _ e = absurd cc
claimed a (gaves.Send to datagram) (Submit r) e = absurd cc
claimed a (gaves.Send to datagram) (Accept client id result) e = absurd cc
claimed a (gaves.Send to datagram) _ e = refl
claimed a (gaves.Read id number key) (Submit r) e = absurd cc
claimed a (gaves.Read id number key) (Accept client other result) e = absurd cc
claimed a (gaves.Read id number key) _ e = refl
claimed a (gaves.Answer id number position result) (Submit r) e = absurd cc
claimed a (gaves.Answer id number position result) (Accept client other given) e = absurd cc
claimed a (gaves.Answer id number position result) _ e = refl

first_claims : (l : Line) (ls : List Line) → claiming (l ∷ []) ++ claiming ls ≡ claiming (l ∷ ls)
first_claims l ls = on (claims_something l)
  where
    on : (b : Bool) → cond b (l ∷ []) [] ++ claiming ls ≡ cond b (l ∷ claiming ls) (claiming ls)
    on true = refl
    on false = refl

pub all_claimed : (a : Actor) (os : List Gave) (ls : List Line) → AllSay a os ls → claims_of a os ≡ claiming ls
all_claimed a [] [] h = refl
all_claimed a [] (l ∷ ls) h = absurd h
all_claimed a (o ∷ os) [] h = absurd h
all_claimed a (o ∷ os) (l ∷ ls) h =
    ap (λ (xs : List Line). xs ++ claims_of a os) (claimed a o l h.0)
    ∙ ap (λ (xs : List Line). claiming (l ∷ []) ++ xs) (all_claimed a os ls h.1)
    ∙ first_claims l ls

pub claiming-append : (xs ys : List Line) → claiming (xs ++ ys) ≡ claiming xs ++ claiming ys
claiming-append [] ys = refl
claiming-append (x ∷ xs) ys = on (claims_something x) (claiming-append xs ys)
  where
    on : (b : Bool) → claiming (xs ++ ys) ≡ claiming xs ++ claiming ys
        → cond b (x ∷ claiming (xs ++ ys)) (claiming (xs ++ ys)) ≡ cond b (x ∷ claiming xs) (claiming xs) ++ claiming ys
    on true e = ap (λ (ls : List Line). x ∷ ls) e
    on false e = e

-- ---- of the outputs of a core

-- wherever its sends stand in the network
said_at : (a : Actor) (o : Gave) (k j : ℕ) (from : Actor) (dest : Dest) (bytes : List ℕ) → says a o (Send k from dest bytes) ≡ true
    → says a o (Send j from dest bytes) ≡ true
said_at a (gaves.Send to datagram) k j from dest bytes e = e
said_at a _ k j from dest bytes e = absurd cc

pub said_from : (a from : Actor) (os : List Gave) (k j : ℕ) (xs : List Out) → AllSay a os (lines_from from k xs)
    → AllSay a os (lines_from from j xs)
said_from a from [] k j [] h = tt
said_from a from (o ∷ os) k j [] h = absurd h
said_from a from [] k j (outs.Trimmed first entries ∷ xs) h = said_from a from [] k j xs h
said_from a from (o ∷ os) k j (outs.Trimmed first entries ∷ xs) h = said_from a from (o ∷ os) k j xs h
said_from a from (o ∷ os) k j (outs.Send dest bytes ∷ xs) h =
    (said_at a o k j from dest bytes h.0, said_from a from os (k + 1) (j + 1) xs h.1)
said_from a from [] k j (_ ∷ xs) h = absurd h
said_from a from (o ∷ os) k j (_ ∷ xs) h = (h.0, said_from a from os k j xs h.1)

-- what is sent
sends_said : (a : Actor) (o : Gave) (k : ℕ) (from : Actor) (dest : Dest) (bytes : List ℕ) → says a o (Send k from dest bytes) ≡ true
    → sent_by o ≡ bytes ∷ []
sends_said a (gaves.Send to datagram) k from dest bytes e =
    let t = and_parts (same_actor a from) (names_dest to dest && bytes_eq datagram bytes) e in
    let u = and_parts (names_dest to dest) (bytes_eq datagram bytes) t.1 in
    ap (λ (b : List ℕ). b ∷ []) ((bytes_eq-Decides datagram bytes).0 u.1)
sends_said a _ k from dest bytes e = absurd cc

sends_nothing : (a : Actor) (o : Gave) (l : Line) → is_send l ≡ false → says a o l ≡ true → sent_by o ≡ []
sends_nothing a (gaves.Send to datagram) (Send k from dest bytes) c e = absurd cc
sends_nothing a (gaves.Send to datagram) _ c e = absurd cc
sends_nothing a _ l c e = refl

nothing_more : (a : Actor) (o : Gave) (os : List Gave) (l : Line) → is_send l ≡ false → says a o l ≡ true
    → flat_map sent_by (o ∷ os) ≡ flat_map sent_by os
nothing_more a o os l c e = ap (λ (bs : List (List ℕ)). bs ++ flat_map sent_by os) (sends_nothing a o l c e)

pub all_sent : (a from : Actor) (os : List Gave) (k : ℕ) (xs : List Out) → AllSay a os (lines_from from k xs)
    → flat_map sent_by os ≡ map (λ (s : Sent). s.bytes) (sends_of from xs)
all_sent a from [] k [] h = refl
all_sent a from (o ∷ os) k [] h = absurd h
all_sent a from [] k (outs.Trimmed first entries ∷ xs) h = all_sent a from [] k xs h
all_sent a from (o ∷ os) k (outs.Trimmed first entries ∷ xs) h = all_sent a from (o ∷ os) k xs h
all_sent a from [] k (_ ∷ xs) h = absurd h
all_sent a from (o ∷ os) k (outs.Send dest bytes ∷ xs) h =
    ap (λ (bs : List (List ℕ)). bs ++ flat_map sent_by os) (sends_said a o k from dest bytes h.0)
    ∙ ap (λ (bs : List (List ℕ)). bytes ∷ bs) (all_sent a from os (k + 1) xs h.1)
all_sent a from (o ∷ os) k (outs.Submitted r ∷ xs) h = nothing_more a o os (Submit r) refl h.0 ∙ all_sent a from os k xs h.1
all_sent a from (o ∷ os) k (outs.Accepted client id result ∷ xs) h =
    nothing_more a o os (Accept client id result) refl h.0 ∙ all_sent a from os k xs h.1
all_sent a from (o ∷ os) k (outs.Busy client ∷ xs) h = nothing_more a o os (Busy client) refl h.0 ∙ all_sent a from os k xs h.1
all_sent a from (o ∷ os) k (outs.Reading client id observer key ∷ xs) h =
    nothing_more a o os (Read client id observer key) refl h.0 ∙ all_sent a from os k xs h.1
all_sent a from (o ∷ os) k (outs.Answered client id observer position result ∷ xs) h =
    nothing_more a o os (Answer client id observer position result) refl h.0 ∙ all_sent a from os k xs h.1
