-- A client takes turns, and uses each id once.
use Rattle.std.proofs.Common.{◌≡◌, ℕ, zero, suc, ◌+◌, ◌<◌, ◌≤◌, true, Some, refl, sym, ap, subst, ◌∙◌}
use Rattle.std.proofs.Common.{arith, inl, inr, List, [], ◌∷◌, ◌++◌, map}
use Rattle.std.specs.Prelude.{◌⊎◌, ◌==◌, slice_get, nat_lt, not, ◌^◌, ◌-◌}
use Rattle.std.proofs.lemmas.Bool.{and_parts, both_ways, eq-eqb, not-true}
use Rattle.std.proofs.lemmas.Option.{none-some}
use Rattle.nop_types.specs.Configuration.{Configuration}
use Rattle.nop_types.specs.Given.{Given}
use Rattle.nop_types.specs.Lists.{Has}
use Rattle.nop_types.specs.declared.output.Out.{Out}
use Rattle.nop_types.specs.declared.output.Out.TheVariants.{Send, Submitted, Accepted, Busy}
use Rattle.nop_types.specs.declared.request.Request.{Request}
use Rattle.lemmas.proofs.Members.{Has-first, Has-rest, Has-none, Has-push, Has-push_cases, Has-from_filter}
use Rattle.client_quorum.specs.declared.state.ClientState.{ClientState}
use Rattle.client_quorum.specs.ClientSteps.{opening, next, request_of, sent, submitted, kept, accepts}
use Rattle.client_quorum.specs.OpenRequests.{has_room, open_requests, IsOpen}
use Rattle.client_quorum.specs.Rows.{Row, Rests, SaysBusy, Opens, Repeats, Keeps, Accepts}
use Rattle.client_quorum.specs.Runs.{gave, without, Holds, TakesTurns}
use Rattle.client_quorum.proofs.OpenRequests.{closes, expected_is_open, keeps, open_has, opening_opens_none, opens, room_is_left, room_is_near}
use Rattle.client_quorum.proofs.RowLemmas.{row_of}

-- ---- a client takes turns

-- from here on
abbrev Goes : ClientState → List Given → Type 0
Goes s xs = TakesTurns s.number (open_requests s) s.last_id (gave s xs)

module _ (xs : List Given) (rest : (t : ClientState) → Goes t xs) (s : ClientState) where
  again : (qs : List Request) → ((q : Request) → Has qs q → IsOpen s q)
      → TakesTurns s.number (open_requests s) s.last_id (map sent qs ++ gave s xs)
  again [] all = rest s
  again (q ∷ qs) all = ((q, all q (Has-first q q qs refl), refl), again qs (λ r h. all r (Has-rest r q qs h)))

  begins : (op : List ℕ) (waiting : List (List ℕ)) → has_room s ≡ true
      → TakesTurns s.number (open_requests s) s.last_id
      (Submitted (request_of s op) ∷ sent (request_of s op) ∷ gave (submitted (record s { waiting = waiting }) (request_of s op)) xs)
  begins op waiting room =
      let r = request_of s op in
      let t = submitted (record s { waiting = waiting }) r in (
        record { fewer = room_is_left s room; near = room_is_near s room },
        refl,
        refl,
        (
          (r, Has-push (open_requests s) r, refl),
          subst (λ (held : List Request). TakesTurns s.number held (s.last_id + 1) (gave t xs)) (opens s r waiting).requests (rest t),
        ),
      )

  -- the outputs of a row, and those of the inputs that follow
  row_goes : (x : Given) (y : ClientState × List Out) → Row s x y → TakesTurns s.number (open_requests s) s.last_id (y.1 ++ gave y.0 xs)
  row_goes x y (Rests nothing) = rest s
  row_goes x y (SaysBusy op is busy) = (refl, rest s)
  row_goes x y (Opens op waiting may from) = begins op waiting (and_parts (has_room s) (nat_lt s.last_id (2 ^ 64 - 1)) may).0
  row_goes x y (Repeats is) = again (open_requests s) (λ q h. h)
  row_goes x y (Keeps p has e quorum) =
      subst (λ (held : List Request). TakesTurns s.number held s.last_id (gave (kept s p) xs))
      (keeps s p (expected_is_open s p e)).requests (rest (kept s p))
  row_goes x y (Accepts p leaders has e quorum) =
      let is = expected_is_open s p e in
      let t = accepts (kept s p) p.id leaders in
      let left : open_requests t ≡ without (open_requests s) p.id =
      (closes (kept s p) p.id leaders).requests ∙ ap (λ (held : List Request). without held p.id) (keeps s p is).requests in
      (open_has s p.id is, refl, subst (λ (held : List Request). TakesTurns s.number held s.last_id (gave t xs)) left (rest t))

turns_from : (xs : List Given) (s : ClientState) → Goes s xs
turns_from [] s = tt
turns_from (x ∷ xs) s = row_goes xs (λ t. turns_from xs t) s x (next s x) (row_of s x)

pub takes_turns : (config : Configuration) (number : ℕ) (ops : List (List ℕ)) (inputs : List Given)
    → TakesTurns number [] 0 (gave (opening config number ops) inputs)
takes_turns config number ops inputs =
    subst (λ (held : List Request). TakesTurns number held 0 (gave (opening config number ops) inputs))
    (opening_opens_none config number ops) (turns_from inputs (opening config number ops))

-- ---- each id is used once

-- the last id is the highest
abbrev AreLow : List Request → ℕ → Type 0
AreLow held last = (q : Request) → Has held q → q.id ≤ last

-- what follows the first output
record Rest (number : ℕ) (held : List Request) (last : ℕ) (outs : List Out) : Type 0 where
  held_then : List Request
  last_then : ℕ
  later : last ≤ last_then
  -- what is held then was held, or has a higher id
  older : (id : ℕ) → Holds held_then id → Holds held id ⊎ (last < id)
  low : AreLow held last → AreLow held_then last_then
  turns : TakesTurns number held_then last_then outs

rest_of : (number : ℕ) (held : List Request) (last : ℕ) (x : Out) (outs : List Out) → TakesTurns number held last (x ∷ outs)
    → Rest number held last outs
rest_of number held last (Submitted r) outs t =
    record {
      held_then = held ++ r ∷ [];
      last_then = last + 1;
      later = omega arith;
      older = λ id h. elim (Has-push_cases held r h.0 h.1) [
        | inl old ↦ inl (h.0, old, h.2)
        | inr same ↦ (let its = ap (λ (p : Request). p.id) same in let is = h.2 in inr (omega (arith, its, is, t.2)))
      ];
      low = λ low q has. elim (Has-push_cases held r q has) [
        | inl old ↦ (let h = low q old in omega (arith, h))
        | inr same ↦ (let its = ap (λ (p : Request). p.id) same in omega (arith, its, t.2))
      ];
      turns = t.3;
    }
rest_of number held last (Send dest bytes) outs t =
    record { held_then = held; last_then = last; later = omega arith; older = λ id h. inl h; low = λ h. h; turns = t.1 }
rest_of number held last (Accepted client id result) outs t =
    record {
      held_then = without held id;
      last_then = last;
      later = omega arith;
      older = λ k h. inl (h.0, (Has-from_filter (λ q. not (q.id == id)) h.0 held h.1).0, h.2);
      low = λ low q has. low q (Has-from_filter (λ q. not (q.id == id)) q held has).0;
      turns = t.2;
    }
rest_of number held last (Busy client) outs t =
    record { held_then = held; last_then = last; later = omega arith; older = λ id h. inl h; low = λ h. h; turns = t.1 }
rest_of number held last _ outs t = absurd t

-- a first output that is submitted
submitted_first : (number : ℕ) (held : List Request) (last : ℕ) (x : Out) (outs : List Out) (r : Request)
    → TakesTurns number held last (x ∷ outs) → Some x ≡ Some (Submitted r)
    → (r.id ≡ last + 1) × TakesTurns number (held ++ r ∷ []) (last + 1) outs
submitted_first number held last (Submitted q) outs r t e =
    let same : q ≡ r = cc in (
      ap (λ (p : Request). p.id) (sym same) ∙ t.2,
      subst (λ (p : Request). TakesTurns number (held ++ p ∷ []) (last + 1) outs) same t.3,
    )
submitted_first number held last _ outs r t e = absurd cc

submitted_above : (number : ℕ) (held : List Request) (last : ℕ) (outs : List Out) → TakesTurns number held last outs
    → (i : ℕ) (r : Request) → slice_get outs i ≡ Some (Submitted r) → last < r.id
submitted_above number held last [] t i r e = absurd (none-some (Submitted r) e)
submitted_above number held last (x ∷ outs) t zero r e = let f = submitted_first number held last x outs r t e in omega (arith, f.0)
submitted_above number held last (x ∷ outs) t (suc i) r e =
    let f = rest_of number held last x outs t in
    let h = submitted_above number f.held_then f.last_then outs f.turns i r e in
    omega (arith, h, f.later)

submitted_once_at : (number : ℕ) (held : List Request) (last : ℕ) (outs : List Out) → TakesTurns number held last outs
    → (i j : ℕ) (p q : Request) → slice_get outs i ≡ Some (Submitted p) → slice_get outs j ≡ Some (Submitted q) → p.id ≡ q.id → i ≡ j
submitted_once_at number held last [] t i j p q e f same = absurd (none-some (Submitted p) e)
submitted_once_at number held last (x ∷ outs) t zero zero p q e f same = refl
submitted_once_at number held last (x ∷ outs) t zero (suc j) p q e f same =
    let first = submitted_first number held last x outs p t e in
    let h = submitted_above number (held ++ p ∷ []) (last + 1) outs first.1 j q f in
    absurd (omega (arith, h, first.0, same))
submitted_once_at number held last (x ∷ outs) t (suc i) zero p q e f same =
    let first = submitted_first number held last x outs q t f in
    let h = submitted_above number (held ++ q ∷ []) (last + 1) outs first.1 i p e in
    absurd (omega (arith, h, first.0, same))
submitted_once_at number held last (x ∷ outs) t (suc i) (suc j) p q e f same =
    let g = rest_of number held last x outs t in
    ap suc (submitted_once_at number g.held_then g.last_then outs g.turns i j p q e f same)

-- a first output that accepts
accepted_first : (number : ℕ) (held : List Request) (last : ℕ) (x : Out) (outs : List Out) (client id : ℕ) (result : List ℕ)
    → TakesTurns number held last (x ∷ outs) → Some x ≡ Some (Accepted client id result)
    → Holds held id × TakesTurns number (without held id) last outs
accepted_first number held last (Accepted c k a) outs client id result t e =
    let same : k ≡ id = cc in
    (subst (Holds held) same t.0, subst (λ (i : ℕ). TakesTurns number (without held i) last outs) same t.2)
accepted_first number held last _ outs client id result t e = absurd cc

-- what is accepted is held, or will be
accepted_from : (number : ℕ) (held : List Request) (last : ℕ) (outs : List Out) → TakesTurns number held last outs
    → (i client id : ℕ) (result : List ℕ) → slice_get outs i ≡ Some (Accepted client id result) → Holds held id ⊎ (last < id)
accepted_from number held last [] t i client id result e = absurd (none-some (Accepted client id result) e)
accepted_from number held last (x ∷ outs) t zero client id result e = inl (accepted_first number held last x outs client id result t e).0
accepted_from number held last (x ∷ outs) t (suc i) client id result e =
    let f = rest_of number held last x outs t in
    elim (accepted_from number f.held_then f.last_then outs f.turns i client id result e) [
      | inl then ↦ f.older id then
      | inr higher ↦ inr (omega (arith, higher, f.later))
    ]

-- what was accepted is neither
gone : (held : List Request) (last id : ℕ) → AreLow held last → Holds held id → Holds (without held id) id ⊎ (last < id) → ⊥
gone held last id low (q, has, is) (inl (p, left, same)) =
    both_ways (p.id == id) (not-true (p.id == id) (Has-from_filter (λ q. not (q.id == id)) p held left).1) (eq-eqb p.id id same)
gone held last id low (q, has, is) (inr higher) = let h = low q has in omega (arith, h, is, higher)

accepted_once_at : (number : ℕ) (held : List Request) (last : ℕ) (outs : List Out) → AreLow held last → TakesTurns number held last outs
    → (i j client other id : ℕ) (a b : List ℕ) → slice_get outs i ≡ Some (Accepted client id a)
    → slice_get outs j ≡ Some (Accepted other id b) → i ≡ j
accepted_once_at number held last [] low t i j client other id a b e f = absurd (none-some (Accepted client id a) e)
accepted_once_at number held last (x ∷ outs) low t zero zero client other id a b e f = refl
accepted_once_at number held last (x ∷ outs) low t zero (suc j) client other id a b e f =
    let first = accepted_first number held last x outs client id a t e in
    absurd (gone held last id low first.0 (accepted_from number (without held id) last outs first.1 j other id b f))
accepted_once_at number held last (x ∷ outs) low t (suc i) zero client other id a b e f =
    let first = accepted_first number held last x outs other id b t f in
    absurd (gone held last id low first.0 (accepted_from number (without held id) last outs first.1 i client id a e))
accepted_once_at number held last (x ∷ outs) low t (suc i) (suc j) client other id a b e f =
    let g = rest_of number held last x outs t in
    ap suc (accepted_once_at number g.held_then g.last_then outs (g.low low) g.turns i j client other id a b e f)

pub submitted_once : (config : Configuration) (number : ℕ) (ops : List (List ℕ)) (inputs : List Given) (i j : ℕ) (p q : Request)
    → slice_get (gave (opening config number ops) inputs) i ≡ Some (Submitted p)
    → slice_get (gave (opening config number ops) inputs) j ≡ Some (Submitted q) → p.id ≡ q.id → i ≡ j
submitted_once config number ops inputs =
    submitted_once_at number [] 0 (gave (opening config number ops) inputs) (takes_turns config number ops inputs)

pub accepted_once : (config : Configuration) (number : ℕ) (ops : List (List ℕ)) (inputs : List Given) (i j client other id : ℕ)
    (a b : List ℕ)
    → slice_get (gave (opening config number ops) inputs) i ≡ Some (Accepted client id a)
    → slice_get (gave (opening config number ops) inputs) j ≡ Some (Accepted other id b) → i ≡ j
accepted_once config number ops inputs =
    accepted_once_at number [] 0 (gave (opening config number ops) inputs) (λ q has. absurd (Has-none q has))
    (takes_turns config number ops inputs)
