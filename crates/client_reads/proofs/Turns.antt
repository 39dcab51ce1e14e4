-- Reads take turns, each id is used once, and what is answered was asked.
use Rattle.std.proofs.Common.{◌≡◌, ℕ, zero, suc, ◌+◌, ◌<◌, ◌≤◌, Bool, true, false, cond, Option, Some, None, refl, sym, ap, subst, ◌∙◌}
use Rattle.std.proofs.Common.{arith, inl, inr, List, [], ◌∷◌, ◌++◌}
use Rattle.std.specs.Prelude.{◌⊎◌, is_none, slice_get}
use Rattle.std.proofs.lemmas.Option.{none-some, same_Some}
use Rattle.nop_types.specs.Given.{Given}
use Rattle.nop_types.specs.declared.output.Out.{Out}
use Rattle.nop_types.specs.declared.output.Out.TheVariants as outs
use Rattle.nop_types.specs.declared.output.Out.TheVariants.{Send, Busy, Answered}
use Rattle.client_reads.specs.declared.state.Reading.{Reading}
use Rattle.client_reads.specs.declared.state.Reads.{Reads}
use Rattle.client_reads.specs.ReadSteps.{opening, next, reading_of, begin, ended, sent}
use Rattle.client_reads.specs.Rows.{Row, Rests, SaysBusy, Asks, Repeats, Ends}
use Rattle.client_reads.specs.Runs.{gave, SendsHeld, EndsHeld, TakeTurns, WasAsked}
use Rattle.client_reads.proofs.RowLemmas.{none_waits, row_of}

-- ---- reads take turns

module _ (xs : List Given) (rest : (t : Reads) → TakeTurns t.number t.pending t.last_id (gave t xs)) (s : Reads) where
  -- the outputs of a row, and those of the inputs that follow
  row_goes : (x : Given) (y : Reads × List Out) → Row s x y → TakeTurns s.number s.pending s.last_id (y.1 ++ gave y.0 xs)
  row_goes x y (Rests nothing) = rest s
  row_goes x y (SaysBusy observer key is busy) = (refl, rest s)
  row_goes x y (Asks observer key is may) =
      (none_waits s may, refl, refl, (refl, rest (begin s (reading_of s observer key)).0))
  row_goes x y (Repeats r is e) =
      (subst (λ (o : Option Reading). SendsHeld s.number o (sent s.number r)) (sym e) refl, rest s)
  row_goes x y (Ends r a has e fits) = (
    subst (λ (o : Option Reading). EndsHeld s.number o s.number a.id a.observer) (sym e) (refl, fits.id, fits.observer),
    rest (ended s),
  )

turns_from : (xs : List Given) (s : Reads) → TakeTurns s.number s.pending s.last_id (gave s xs)
turns_from [] s = tt
turns_from (x ∷ xs) s = row_goes xs (λ t. turns_from xs t) s x (next s x) (row_of s x)

pub reads_take_turns : (number : ℕ) (inputs : List Given) → TakeTurns number None 0 (gave (opening number) inputs)
reads_take_turns number inputs = turns_from inputs (opening number)

-- ---- each id is used once

-- the read that waits has the last id
abbrev IsTidy : Option Reading → ℕ → Type 0
IsTidy held last = (r : Reading) → held ≡ Some r → r.id ≡ last

-- none does
none_tidy : (last : ℕ) → IsTidy None last
none_tidy last r e = absurd (none-some r e)

-- what follows the first output
record Rest (number : ℕ) (held : Option Reading) (last : ℕ) (xs : List Out) : Type 0 where
  held_then : Option Reading
  last_then : ℕ
  tidy : IsTidy held last → IsTidy held_then last_then
  higher : cond (is_none held) (last + 1) last ≤ cond (is_none held_then) (last_then + 1) last_then
  later : last ≤ last_then
  turns : TakeTurns number held_then last_then xs

at_most_next : (b : Bool) (n : ℕ) → cond b (n + 1) n ≤ n + 1
at_most_next true n = omega arith
at_most_next false n = omega arith

rest_of : (number : ℕ) (held : Option Reading) (last : ℕ) (x : Out) (xs : List Out) → TakeTurns number held last (x ∷ xs)
    → Rest number held last xs
rest_of number held last (outs.Reading client id observer key) xs t =
    let r : Reading = record { id = id; observer = observer; key = key } in
    record {
      held_then = Some r;
      last_then = last + 1;
      tidy = λ before q e. ap (λ (p : Reading). p.id) (sym (same_Some r q e)) ∙ t.2;
      higher = at_most_next (is_none held) last;
      later = omega arith;
      turns = t.3;
    }
rest_of number held last (Send dest bytes) xs t =
    record { held_then = held; last_then = last; tidy = λ before. before; higher = omega arith; later = omega arith; turns = t.1 }
rest_of number held last (Answered client id observer position result) xs t = record {
  held_then = None;
  last_then = last;
  tidy = λ before. none_tidy last;
  higher = at_most_next (is_none held) last;
  later = omega arith;
  turns = t.1;
}
rest_of number held last (Busy client) xs t =
    record { held_then = held; last_then = last; tidy = λ before. before; higher = omega arith; later = omega arith; turns = t.1 }
rest_of number held last _ xs t = absurd t

-- a first output that asks for a key
asked_first : (number : ℕ) (held : Option Reading) (last : ℕ) (x : Out) (xs : List Out) (client id observer : ℕ) (key : List ℕ)
    → TakeTurns number held last (x ∷ xs) → Some x ≡ Some (outs.Reading client id observer key)
    → (id ≡ last + 1) × (then : Option Reading) × TakeTurns number then (last + 1) xs
asked_first number held last (outs.Reading c k o b) xs client id observer key t e =
    let same : k ≡ id = cc in (sym same ∙ t.2, Some (record { id = k; observer = o; key = b }), t.3)
asked_first number held last _ xs client id observer key t e = absurd cc

asked_above : (number : ℕ) (held : Option Reading) (last : ℕ) (xs : List Out) → TakeTurns number held last xs
    → (i client id observer : ℕ) (key : List ℕ) → slice_get xs i ≡ Some (outs.Reading client id observer key) → last < id
asked_above number held last [] t i client id observer key e = absurd (none-some (outs.Reading client id observer key) e)
asked_above number held last (x ∷ xs) t zero client id observer key e =
    let f = asked_first number held last x xs client id observer key t e in omega (arith, f.0)
asked_above number held last (x ∷ xs) t (suc i) client id observer key e =
    let f = rest_of number held last x xs t in
    let h = asked_above number f.held_then f.last_then xs f.turns i client id observer key e in
    omega (arith, h, f.later)

asked_once_at : (number : ℕ) (held : Option Reading) (last : ℕ) (xs : List Out) → TakeTurns number held last xs
    → (i j c d id o p : ℕ) (a b : List ℕ) → slice_get xs i ≡ Some (outs.Reading c id o a)
    → slice_get xs j ≡ Some (outs.Reading d id p b) → i ≡ j
asked_once_at number held last [] t i j c d id o p a b e f = absurd (none-some (outs.Reading c id o a) e)
asked_once_at number held last (x ∷ xs) t zero zero c d id o p a b e f = refl
asked_once_at number held last (x ∷ xs) t zero (suc j) c d id o p a b e f =
    let first = asked_first number held last x xs c id o a t e in
    let h = asked_above number first.1 (last + 1) xs first.2 j d id p b f in
    absurd (omega (arith, h, first.0))
asked_once_at number held last (x ∷ xs) t (suc i) zero c d id o p a b e f =
    let first = asked_first number held last x xs d id p b t f in
    let h = asked_above number first.1 (last + 1) xs first.2 i c id o a e in
    absurd (omega (arith, h, first.0))
asked_once_at number held last (x ∷ xs) t (suc i) (suc j) c d id o p a b e f =
    let g = rest_of number held last x xs t in
    ap suc (asked_once_at number g.held_then g.last_then xs g.turns i j c d id o p a b e f)

answered_first : (number : ℕ) (held : Option Reading) (last : ℕ) (x : Out) (xs : List Out) (client id observer position : ℕ)
    (result : List ℕ) → TakeTurns number held last (x ∷ xs) → Some x ≡ Some (Answered client id observer position result)
    → EndsHeld number held client id observer × TakeTurns number None last xs
answered_first number held last (Answered c k o p a) xs client id observer position result t e =
    let first : c ≡ client = cc in
    let second : k ≡ id = cc in
    let third : o ≡ observer = cc in
    (rw (sym first, sym second, sym third) t.0, t.1)
answered_first number held last _ xs client id observer position result t e = absurd cc

-- what is answered by a first output has the last id
answered_now : (number : ℕ) (held : Option Reading) (last : ℕ) → IsTidy held last → (client id observer : ℕ)
    → EndsHeld number held client id observer → (id ≡ last) × (cond (is_none held) (last + 1) last ≡ last)
answered_now number None last tidy client id observer h = absurd h
answered_now number (Some r) last tidy client id observer h = (h.1 ∙ tidy r refl, refl)

answered_from : (number : ℕ) (held : Option Reading) (last : ℕ) (xs : List Out) → IsTidy held last → TakeTurns number held last xs
    → (i client id observer position : ℕ) (result : List ℕ) → slice_get xs i ≡ Some (Answered client id observer position result)
    → cond (is_none held) (last + 1) last ≤ id
answered_from number held last [] tidy t i client id observer position result e =
    absurd (none-some (Answered client id observer position result) e)
answered_from number held last (x ∷ xs) tidy t zero client id observer position result e =
    let f = answered_first number held last x xs client id observer position result t e in
    let now = answered_now number held last tidy client id observer f.0 in
    omega (arith, now.0, now.1)
answered_from number held last (x ∷ xs) tidy t (suc i) client id observer position result e =
    let f = rest_of number held last x xs t in
    let h = answered_from number f.held_then f.last_then xs (f.tidy tidy) f.turns i client id observer position result e in
    omega (arith, h, f.higher)

answered_once_at : (number : ℕ) (held : Option Reading) (last : ℕ) (xs : List Out) → IsTidy held last → TakeTurns number held last xs
    → (i j c d id o p at be : ℕ) (a b : List ℕ) → slice_get xs i ≡ Some (Answered c id o at a)
    → slice_get xs j ≡ Some (Answered d id p be b) → i ≡ j
answered_once_at number held last [] tidy t i j c d id o p at be a b e f = absurd (none-some (Answered c id o at a) e)
answered_once_at number held last (x ∷ xs) tidy t zero zero c d id o p at be a b e f = refl
answered_once_at number held last (x ∷ xs) tidy t zero (suc j) c d id o p at be a b e f =
    let first = answered_first number held last x xs c id o at a t e in
    let now = answered_now number held last tidy c id o first.0 in
    let h = answered_from number None last xs (none_tidy last) first.1 j d id p be b f in
    absurd (omega (arith, h, now.0))
answered_once_at number held last (x ∷ xs) tidy t (suc i) zero c d id o p at be a b e f =
    let first = answered_first number held last x xs d id p be b t f in
    let now = answered_now number held last tidy d id p first.0 in
    let h = answered_from number None last xs (none_tidy last) first.1 i c id o at a e in
    absurd (omega (arith, h, now.0))
answered_once_at number held last (x ∷ xs) tidy t (suc i) (suc j) c d id o p at be a b e f =
    let g = rest_of number held last x xs t in
    ap suc (answered_once_at number g.held_then g.last_then xs (g.tidy tidy) g.turns i j c d id o p at be a b e f)

pub asked_once : (number : ℕ) (inputs : List Given) (i j c d id o p : ℕ) (a b : List ℕ)
    → slice_get (gave (opening number) inputs) i ≡ Some (outs.Reading c id o a)
    → slice_get (gave (opening number) inputs) j ≡ Some (outs.Reading d id p b) → i ≡ j
asked_once number inputs = asked_once_at number None 0 (gave (opening number) inputs) (reads_take_turns number inputs)

pub answered_once : (number : ℕ) (inputs : List Given) (i j c d id o p at be : ℕ) (a b : List ℕ)
    → slice_get (gave (opening number) inputs) i ≡ Some (Answered c id o at a)
    → slice_get (gave (opening number) inputs) j ≡ Some (Answered d id p be b) → i ≡ j
answered_once number inputs =
    answered_once_at number None 0 (gave (opening number) inputs) (none_tidy 0) (reads_take_turns number inputs)

-- ---- what is answered was asked

-- the client's read that waits has this id and observer
abbrev IsHeld : ℕ → Option Reading → (client id observer : ℕ) → Type 0
IsHeld number held client id observer =
    (r : Reading) × (held ≡ Some r) × (client ≡ number) × (id ≡ r.id) × (observer ≡ r.observer)

ends_held : (number : ℕ) (held : Option Reading) (client id observer : ℕ) → EndsHeld number held client id observer
    → IsHeld number held client id observer
ends_held number None client id observer h = absurd h
ends_held number (Some r) client id observer h = (r, refl, h.0, h.1, h.2)

later : (x : Out) (xs : List Out) (place client id observer : ℕ) → WasAsked xs place client id observer
    → WasAsked (x ∷ xs) (suc place) client id observer
later x xs place client id observer w =
    let before = w.before in record { place = suc w.place; key = w.key; before = omega (arith, before); reading = w.reading }

-- what waits from the first output on was asked there
here : (c k o : ℕ) (b : List ℕ) (xs : List Out) (number place client id observer : ℕ) → c ≡ number
    → IsHeld number (Some (record { id = k; observer = o; key = b })) client id observer
    → WasAsked (outs.Reading c k o b ∷ xs) (suc place) client id observer
here c k o b xs number place client id observer own (r, is, mine, same, from) =
    let read : record { id = k; observer = o; key = b } ≡ r = same_Some (record { id = k; observer = o; key = b }) r is in
    let clients : c ≡ client = own ∙ sym mine in
    let ids : k ≡ id = ap (λ (q : Reading). q.id) read ∙ sym same in
    let observers : o ≡ observer = ap (λ (q : Reading). q.observer) read ∙ sym from in
    record {
      place = zero;
      key = b;
      before = omega arith;
      reading = λ i. Some (outs.Reading (clients i) (ids i) (observers i) b);
    }

asked_before : (number : ℕ) (held : Option Reading) (last : ℕ) (xs : List Out) → TakeTurns number held last xs
    → (place client id observer position : ℕ) (result : List ℕ)
    → slice_get xs place ≡ Some (Answered client id observer position result)
    → IsHeld number held client id observer ⊎ WasAsked xs place client id observer
asked_before number held last [] t place client id observer position result e =
    absurd (none-some (Answered client id observer position result) e)
asked_before number held last (x ∷ xs) t zero client id observer position result e =
    inl (ends_held number held client id observer (answered_first number held last x xs client id observer position result t e).0)
asked_before number held last (outs.Reading c k o b ∷ xs) t (suc place) client id observer position result e =
    let r : Reading = record { id = k; observer = o; key = b } in
    elim (asked_before number (Some r) (last + 1) xs t.3 place client id observer position result e) [
      | inl now ↦ inr (here c k o b xs number place client id observer t.1 now)
      | inr old ↦ inr (later (outs.Reading c k o b) xs place client id observer old)
    ]
asked_before number held last (Send dest bytes ∷ xs) t (suc place) client id observer position result e =
    elim (asked_before number held last xs t.1 place client id observer position result e) [
      | inl now ↦ inl now
      | inr old ↦ inr (later (Send dest bytes) xs place client id observer old)
    ]
asked_before number held last (Answered c k o p a ∷ xs) t (suc place) client id observer position result e =
    elim (asked_before number None last xs t.1 place client id observer position result e) [
      | inl now ↦ absurd (none-some now.0 now.1)
      | inr old ↦ inr (later (Answered c k o p a) xs place client id observer old)
    ]
asked_before number held last (Busy c ∷ xs) t (suc place) client id observer position result e =
    elim (asked_before number held last xs t.1 place client id observer position result e) [
      | inl now ↦ inl now
      | inr old ↦ inr (later (Busy c) xs place client id observer old)
    ]
asked_before number held last (_ ∷ xs) t (suc place) client id observer position result e = absurd t

pub was_asked : (number : ℕ) (inputs : List Given) (place client id observer position : ℕ) (result : List ℕ)
    → slice_get (gave (opening number) inputs) place ≡ Some (Answered client id observer position result)
    → WasAsked (gave (opening number) inputs) place client id observer
was_asked number inputs place client id observer position result e =
    let turns = reads_take_turns number inputs in
    elim (asked_before number None 0 (gave (opening number) inputs) turns place client id observer position result e) [
      | inl now ↦ absurd (none-some now.0 now.1)
      | inr old ↦ old
    ]
