-- The members of a history, where they stand in the log, and their answers.
use Rattle.std.proofs.Common.{◌≡◌, ℕ, zero, suc, ◌+◌, ◌<◌, ◌≤◌, Bool, true, false, cond, List, [], ◌∷◌, ◌++◌, length, take, Some, refl, sym}
use Rattle.std.proofs.Common.{ap, subst, ◌∙◌, append_assoc, arith, inl, inr}
use Rattle.std.specs.Prelude.{◌⊎◌, ◌↔◌, slice_get}
use Rattle.std.proofs.lemmas.Bool.{cases_order}
use Rattle.std.proofs.lemmas.List.{append-nil}
use Rattle.std.proofs.lemmas.Option.{slice_get_within}
use Rattle.nop_types.specs.declared.limits.TheConstants.{WINDOW}
use Rattle.nop_types.specs.declared.request.Request.{Request}
use Rattle.nop_types.specs.declared.request.Entry.{Entry}
use Rattle.nop_types.specs.declared.request.Entry.TheVariants.{NoOp, Req}
use Rattle.nop_types.specs.Meaning.{Meaning}
use Rattle.nop_types.specs.Lists.{Has, IsPrefixOf}
use Rattle.nop_types.specs.Execution.{is_executed}
use Rattle.nop_types.specs.Histories.{new_in, history_from, history_of, answer_from, answer_at}
use Rattle.nop_types.specs.Legality.{IsOf, IsAnswered}
use Rattle.lemmas.proofs.Places.{slice_get-append_left, slice_get-append_cases, slice_get-append_at, slice_get-take, take-append_past}
use Rattle.lemmas.proofs.Members.{Has-append_right}
use Rattle.execution_laws.specs.Histories.{IsNewIn, StandsBefore}
use Rattle.execution_laws.proofs.Ids.{IsOf-trans, IsOf-both, repeat_is_old, far_is_old}

history_from-append : (b xs ys : List Entry) → history_from b (xs ++ ys) ≡ history_from b xs ++ history_from (b ++ xs) ys
history_from-append b [] ys = let e : b ++ [] ≡ b = append-nil b in rw e refl
history_from-append b (e ∷ xs) ys =
    let h = history_from-append (b ++ e ∷ []) xs ys in
    let a : (b ++ e ∷ []) ++ xs ≡ b ++ e ∷ xs = append_assoc b (e ∷ []) xs in
    ap (λ t. new_in b e ++ t) (h ∙ rw a refl)
    ∙ sym (append_assoc (new_in b e) (history_from (b ++ e ∷ []) xs) (history_from (b ++ e ∷ xs) ys))

pub history_of_append : (xs ys : List Entry) → history_of (xs ++ ys) ≡ history_of xs ++ history_from xs ys
history_of_append xs ys = history_from-append [] xs ys

pub history_of_next_entry : (log : List Entry) (e : Entry) → history_of (log ++ e ∷ []) ≡ history_of log ++ new_in log e
history_of_next_entry log e = history_of_append log (e ∷ []) ∙ ap (λ t. history_of log ++ t) (append-nil (new_in log e))

unexecuted : (log : List Entry) (r : Request) → is_executed log r ≡ false → history_of (log ++ Req r ∷ []) ≡ history_of log
unexecuted log r old =
    history_of_next_entry log (Req r)
    ∙ (ap (λ (b : Bool). history_of log ++ cond b (r ∷ []) []) old ∙ append-nil (history_of log))

pub repeat_is_no_member : (log : List Entry) (q r : Request) → Has log (Req q) → q.client ≡ r.client → q.id ≡ r.id
    → history_of (log ++ Req r ∷ []) ≡ history_of log
repeat_is_no_member log q r h own same = unexecuted log r (repeat_is_old log q r h own same)

pub stale_is_no_member : (log : List Entry) (q r : Request) → Has log (Req q) → q.client ≡ r.client → r.id + WINDOW ≤ q.id
    → history_of (log ++ Req r ∷ []) ≡ history_of log
stale_is_no_member log q r h own far = unexecuted log r (far_is_old log q r h own far)

-- the history of a prefix begins that of the whole
pub history_of_prefix : (xs ys : List Entry) → IsPrefixOf xs ys → IsPrefixOf (history_of xs) (history_of ys)
history_of_prefix xs ys p = (history_from xs p.0, rw (p.1) (history_of_append xs p.0))

-- what the one member that an entry adds is
record IsAdded (b : List Entry) (e : Entry) (i : ℕ) (r : Request) : Type 0 where
  at_once : i ≡ 0
  entry : e ≡ Req r
  executed : is_executed b r ≡ true

added : (b : List Entry) (e : Entry) (i : ℕ) (r : Request) → slice_get (new_in b e) i ≡ Some r → IsAdded b e i r
added b NoOp i r h = absurd cc
added b (Req q) i r h = here (is_executed b q) refl i h
  where
    here : (t : Bool) → is_executed b q ≡ t → (i : ℕ) → slice_get (cond t (q ∷ []) []) i ≡ Some r → IsAdded b (Req q) i r
    here true e zero h = let same : q ≡ r = cc in record { at_once = refl; entry = ap Req same; executed = ap (is_executed b) (sym same) ∙ e }
    here true e (suc i) h = absurd cc
    here false e i h = absurd cc

-- where the member at a place of the history is in the log
pub record Stands (b log : List Entry) (i : ℕ) (r : Request) : Type 0 where
  pub before : List Entry
  pub rest : List Entry
  pub log_is : log ≡ before ++ Req r ∷ rest
  pub executed : is_executed (b ++ before) r ≡ true
  pub history_is : history_from b before ≡ take i (history_from b log)

pub member_stands : (b log : List Entry) (i : ℕ) (r : Request) → slice_get (history_from b log) i ≡ Some r → Stands b log i r
member_stands b [] i r h = absurd cc
member_stands b (e ∷ log) i r h =
    here (slice_get-append_cases (new_in b e) (history_from (b ++ e ∷ []) log) i r h) (λ j g. member_stands (b ++ e ∷ []) log j r g)
  where
    here :
        (((i < length (new_in b e)) × (slice_get (new_in b e) i ≡ Some r))
        ⊎ ((j : ℕ) × (i ≡ length (new_in b e) + j) × (slice_get (history_from (b ++ e ∷ []) log) j ≡ Some r)))
        → ((j : ℕ) → slice_get (history_from (b ++ e ∷ []) log) j ≡ Some r → Stands (b ++ e ∷ []) log j r) → Stands b (e ∷ log) i r
    here (inl l) more = let a = added b e i r l.1 in record {
      before = [];
      rest = log;
      log_is = ap (λ t. t ∷ log) a.entry;
      executed = ap (λ (t : List Entry). is_executed t r) (append-nil b) ∙ a.executed;
      history_is = rw (a.at_once) refl;
    }
    here (inr s) more = let u = more s.0 s.2 in record {
      before = e ∷ u.before;
      rest = u.rest;
      log_is = ap (λ t. e ∷ t) u.log_is;
      executed = ap (λ (t : List Entry). is_executed t r) (sym (append_assoc b (e ∷ []) u.before)) ∙ u.executed;
      history_is = rw (s.1, take-append_past) (ap (λ t. new_in b e ++ t) u.history_is);
    }

-- the members of a history are requests of the log
pub members_are_logged : (log : List Entry) (r : Request) → Has (history_of log) r → Has log (Req r)
members_are_logged log r h =
    let s = member_stands [] log h.0 r h.1 in rw (s.log_is) (Has-append_right s.before (Req r ∷ s.rest) (Req r) (zero, refl))

member_is_new : (log : List Entry) (r : Request) → Has (history_of log) r → IsNewIn log r
member_is_new log r h =
    let s = member_stands [] log h.0 r h.1 in
    record { before = s.before; rest = s.rest; log_is = s.log_is; executed = s.executed }

new_is_member : (log : List Entry) (r : Request) → IsNewIn log r → Has (history_of log) r
new_is_member log r n =
    let one : Has (history_from n.before (Req r ∷ n.rest)) r =
    subst (λ (b : Bool). Has (cond b (r ∷ []) [] ++ history_from (n.before ++ Req r ∷ []) n.rest) r) (sym n.executed) (zero, refl) in
    rw (n.log_is, history_of_append) (Has-append_right (history_of n.before) (history_from n.before (Req r ∷ n.rest)) r one)

-- the members are the requests that are executed where they stand
pub members_are_new : (log : List Entry) (r : Request) → Has (history_of log) r ↔ IsNewIn log r
members_are_new log r = (member_is_new log r, new_is_member log r)

-- an earlier member, among those that stand before a later one in the log
earlier_is_logged : (log : List Entry) (i j : ℕ) (p q : Request) → slice_get (history_of log) i ≡ Some p → (s : Stands [] log j q) → i < j
    → Has s.before (Req p)
earlier_is_logged log i j p q g s l = members_are_logged s.before p (i, rw (s.history_is) (slice_get-take (history_of log) j i l ∙ g))

-- later members stand in later slots
pub members_keep_order : (log : List Entry) (i j : ℕ) (p q : Request) → slice_get (history_of log) i ≡ Some p
    → slice_get (history_of log) j ≡ Some q → i < j → StandsBefore log p q
members_keep_order log i j p q g h l =
    let s = member_stands [] log j q h in
    let e = earlier_is_logged log i j p q g s l in
    let near : e.0 < length s.before = slice_get_within s.before e.0 (Req p) e.1 in
    record {
      slot = suc e.0;
      later = suc (length s.before);
      order = omega (arith, near);
      entry = ap (λ (t : List Entry). slice_get t e.0) s.log_is ∙ slice_get-append_left s.before (Req q ∷ s.rest) e.0 (Req p) e.1;
      later_entry = ap (λ (t : List Entry). slice_get t (length s.before)) s.log_is ∙ slice_get-append_at s.before (Req q) s.rest;
    }

later_is_other : (log : List Entry) (i j : ℕ) (p q : Request) → slice_get (history_of log) i ≡ Some p → slice_get (history_of log) j ≡ Some q
    → IsOf p.client p.id q → i < j → ⊥
later_is_other log i j p q g h same l =
    let s = member_stands [] log j q h in
    let old : is_executed s.before q ≡ false =
    repeat_is_old s.before p q (earlier_is_logged log i j p q g s l) (sym same.same_client) (sym same.same_id) in
    let new : is_executed s.before q ≡ true = s.executed in
    cc

-- no client and id stands twice in a history
pub members_are_distinct : (log : List Entry) (i j : ℕ) (p q : Request) → slice_get (history_of log) i ≡ Some p
    → slice_get (history_of log) j ≡ Some q → IsOf p.client p.id q → i ≡ j
members_are_distinct log i j p q g h same = elim (cases_order i j) [
  | inl e ↦ e
  | inr o ↦ elim o [
    | inl l ↦ absurd (later_is_other log i j p q g h same l)
    | inr l ↦ absurd (later_is_other log j i q p h g (record { same_client = sym same.same_client; same_id = sym same.same_id }) l)
  ]
]

-- an answer is known from the members up to it
answer_from-append : {S : Type 0} (m : Meaning S) (s : S) (xs ys : List Request) (i : ℕ) → i < length xs
    → answer_from m s (xs ++ ys) i ≡ answer_from m s xs i
answer_from-append m s [] ys i l = absurd (omega (arith, l))
answer_from-append m s (r ∷ xs) ys zero l = refl
answer_from-append m s (r ∷ xs) ys (suc i) l = answer_from-append m (m.after s r.op) xs ys i (omega (arith, l))

pub answer_needs_prefix : {S : Type 0} (m : Meaning S) (xs ys : List Request) (i : ℕ) → IsPrefixOf xs ys → i < length xs
    → answer_at m ys i ≡ answer_at m xs i
answer_needs_prefix m xs ys i p l = rw (p.1) (answer_from-append m m.opening xs p.0 i l)

-- one client and id has one answer
pub answers_are_equal : {S : Type 0} (m : Meaning S) (log : List Entry) (client id : ℕ) (a b : List ℕ)
    → IsAnswered m (history_of log) client id a → IsAnswered m (history_of log) client id b → a ≡ b
answers_are_equal m log client id a b p q =
    let one : p.place ≡ q.place =
    members_are_distinct log p.place q.place p.request q.request p.member q.member
    (IsOf-both client id p.request q.request p.same q.same) in
    let same : Some a ≡ Some b = sym p.answer ∙ (ap (λ (t : ℕ). answer_at m (history_of log) t) one ∙ q.answer) in
    cc

pub answered_as : {S : Type 0} (m : Meaning S) (history : List Request) (client id : ℕ) (r : Request) (result : List ℕ) → IsOf client id r
    → IsAnswered m history r.client r.id result → IsAnswered m history client id result
answered_as m history client id r result same a =
    record {
      place = a.place;
      request = a.request;
      member = a.member;
      same = IsOf-trans client id r a.request same a.same;
      answer = a.answer;
    }

-- an answer stays where members are added at the end
pub answer_stays : {S : Type 0} (m : Meaning S) (xs ys : List Request) (client id : ℕ) (result : List ℕ) → IsPrefixOf xs ys
    → IsAnswered m xs client id result → IsAnswered m ys client id result
answer_stays m xs ys client id result p a = record {
  place = a.place;
  request = a.request;
  member = rw (p.1) (slice_get-append_left xs p.0 a.place a.request a.member);
  same = a.same;
  answer = answer_needs_prefix m xs ys a.place p (slice_get_within xs a.place a.request a.member) ∙ a.answer;
}
