-- Which results are unknown, by the lines that have marks.
use Rattle.std.proofs.Common.{◌≡◌, ◌∙◌, ℕ, zero, suc, Bool, true, false, List, [], ◌∷◌, Some, refl, sym, ap}
use Rattle.std.specs.Prelude.{slice_get, ◌&&◌, ◌||◌, ◌==◌}
use Rattle.std.proofs.lemmas.Bool.{eq-eqb, eqb-true, and_from}
use Rattle.nop_types.specs.Legality.{AcceptedOnce}
use Rattle.nop_types.specs.Lines.{Line, Submit, Accept}
use Rattle.unknown_results.specs.Asking.{accepts_of, unknown_in}

-- a line with a mark accepts the client and id
pub record IsMarked (marks : List Bool) (lines : List Line) (client id : ℕ) : Type 0 where
  pub place : ℕ
  pub result : List ℕ
  pub mark : slice_get marks place ≡ Some true
  pub line : slice_get lines place ≡ Some (Accept client id result)

or_left : (a b : Bool) → a ≡ true → a || b ≡ true
or_left true b e = refl
or_left false b e = absurd cc

or_right : (a b : Bool) → b ≡ true → a || b ≡ true
or_right true b e = refl
or_right false b e = e

and_left : (a b : Bool) → a && b ≡ true → a ≡ true
and_left true b e = refl
and_left false b e = absurd cc

and_right : (a b : Bool) → a && b ≡ true → b ≡ true
and_right true b e = e
and_right false b e = absurd cc

accepts_itself : (client id : ℕ) (result : List ℕ) → accepts_of client id (Accept client id result) ≡ true
accepts_itself client id result = and_from (client == client) (id == id) (eq-eqb client client refl) (eq-eqb id id refl)

accepts_is : (client id : ℕ) (l : Line) → accepts_of client id l ≡ true → (result : List ℕ) × (l ≡ Accept client id result)
accepts_is client id (Accept c i result) e =
    let ec : c ≡ client = eqb-true c client (and_left (c == client) (i == id) e) in
    let ei : i ≡ id = eqb-true i id (and_right (c == client) (i == id) e) in
    (result, cc)
accepts_is client id (Submit r) e = absurd cc
accepts_is client id _ e = absurd cc

pub is_unknown_at : (marks : List Bool) (lines : List Line) (k client id : ℕ) (result : List ℕ) → slice_get marks k ≡ Some true
    → slice_get lines k ≡ Some (Accept client id result) → unknown_in marks lines client id ≡ true
is_unknown_at [] lines k client id result e f = absurd cc
is_unknown_at (b ∷ marks) [] k client id result e f = absurd cc
is_unknown_at (b ∷ marks) (l ∷ lines) zero client id result e f =
    let marked : b ≡ true = cc in
    let line : l ≡ Accept client id result = cc in
    or_left (b && accepts_of client id l) (unknown_in marks lines client id)
    (and_from b (accepts_of client id l) marked (ap (accepts_of client id) line ∙ accepts_itself client id result))
is_unknown_at (b ∷ marks) (l ∷ lines) (suc k) client id result e f =
    or_right (b && accepts_of client id l) (unknown_in marks lines client id) (is_unknown_at marks lines k client id result e f)

pub unknown_has_mark : (marks : List Bool) (lines : List Line) (client id : ℕ) → unknown_in marks lines client id ≡ true
    → IsMarked marks lines client id
unknown_has_mark [] lines client id e = absurd cc
unknown_has_mark (b ∷ marks) [] client id e = absurd cc
unknown_has_mark (b ∷ marks) (l ∷ lines) client id e =
    by_cases (unknown_has_mark marks lines client id) (b && accepts_of client id l) refl e
  where
    by_cases : (unknown_in marks lines client id ≡ true → IsMarked marks lines client id) → (here : Bool)
        → b && accepts_of client id l ≡ here → here || unknown_in marks lines client id ≡ true
        → IsMarked (b ∷ marks) (l ∷ lines) client id
    by_cases later true h g =
        let is = accepts_is client id l (and_right b (accepts_of client id l) h) in
        record {
          place = 0;
          result = is.0;
          mark = ap (λ (x : Bool). Some x) (and_left b (accepts_of client id l) h);
          line = ap (λ (x : Line). Some x) is.1;
        }
    by_cases later false h g =
        let r = later g in
        record { place = suc r.place; result = r.result; mark = r.mark; line = r.line }

is_false : (b : Bool) → (b ≡ true → ⊥) → b ≡ false
is_false true f = absurd (f refl)
is_false false f = refl

-- a line that alone accepts the client and id says by its mark whether the result is unknown
pub by_its_mark : (marks : List Bool) (lines : List Line) → AcceptedOnce lines → (k client id : ℕ) (result : List ℕ) (b : Bool)
    → slice_get lines k ≡ Some (Accept client id result) → slice_get marks k ≡ Some b → unknown_in marks lines client id ≡ b
by_its_mark marks lines once k client id result true line mark = is_unknown_at marks lines k client id result mark line
by_its_mark marks lines once k client id result false line mark =
    is_false (unknown_in marks lines client id) (λ e.
    let r = unknown_has_mark marks lines client id e in
    let same : r.place ≡ k = once r.place k client id r.result result r.line line in
    let two : slice_get marks r.place ≡ Some false = ap (slice_get marks) same ∙ mark in
    let x = sym (r.mark) ∙ two in
    absurd cc)

-- what no line accepts is not unknown
pub unaccepted_is_known : (marks : List Bool) (lines : List Line) (client id : ℕ)
    → ((k : ℕ) (result : List ℕ) → slice_get lines k ≡ Some (Accept client id result) → ⊥) → unknown_in marks lines client id ≡ false
unaccepted_is_known marks lines client id none =
    is_false (unknown_in marks lines client id) (λ e.
    let r = unknown_has_mark marks lines client id e in
    none r.place r.result r.line)
