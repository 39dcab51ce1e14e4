-- The history of requests that were placed.
use Rattle.std.proofs.Common.{◌≡◌, ℕ, zero, suc, Bool, true, false, cond, List, [], ◌∷◌, ◌++◌, length, Option, Some, refl, ap, subst, ◌∙◌}
use Rattle.std.specs.Prelude.{slice_get, slice_index, filter, map}
use Rattle.std.proofs.lemmas.Option.{get_or_from_slice_get, slice_get-map}
use Rattle.fronts.specs.Parts.{of_part}
use Rattle.joined_orders.specs.Owning.{passes}
use Rattle.order_search.specs.declared.outcome.Placed.{Placed}
use Rattle.order_search.specs.Outcomes.{submits_of, time_of}
use Rattle.order_search.specs.Turns.{history_at}
use Rattle.order_search.proofs.StepLemmas.{requests_at-submit}
use Rattle.lemmas.proofs.Members.{Has-rest}
use Rattle.nop_types.specs.Lines.{Line, Submit}
use Rattle.nop_types.specs.Lists.{Has}
use Rattle.nop_types.specs.declared.request.Request.{Request}

pub index-at : (xs : List ℕ) (i n : ℕ) → slice_get xs i ≡ Some n → slice_index xs i ≡ n
index-at xs i n h = get_or_from_slice_get xs i n 0 h

pub time-at : (xs : List Placed) (i : ℕ) (x : Placed) → slice_get xs i ≡ Some x → time_of xs i ≡ x.line
time-at xs i x h =
    let e = slice_get-map (λ (p : Placed). p.line) xs i in
    index-at (map (λ (p : Placed). p.line) xs) i x.line (e ∙ rw h refl)

-- a request of the history, and where it was placed
pub record IsPlacedAs (lines : List Line) (xs : List Placed) (i : ℕ) (r : Request) : Type 0 where
  pub placed : Placed
  pub at : slice_get xs i ≡ Some placed
  pub submits : slice_get lines placed.submit ≡ Some (Submit r)

module _ (lines : List Line) where
  abbrev AllOf : List Placed → Type 0
  AllOf xs = (x : Placed) → Has xs x → (r : Request) × (slice_get lines x.submit ≡ Some (Submit r))

  rest_of : (x : Placed) (xs : List Placed) → AllOf (x ∷ xs) → AllOf xs
  rest_of x xs all y h = all y (Has-rest y x xs h)

  pub history-length : (xs : List Placed) → AllOf xs → length (history_at lines (submits_of xs)) ≡ length xs
  history-length [] all = refl
  history-length (x ∷ xs) all =
      let s = all x (0, refl) in
      let e = requests_at-submit lines x.submit s.0 s.1 in
      rw e (ap suc (history-length xs (rest_of x xs all)))

  -- each member was placed at its place
  pub placed_as : (xs : List Placed) → AllOf xs → (i : ℕ) (r : Request) → slice_get (history_at lines (submits_of xs)) i ≡ Some r
      → IsPlacedAs lines xs i r
  placed_as [] all i r h = absurd cc
  placed_as (x ∷ xs) all i r h =
      let s = all x (0, refl) in
      let e = requests_at-submit lines x.submit s.0 s.1 in
      here s.0 s.1 i (subst (λ (t : List Request). slice_get (t ++ history_at lines (submits_of xs)) i ≡ Some r) e h)
      (λ j g. placed_as xs (rest_of x xs all) j r g)
    where
      here : (q : Request) → slice_get lines x.submit ≡ Some (Submit q) → (i : ℕ)
          → slice_get (q ∷ history_at lines (submits_of xs)) i ≡ Some r
          → ((j : ℕ) → slice_get (history_at lines (submits_of xs)) j ≡ Some r → IsPlacedAs lines xs j r)
          → IsPlacedAs lines (x ∷ xs) i r
      here q is zero g more =
          let same : q ≡ r = cc in
          record { placed = x; at = refl; submits = is ∙ ap (λ (t : Request). Some (Submit t)) same }
      here q is (suc j) g more = let p = more j g in record { placed = p.placed; at = p.at; submits = p.submits }

  -- what a request that was placed submits is a member
  pub member_at : (xs : List Placed) → AllOf xs → (i : ℕ) (x : Placed) (r : Request) → slice_get xs i ≡ Some x
      → slice_get lines x.submit ≡ Some (Submit r) → slice_get (history_at lines (submits_of xs)) i ≡ Some r
  member_at [] all i x r h g = absurd cc
  member_at (y ∷ ys) all zero x r h g =
      let same : y ≡ x = cc in
      let e = requests_at-submit lines y.submit r (ap (λ (t : Placed). slice_get lines t.submit) same ∙ g) in
      rw e refl
  member_at (y ∷ ys) all (suc i) x r h g =
      let s = all y (0, refl) in
      let e = requests_at-submit lines y.submit s.0 s.1 in
      rw e (member_at ys (rest_of y ys all) i x r h g)

  -- the members that are mine are those placed by lines of mine
  module _ (mine : List ℕ → Bool) (own : Line → Bool) (submits : (r : Request) → own (Submit r) ≡ mine r.op) where
    abbrev kept : List Placed → List Placed
    kept xs = filter (λ (x : Placed). passes own (slice_get lines x.submit)) xs

    pub history-filter : (xs : List Placed) → AllOf xs
        → of_part mine (history_at lines (submits_of xs))
        ≡ history_at lines (submits_of (kept xs))
    history-filter [] all = refl
    history-filter (x ∷ xs) all =
        let s = all x (0, refl) in
        let e = requests_at-submit lines x.submit s.0 s.1 in
        let o = ap (λ (t : Option Line). passes own t) s.1 ∙ submits s.0 in
        rw (e, o) (here s.0 s.1 (mine s.0.op) (history-filter xs (rest_of x xs all)))
      where
        here : (q : Request) → slice_get lines x.submit ≡ Some (Submit q) → (b : Bool)
            → of_part mine (history_at lines (submits_of xs)) ≡ history_at lines (submits_of (kept xs))
            → cond b (q ∷ of_part mine (history_at lines (submits_of xs))) (of_part mine (history_at lines (submits_of xs)))
            ≡ history_at lines (submits_of (cond b (x ∷ kept xs) (kept xs)))
        here q is true r = let e = requests_at-submit lines x.submit q is in rw e (ap (λ (t : List Request). q ∷ t) r)
        here q is false r = r
