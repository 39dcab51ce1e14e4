-- What was placed among the claims of a part, by its places among all claims.
use Rattle.std.proofs.Common.{◌≡◌, ℕ, zero, suc, ◌<◌, ◌≤◌, Bool, true, List, [], ◌∷◌, length, Option, Some, refl, sym, ap, subst, ◌∙◌, arith, inl, inr, map}
use Rattle.std.specs.Prelude.{slice_get, slice_index, filter}
use Rattle.std.proofs.lemmas.Bool.{cases_lt}
use Rattle.std.proofs.lemmas.Option.{slice_get_within}
use Rattle.execution_laws.specs.Legality.{SubmittedOnce}
use Rattle.fronts.specs.Parts.{AreTimed}
use Rattle.joined_orders.proofs.Chosen.{chosen_is_kept, kept_is_chosen, passing_is_chosen, chosen_rise}
use Rattle.joined_orders.proofs.HistoryLemmas.{index-at, time-at, history-length, member_at}
use Rattle.joined_orders.proofs.Mapped.{mapped_at}
use Rattle.joined_orders.proofs.Owned.{owns}
use Rattle.joined_orders.specs.Joining.{IsTimely, is_placed_of, IsPartOrder, moved}
use Rattle.joined_orders.specs.Owning.{is_own, passes, places_where}
use Rattle.order_search.specs.declared.outcome.Placed.{Placed}
use Rattle.order_search.specs.Outcomes.{submits_of, time_of}
use Rattle.order_search.specs.Searching.{told_by, requests_at}
use Rattle.order_search.specs.Turns.{history_at, AllSubmit}
use Rattle.lemmas.proofs.Members.{Has-rest}
use Rattle.lemmas.proofs.Places.{slice_get-some}
use Rattle.nop_types.specs.Legality.{Legal}
use Rattle.nop_types.specs.Lines.{Line, Submit, Accept}
use Rattle.nop_types.specs.Lists.{Has}
use Rattle.nop_types.specs.Meaning.{Meaning}
use Rattle.nop_types.specs.declared.request.Request.{Request}

all_submitted : (lines : List Line) (xs : List Placed) → AllSubmit lines (submits_of xs) → (x : Placed) → Has xs x
    → (r : Request) × (slice_get lines x.submit ≡ Some (Submit r))
all_submitted lines xs all x h = all h.0 x.submit (submit_at xs h.0 h.1)
  where
    submit_at : (xs : List Placed) (i : ℕ) → slice_get xs i ≡ Some x → slice_get (submits_of xs) i ≡ Some x.submit
    submit_at [] i h = absurd cc
    submit_at (y ∷ ys) zero h = let e : y ≡ x = cc in ap (λ (t : Placed). Some t.submit) e
    submit_at (y ∷ ys) (suc i) h = submit_at ys i h

module _ (lines : List Line) (own : Line → Bool) where
  abbrev mine : List Line
  mine = filter own lines

  abbrev places : List ℕ
  places = places_where own lines (length lines)

  -- the line at a place among mine, and where it stands among all
  pub record StandsAt (a : ℕ) (line : Line) : Type 0 where
    pub at : slice_get places a ≡ Some (slice_index places a)
    pub line_is : slice_get lines (slice_index places a) ≡ Some line
    pub owned : own line ≡ true

  pub stands_at : (a : ℕ) (line : Line) → slice_get mine a ≡ Some line → StandsAt a line
  stands_at a line h =
      let k = kept_is_chosen own lines a line h in
      let e = index-at places a k.0 k.1 in
      record {
        at = k.1 ∙ ap (λ (t : ℕ). Some t) (sym e);
        line_is = ap (λ (t : ℕ). slice_get lines t) e ∙ k.2;
        owned = k.3;
      }

  within_stands : (a : ℕ) → a < length mine → slice_get places a ≡ Some (slice_index places a)
  within_stands a l = let line = slice_get-some mine a l in (stands_at a line.0 line.1).at

  pub places_rise : (a b : ℕ) → a < length mine → b < length mine → a < b → slice_index places a < slice_index places b
  places_rise a b k l less =
      chosen_rise own lines a b (slice_index places a) (slice_index places b) (within_stands a k) (within_stands b l) less

  places_rise_alike : (a b : ℕ) → a < length mine → b < length mine → a ≤ b → slice_index places a ≤ slice_index places b
  places_rise_alike a b k l near = elim (cases_lt a b) [
    | inl less ↦ let r = places_rise a b k l less in omega (arith, r)
    | inr more ↦
        let same : a ≡ b = omega (arith, near, more) in
        let e = ap (λ (t : ℕ). slice_index places t) same in omega (arith, e)
  ]

  -- the history is the same
  pub same_history : (xs : List Placed) → ((x : Placed) → Has xs x → (r : Request) × (slice_get mine x.submit ≡ Some (Submit r)))
      → history_at lines (submits_of (map (moved places) xs)) ≡ history_at mine (submits_of xs)
  same_history [] all = refl
  same_history (x ∷ xs) all =
      let s = all x (0, refl) in
      let e : requests_at lines (slice_index places x.submit) ≡ requests_at mine x.submit =
      ap told_by ((stands_at x.submit (Submit s.0) s.1).line_is ∙ sym s.1) in
      rw (e, same_history xs (λ y h. all y (Has-rest y x xs h))) refl

module _ {S : Type 0} (m : Meaning S) (part : List ℕ → List ℕ) (lines : List Line) (p : List ℕ) (once : SubmittedOnce lines)
    (xs : List Placed) where
  abbrev own : Line → Bool
  own = is_own part lines p

  abbrev all_places : List ℕ
  all_places = places_where own lines (length lines)

  module _ (legal : Legal m (filter own lines) (history_at (filter own lines) (submits_of xs)))
      (submit : AllSubmit (filter own lines) (submits_of xs))
      (timed : AreTimed (filter own lines) (history_at (filter own lines) (submits_of xs)) (time_of xs))
      (within : (x : Placed) → Has xs x → x.line < length (filter own lines)) where
    abbrev mine_of : List Line
    mine_of = filter own lines

    submits : (x : Placed) → Has xs x → (r : Request) × (slice_get mine_of x.submit ≡ Some (Submit r))
    submits = all_submitted mine_of xs submit

    lines_rise : (i j : ℕ) (x y : Placed) → i ≤ j → slice_get xs i ≡ Some x → slice_get xs j ≡ Some y → x.line ≤ y.line
    lines_rise i j x y near g h =
        let e = history-length mine_of xs submits in
        let l = slice_get_within xs j y h in
        let r = timed.rises i j near (omega (arith, l, e)) in
        let s = time-at xs i x g in
        let t = time-at xs j y h in
        omega (arith, r, s, t)

    timely_at : (i : ℕ) (x : Placed) → slice_get xs i ≡ Some x → IsTimely lines (moved all_places x)
    timely_at i x h =
        let s = submits x (i, h) in
        let r = s.0 in
        let t = time-at xs i x h in
        let member = member_at mine_of xs submits i x r h s.1 in
        let at_submit = stands_at lines own x.submit (Submit r) s.1 in
        let l = within x (i, h) in
        record {
          request = r;
          submits = at_submit.line_is;
          begun =
              let b = timed.begun i x.submit r r member s.1 (record { same_client = refl; same_id = refl }) in
              places_rise lines own x.submit x.line (slice_get_within mine_of x.submit (Submit r) s.1) l (omega (arith, b, t));
          ended = λ k result accept.
              let is_mine = (owns part lines p once).accepts r.client r.id result r
              (slice_index all_places x.submit, at_submit.line_is) (record { same_client = refl; same_id = refl }) ∙ at_submit.owned in
              let a = passing_is_chosen own lines k (Accept r.client r.id result) accept is_mine in
              let kept = chosen_is_kept own lines a.0 k (Accept r.client r.id result) a.1 accept in
              let e = timed.ended i a.0 r.client r.id result r member kept (record { same_client = refl; same_id = refl }) in
              let rise = places_rise_alike lines own x.line a.0 l
              (slice_get_within mine_of a.0 (Accept r.client r.id result) kept) (omega (arith, e, t)) in
              let f = index-at all_places a.0 k a.1 in
              omega (arith, rise, f);
        }

    -- an order of a part's claims is one by the places among all claims
    pub part_order : IsPartOrder m part lines p (map (moved all_places) xs)
    part_order = record {
      legal = subst (λ (t : List Request). Legal m mine_of t) (sym (same_history lines own xs submits)) legal;
      own = λ x h.
          let f = mapped_at (moved all_places) xs h.0 x h.1 in
          let s = submits f.from (h.0, f.at) in
          let at_submit = stands_at lines own f.from.submit (Submit s.0) s.1 in
          subst (λ (t : Placed). is_placed_of part lines p t ≡ true) f.gives
          (ap (λ (t : Option Line). passes own t) at_submit.line_is ∙ at_submit.owned);
      timely = λ x h.
          let f = mapped_at (moved all_places) xs h.0 x h.1 in
          subst (λ (t : Placed). IsTimely lines t) f.gives (timely_at h.0 f.from f.at);
      rise = λ i j x y near g h.
          let a = mapped_at (moved all_places) xs i x g in
          let b = mapped_at (moved all_places) xs j y h in
          let r = places_rise_alike lines own a.from.line b.from.line (within a.from (i, a.at)) (within b.from (j, b.at))
          (lines_rise i j a.from b.from near a.at b.at) in
          let e = ap (λ (t : Placed). t.line) a.gives in
          let f = ap (λ (t : Placed). t.line) b.gives in
          omega (arith, r, e, f);
    }
