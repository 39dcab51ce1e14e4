-- What waits and what is placed, counted.
use Rattle.std.proofs.Common.{◌≡◌, ◌∙◌, ℕ, zero, suc, ◌+◌, ◌<◌, ◌≤◌, List, [], ◌∷◌, ◌++◌, length, take, Some, refl, sym, ap, subst, arith, append_assoc, inl, inr}
use Rattle.std.specs.Prelude.{◌⊎◌, max, slice_get, remove}
use Rattle.std.proofs.lemmas.Bool.{cases_lt}
use Rattle.std.proofs.lemmas.List.{append-nil}
use Rattle.nop_types.specs.Lines.{Line, Submit, Accept}
use Rattle.nop_types.specs.declared.request.Request.{Request}
use Rattle.order_search.proofs.BoundLemmas.{some_behind, further_behind, tried_behind, placed_behind, back_behind}
use Rattle.order_search.proofs.Edits.{one_less}
use Rattle.order_search.specs.Bounds.{submits_in, steps_left, AcceptsAt, IsDue, AreDue, IsCounted}
use Rattle.order_search.specs.Searching.{requests_at, front_of}
use Rattle.order_search.specs.Turns.{IsPassed, IsStuck}
use Rattle.order_search.specs.declared.step.Step.{Step}

-- ---- how many of the first lines submit

pub one_more : (lines : List Line) (k : ℕ) (r : Request) → slice_get lines k ≡ Some (Submit r)
    → submits_in (take (suc k) lines) ≡ suc (submits_in (take k lines))
one_more [] k r h = absurd cc
one_more (line ∷ lines) zero r h = let e : line ≡ Submit r = cc in rw e refl
one_more (line ∷ lines) (suc k) r h = let i = one_more lines k r h in omega (arith, i)

pub no_more : (lines : List Line) (k client id : ℕ) (result : List ℕ) → slice_get lines k ≡ Some (Accept client id result)
    → submits_in (take (suc k) lines) ≡ submits_in (take k lines)
no_more [] k client id result h = absurd cc
no_more (line ∷ lines) zero client id result h = let e : line ≡ Accept client id result = cc in rw e refl
no_more (line ∷ lines) (suc k) client id result h = let i = no_more lines k client id result h in omega (arith, i)

pub at_most_all : (lines : List Line) (k : ℕ) → submits_in (take k lines) ≤ submits_in lines
at_most_all [] zero = omega arith
at_most_all [] (suc k) = omega arith
at_most_all (line ∷ lines) zero = omega arith
at_most_all (line ∷ lines) (suc k) = let i = at_most_all lines k in omega (arith, i)

length_push : {A : Type 0} (xs : List A) (x : A) → length (xs ++ x ∷ []) ≡ suc (length xs)
length_push [] x = refl
length_push (y ∷ xs) x = ap suc (length_push xs x)

-- ---- the chain of steps

module _ {U : Type 0} (lines : List Line) where
  due_push : (before : List Request) (depth : ℕ) (steps : List (Step U)) (s : Step U) → AreDue lines before depth steps
      → IsDue lines (before ++ front_of lines steps) (depth + length steps) s → AreDue lines before depth (steps ++ s ∷ [])
  due_push before depth [] s h k = (
    record {
      stuck = subst (λ (x : List Request). IsStuck lines s.line x) (append-nil before) k.stuck;
      count = let e = k.count in omega (arith, e);
    },
    tt,
  )
  due_push before depth (t ∷ steps) s h k = (
    h.0,
    due_push (before ++ requests_at lines t.submit) (suc depth) steps s h.1 (record {
      stuck =
          subst (λ (x : List Request). IsStuck lines s.line x) (sym (append_assoc before (requests_at lines t.submit) (front_of lines steps)))
          k.stuck;
      count = let e = k.count in omega (arith, e);
    }),
  )

  due_front : (before : List Request) (depth : ℕ) (steps : List (Step U)) (s : Step U) → AreDue lines before depth (steps ++ s ∷ [])
      → AreDue lines before depth steps
  due_front before depth [] s h = tt
  due_front before depth (t ∷ steps) s h = (h.0, due_front (before ++ requests_at lines t.submit) (suc depth) steps s h.1)

  due_last : (before : List Request) (depth : ℕ) (steps : List (Step U)) (s : Step U) → AreDue lines before depth (steps ++ s ∷ [])
      → IsDue lines (before ++ front_of lines steps) (depth + length steps) s
  due_last before depth [] s h = record {
    stuck = subst (λ (x : List Request). IsStuck lines s.line x) (sym (append-nil before)) h.0.stuck;
    count = let e = h.0.count in omega (arith, e);
  }
  due_last before depth (t ∷ steps) s h =
      let k = due_last (before ++ requests_at lines t.submit) (suc depth) steps s h.1 in
      record {
        stuck =
            subst (λ (x : List Request). IsStuck lines s.line x) (append_assoc before (requests_at lines t.submit) (front_of lines steps))
            k.stuck;
        count = let e = k.count in omega (arith, e);
      }

  pub counts_open : (steps : List (Step U)) → steps ≡ [] → IsCounted lines 0 0 steps []
  counts_open [] e = record {
    due = tt;
    count = refl;
    stuck = λ l. absurd (omega (arith, l));
  }
  counts_open (s ∷ steps) e = absurd cc

  module _ (line next : ℕ) (steps : List (Step U)) (waiting : List ℕ) (c : IsCounted lines line next steps waiting) where
    abbrev front : List Request
    front = front_of lines steps

    pub few_placed : length steps ≤ submits_in lines
    few_placed = let a = c.count in let b = at_most_all lines line in omega (arith, a, b)

    pub some_left : 0 < steps_left lines steps line next
    some_left = some_behind (length lines) (submits_in lines) steps line next few_placed

    room : next < length waiting → next + length steps < submits_in lines
    room l = let a = c.count in let b = at_most_all lines line in omega (arith, a, b, l)

    -- where the line is not stuck none was tried
    none_tried : (n : ℕ) → n ≡ next → (IsStuck lines line front → ⊥) → n ≡ 0
    none_tried zero e free = refl
    none_tried (suc n) e free = absurd (free (c.stuck (omega (arith, e))))

    falls : (IsStuck lines line front → ⊥) → line < length lines → steps_left lines steps (suc line) 0 + 1 ≤ steps_left lines steps line next
    falls free l =
        rw (none_tried next refl free) (further_behind (length lines) (submits_in lines) steps line few_placed l)

    -- ---- a line that submits is passed

    submits_free : (r : Request) → slice_get lines line ≡ Some (Submit r) → IsStuck lines line front → ⊥
    submits_free r at stuck = let e = sym at ∙ stuck.accepts in absurd cc

    pub counts_wait : (r : Request) → slice_get lines line ≡ Some (Submit r) → IsCounted lines (suc line) 0 steps (waiting ++ line ∷ [])
    counts_wait r at = record {
      due = c.due;
      count =
          let a = c.count in
          let b = one_more lines line r at in
          let d = length_push waiting line in
          omega (arith, a, b, d);
      stuck = λ l. absurd (omega (arith, l));
    }

    pub falls_wait : (r : Request) → slice_get lines line ≡ Some (Submit r) → line < length lines
        → steps_left lines steps (suc line) 0 + 1 ≤ steps_left lines steps line next
    falls_wait r at l = falls (submits_free r at) l

    -- ---- a line that accepts what is placed is passed

    passed_free : IsPassed lines line front → IsStuck lines line front → ⊥
    passed_free passed stuck =
        let m = passed stuck.client stuck.id stuck.result stuck.accepts in
        stuck.new m.request m.member m.same

    pub counts_pass : (client id : ℕ) (result : List ℕ) → slice_get lines line ≡ Some (Accept client id result)
        → IsCounted lines (suc line) 0 steps waiting
    counts_pass client id result at = record {
      due = c.due;
      count =
          let a = c.count in
          let b = no_more lines line client id result at in
          omega (arith, a, b);
      stuck = λ l. absurd (omega (arith, l));
    }

    pub falls_pass : IsPassed lines line front → line < length lines
        → steps_left lines steps (suc line) 0 + 1 ≤ steps_left lines steps line next
    falls_pass passed l = falls (passed_free passed) l

    -- ---- one that waits was tried

    pub counts_tried : IsStuck lines line front → IsCounted lines line (suc next) steps waiting
    counts_tried stuck = record { due = c.due; count = c.count; stuck = λ l. stuck }

    pub falls_tried : next < length waiting → steps_left lines steps line (suc next) + 1 ≤ steps_left lines steps line next
    falls_tried l = tried_behind (length lines) (submits_in lines) steps line next (room l)

    -- ---- one that waits is placed

    module _ (s : Step U) (at : ℕ) (line_is : s.line ≡ line) (others_is : s.others ≡ length (remove waiting at)) where
      pub counts_place : IsStuck lines line front → (i : ℕ) → slice_get waiting at ≡ Some i
          → IsCounted lines line 0 (steps ++ s ∷ []) (remove waiting at)
      counts_place stuck i stands = record {
        due = due_push [] 0 steps s c.due (record {
          stuck = rw line_is stuck;
          count =
              let a = c.count in
              let b = one_less waiting at i stands in
              let e : submits_in (take s.line lines) ≡ submits_in (take line lines) = ap (λ (k : ℕ). submits_in (take k lines)) line_is in
              omega (arith, a, b, e, others_is);
        });
        count =
            let a = c.count in
            let b = one_less waiting at i stands in
            let d = length_push steps s in
            omega (arith, a, b, d);
        stuck = λ l. absurd (omega (arith, l));
      }

      pub falls_place : next < s.tried → next < length waiting
          → steps_left lines (steps ++ s ∷ []) line 0 + 1 ≤ steps_left lines steps line next
      falls_place l k =
          subst (λ (x : ℕ). steps_left lines (steps ++ s ∷ []) x 0 + 1 ≤ steps_left lines steps x next) line_is
          (placed_behind (length lines) (submits_in lines) steps s next l (room k))

  -- ---- the last step is taken back

  module _ (line next : ℕ) (steps : List (Step U)) (s : Step U) (waiting left : List ℕ)
      (c : IsCounted lines line next (steps ++ s ∷ []) waiting) where
    pub counts_back : length left ≡ suc s.others → IsCounted lines s.line s.tried steps left
    counts_back e = record {
      due = due_front [] 0 steps s c.due;
      count = let d = due_last [] 0 steps s c.due in let f = d.count in omega (arith, e, f);
      stuck = λ l. (due_last [] 0 steps s c.due).stuck;
    }

    pub falls_back : steps_left lines steps s.line s.tried + 1 ≤ steps_left lines (steps ++ s ∷ []) line next
    falls_back =
        let a = c.count in
        let b = at_most_all lines line in
        let d = length_push steps s in
        back_behind (length lines) (submits_in lines) steps s line next (omega (arith, a, b, d))

-- ---- the furthest line at which the search stood

module _ (lines : List Line) (furthest line far : ℕ) (is : far ≡ max furthest line) (reached : (furthest ≤ line) ⊎ AcceptsAt lines furthest)
  where
    -- it accepts where the search is stuck
    pub reached_here : AcceptsAt lines line → AcceptsAt lines far
    reached_here here = elim (cases_lt line furthest) [
      | inl before ↦
          let e : furthest ≡ far = omega (arith, is, before) in
          elim reached [
            | inl l ↦ absurd (omega (arith, l, before))
            | inr a ↦ subst (λ (t : ℕ). AcceptsAt lines t) e a
          ]
      | inr behind ↦
          let e : line ≡ far = omega (arith, is, behind) in
          subst (λ (t : ℕ). AcceptsAt lines t) e here
    ]

    -- one step later
    pub reached_more : (next : ℕ) → (next ≡ line + 1) ⊎ AcceptsAt lines line → (far ≤ next) ⊎ AcceptsAt lines far
    reached_more next moved = elim moved [
      | inl n ↦ elim (cases_lt line furthest) [
        | inl before ↦
            let e : furthest ≡ far = omega (arith, is, before) in
            elim reached [
              | inl l ↦ absurd (omega (arith, l, before))
              | inr a ↦ inr (subst (λ (t : ℕ). AcceptsAt lines t) e a)
            ]
        | inr behind ↦ inl (omega (arith, is, behind, n))
      ]
      | inr a ↦ inr (reached_here a)
    ]
