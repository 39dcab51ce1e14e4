-- One answer, filled in at a place.
use Rattle.std.proofs.Common.{◌≡◌, ◌∙◌, ℕ, zero, suc, ◌+◌, ◌<◌, Bool, true, false, cond, List, [], ◌∷◌, ◌++◌, map, length, drop, take, add-one, Option, Some, None, refl, sym, ap, arith, inl, inr}
use Rattle.std.specs.Prelude.{◌⊎◌, slice_get, slice_set, ◌&&◌, ◌==◌}
use Rattle.std.proofs.lemmas.Bool.{eq-eqb, eqb-true}
use Rattle.std.proofs.lemmas.Option.{slice_get_within}
use Rattle.filled_orders.proofs.Along.{one_fills}
use Rattle.filled_orders.proofs.Marked.{by_its_mark, unaccepted_is_known}
use Rattle.filled_orders.proofs.Structure.{accept_in, accept_out}
use Rattle.filled_orders.specs.Filling.{answered, filled_along, has_mark, marked_of, set_result, with_result, IsAcceptOf}
use Rattle.lemmas.proofs.Options.{same_Some-at}
use Rattle.lemmas.proofs.Places.{slice_get-some, Splits-at}
use Rattle.nop_types.specs.Legality.{AcceptedOnce, IsOf}
use Rattle.nop_types.specs.Lines.{Line, Submit, Accept}
use Rattle.nop_types.specs.Meaning.{Meaning}
use Rattle.nop_types.specs.declared.request.Request.{Request}
use Rattle.order_search.specs.Searching.{told_by}
use Rattle.order_search.specs.Turns.{history_at}
use Rattle.pairs.specs.Pairing.{ArePaired}
use Rattle.transcript_reader.specs.Claims.{line_of, lines_of}
use Rattle.transcript_reader.specs.declared.claim.Claim.{Claim}
use Rattle.unknown_results.specs.Asking.{asked_by, asked_line, erased, is_unknown, unknown_in}
use Rattle.unknown_results.specs.Filling.{Fills}

-- ---- lists

pub set_in_lines : (claims : List Claim) (k : ℕ) (claim new : Claim) (answer : List ℕ) → slice_get (lines_of claims) k ≡ Some (line_of claim)
    → line_of new ≡ with_result answer (line_of claim) → lines_of (slice_set claims k new) ≡ set_result (lines_of claims) (Some k) answer
set_in_lines [] k claim new answer e is = absurd cc
set_in_lines (c ∷ claims) zero claim new answer e is =
    let same : line_of c ≡ line_of claim = cc in
    ap (λ (l : Line). l ∷ lines_of claims) (is ∙ ap (with_result answer) (sym same))
set_in_lines (c ∷ claims) (suc k) claim new answer e is = ap (λ (ls : List Line). line_of c ∷ ls) (set_in_lines claims k claim new answer e is)

keeps : (f : Line → Line) (lines : List Line) → ((i : ℕ) (l : Line) → slice_get lines i ≡ Some l → f l ≡ l) → map f lines ≡ lines
keeps f [] same = refl
keeps f (x ∷ lines) same =
    ap (λ (ls : List Line). f x ∷ ls) (keeps f lines (λ i l h. same (suc i) l h)) ∙ ap (λ (y : Line). y ∷ lines) (same 0 x refl)

sets : (f : Line → Line) (lines : List Line) (k : ℕ) (line : Line) (answer : List ℕ) → slice_get lines k ≡ Some line
    → f line ≡ with_result answer line → ((i : ℕ) (l : Line) → slice_get lines i ≡ Some l → (i ≡ k → ⊥) → f l ≡ l)
    → set_result lines (Some k) answer ≡ map f lines
sets f [] k line answer e here others = absurd cc
sets f (x ∷ lines) zero line answer e here others =
    let one : x ≡ line = cc in
    ap (λ (ls : List Line). with_result answer x ∷ ls) (sym (keeps f lines (λ i l h. others (suc i) l h (λ s. absurd cc))))
    ∙ ap (λ (y : Line). y ∷ map f lines) (ap (with_result answer) one ∙ sym here ∙ ap f (sym one))
sets f (x ∷ lines) (suc k) line answer e here others =
    ap (λ (ls : List Line). x ∷ ls) (sets f lines k line answer e here (λ i l h ne. others (suc i) l h (λ s. ne (let t : i ≡ k = cc in t))))
    ∙ ap (λ (y : Line). y ∷ map f lines) (sym (others 0 x refl (λ s. absurd cc)))

-- ---- a line

module _ (unknown : ℕ → ℕ → Bool) (r : Request) (answer : List ℕ) where
  mine_answered : (b c : Bool) (result : List ℕ) → b ≡ true → c ≡ true → cond (b && c) answer result ≡ answer
  mine_answered true true result e f = refl
  mine_answered true false result e f = absurd cc
  mine_answered false c result e f = absurd cc

  both : (a b : Bool) → a ≡ true → b ≡ true → a && b ≡ true
  both true b e f = f
  both false b e f = absurd cc

  own_line : (client id : ℕ) (result : List ℕ) → IsOf client id r → unknown client id ≡ true
      → answered unknown r answer (Accept client id result) ≡ with_result answer (Accept client id result)
  own_line client id result same unnoted =
      ap (λ (a : List ℕ). Accept client id a)
      (mine_answered ((client == r.client) && (id == r.id)) (unknown client id) result
      (both (client == r.client) (id == r.id) (eq-eqb client r.client (sym same.same_client)) (eq-eqb id r.id (sym same.same_id))) unnoted)

  kept : (b c : Bool) (result : List ℕ) → (b ≡ true → c ≡ true → ⊥) → cond (b && c) answer result ≡ result
  kept true true result f = absurd (f refl refl)
  kept true false result f = refl
  kept false c result f = refl

  left_true : (a b : Bool) → a && b ≡ true → a ≡ true
  left_true true b e = refl
  left_true false b e = absurd cc

  right_true : (a b : Bool) → a && b ≡ true → b ≡ true
  right_true true b e = e
  right_true false b e = absurd cc

  other_line : (l : Line)
      → ((client id : ℕ) (result : List ℕ) → l ≡ Accept client id result → IsOf client id r → unknown client id ≡ true → ⊥)
      → answered unknown r answer l ≡ l
  other_line (Submit q) f = refl
  other_line (Accept client id result) f =
      ap (λ (a : List ℕ). Accept client id a)
      (kept ((client == r.client) && (id == r.id)) (unknown client id) result (λ e unnoted.
      f client id result refl
      (record {
        same_client = sym (eqb-true client r.client (left_true (client == r.client) (id == r.id) e));
        same_id = sym (eqb-true id r.id (right_true (client == r.client) (id == r.id) e));
      }) unnoted))
  other_line _ f = refl

-- ---- the place where a request is accepted

module _ (marks : List Bool) (lines : List Line) (n : ℕ) (accepts submits : List (Option ℕ))
    (paired : ArePaired lines n accepts submits) (once : AcceptedOnce lines) (whole : length lines ≡ n) (marked : length marks ≡ n) where
  abbrev unknown : ℕ → ℕ → Bool
  unknown = unknown_in marks lines

  -- what is marked where a request is accepted is a line that accepts it, and its result is unknown
  pub record IsTarget (r : Request) (k : ℕ) : Type 0 where
    pub result : List ℕ
    pub line : slice_get lines k ≡ Some (Accept r.client r.id result)
    pub unnoted : unknown r.client r.id ≡ true

  mark_there : (o : Option Bool) → has_mark o ≡ true → o ≡ Some true
  mark_there (Some true) e = refl
  mark_there (Some false) e = absurd cc
  mark_there None e = absurd cc

  module _ (i : ℕ) (r : Request) (at : slice_get lines i ≡ Some (Submit r)) where
    pair_is : (k : ℕ) → slice_get accepts i ≡ Some (Some k) → (result : List ℕ) × (slice_get lines k ≡ Some (Accept r.client r.id result))
    pair_is k e =
        let p = paired.accepted i k e in
        let same = same_Some-at (slice_get lines i) (Submit p.request) (Submit r) p.submits at in
        let one : p.request ≡ r = cc in
        (p.result, p.accepts ∙ ap (λ (q : Request). Some (Accept q.client q.id p.result)) one)

    target : (o : Option (Option ℕ)) (k : ℕ) → slice_get accepts i ≡ o → marked_of marks o ≡ Some k → IsTarget r k
    target None k e f = absurd cc
    target (Some None) k e f = absurd cc
    target (Some (Some j)) k e f = by_mark (has_mark (slice_get marks j)) refl f
      where
        by_mark : (b : Bool) → has_mark (slice_get marks j) ≡ b → cond b (Some j) None ≡ Some k → IsTarget r k
        by_mark true g h =
            let same : j ≡ k = cc in
            let x = pair_is k (e ∙ ap (λ (y : ℕ). Some (Some y)) same) in
            let mark : slice_get marks k ≡ Some true = ap (slice_get marks) (sym same) ∙ mark_there (slice_get marks j) g in
            record { result = x.0; line = x.1; unnoted = by_its_mark marks lines once k r.client r.id x.0 true x.1 mark }
        by_mark false g h = absurd cc

    pub target_is : (k : ℕ) → marked_of marks (slice_get accepts i) ≡ Some k → IsTarget r k
    target_is k f = target (slice_get accepts i) k refl f

    -- where there is none the result is known, or nothing accepts the request
    accepted_at : (k : ℕ) (result : List ℕ) → slice_get lines k ≡ Some (Accept r.client r.id result)
        → slice_get accepts i ≡ Some (Some k)
    accepted_at k result line =
        let l = slice_get_within lines k (Accept r.client r.id result) line in
        let h = paired.founded k r.client r.id result (omega (arith, l, whole)) line in
        let p = paired.accepted h.place k h.back in
        let same = same_Some-at (slice_get lines k) (Accept p.request.client p.request.id p.result) (Accept r.client r.id result) p.accepts line in
        let ec : p.request.client ≡ r.client = cc in
        let ei : p.request.id ≡ r.id = cc in
        let li = slice_get_within lines i (Submit r) at in
        let lh = slice_get_within lines h.place (Submit p.request) p.submits in
        let place = paired.once h.place i p.request r (omega (arith, lh, whole)) (omega (arith, li, whole)) p.submits at
        (record { same_client = sym ec; same_id = sym ei }) in
        ap (slice_get accepts) (sym place) ∙ h.back

    no_target : (o : Option (Option ℕ)) → slice_get accepts i ≡ o → marked_of marks o ≡ None → unknown r.client r.id ≡ true → ⊥
    no_target o e f unnoted = by_kind o e f
      where
        without : (slice_get accepts i ≡ Some None) ⊎ (slice_get accepts i ≡ None) → ⊥
        without h =
            let known = unaccepted_is_known marks lines r.client r.id (λ k result line.
            let a = accepted_at k result line in
            elim h [ inl x ↦ (let y = sym a ∙ x in absurd cc) | inr x ↦ (let y = sym a ∙ x in absurd cc) ]) in
            let x = sym unnoted ∙ known in
            absurd cc

        by_mark : (j : ℕ) → slice_get accepts i ≡ Some (Some j) → (m : Option Bool) → slice_get marks j ≡ m
            → cond (has_mark m) (Some j) None ≡ None → ⊥
        by_mark j e (Some true) g h = absurd cc
        by_mark j e (Some false) g h =
            let x = pair_is j e in
            let known = by_its_mark marks lines once j r.client r.id x.0 false x.1 g in
            let y = sym unnoted ∙ known in
            absurd cc
        by_mark j e None g h =
            let x = pair_is j e in
            let l = slice_get_within lines j (Accept r.client r.id x.0) x.1 in
            let there = slice_get-some marks j (omega (arith, l, whole, marked)) in
            let y = sym g ∙ there.1 in
            absurd cc

        by_kind : (o : Option (Option ℕ)) → slice_get accepts i ≡ o → marked_of marks o ≡ None → ⊥
        by_kind None e f = without (inr e)
        by_kind (Some None) e f = without (inl e)
        by_kind (Some (Some j)) e f = by_mark j e (slice_get marks j) refl f

    -- ---- the answer is filled in there

    module _ (now : List Line) (fills : Fills unknown lines now) (answer : List ℕ) where
      others_stay : (k : ℕ) → IsTarget r k → (j : ℕ) (l : Line) → slice_get now j ≡ Some l → (j ≡ k → ⊥) → answered unknown r answer l ≡ l
      others_stay k t j l e ne =
          other_line unknown r answer l (λ client id result is same unnoted.
          let x = accept_in unknown lines now fills j client id result (e ∙ ap (λ (y : Line). Some y) is) in
          let mine : slice_get lines j ≡ Some (Accept r.client r.id x.0) =
          x.1 ∙ ap (λ (c : ℕ). Some (Accept c id x.0)) (sym same.same_client) ∙ ap (λ (d : ℕ). Some (Accept r.client d x.0)) (sym same.same_id) in
          ne (once j k r.client r.id x.0 t.result mine t.line))

      by_target : (o : Option ℕ) → marked_of marks (slice_get accepts i) ≡ o → set_result now o answer ≡ map (answered unknown r answer) now
      by_target (Some k) e =
          let t = target_is k e in
          let x = accept_out unknown lines now fills k r.client r.id t.result t.line in
          sets (answered unknown r answer) now k (Accept r.client r.id x.0) answer x.1
          (own_line unknown r answer r.client r.id x.0 (record { same_client = refl; same_id = refl }) t.unnoted) (others_stay k t)
      by_target None e =
          sym (keeps (answered unknown r answer) now (λ j l h.
          other_line unknown r answer l (λ client id result is same unnoted.
          no_target (slice_get accepts i) refl e
          (ap (λ (c : ℕ). unknown c r.id) same.same_client ∙ ap (λ (d : ℕ). unknown client d) same.same_id ∙ unnoted))))

      pub one_filled : set_result now (marked_of marks (slice_get accepts i)) answer ≡ map (answered unknown r answer) now
      one_filled = by_target (marked_of marks (slice_get accepts i)) refl

    -- ---- one step of filling in

    module _ {S : Type 0} (m : Meaning S) (s : S) (places : List ℕ) (p : ℕ) (place : slice_get places p ≡ Some i)
        (now : List Line) (fills : Fills unknown lines now) where
      abbrev rest : List Request
      rest = history_at lines (drop (p + 1) places)

      history_is : history_at lines (drop p places) ≡ r ∷ rest
      history_is =
          let next : drop p places ≡ i ∷ drop (p + 1) places = rw add-one (Splits-at places p i place).back in
          ap (history_at lines) next
          ∙ ap (λ (o : Option Line). told_by o ++ rest) at

      pub step_left : filled_along m unknown (m.after s r.op) rest (set_result now (marked_of marks (slice_get accepts i)) (m.answer s r.op))
          ≡ filled_along m unknown s (history_at lines (drop p places)) now
      step_left =
          ap (filled_along m unknown (m.after s r.op) rest) (one_filled now fills (m.answer s r.op))
          ∙ ap (λ (h : List Request). filled_along m unknown s h now) (sym history_is)

      pub step_fills : (answer : List ℕ) → Fills unknown lines (set_result now (marked_of marks (slice_get accepts i)) answer)
      step_fills answer =
          ap (map (erased unknown)) (one_filled now fills answer) ∙ one_fills unknown r answer now ∙ fills

  -- ---- whether the result of a line is unknown

  pub accept_within : (place k : ℕ) → IsAcceptOf lines accepts place (Some k) → k < n
  accept_within place k is = elim is [
    | inl x ↦
        let p = paired.accepted place k x.2 in
        let l = slice_get_within lines k (Accept p.request.client p.request.id p.result) p.accepts in
        omega (arith, l, whole)
    | inr x ↦
        let l = slice_get_within lines place (Accept x.0 x.1 x.2) x.3 in
        let same : k ≡ place = let e = x.4 in cc in
        omega (arith, l, whole, same)
  ]

  pub unknown_some : (place k : ℕ) (b : Bool) → IsAcceptOf lines accepts place (Some k) → slice_get marks k ≡ Some b → (line : Line)
      → slice_get lines place ≡ Some line → b ≡ is_unknown unknown line
  unknown_some place k b is mark line at = elim is [
    | inl x ↦
        let p = pair_is place x.0 x.1 k x.2 in
        let same = same_Some-at (slice_get lines place) line (Submit x.0) at x.1 in
        sym (ap (is_unknown unknown) same ∙ by_its_mark marks lines once k x.0.client x.0.id p.0 b p.1 mark)
    | inr x ↦
        let here : k ≡ place = let e = x.4 in cc in
        let same = same_Some-at (slice_get lines place) line (Accept x.0 x.1 x.2) at x.3 in
        sym (ap (is_unknown unknown) same
        ∙ by_its_mark marks lines once place x.0 x.1 x.2 b x.3 (ap (slice_get marks) (sym here) ∙ mark))
  ]

  pub unknown_none : (place : ℕ) → IsAcceptOf lines accepts place None → (line : Line) → slice_get lines place ≡ Some line
      → false ≡ is_unknown unknown line
  unknown_none place is line at = elim is [
    | inl x ↦
        let same = same_Some-at (slice_get lines place) line (Submit x.0) at x.1 in
        let known = unaccepted_is_known marks lines x.0.client x.0.id (λ k result accepted.
        let a = accepted_at place x.0 x.1 k result accepted in
        let y = sym a ∙ x.2 in
        absurd cc) in
        sym (ap (is_unknown unknown) same ∙ known)
    | inr x ↦ (let e = x.4 in absurd cc)
  ]

-- ---- what is asked

one_more : (f : Line → Line) (lines : List Line) (k : ℕ) (line : Line) → slice_get lines k ≡ Some line
    → map f (take (suc k) lines) ≡ map f (take k lines) ++ f line ∷ []
one_more f [] k line e = absurd cc
one_more f (x ∷ lines) zero line e = let same : x ≡ line = cc in ap (λ (y : Line). f y ∷ []) same
one_more f (x ∷ lines) (suc k) line e = ap (λ (ls : List Line). f x ∷ ls) (one_more f lines k line e)

pub asked_more : (f : Line → Line) (lines : List Line) (k : ℕ) (line : Line) → slice_get lines k ≡ Some line
    → map f (take (k + 1) lines) ≡ map f (take k lines) ++ f line ∷ []
asked_more f lines k line e = rw (add-one k) (one_more f lines k line e)

pub lines_push : (claims : List Claim) (claim : Claim) → lines_of (claims ++ claim ∷ []) ≡ lines_of claims ++ line_of claim ∷ []
lines_push [] claim = refl
lines_push (c ∷ claims) claim = ap (λ (ls : List Line). line_of c ∷ ls) (lines_push claims claim)

pub asked_is : (unknown : ℕ → ℕ → Bool) (line : Line) → asked_by (is_unknown unknown line) line ≡ asked_line unknown line
asked_is unknown (Submit r) = refl
asked_is unknown (Accept client id result) = refl
asked_is unknown _ = refl
