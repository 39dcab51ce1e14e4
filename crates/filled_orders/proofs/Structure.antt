-- Lines that differ in unknown results alone, and what is asked in their place, are paired alike.
use Rattle.std.proofs.Common.{◌≡◌, ◌∙◌, ℕ, zero, suc, Bool, true, false, cond, List, [], ◌∷◌, ◌++◌, map, Some, refl, sym, ap, subst, arith, inl, inr}
use Rattle.std.specs.Prelude.{filter, slice_get}
use Rattle.execution_laws.specs.Legality.{SubmittedOnce}
use Rattle.fronts.specs.Fronts.{AcceptedLater, HasOrder}
use Rattle.fronts.specs.Parts.{is_of, AreOwn}
use Rattle.joined_orders.specs.Answers.{LacksOrder}
use Rattle.joined_orders.specs.Splitting.{HasManyParts, IsUsed}
use Rattle.nop_types.specs.Legality.{AcceptedOnce, IsOf, Legal}
use Rattle.nop_types.specs.Lines.{Line, Submit, Accept}
use Rattle.nop_types.specs.Lists.{Has}
use Rattle.nop_types.specs.Meaning.{Meaning}
use Rattle.nop_types.specs.declared.request.Request.{Request}
use Rattle.lemmas.proofs.Mapped.{slice_get-into_map}
use Rattle.order_search.specs.Bounds.{AcceptsAt}
use Rattle.order_search.specs.Searching.{told, requests_at}
use Rattle.order_search.specs.Turns.{AllSubmit, history_at}
use Rattle.pairs.specs.Stops.{IsGroundless, IsRepeat}
use Rattle.filled_orders.specs.FilledAnswers.{LacksOrders}
use Rattle.unknown_results.proofs.Histories.{asked_is_legal}
use Rattle.unknown_results.proofs.Lines.{from_map, asked_lines, from_submit, from_accept, at_submit, same_asked}
use Rattle.unknown_results.specs.AnyResults.{any_result}
use Rattle.unknown_results.specs.Asking.{asked, asked_line, erased, without_byte, without_first}
use Rattle.unknown_results.specs.Filling.{Fills}

module _ (unknown : ℕ → ℕ → Bool) where
  -- ---- lines with other results

  erased_accept : (l : Line) (client id : ℕ) (result : List ℕ) → Accept client id result ≡ erased unknown l
      → (a : List ℕ) × (l ≡ Accept client id a)
  erased_accept (Accept c i a) client id result e = (a, cc)
  erased_accept (Submit r) client id result e = absurd cc
  erased_accept _ client id result e = absurd cc

  erased_submit : (l : Line) (r : Request) → Submit r ≡ erased unknown l → l ≡ Submit r
  erased_submit (Submit q) r e = sym e
  erased_submit (Accept c i a) r e = absurd cc
  erased_submit _ r e = absurd cc

  told_erased : (l : Line) → told (erased unknown l) ≡ told l
  told_erased (Submit r) = refl
  told_erased (Accept client id result) = refl
  told_erased _ = refl

  requests_erased : (lines : List Line) (i : ℕ) → requests_at (map (erased unknown) lines) i ≡ requests_at lines i
  requests_erased [] i = refl
  requests_erased (l ∷ lines) zero = told_erased l
  requests_erased (l ∷ lines) (suc i) = requests_erased lines i

  module _ (lines filled : List Line) (fills : Fills unknown lines filled) where
    pub accept_in : (k client id : ℕ) (result : List ℕ) → slice_get filled k ≡ Some (Accept client id result)
        → (a : List ℕ) × (slice_get lines k ≡ Some (Accept client id a))
    accept_in k client id result e =
        let there = ap (λ (ls : List Line). slice_get ls k) (sym fills) ∙ slice_get-into_map (erased unknown) filled k (Accept client id result) e in
        let x = from_map (erased unknown) lines k (erased unknown (Accept client id result)) there in
        let a = erased_accept x.0 client id (cond (unknown client id) [] result) x.2 in
        (a.0, x.1 ∙ ap (λ (l : Line). Some l) a.1)

    pub submit_in : (k : ℕ) (r : Request) → slice_get filled k ≡ Some (Submit r) → slice_get lines k ≡ Some (Submit r)
    submit_in k r e =
        let there = ap (λ (ls : List Line). slice_get ls k) (sym fills) ∙ slice_get-into_map (erased unknown) filled k (Submit r) e in
        let x = from_map (erased unknown) lines k (Submit r) there in
        x.1 ∙ ap (λ (l : Line). Some l) (erased_submit x.0 r x.2)

    pub requests_same : (i : ℕ) → requests_at filled i ≡ requests_at lines i
    requests_same i =
        sym (requests_erased filled i) ∙ ap (λ (ls : List Line). requests_at ls i) fills ∙ requests_erased lines i

    pub history_same : (places : List ℕ) → history_at filled places ≡ history_at lines places
    history_same [] = refl
    history_same (i ∷ places) =
        ap (λ (h : List Request). requests_at filled i ++ h) (history_same places)
        ∙ ap (λ (rs : List Request). rs ++ history_at lines places) (requests_same i)

    pub once_same : AcceptedOnce lines → AcceptedOnce filled
    once_same once k l client id a b g h =
        let x = accept_in k client id a g in
        let y = accept_in l client id b h in
        once k l client id x.0 y.0 x.1 y.1

  -- the other way round
  pub accept_out : (lines filled : List Line) → Fills unknown lines filled → (k client id : ℕ) (result : List ℕ)
      → slice_get lines k ≡ Some (Accept client id result) → (a : List ℕ) × (slice_get filled k ≡ Some (Accept client id a))
  accept_out lines filled fills = accept_in filled lines (sym fills)

  pub submit_out : (lines filled : List Line) → Fills unknown lines filled → (k : ℕ) (r : Request) → slice_get lines k ≡ Some (Submit r)
      → slice_get filled k ≡ Some (Submit r)
  submit_out lines filled fills = submit_in filled lines (sym fills)

  pub all_submit_out : (lines filled : List Line) → Fills unknown lines filled → (places : List ℕ) → AllSubmit lines places
      → AllSubmit filled places
  all_submit_out lines filled fills places all a i e =
      let s = all a i e in
      (s.0, submit_out lines filled fills i s.0 s.1)

  later_out : (lines filled : List Line) → Fills unknown lines filled → AcceptedLater lines → AcceptedLater filled
  later_out lines filled fills later j client id result e =
      let x = accept_in lines filled fills j client id result e in
      let b = later j client id x.0 x.1 in
      record {
        place = b.place;
        before = b.before;
        request = b.request;
        line = submit_out lines filled fills b.place b.request b.line;
        same = b.same;
      }

  pub groundless_out : (lines filled : List Line) → Fills unknown lines filled → (k : ℕ) → IsGroundless lines k → IsGroundless filled k
  groundless_out lines filled fills k g =
      let x = accept_out lines filled fills k g.client g.id g.result g.line in
      record {
        client = g.client;
        id = g.id;
        result = x.0;
        line = x.1;
        lacks = elim g.lacks [
          | inl none ↦
              inl (λ b.
              none (record {
                place = b.place;
                before = b.before;
                request = b.request;
                line = submit_in lines filled fills b.place b.request b.line;
                same = b.same;
              }))
          | inr a ↦
              let y = accept_out lines filled fills a.place g.client g.id a.result a.line in
              inr (record { place = a.place; before = a.before; result = y.0; line = y.1 })
        ];
      }

  -- ---- what is asked

  told_asked : (l : Line) → told (asked_line unknown l) ≡ map (asked unknown) (told l)
  told_asked (Submit r) = refl
  told_asked (Accept client id result) = refl
  told_asked _ = refl

  map_append : (xs ys : List Request) → map (asked unknown) (xs ++ ys) ≡ map (asked unknown) xs ++ map (asked unknown) ys
  map_append [] ys = refl
  map_append (x ∷ xs) ys = ap (λ (rs : List Request). asked unknown x ∷ rs) (map_append xs ys)

  map_back : (xs : List Request) → map without_byte (map (asked unknown) xs) ≡ xs
  map_back [] = refl
  map_back (x ∷ xs) = ap (λ (rs : List Request). x ∷ rs) (map_back xs)

  module _ (lines : List Line) where
    requests_asked : (i : ℕ) → requests_at (asked_lines unknown lines) i ≡ map (asked unknown) (requests_at lines i)
    requests_asked i = at_place lines i
      where
        at_place : (ls : List Line) (i : ℕ) → requests_at (asked_lines unknown ls) i ≡ map (asked unknown) (requests_at ls i)
        at_place [] i = refl
        at_place (l ∷ ls) zero = told_asked l
        at_place (l ∷ ls) (suc i) = at_place ls i

    history_asked : (places : List ℕ) → history_at (asked_lines unknown lines) places ≡ map (asked unknown) (history_at lines places)
    history_asked [] = refl
    history_asked (i ∷ places) =
        ap (λ (h : List Request). requests_at (asked_lines unknown lines) i ++ h) (history_asked places)
        ∙ ap (λ (rs : List Request). rs ++ map (asked unknown) (history_at lines places)) (requests_asked i)
        ∙ sym (map_append (requests_at lines i) (history_at lines places))

    pub history_plain : (places : List ℕ) → map without_byte (history_at (asked_lines unknown lines) places) ≡ history_at lines places
    history_plain places = ap (map without_byte) (history_asked places) ∙ map_back (history_at lines places)

    pub all_submit_plain : (places : List ℕ) → AllSubmit (asked_lines unknown lines) places → AllSubmit lines places
    all_submit_plain places all a i e =
        let s = all a i e in
        let t = from_submit unknown lines i s.0 s.1 in
        (t.0, t.1)

    pub accepts_plain : (k : ℕ) → AcceptsAt (asked_lines unknown lines) k → AcceptsAt lines k
    accepts_plain k a =
        let t = from_accept unknown lines k a.client a.id a.result a.accepts in
        record { client = a.client; id = a.id; result = t.0; accepts = t.1 }

    -- lines with pairs do not stop
    pub never_repeated : SubmittedOnce lines → (k : ℕ) → IsRepeat (asked_lines unknown lines) k → ⊥
    never_repeated once k r =
        let x = from_submit unknown lines r.earlier r.first r.first_line in
        let y = from_submit unknown lines k r.second r.second_line in
        let same : IsOf x.0.client x.0.id y.0 = record {
          same_client = sym (ap (λ (q : Request). q.client) y.2) ∙ r.same.same_client ∙ ap (λ (q : Request). q.client) x.2;
          same_id = sym (ap (λ (q : Request). q.id) y.2) ∙ r.same.same_id ∙ ap (λ (q : Request). q.id) x.2;
        } in
        let e = once r.earlier k x.0 y.0 x.1 y.1 same in
        absurd (omega (arith, e, r.before))

    pub never_groundless : AcceptedOnce lines → AcceptedLater lines → (k : ℕ) → IsGroundless (asked_lines unknown lines) k → ⊥
    never_groundless once later k g =
        let x = from_accept unknown lines k g.client g.id g.result g.line in
        elim g.lacks [
          | inl none ↦
              let b = later k g.client g.id x.0 x.1 in
              none (record {
                place = b.place;
                before = b.before;
                request = asked unknown b.request;
                line = at_submit unknown lines b.place b.request b.line;
                same = record { same_client = b.same.same_client; same_id = b.same.same_id };
              })
          | inr a ↦
              let y = from_accept unknown lines a.place g.client g.id a.result a.line in
              let e = once a.place k g.client g.id y.0 x.0 y.1 x.1 in
              absurd (omega (arith, e, a.before))
        ]

  -- ---- parts

  abbrev plain_line : Line → Line
  plain_line (Submit q) = Submit (without_byte q)
  plain_line line = line

  filter_asked : (own other : Line → Bool) (lines : List Line)
      → ((l : Line) → Has lines l → other (asked_line unknown l) ≡ own l)
      → filter other (asked_lines unknown lines) ≡ asked_lines unknown (filter own lines)
  filter_asked own other [] same = refl
  filter_asked own other (l ∷ lines) same =
      let rest = filter_asked own other lines (λ x h. same x (suc h.0, h.1)) in
      one (own l) refl rest
    where
      one : (b : Bool) → own l ≡ b → filter other (asked_lines unknown lines) ≡ asked_lines unknown (filter own lines)
          → cond (other (asked_line unknown l)) (asked_line unknown l ∷ filter other (asked_lines unknown lines))
          (filter other (asked_lines unknown lines))
          ≡ asked_lines unknown (cond (own l) (l ∷ filter own lines) (filter own lines))
      one true e rest =
          let f : other (asked_line unknown l) ≡ true = same l (0, refl) ∙ e in
          rw (e, f) (ap (λ (ls : List Line). asked_line unknown l ∷ ls) rest)
      one false e rest =
          let f : other (asked_line unknown l) ≡ false = same l (0, refl) ∙ e in
          rw (e, f) rest

  module _ {S : Type 0} (m : Meaning S) (part : List ℕ → List ℕ) (most : ℕ) (p : List ℕ) where
    abbrev part_asked : List ℕ → List ℕ
    part_asked op = part (without_first op)

    module _ (filled : List Line) (later : AcceptedLater filled) (own : Line → Bool) (are : AreOwn filled (is_of part p) own) where
      abbrev own_asked : Line → Bool
      own_asked l = own (plain_line l)

      own_same : (l : Line) → Has filled l → own_asked (asked_line unknown l) ≡ own l
      own_same (Submit r) h = refl
      own_same (Accept client id result) h =
          let b = later h.0 client id result h.1 in
          are.accepts client id (cond (unknown client id) [] result) b.request (b.place, b.line) b.same
          ∙ sym (are.accepts client id result b.request (b.place, b.line) b.same)
      own_same _ h = refl

      are_asked : AreOwn (asked_lines unknown filled) (is_of part_asked p) own_asked
      are_asked = record {
        submits = λ r. are.submits (without_byte r);
        accepts = λ client id result r h same.
            let t = from_submit unknown filled h.0 r h.1 in
            let mine : IsOf client id t.0 = record {
              same_client = sym (ap (λ (q : Request). q.client) t.2) ∙ same.same_client;
              same_id = sym (ap (λ (q : Request). q.id) t.2) ∙ same.same_id;
            } in
            are.accepts client id result t.0 (h.0, t.1) mine
            ∙ sym (ap (λ (q : Request). is_of part p (without_first q.op)) t.2);
      }

      order_asked : HasOrder m (filter own filled) → HasOrder (any_result m) (filter own_asked (asked_lines unknown filled))
      order_asked order = record {
        history = map (asked unknown) order.history;
        legal =
            subst (λ (ls : List Line). Legal (any_result m) ls (map (asked unknown) order.history))
            (sym (filter_asked own own_asked filled own_same))
            (asked_is_legal m unknown (filter own filled) order.history order.legal);
      }

    used_plain : (filled : List Line) (q : List ℕ) → IsUsed part_asked (asked_lines unknown filled) q → IsUsed part filled q
    used_plain filled q used =
        let h = used.1 in
        let t = from_submit unknown filled h.0 used.0 h.1 in
        (t.0, (h.0, t.1), sym (ap (λ (r : Request). part (without_first r.op)) t.2) ∙ used.2)

    many_plain : (filled : List Line) → HasManyParts part_asked most (asked_lines unknown filled) → HasManyParts part most filled
    many_plain filled many = record {
      parts = many.parts;
      distinct = many.distinct;
      used = λ q h. used_plain filled q (many.used q h);
      many = many.many;
    }

    lacks_plain : (filled : List Line) → AcceptedLater filled → LacksOrder (any_result m) part_asked most (asked_lines unknown filled) p
        → LacksOrder m part most filled p
    lacks_plain filled later lacks = elim lacks [
      | inl none ↦
          inl (λ own are order.
          none (own_asked filled later own are) (are_asked filled later own are) (order_asked filled later own are order))
      | inr many ↦ inr (many_plain filled many.0, many.1)
    ]

    pub lacks_filled : (lines : List Line) → AcceptedLater lines
        → LacksOrder (any_result m) part_asked most (asked_lines unknown lines) p → LacksOrders m part most unknown lines p
    lacks_filled lines later lacks filled fills =
        lacks_plain filled (later_out lines filled fills later)
        (subst (λ (ls : List Line). LacksOrder (any_result m) part_asked most ls p) (sym (same_asked unknown lines filled fills)) lacks)
