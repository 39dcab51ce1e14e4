-- How a search goes on.
use Rattle.std.proofs.Common.{◌≡◌, ℕ, suc, ◌<◌, ◌≤◌, Bool, true, false, List, [], ◌∷◌, ◌++◌, length, take, Some, refl, sym, ap, subst, ◌∙◌, append_assoc, arith, inl, inr}
use Rattle.std.specs.Prelude.{slice_get, slice_set, remove, insert, replicate, MatchBool}
use Rattle.std.proofs.Math.Seq.{take-append_seam}
use Rattle.std.proofs.lemmas.Bool.{cases_lt}
use Rattle.std.proofs.lemmas.Option.{slice_get_within}
use Rattle.execution_laws.proofs.Windows.{has-is_in, is_in-has}
use Rattle.execution_laws.specs.Legality.{SubmittedOnce}
use Rattle.fronts.proofs.Following.{after_all-push, next_member}
use Rattle.fronts.proofs.Fronts.{front_opens, front_passes, front_places}
use Rattle.fronts.proofs.Reading.{read_comes_first}
use Rattle.fronts.specs.Fronts.{after_all, GoesOn, MayFollow, OnlyReads}
use Rattle.lemmas.proofs.Options.{same_Some-at}
use Rattle.nop_types.specs.Legality.{IsOf, Legal}
use Rattle.nop_types.specs.Lines.{Line, Submit, Accept}
use Rattle.nop_types.specs.Lists.{is_in}
use Rattle.nop_types.specs.Meaning.{Meaning}
use Rattle.nop_types.specs.declared.request.Request.{Request}
use Rattle.order_search.proofs.Edits.{insert-remove, at_most, one_less}
use Rattle.order_search.proofs.FrontMembers.{next_is_new}
use Rattle.order_search.proofs.MarkLemmas.{nothing_marked, marked_more, marked_less}
use Rattle.order_search.proofs.RisingLemmas.{rising_further, rising_push, rising_front}
use Rattle.order_search.proofs.StepLemmas.{requests_at-submit, front_of-push, steps_wait, steps_push, IsLast, steps_last}
use Rattle.order_search.proofs.WaitingLemmas.{waiting_opens, waiting_more, waiting_same, waiting_less}
use Rattle.order_search.specs.Agreeing.{AllAccept}
use Rattle.order_search.specs.Placing.{AreMarked}
use Rattle.order_search.specs.Searching.{front_of, IsRefused, IsSearching, Settles}
use Rattle.order_search.specs.Turns.{IsPassed, IsStuck}
use Rattle.order_search.specs.declared.step.Step.{Step}

module _ {S U : Type 0} (m : Meaning S) (undo_of : S → List ℕ → U) (lines : List Line) where
  -- before the first line
  pub search_opens : (n : ℕ) → length lines ≡ n → IsSearching m undo_of lines m.opening 0 0 [] [] (replicate n false)
  search_opens n e = record {
    within = omega arith;
    front = front_opens m lines;
    state_is = refl;
    are_waiting = waiting_opens lines [];
    are_marked = nothing_marked lines n e;
    steps_are = ([], refl);
    rise = omega arith;
    tried = λ a i r l h line may goes. omega (arith, l);
  }

  module _ (state : S) (line next : ℕ) (steps : List (Step U)) (waiting : List ℕ) (placed : List Bool)
      (s : IsSearching m undo_of lines state line next steps waiting placed) where
    abbrev front : List Request
    front = front_of lines steps

    -- what waits is the place of a line that submits
    pub waits_within : (at i : ℕ) → slice_get waiting at ≡ Some i → i < length lines
    waits_within at i h =
        let b = s.are_waiting.below i (is_in-has waiting i (at, h)) in
        omega (arith, b, s.within)

    pub waits_submits : (at i : ℕ) → slice_get waiting at ≡ Some i → (r : Request) × (slice_get lines i ≡ Some (Submit r))
    waits_submits at i h = s.are_waiting.submits i (is_in-has waiting i (at, h))

    -- a line that submits is passed
    pub search_waits : SubmittedOnce lines → (r : Request) → slice_get lines line ≡ Some (Submit r) → line < length lines
        → IsSearching m undo_of lines state (suc line) 0 steps (waiting ++ line ∷ []) placed
    search_waits once r at l = record {
      within = omega (arith, l);
      front = front_passes m lines line front s.front (λ client id result h. absurd (let e = sym at ∙ h in cc));
      state_is = s.state_is;
      are_waiting = waiting_more lines front line waiting s.are_waiting r at (next_is_new m lines line front once s.front);
      are_marked = s.are_marked;
      steps_are = steps_wait m undo_of lines [] [] steps waiting (line ∷ []) s.steps_are;
      rise = rising_further 0 steps line (suc line) s.rise (omega arith);
      tried = λ a i q n h at_i may goes. omega (arith, n);
    }

    -- a line that accepts what is placed is passed
    pub search_passes : (client id : ℕ) (result : List ℕ) → slice_get lines line ≡ Some (Accept client id result) → line < length lines
        → IsPassed lines line front → IsSearching m undo_of lines state (suc line) 0 steps waiting placed
    search_passes client id result at l passed = record {
      within = omega (arith, l);
      front = front_passes m lines line front s.front passed;
      state_is = s.state_is;
      are_waiting = waiting_same lines front line waiting s.are_waiting (λ r h. absurd (let e = sym at ∙ h in cc));
      are_marked = s.are_marked;
      steps_are = s.steps_are;
      rise = rising_further 0 steps line (suc line) s.rise (omega arith);
      tried = λ a i q n h at_i may goes. omega (arith, n);
    }

    -- the next one that waits does not lead there
    pub search_tried : IsRefused m undo_of lines line front waiting next
        → IsSearching m undo_of lines state line (suc next) steps waiting placed
    search_tried none = record {
      within = s.within;
      front = s.front;
      state_is = s.state_is;
      are_waiting = s.are_waiting;
      are_marked = s.are_marked;
      steps_are = s.steps_are;
      rise = s.rise;
      tried = λ a i r l h at may goes. elim (cases_lt a next) [
        | inl less ↦ s.tried a i r less h at may goes
        | inr more ↦
            let e : a ≡ next = omega (arith, l, more) in
            none i r (subst (λ (t : ℕ). slice_get waiting t ≡ Some i) e h) at may
      ];
    }

    -- one request waits at one place
    one_there : (at i j : ℕ) (q r : Request) → slice_get waiting at ≡ Some i → slice_get lines i ≡ Some (Submit q)
        → slice_get waiting at ≡ Some j → slice_get lines j ≡ Some (Submit r) → q ≡ r
    one_there at i j q r there at_i there_too at_j =
        let e : i ≡ j = same_Some-at (slice_get waiting at) i j there there_too in
        let lines_same : Submit q ≡ Submit r =
        same_Some-at (slice_get lines i) (Submit q) (Submit r) at_i (subst (λ (t : ℕ). slice_get lines t ≡ Some (Submit r)) (sym e) at_j) in
        cc

    -- the next one, with those before it
    pub next_settles : Settles m undo_of lines line front waiting next (suc next)
    next_settles i r there at_i may fails a j q l stands at_j follows goes = elim (cases_lt a next) [
      | inl less ↦ s.tried a j q less stands at_j follows goes
      | inr more ↦
          let e : a ≡ next = omega (arith, l, more) in
          let here : slice_get waiting next ≡ Some j = subst (λ (t : ℕ). slice_get waiting t ≡ Some j) e stands in
          let same : q ≡ r = one_there next j i q r here at_j there at_i in
          fails (subst (λ (t : Request). GoesOn m lines (front ++ t ∷ [])) same goes)
    ]

    -- a read, with all of them
    pub read_settles : SubmittedOnce lines → (at n : ℕ)
        → ((i : ℕ) (r : Request) → slice_get waiting at ≡ Some i → slice_get lines i ≡ Some (Submit r) → OnlyReads m r.op)
        → Settles m undo_of lines line front waiting at n
    read_settles once at n reads i r there at_i may fails a j q l stands at_j follows goes =
        fails (read_comes_first m lines line front r once s.front may (reads i r there at_i) (record {
          rest = q ∷ goes.rest;
          legal = subst (λ (x : List Request). Legal m lines x) (append_assoc front (q ∷ []) goes.rest) goes.legal;
        }))

    module _ (once : SubmittedOnce lines) (at i : ℕ) (r : Request) (stands : slice_get waiting at ≡ Some i)
        (submits : slice_get lines i ≡ Some (Submit r)) where
      -- it may be placed, where all lines agree
      waits_here : is_in waiting i ≡ true
      waits_here = is_in-has waiting i (at, stands)

      may_follow : AllAccept lines r.client r.id (m.answer state r.op) → MayFollow m lines line front r
      may_follow agrees = record {
        submitted = record { place = i; before = s.are_waiting.below i waits_here; line = submits };
        new = s.are_waiting.are_left.left i r (s.are_waiting.below i waits_here) submits waits_here;
        agrees = λ result h. ap (λ (t : S). m.answer t r.op) (sym s.state_is) ∙ agrees result h;
      }

      pub disagrees : (AllAccept lines r.client r.id (m.answer state r.op) → ⊥) → IsRefused m undo_of lines line front waiting at
      disagrees none j q there at_j may =
          let same : q ≡ r = one_there at j i q r there at_j stands submits in
          let mine : MayFollow m lines line front r = subst (λ (t : Request). MayFollow m lines line front t) same may in
          none (λ result h. ap (λ (t : S). m.answer t r.op) s.state_is ∙ mine.agrees result h)

      -- it is placed
      pub search_places : line < length lines → (n : ℕ) → Settles m undo_of lines line front waiting at n
          → AllAccept lines r.client r.id (m.answer state r.op) → (now : S) → now ≡ m.after state r.op → (undo : U)
          → undo ≡ undo_of state r.op
          → IsSearching m undo_of lines now line 0
          (steps
          ++ record { submit = i; line = line; at = at; others = length (remove waiting at); tried = n; undo = undo } ∷ [])
          (remove waiting at) (slice_set placed i true)
      search_places l n settles agrees now after undo undo_is =
          let step : Step U =
          record { submit = i; line = line; at = at; others = length (remove waiting at); tried = n; undo = undo } in
          let grown : front_of lines (steps ++ step ∷ []) ≡ front ++ r ∷ [] =
          front_of-push lines steps step ∙ ap (λ (x : List Request). front ++ x) (requests_at-submit lines i r submits) in
          let may = may_follow agrees in
          record {
            within = s.within;
            front = rw grown (front_places m lines line front r once s.front may);
            state_is =
                after
                ∙ (ap (λ (t : S). m.after t r.op) s.state_is
                ∙ (sym (after_all-push m m.opening front r) ∙ ap (λ (x : List Request). after_all m m.opening x) (sym grown)));
            are_waiting = rw grown (waiting_less lines front line waiting s.are_waiting once at i r stands submits);
            are_marked = rw grown (marked_more lines once front placed i r submits s.are_marked);
            steps_are = steps_push m undo_of lines [] [] steps waiting step s.steps_are (record {
              request = r;
              line = submits;
              within = l;
              front = s.front;
              follows = may;
              are_waiting = s.are_waiting;
              stands = stands;
              others = refl;
              tried = settles i r stands submits may;
              undo = undo_is ∙ ap (λ (t : S). undo_of t r.op) s.state_is;
            });
            rise = rising_push 0 steps step s.rise;
            tried = λ a j q n h at_j may goes. omega (arith, n);
          }

    -- where all that wait at a line that is stuck were tried, the front goes nowhere
    pub search_is_over : IsStuck lines line front → length waiting ≤ next → GoesOn m lines front → ⊥
    search_is_over stuck all g =
        let x = next_member m lines front line stuck.client stuck.id stuck.result stuck.accepts g stuck.new in
        waits x.0 x.1 x.2 (is_in waiting x.1.submitted.place) refl
      where
        waits : (r : Request) (may : MayFollow m lines line front r) → GoesOn m lines (front ++ r ∷ []) → (b : Bool)
            → is_in waiting may.submitted.place ≡ b → ⊥
        waits r may goes true e =
            let h = has-is_in waiting may.submitted.place e in
            let l = slice_get_within waiting h.0 may.submitted.place h.1 in
            s.tried h.0 may.submitted.place r (omega (arith, l, all)) h.1 may.submitted.line may goes
        waits r may goes false e =
            let q = s.are_waiting.are_left.placed may.submitted.place r may.submitted.before may.submitted.line e in
            may.new q.request q.member q.same

  module _ (state : S) (line next : ℕ) (steps : List (Step U)) (step : Step U) (waiting : List ℕ) (placed : List Bool)
      (s : IsSearching m undo_of lines state line next (steps ++ step ∷ []) waiting placed) where
    last : IsLast m undo_of lines [] [] steps step waiting
    last = steps_last m undo_of lines [] [] steps waiting step s.steps_are

    -- what was placed last is the place of a line, and there is room among those that wait
    pub last_within : step.submit < length placed
    last_within =
        let l = slice_get_within lines step.submit (Submit last.is_step.request) last.is_step.line in
        omega (arith, l, s.are_marked.count)

    restored : take step.others waiting ≡ remove last.left step.at
    restored =
        let x = last.others_wait in
        ap (λ (n : ℕ). take n waiting) last.is_step.others
        ∙ (ap (λ (w : List ℕ). take (length (remove last.left step.at)) w) x.1 ∙ take-append_seam (remove last.left step.at) x.0)

    pub last_has_room : step.at ≤ length (take step.others waiting)
    last_has_room = rw restored (at_most last.left step.at step.submit last.is_step.stands)

    -- so many wait where it is taken back
    pub last_waits : length (insert (take step.others waiting) step.at step.submit) ≡ suc step.others
    last_waits =
        let waited : insert (take step.others waiting) step.at step.submit ≡ last.left =
        ap (λ (x : List ℕ). insert x step.at step.submit) restored
        ∙ insert-remove last.left step.at step.submit last.is_step.stands in
        let l = one_less last.left step.at step.submit last.is_step.stands in
        let n : length (insert (take step.others waiting) step.at step.submit) ≡ length last.left = ap length waited in
        let others = last.is_step.others in
        omega (arith, l, n, others)

    -- the last step is taken back
    pub search_goes_back : SubmittedOnce lines → (GoesOn m lines (front_of lines (steps ++ step ∷ [])) → ⊥) → (undone : S → U → S)
        → ((t : S) (op : List ℕ) → undone (m.after t op) (undo_of t op) ≡ t) → (now : S) → now ≡ undone state step.undo
        → IsSearching m undo_of lines now step.line step.tried steps (insert (take step.others waiting) step.at step.submit)
        (slice_set placed step.submit false)
    search_goes_back once fails undone undoes now now_is =
        let front = front_of lines steps in
        let b = last.is_step in
        let grown : front_of lines (steps ++ step ∷ []) ≡ front ++ b.request ∷ [] =
        front_of-push lines steps step
        ∙ ap (λ (x : List Request). front ++ x) (requests_at-submit lines step.submit b.request b.line) in
        let before : S = after_all m m.opening front in
        let state_was : state ≡ m.after before b.request.op =
        s.state_is
        ∙ (ap (λ (x : List Request). after_all m m.opening x) grown ∙ after_all-push m m.opening front b.request) in
        let waited : insert (take step.others waiting) step.at step.submit ≡ last.left =
        ap (λ (x : List ℕ). insert x step.at step.submit) restored ∙ insert-remove last.left step.at step.submit b.stands in
        rw waited (record {
          within = let l = b.within in omega (arith, l);
          front = b.front;
          state_is =
              now_is
              ∙ (ap (λ (t : S). undone t step.undo) state_was
              ∙ (ap (λ (u : U). undone (m.after before b.request.op) u) b.undo ∙ undoes before b.request.op));
          are_waiting = b.are_waiting;
          are_marked =
              marked_less lines once front placed step.submit b.request b.line b.follows.new
              (subst (λ (x : List Request). AreMarked lines x placed) grown s.are_marked);
          steps_are = last.steps_are;
          rise = rising_front 0 steps step line s.rise;
          tried = b.tried (λ goes. fails (rw grown goes));
        })

  -- what a claim that accepts tells of the marks
  pub placed_or_stuck : (front : List Request) (placed : List Bool) (line i client id : ℕ) (result : List ℕ) (r : Request) (b : Bool)
      → AreMarked lines front placed → slice_get lines line ≡ Some (Accept client id result) → slice_get lines i ≡ Some (Submit r)
      → IsOf client id r → slice_get placed i ≡ Some b → MatchBool b (IsPassed lines line front) (IsStuck lines line front)
  placed_or_stuck front placed line i client id result r true marks at there same mark = λ c n a h.
      let e : Accept client id result ≡ Accept c n a =
      same_Some-at (slice_get lines line) (Accept client id result) (Accept c n a) at h in
      let x = marks.marked i r mark there in
      let u : client ≡ c = cc in
      let v : id ≡ n = cc in
      record {
        request = x.request;
        member = x.member;
        same = record {
          same_client = x.same.same_client ∙ (same.same_client ∙ u);
          same_id = x.same.same_id ∙ (same.same_id ∙ v);
        };
      }
  placed_or_stuck front placed line i client id result r false marks at there same mark = record {
    client = client;
    id = id;
    result = result;
    accepts = at;
    new = λ q h is. marks.unmarked i r mark there q h (record {
      same_client = is.same_client ∙ sym same.same_client;
      same_id = is.same_id ∙ sym same.same_id;
    });
  }
