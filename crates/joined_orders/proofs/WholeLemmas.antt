-- Orders of all parts, joined by the lines at which requests were placed.
use Rattle.std.proofs.Common.{◌≡◌, ℕ, ◌≤◌, Bool, true, List, Some, length, refl, sym, ap, subst, ◌∙◌, arith}
use Rattle.std.specs.Prelude.{slice_get, filter}
use Rattle.std.proofs.lemmas.Bool.{eq-eqb, eqb-true}
use Rattle.std.proofs.lemmas.Slice.Eq.{bytes_eq-Decides}
use Rattle.execution_laws.specs.Legality.{SubmittedOnce}
use Rattle.fronts.proofs.Parts.{whole_is_legal, part_is_legal as of_whole}
use Rattle.fronts.specs.Fronts.{AcceptedLater, HasOrder}
use Rattle.fronts.specs.Parts.{is_of, of_part, AreDistinct, AreTimed, HasParts, IsPart}
use Rattle.joined_orders.proofs.HistoryLemmas.{time-at, history-length, placed_as, history-filter}
use Rattle.joined_orders.proofs.Owned.{owns}
use Rattle.joined_orders.proofs.Sorting.{was_there, stays}
use Rattle.joined_orders.specs.Joining.{LinesRise, IsSortedOf, IsTimely, is_placed_of, same_line, AreJoined}
use Rattle.joined_orders.specs.Owning.{is_own}
use Rattle.order_search.specs.declared.outcome.Placed.{Placed}
use Rattle.order_search.specs.Outcomes.{submits_of, time_of}
use Rattle.order_search.specs.Turns.{history_at, AllSubmit}
use Rattle.joined_orders.proofs.Mapped.{mapped_at}
use Rattle.lemmas.proofs.Members.{Has-filter}
use Rattle.lemmas.proofs.Places.{slice_get-some}
use Rattle.lemmas.proofs.Options.{same_Some-at}
use Rattle.nop_types.specs.Legality.{AcceptedOnce, Legal}
use Rattle.nop_types.specs.Lines.{Line, Submit, Accept}
use Rattle.nop_types.specs.Lists.{Has}
use Rattle.nop_types.specs.Meaning.{Meaning}
use Rattle.nop_types.specs.declared.request.Request.{Request}

module _ {S : Type 0} (m : Meaning S) (part : List ℕ → List ℕ) (lines : List Line) (parts : List (List ℕ)) (once : SubmittedOnce lines)
    (xs sorted : List Placed) (are : AreJoined m part lines parts xs) (ties : Placed → Placed → Bool)
    (same_key : (x y : Placed) → ties x y ≡ true → x.line ≡ y.line) (ties_are : (x y : Placed) → x.line ≡ y.line → ties x y ≡ true)
    (stable : (x : Placed) → filter (ties x) sorted ≡ filter (ties x) xs) (rises : LinesRise sorted) where
  pub timely : (x : Placed) → Has sorted x → IsTimely lines x
  timely x h =
      let g = was_there (λ (t : Placed). t.line) ties same_key ties_are xs sorted stable x h in
      let k = are.known x g in
      (are.orders k.0 k.1).timely x (Has-filter (is_placed_of part lines k.0) x xs g k.2)

  submits : (x : Placed) → Has sorted x → (r : Request) × (slice_get lines x.submit ≡ Some (Submit r))
  submits x h = let t = timely x h in (t.request, t.submits)

  pub all_submit : AllSubmit lines (submits_of sorted)
  all_submit a i h =
      let f = mapped_at (λ (p : Placed). p.submit) sorted a i h in
      let s = submits f.from (a, f.at) in
      (s.0, ap (λ (t : ℕ). slice_get lines t) (sym f.gives) ∙ s.1)

  pub all_known : (r : Request) → Has (history_at lines (submits_of sorted)) r → Has lines (Submit r)
  all_known r h = let p = placed_as lines sorted submits h.0 r h.1 in (p.placed.submit, p.submits)

  -- without the requests of other parts it is the part's history
  pub part_is_legal : (p : List ℕ) → Has parts p
      → Legal m (filter (is_own part lines p) lines) (of_part (is_of part p) (history_at lines (submits_of sorted)))
  part_is_legal p h =
      let o = are.orders p h in
      let same = stays (λ (t : Placed). t.line) ties same_key ties_are xs sorted stable (is_placed_of part lines p) rises o.rise in
      let e = history-filter lines (is_of part p) (is_own part lines p) (λ r. refl) sorted submits in
      subst (λ (t : List Request). Legal m (filter (is_own part lines p) lines) t)
      (sym (e ∙ ap (λ (t : List Placed). history_at lines (submits_of t)) same)) o.legal

  pub timed : AreTimed lines (history_at lines (submits_of sorted)) (time_of sorted)
  timed = record {
    rises = λ i j near l.
        let e = history-length lines sorted submits in
        let y = slice_get-some sorted j (omega (arith, l, e)) in
        let x = slice_get-some sorted i (omega (arith, l, e, near)) in
        let r = rises i j x.0 y.0 near x.1 y.1 in
        let s = time-at sorted i x.0 x.1 in
        let t = time-at sorted j y.0 y.1 in
        omega (arith, r, s, t);
    begun = λ i l r q at_i at_l same.
        let p = placed_as lines sorted submits i r at_i in
        let one = once l p.placed.submit q r at_l p.submits same in
        let b = (timely p.placed (i, p.at)).begun in
        let t = time-at sorted i p.placed p.at in
        omega (arith, one, b, t);
    ended = λ i k client id result r at_i at_k same.
        let p = placed_as lines sorted submits i r at_i in
        let x = timely p.placed (i, p.at) in
        let lines_same : Submit x.request ≡ Submit r =
        same_Some-at (slice_get lines p.placed.submit) (Submit x.request) (Submit r) x.submits p.submits in
        let is : x.request ≡ r = cc in
        let c : client ≡ x.request.client = sym same.same_client ∙ ap (λ (t : Request). t.client) (sym is) in
        let d : id ≡ x.request.id = sym same.same_id ∙ ap (λ (t : Request). t.id) (sym is) in
        let accept = at_k ∙ ap (λ (t : ℕ). Some (Accept t id result)) c ∙ ap (λ (t : ℕ). Some (Accept x.request.client t result)) d in
        let e = x.ended k result accept in
        let t = time-at sorted i p.placed p.at in
        omega (arith, e, t);
  }

-- ---- a parted service

module _ {S : Type 0} (m : Meaning S) (part : List ℕ → List ℕ) (most : ℕ) (Same : List (List ℕ) → List ℕ → S → S → Type 0)
    (are_parts : (parts : List (List ℕ)) (p : List ℕ) → length parts ≤ most → AreDistinct parts
    → IsPart m (λ op. Has parts (part op)) (is_of part p) (Same parts p))
    (lines : List Line) (parts : List (List ℕ)) (has : HasParts part most lines parts) (once : SubmittedOnce lines) where
  -- orders of all parts, sorted by lines, are one of the whole
  pub joined_is_legal : (xs sorted : List Placed) → AcceptedOnce lines → AcceptedLater lines → AreJoined m part lines parts xs
      → IsSortedOf xs sorted → Legal m lines (history_at lines (submits_of sorted)) × AllSubmit lines (submits_of sorted)
  joined_is_legal xs sorted accepted later are sort =
      let key = λ (x y : Placed) (e : same_line x y ≡ true). eqb-true x.line y.line e in
      let ties = λ (x y : Placed) (e : x.line ≡ y.line). eq-eqb x.line y.line e in (
        whole_is_legal m (λ (op : List ℕ). Has parts (part op)) (is_of part) (Same parts) (λ (p : List ℕ). are_parts parts p has.few has.distinct)
            lines (is_own part lines) (Has parts) (λ p h. owns part lines p once) has.all (λ (r : Request). part r.op) has.all
            (λ (r : Request). (bytes_eq-Decides (part r.op) (part r.op)).1 refl) once accepted later (history_at lines (submits_of sorted))
            (all_known m part lines parts once xs sorted are same_line key ties sort.stable sort.rise)
            (part_is_legal m part lines parts once xs sorted are same_line key ties sort.stable sort.rise) (time_of sorted)
            (timed m part lines parts once xs sorted are same_line key ties sort.stable sort.rise),
        all_submit m part lines parts once xs sorted are same_line key ties sort.stable sort.rise,
      )

  -- where a part has none the whole has none
  pub no_whole_order : (p : List ℕ) → (HasOrder m (filter (is_own part lines p) lines) → ⊥) → HasOrder m lines → ⊥
  no_whole_order p none h =
      none (record {
        history = of_part (is_of part p) h.history;
        legal =
            of_whole m (λ (op : List ℕ). Has parts (part op)) (is_of part p) (Same parts p) (are_parts parts p has.few has.distinct) lines
            (is_own part lines p) (owns part lines p once) has.all h.history h.legal;
      })
