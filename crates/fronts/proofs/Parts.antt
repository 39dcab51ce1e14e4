-- An order of the whole is an order of each part, and orders of the parts that are timed alike make one of the whole.
use Rattle.std.proofs.Common.{◌≡◌, ℕ, zero, suc, Bool, true, false, cond, List, [], ◌∷◌, Some, refl, sym, ap, subst, ◌∙◌, arith, inl, inr}
use Rattle.std.specs.Prelude.{slice_get, filter}
use Rattle.std.proofs.lemmas.Bool.{cases_lt}
use Rattle.std.proofs.lemmas.Option.{slice_get_within}
use Rattle.lemmas.proofs.Members.{Has-from_filter}
use Rattle.lemmas.proofs.Options.{same_Some-at}
use Rattle.fronts.specs.Fronts.{AcceptedLater, AreApart, AreOrdered}
use Rattle.fronts.specs.Parts.{IsPart, of_part, AreOwn, AreTimed}
use Rattle.lemmas.proofs.Ranks.{rank, passes_at, comes_from, rank_passes, back_in_order, one_rank}
use Rattle.execution_laws.specs.Legality.{SubmittedOnce}
use Rattle.nop_types.specs.Histories.{answer_from, answer_at}
use Rattle.nop_types.specs.Legality.{IsOf, IsAnswered, AcceptedOnce, Legal}
use Rattle.nop_types.specs.Lines.{Line, Submit, Accept}
use Rattle.nop_types.specs.Lists.{Has}
use Rattle.nop_types.specs.Meaning.{Meaning}
use Rattle.nop_types.specs.declared.request.Request.{Request}

module _ {S : Type 0} (m : Meaning S) (Fits : List ℕ → Type 0) (mine : List ℕ → Bool) (Same : S → S → Type 0)
    (part : IsPart m Fits mine Same) where
  abbrev my : Request → Bool
  my r = mine r.op

  abbrev AllFit : List Request → Type 0
  AllFit xs = (i : ℕ) (r : Request) → slice_get xs i ≡ Some r → Fits r.op

  -- what is answered to a member of mine is answered among mine alone
  answer_of_part : (s t : S) (xs : List Request) → AllFit xs → Same s t → (i : ℕ) (r : Request) → slice_get xs i ≡ Some r
      → mine r.op ≡ true → answer_from m t (filter my xs) (rank my xs i) ≡ answer_from m s xs i
  answer_of_part s t [] fit same i r h e = absurd cc
  answer_of_part s t (x ∷ xs) fit same zero r h e =
      let one : x ≡ r = cc in
      let mine_x : mine x.op ≡ true = ap my one ∙ e in
      rw mine_x (ap (λ (a : List ℕ). Some a) (sym (part.answers s t x.op (fit 0 x refl) mine_x same)))
  answer_of_part s t (x ∷ xs) fit same (suc i) r h e =
      here (mine x.op) refl
      (λ f. answer_of_part (m.after s x.op) (m.after t x.op) xs (λ j q g. fit (suc j) q g) (part.keeps s t x.op (fit 0 x refl) f same) i r h e)
      (λ f. answer_of_part (m.after s x.op) t xs (λ j q g. fit (suc j) q g) (part.leaves s t x.op (fit 0 x refl) f same) i r h e)
    where
      here : (b : Bool) → mine x.op ≡ b
          → (mine x.op ≡ true → answer_from m (m.after t x.op) (filter my xs) (rank my xs i) ≡ answer_from m (m.after s x.op) xs i)
          → (mine x.op ≡ false → answer_from m t (filter my xs) (rank my xs i) ≡ answer_from m (m.after s x.op) xs i)
          → answer_from m t (cond b (x ∷ filter my xs) (filter my xs)) (cond b (suc (rank my xs i)) (rank my xs i))
          ≡ answer_from m (m.after s x.op) xs i
      here true f u v = u f
      here false f u v = v f

  module _ (lines : List Line) (own : Line → Bool) (are : AreOwn lines mine own) (fits : (r : Request) → Has lines (Submit r) → Fits r.op)
      (history : List Request) where
    submits_own : (r : Request) → mine r.op ≡ true → own (Submit r) ≡ true
    submits_own r e = are.submits r ∙ e

    -- what a line of mine accepts is mine
    accepted_is_mine : (client id : ℕ) (result : List ℕ) (r : Request) → Has lines (Submit r) → IsOf client id r
        → own (Accept client id result) ≡ true → mine r.op ≡ true
    accepted_is_mine client id result r h same e = sym (are.accepts client id result r h same) ∙ e

    -- a legal history of all lines has one of the lines of each part
    pub part_is_legal : Legal m lines history → Legal m (filter own lines) (of_part mine history)
    part_is_legal legal = record {
      apart = λ i j p q g h same.
          let x = comes_from my history i p g in
          let y = comes_from my history j q h in
          sym x.ranks ∙ ap (rank my history) (legal.apart x.place y.place p q x.stands y.stands same) ∙ y.ranks;
      submitted = λ r h.
          let x = Has-from_filter my r history h in
          let s = legal.submitted r x.0 in
          (rank own lines s.0, passes_at own lines s.0 (Submit r) s.1 (submits_own r x.1));
      later = λ k client id result h.
          let x = comes_from own lines k (Accept client id result) h in
          let s = legal.later x.place client id result x.stands in
          let e = submits_own s.request (accepted_is_mine client id result s.request (s.place, s.line) s.same x.passes) in
          record {
            place = rank own lines s.place;
            before = let r = rank_passes own lines s.place x.place (Submit s.request) s.line e s.before in omega (arith, r, x.ranks);
            request = s.request;
            line = passes_at own lines s.place (Submit s.request) s.line e;
            same = s.same;
          };
      once = λ k l client id a b g h.
          let x = comes_from own lines k (Accept client id a) g in
          let y = comes_from own lines l (Accept client id b) h in
          sym x.ranks ∙ ap (rank own lines) (legal.once x.place y.place client id a b x.stands y.stands) ∙ y.ranks;
      answered = λ k client id result h.
          let x = comes_from own lines k (Accept client id result) h in
          let a = legal.answered x.place client id result x.stands in
          let e = accepted_is_mine client id result a.request (legal.submitted a.request (a.place, a.member)) a.same x.passes in
          record {
            place = rank my history a.place;
            request = a.request;
            member = passes_at my history a.place a.request a.member e;
            same = a.same;
            answer =
                answer_of_part m.opening m.opening history (λ i r g. fits r (legal.submitted r (i, g))) part.opens a.place a.request a.member e
                ∙ a.answer;
          };
      ordered = λ k l client id result p less accept submit i j a b at_i is_a at_j is_b.
          let x = comes_from own lines k (Accept client id result) accept in
          let y = comes_from own lines l (Submit p) submit in
          let u = comes_from my history i a at_i in
          let v = comes_from my history j b at_j in
          let near = back_in_order own lines x.place y.place (omega (arith, less, x.ranks, y.ranks)) in
          let order = legal.ordered x.place y.place client id result p near x.stands y.stands u.place v.place a b u.stands is_a v.stands is_b in
          let r = rank_passes my history u.place v.place a u.stands u.passes order in
          omega (arith, r, u.ranks, v.ranks);
    }

    -- an answer among mine is one among all
    answered_in_whole : ((r : Request) → Has history r → Has lines (Submit r)) → (client id : ℕ) (result : List ℕ)
        → IsAnswered m (of_part mine history) client id result → IsAnswered m history client id result
    answered_in_whole known client id result a =
        let x = comes_from my history a.place a.request a.member in
        record {
          place = x.place;
          request = a.request;
          member = x.stands;
          same = a.same;
          answer =
              sym (answer_of_part m.opening m.opening history (λ i r g. fits r (known r (i, g))) part.opens x.place a.request x.stands x.passes)
              ∙ (ap (λ (t : ℕ). answer_at m (of_part mine history) t) x.ranks ∙ a.answer);
        }

    -- two members of one client and id, of which the first is mine, stand at one place
    apart_in_whole : (i j : ℕ) (p q : Request) → slice_get history i ≡ Some p → slice_get history j ≡ Some q → mine p.op ≡ true
        → mine q.op ≡ true → IsOf p.client p.id q → AreApart (of_part mine history) → i ≡ j
    apart_in_whole i j p q g h e f same apart =
        one_rank my history i j p q g h e f
        (apart (rank my history i) (rank my history j) p q (passes_at my history i p g e) (passes_at my history j q h f) same)

-- ---- a whole of parts

module _ {S P : Type 0} (m : Meaning S) (Fits : List ℕ → Type 0) (mine : P → List ℕ → Bool) (Same : P → S → S → Type 0)
    (part : (p : P) → IsPart m Fits (mine p) (Same p)) (lines : List Line) (own : P → Line → Bool)
    (Used : P → Type 0) (are : (p : P) → Used p → AreOwn lines (mine p) (own p)) (fits : (r : Request) → Has lines (Submit r) → Fits r.op)
    (part_of : Request → P) (used : (r : Request) → Has lines (Submit r) → Used (part_of r))
    (is_of : (r : Request) → mine (part_of r) r.op ≡ true) (once : SubmittedOnce lines) (accepted : AcceptedOnce lines)
    (later : AcceptedLater lines) (history : List Request) (known : (r : Request) → Has history r → Has lines (Submit r))
    (legal : (p : P) → Used p → Legal m (filter (own p) lines) (of_part (mine p) history)) (time : ℕ → ℕ) (timed : AreTimed lines history time) where
  whole_apart : AreApart history
  whole_apart i j p q g h same =
      let a = known p (i, g) in
      let b = known q (j, h) in
      let one : a.0 ≡ b.0 = once a.0 b.0 p q a.1 b.1 same in
      let lines_same : Submit p ≡ Submit q =
      same_Some-at (slice_get lines a.0) (Submit p) (Submit q) a.1 (ap (λ (t : ℕ). slice_get lines t) one ∙ b.1) in
      let e : p ≡ q = cc in
      let x = part_of p in
      apart_in_whole m Fits (mine x) (Same x) (part x) lines (own x) (are x (used p a)) fits history i j p q g h (is_of p)
      (subst (λ (t : Request). mine x t.op ≡ true) e (is_of p)) same (legal x (used p a)).apart

  whole_answered : (k client id : ℕ) (result : List ℕ) → slice_get lines k ≡ Some (Accept client id result)
      → IsAnswered m history client id result
  whole_answered k client id result h =
      let s = later k client id result h in
      let x = part_of s.request in
      let u = used s.request (s.place, s.line) in
      let e : own x (Accept client id result) ≡ true =
      (are x u).accepts client id result s.request (s.place, s.line) s.same ∙ is_of s.request in
      answered_in_whole m Fits (mine x) (Same x) (part x) lines (own x) (are x u) fits history known client id result
      ((legal x u).answered (rank (own x) lines k) client id result (passes_at (own x) lines k (Accept client id result) h e))

  whole_ordered : AreOrdered lines history
  whole_ordered k l client id result p less accept submit i j a b at_i is_a at_j is_b =
      let early = timed.ended i k client id result a at_i accept is_a in
      let late = timed.begun j l b p at_j submit is_b in
      elim (cases_lt i j) [
        | inl before ↦ before
        | inr behind ↦
            let r = timed.rises j i behind (slice_get_within history i a at_i) in
            absurd (omega (arith, r, early, late, less))
      ]

  -- orders of the parts that are timed alike make a legal history of the whole
  pub whole_is_legal : Legal m lines history
  whole_is_legal = record {
    apart = whole_apart;
    submitted = known;
    later = later;
    once = accepted;
    answered = whole_answered;
    ordered = whole_ordered;
  }
