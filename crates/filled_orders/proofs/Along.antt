-- The answers of a history, filled in along it.
use Rattle.std.proofs.Common.{◌≡◌, ◌∙◌, ℕ, zero, suc, Bool, true, false, cond, List, [], ◌∷◌, map, Some, refl, sym, ap}
use Rattle.std.specs.Prelude.{slice_get, ◌&&◌, ◌==◌}
use Rattle.std.proofs.lemmas.Bool.{eq-eqb, eqb-true}
use Rattle.filled_orders.specs.Filling.{answered, filled_along}
use Rattle.fronts.specs.Fronts.{AreApart}
use Rattle.nop_types.specs.Histories.{answer_from}
use Rattle.nop_types.specs.Legality.{IsOf}
use Rattle.nop_types.specs.Lines.{Line, Submit, Accept}
use Rattle.nop_types.specs.Meaning.{Meaning}
use Rattle.nop_types.specs.declared.request.Request.{Request}
use Rattle.unknown_results.proofs.Lines.{from_map}
use Rattle.unknown_results.specs.Asking.{erased}
use Rattle.unknown_results.specs.Filling.{AreAnswers, Fills}

module _ (unknown : ℕ → ℕ → Bool) where
  -- ---- one request

  kept_apart : (b c : Bool) (answer result : List ℕ) → cond c [] (cond (b && c) answer result) ≡ cond c [] result
  kept_apart true true answer result = refl
  kept_apart true false answer result = refl
  kept_apart false true answer result = refl
  kept_apart false false answer result = refl

  erased_alike : (r : Request) (answer : List ℕ) (l : Line) → erased unknown (answered unknown r answer l) ≡ erased unknown l
  erased_alike r answer (Submit q) = refl
  erased_alike r answer (Accept client id result) =
      ap (λ (a : List ℕ). Accept client id a) (kept_apart ((client == r.client) && (id == r.id)) (unknown client id) answer result)
  erased_alike r answer _ = refl

  pub one_fills : (r : Request) (answer : List ℕ) (lines : List Line) → Fills unknown lines (map (answered unknown r answer) lines)
  one_fills r answer [] = refl
  one_fills r answer (l ∷ lines) =
      ap (λ (ls : List Line). erased unknown (answered unknown r answer l) ∷ ls) (one_fills r answer lines)
      ∙ ap (λ (x : Line). x ∷ map (erased unknown) lines) (erased_alike r answer l)

  -- its answer is there
  is_there : (b c : Bool) (answer old result : List ℕ) → b ≡ true → c ≡ true → result ≡ cond (b && c) answer old → result ≡ answer
  is_there true true answer old result e f h = h
  is_there true false answer old result e f h = absurd cc
  is_there false c answer old result e f h = absurd cc

  both : (a b : Bool) → a ≡ true → b ≡ true → a && b ≡ true
  both true true e f = refl
  both true false e f = absurd cc
  both false b e f = absurd cc

  has_answer : (r : Request) (answer : List ℕ) (client id : ℕ) (result : List ℕ) (l : Line) → IsOf client id r → unknown client id ≡ true
      → Accept client id result ≡ answered unknown r answer l → result ≡ answer
  has_answer r answer client id result (Accept c i a) same unnoted e =
      let ec : c ≡ client = cc in
      let ei : i ≡ id = cc in
      let er : result ≡ cond (((c == r.client) && (i == r.id)) && unknown c i) answer a = cc in
      is_there ((c == r.client) && (i == r.id)) (unknown c i) answer a result
      (both (c == r.client) (i == r.id) (eq-eqb c r.client (ec ∙ sym same.same_client)) (eq-eqb i r.id (ei ∙ sym same.same_id)))
      (ap (λ (x : ℕ). unknown x i) ec ∙ ap (λ (x : ℕ). unknown client x) ei ∙ unnoted) er
  has_answer r answer client id result (Submit q) same unnoted e = absurd cc
  has_answer r answer client id result _ same unnoted e = absurd cc

  -- other lines stay
  is_other : (r : Request) (client id : ℕ) → (IsOf client id r → ⊥) → (client == r.client) && (id == r.id) ≡ false
  is_other r client id other = by_cases (client == r.client) (id == r.id) refl refl
    where
      by_cases : (a b : Bool) → (client == r.client) ≡ a → (id == r.id) ≡ b → a && b ≡ false
      by_cases true true e f =
          absurd (other (record { same_client = sym (eqb-true client r.client e); same_id = sym (eqb-true id r.id f) }))
      by_cases true false e f = refl
      by_cases false b e f = refl

  not_there : (b c : Bool) (answer old : List ℕ) → b ≡ false → cond (b && c) answer old ≡ old
  not_there true c answer old e = absurd cc
  not_there false c answer old e = refl

  stays_other : (r : Request) (answer : List ℕ) (client id : ℕ) (result : List ℕ) (l : Line) → (IsOf client id r → ⊥)
      → Accept client id result ≡ answered unknown r answer l → l ≡ Accept client id result
  stays_other r answer client id result (Accept c i a) other e =
      let ec : c ≡ client = cc in
      let ei : i ≡ id = cc in
      let er : result ≡ cond (((c == r.client) && (i == r.id)) && unknown c i) answer a = cc in
      let off : (c == r.client) && (i == r.id) ≡ false =
      is_other r c i (λ same. other (record { same_client = same.same_client ∙ ec; same_id = same.same_id ∙ ei })) in
      let same_result : result ≡ a = er ∙ not_there ((c == r.client) && (i == r.id)) (unknown c i) answer a off in
      cc
  stays_other r answer client id result (Submit q) other e = absurd cc
  stays_other r answer client id result _ other e = absurd cc

  -- ---- all requests

  module _ {S : Type 0} (m : Meaning S) where
    pub along_fills : (s : S) (history : List Request) (lines : List Line) → Fills unknown lines (filled_along m unknown s history lines)
    along_fills s [] lines = refl
    along_fills s (r ∷ history) lines =
        along_fills (m.after s r.op) history (map (answered unknown r (m.answer s r.op)) lines)
        ∙ one_fills r (m.answer s r.op) lines

    -- what no request of the history is of was there before
    before_others : (s : S) (history : List Request) (lines : List Line) (k client id : ℕ) (result : List ℕ)
        → slice_get (filled_along m unknown s history lines) k ≡ Some (Accept client id result)
        → ((j : ℕ) (r : Request) → slice_get history j ≡ Some r → IsOf client id r → ⊥)
        → slice_get lines k ≡ Some (Accept client id result)
    before_others s [] lines k client id result e others = e
    before_others s (r ∷ history) lines k client id result e others =
        let there =
        before_others (m.after s r.op) history (map (answered unknown r (m.answer s r.op)) lines) k client id result e
        (λ j q h. others (suc j) q h) in
        let x = from_map (answered unknown r (m.answer s r.op)) lines k (Accept client id result) there in
        x.1 ∙ ap (λ (l : Line). Some l) (stays_other r (m.answer s r.op) client id result x.0 (others 0 r refl) x.2)

    later_apart : (r : Request) (history : List Request) → AreApart (r ∷ history) → AreApart history
    later_apart r history apart = λ i j p q g h same. let e = apart (suc i) (suc j) p q g h same in cc

    one_client : (client id : ℕ) (r q : Request) → IsOf client id r → IsOf client id q → IsOf r.client r.id q
    one_client client id r q a b = record {
      same_client = b.same_client ∙ sym a.same_client;
      same_id = b.same_id ∙ sym a.same_id;
    }

    -- the answers are those of the history
    pub answers_along : (s : S) (history : List Request) (lines : List Line) → AreApart history → (k client id : ℕ) (result : List ℕ)
        → slice_get (filled_along m unknown s history lines) k ≡ Some (Accept client id result) → unknown client id ≡ true
        → (j : ℕ) (r : Request) → slice_get history j ≡ Some r → IsOf client id r → answer_from m s history j ≡ Some result
    answers_along s [] lines apart k client id result e unnoted j r h same = absurd cc
    answers_along s (x ∷ history) lines apart k client id result e unnoted zero r h same =
        let one : x ≡ r = cc in
        let mine : IsOf client id x = record {
          same_client = ap (λ (q : Request). q.client) one ∙ same.same_client;
          same_id = ap (λ (q : Request). q.id) one ∙ same.same_id;
        } in
        let there =
        before_others (m.after s x.op) history (map (answered unknown x (m.answer s x.op)) lines) k client id result e
        (λ j q g is. let at = apart 0 (suc j) x q refl g (one_client client id x q mine is) in absurd cc) in
        let y = from_map (answered unknown x (m.answer s x.op)) lines k (Accept client id result) there in
        ap (λ (a : List ℕ). Some a) (sym (has_answer x (m.answer s x.op) client id result y.0 mine unnoted y.2))
    answers_along s (x ∷ history) lines apart k client id result e unnoted (suc j) r h same =
        answers_along (m.after s x.op) history (map (answered unknown x (m.answer s x.op)) lines) (later_apart x history apart) k client id
        result e unnoted j r h same

    pub are_answers : (history : List Request) (lines : List Line) → AreApart history
        → AreAnswers m unknown (filled_along m unknown m.opening history lines) history
    are_answers history lines apart k client id result e unnoted j r h same =
        answers_along m.opening history lines apart k client id result e unnoted j r h same
