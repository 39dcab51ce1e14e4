-- What is found of what is asked, said of the claims.
use Rattle.std.proofs.Common.{◌≡◌, ◌∙◌, ℕ, ◌<◌, Bool, true, false, cond, List, [], ◌∷◌, map, length, Some, refl, sym, ap, subst, arith}
use Rattle.std.specs.Prelude.{slice_get}
use Rattle.std.proofs.lemmas.List.{length-map}
use Rattle.fronts.specs.Fronts.{AcceptedLater, AreApart, HasOrder}
use Rattle.filled_orders.proofs.Along.{along_fills, are_answers}
use Rattle.filled_orders.proofs.Marked.{unknown_has_mark}
use Rattle.filled_orders.proofs.Structure.{accepts_plain, all_submit_out, all_submit_plain, history_plain, history_same, lacks_filled}
use Rattle.filled_orders.specs.FilledAnswers.{HasNone, IsFilledAnswer, IsFilledOrder, IsSaid}
use Rattle.filled_orders.specs.Filling.{filled_along}
use Rattle.joined_orders.specs.Answers.{LacksOrder}
use Rattle.joined_orders.specs.declared.linearized.Linearized.{Linearized}
use Rattle.joined_orders.specs.declared.linearized.Linearized.TheVariants.{Order, Nothing, Groundless, Repeated}
use Rattle.nop_types.specs.Legality.{Legal}
use Rattle.nop_types.specs.Lines.{Line, Submit, Accept}
use Rattle.nop_types.specs.Meaning.{Meaning}
use Rattle.nop_types.specs.declared.request.Request.{Request}
use Rattle.order_search.specs.Bounds.{AcceptsAt}
use Rattle.order_search.specs.Turns.{AllSubmit, history_at}
use Rattle.unknown_results.proofs.Histories.{filled_is_legal, none_is_filled}
use Rattle.unknown_results.proofs.Lines.{asked_lines, from_map, same_asked}
use Rattle.unknown_results.specs.AnyResults.{any_result}
use Rattle.unknown_results.specs.Asking.{asked_line, erased, unknown_in, without_byte, without_first}
use Rattle.unknown_results.specs.Filling.{AreAnswers, Fills}

-- members stay apart without their bytes
apart_plain : (history : List Request) → AreApart history → AreApart (map without_byte history)
apart_plain history apart = λ i j p q g h same.
    let x = from_map without_byte history i p g in
    let y = from_map without_byte history j q h in
    apart i j x.0 y.0 x.1 y.1 (record {
      same_client = sym (ap (λ (r : Request). r.client) y.2) ∙ same.same_client ∙ ap (λ (r : Request). r.client) x.2;
      same_id = sym (ap (λ (r : Request). r.id) y.2) ∙ same.same_id ∙ ap (λ (r : Request). r.id) x.2;
    })

module _ {S : Type 0} (m : Meaning S) (part : List ℕ → List ℕ) (most : ℕ) (unknown : ℕ → ℕ → Bool) (lines : List Line) where
  -- ---- where nothing is unknown

  module _ (known : (client id : ℕ) → unknown client id ≡ false) where
    kept : (b : Bool) (a : List ℕ) → b ≡ false → cond b [] a ≡ a
    kept true a e = absurd cc
    kept false a e = refl

    erased_nothing : (l : Line) → erased unknown l ≡ l
    erased_nothing (Submit r) = refl
    erased_nothing (Accept client id result) =
        ap (λ (a : List ℕ). Accept client id a) (kept (unknown client id) result (known client id))
    erased_nothing _ = refl

    all_erased : (ls : List Line) → map (erased unknown) ls ≡ ls
    all_erased [] = refl
    all_erased (l ∷ ls) = ap (λ (xs : List Line). erased unknown l ∷ xs) (all_erased ls) ∙ ap (λ (x : Line). x ∷ ls) (erased_nothing l)

    pub fills_itself : (filled : List Line) → Fills unknown lines filled → filled ≡ lines
    fills_itself filled fills = sym (all_erased filled) ∙ fills ∙ all_erased lines

    pub known_answer : (found : Linearized) → IsSaid m part most lines found → IsFilledAnswer m part most unknown lines lines found
    known_answer (Order places) says = record { fills = refl; legal = says.legal; submit = says.submit }
    known_answer (Nothing p claim) says = record {
      none = λ filled fills order. says.none (subst (HasOrder m) (fills_itself filled fills) order);
      part_lacks = λ filled fills.
          subst (λ (ls : List Line). LacksOrder m part most ls p.items) (sym (fills_itself filled fills)) says.part_lacks;
      within = says.within;
      accepts = says.accepts;
    }
    known_answer (Groundless claim) says = says.groundless
    known_answer (Repeated claim) says = says.repeated

  -- ---- where some is

  abbrev asked : List Line
  asked = asked_lines unknown lines

  -- the claims at these places submit
  pub places_submit : (places : List ℕ) → AllSubmit asked places → AllSubmit lines places
  places_submit places submit = all_submit_plain unknown lines places submit

  module _ (places : List ℕ) (legal : Legal (any_result m) asked (history_at asked places)) (submit : AllSubmit asked places)
      (filled : List Line) (filled_is : filled ≡ filled_along m unknown m.opening (history_at lines places) lines) where
    fills : Fills unknown lines filled
    fills = ap (map (erased unknown)) filled_is ∙ along_fills unknown m m.opening (history_at lines places) lines

    asked_legal : Legal (any_result m) (asked_lines unknown filled) (history_at asked places)
    asked_legal =
        subst (λ (ls : List Line). Legal (any_result m) ls (history_at asked places)) (sym (same_asked unknown lines filled fills)) legal

    plain_history : map without_byte (history_at asked places) ≡ history_at lines places
    plain_history = history_plain unknown lines places

    are_apart : AreApart (history_at lines places)
    are_apart = subst AreApart plain_history (apart_plain (history_at asked places) asked_legal.apart)

    answers : AreAnswers m unknown filled (map without_byte (history_at asked places))
    answers =
        subst (λ (h : List Request). AreAnswers m unknown filled h) (sym plain_history)
        (subst (λ (ls : List Line). AreAnswers m unknown ls (history_at lines places)) (sym filled_is)
        (are_answers unknown m (history_at lines places) lines are_apart))

    pub found_order : IsFilledOrder m part most unknown lines filled places
    found_order = record {
      fills = fills;
      legal =
          subst (λ (h : List Request). Legal m filled h) (plain_history ∙ sym (history_same unknown lines filled fills places))
          (filled_is_legal m unknown filled (history_at asked places) asked_legal answers);
      submit = all_submit_out unknown lines filled fills places (places_submit places submit);
    }

  abbrev part_asked : List ℕ → List ℕ
  part_asked op = part (without_first op)

  pub found_none : (later : AcceptedLater lines) (p : List ℕ) (claim : ℕ) → (HasOrder (any_result m) asked → ⊥) → claim < length asked
      → LacksOrder (any_result m) part_asked most asked p → AcceptsAt asked claim → HasNone m part most unknown lines p claim
  found_none later p claim none within lacks accepts = record {
    none = none_is_filled m unknown lines none;
    part_lacks = lacks_filled unknown m part most p lines later lacks;
    within = omega (arith, within, length-map lines (asked_line unknown));
    accepts = accepts_plain unknown lines claim accepts;
  }

-- without marks nothing is unknown
is_false : (b : Bool) → (b ≡ true → ⊥) → b ≡ false
is_false true f = absurd (f refl)
is_false false f = refl

pub no_marks : (marks : List Bool) (lines : List Line) → ((k : ℕ) → slice_get marks k ≡ Some true → ⊥) → (client id : ℕ)
    → unknown_in marks lines client id ≡ false
no_marks marks lines none client id =
    is_false (unknown_in marks lines client id) (λ e. let r = unknown_has_mark marks lines client id e in none r.place r.mark)
