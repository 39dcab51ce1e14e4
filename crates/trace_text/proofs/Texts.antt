-- The texts of some lines, one after another.
use Rattle.std.proofs.Common.{◌≡◌, ℕ, suc, ◌+◌, ◌<◌, List, [], ◌∷◌, ◌++◌, Option, Some, None, refl, sym, ap, ◌∙◌, append_assoc, append-nil}
use Rattle.std.proofs.Common.{arith, get_or, length, take}
use Rattle.std.proofs.Math.Seq.{take-suc}
use Rattle.std.specs.Prelude.{unwrap_or, option_to_list}
use Rattle.std.specs.List.{concat, cons_option}
use Rattle.nop_types.specs.declared.output.Actor.{Actor}
use Rattle.nop_types.specs.declared.output.Out.{Out}
use Rattle.trace_text.specs.Traces.{out_line, out_lines}

first_text : (p : Option (List ℕ)) (ls : List (List ℕ)) → concat (cons_option p ls) ≡ unwrap_or p [] ++ concat ls
first_text None ls = refl
first_text (Some l) ls = refl

pub step_text : (p : Option (List ℕ)) (ls : List (List ℕ)) → concat (option_to_list p ++ ls) ≡ unwrap_or p [] ++ concat ls
step_text None ls = refl
step_text (Some l) ls = refl

-- those of some outputs and of one more
pub one_more : (actor : Actor) (os : List Out) (o : Out)
    → concat (out_lines actor (os ++ o ∷ [])) ≡ concat (out_lines actor os) ++ unwrap_or (out_line actor o) []
one_more actor [] o = first_text (out_line actor o) [] ∙ append-nil (unwrap_or (out_line actor o) [])
one_more actor (x ∷ os) o =
    let text : List ℕ = unwrap_or (out_line actor x) [] in
    first_text (out_line actor x) (out_lines actor (os ++ o ∷ []))
    ∙ ap (λ (later : List ℕ). text ++ later) (one_more actor os o)
    ∙ sym (append_assoc text (concat (out_lines actor os)) (unwrap_or (out_line actor o) []))
    ∙ ap (λ (both : List ℕ). both ++ unwrap_or (out_line actor o) []) (sym (first_text (out_line actor x) (out_lines actor os)))

-- a loop over outputs: the text of those before, and of this one
pub goes_on : (actor : Actor) (old before now : List ℕ) (os : List Out) (i : ℕ) (o : Out) → i < length os → o ≡ get_or os i o
    → before ≡ old ++ concat (out_lines actor (take i os)) → now ≡ before ++ unwrap_or (out_line actor o) []
    → now ≡ old ++ concat (out_lines actor (take (i + 1) os))
goes_on actor old before now os i o low is h k =
    let one : i + 1 ≡ suc i = omega arith in
    let more : take (i + 1) os ≡ take i os ++ o ∷ [] =
    rw one (take-suc os i o low ∙ ap (λ (x : Out). take i os ++ x ∷ []) (sym is)) in
    let text : List ℕ = unwrap_or (out_line actor o) [] in
    k
    ∙ ap (λ (xs : List ℕ). xs ++ text) h
    ∙ append_assoc old (concat (out_lines actor (take i os))) text
    ∙ ap (λ (xs : List ℕ). old ++ xs) (sym (one_more actor (take i os) o))
    ∙ ap (λ (xs : List Out). old ++ concat (out_lines actor xs)) (sym more)
