-- Ops one after another.
use Rattle.std.proofs.Common.{◌≡◌, ℕ, ◌+◌, ◌<◌, List, [], ◌∷◌, ◌++◌, map, length, drop, get_or, Option, Some, None, refl, sym, ap, ◌∙◌}
use Rattle.std.proofs.Common.{zero, suc, arith}
use Rattle.std.specs.Borrow.{Bor}
use Rattle.clap.specs.Words.{Text}
use Rattle.command_line.specs.Commands.{op_of, ops_on, with_op}

abbrev texts_of : List (Bor (List ℕ)) → List Text
texts_of xs = map (λ t. t.now) xs

none_on : (texts : List Text) → ops_on None texts ≡ None
none_on [] = refl
none_on (t ∷ ts) = refl

drop_next : (xs : List (Bor (List ℕ))) (i : ℕ) (d : Bor (List ℕ)) → i < length xs
    → drop i (texts_of xs) ≡ (get_or xs i d).now ∷ drop (i + 1) (texts_of xs)
drop_next [] i d lt = absurd (omega (arith, lt))
drop_next (x ∷ xs) zero d lt = refl
drop_next (x ∷ xs) (suc i) d lt =
    let e : suc i + 1 ≡ suc (i + 1) = omega arith in
    rw e (drop_next xs i d (omega (arith, lt)))

op_next : (ops : List (List ℕ)) (xs : List (Bor (List ℕ))) (i : ℕ) (d : Bor (List ℕ)) (r : Option (List ℕ)) → i < length xs
    → op_of (get_or xs i d).now ≡ r → ops_on (Some ops) (drop i (texts_of xs)) ≡ ops_on (with_op ops r) (drop (i + 1) (texts_of xs))
op_next ops xs i d r lt op = ap (ops_on (Some ops)) (drop_next xs i d lt)
    ∙ ap (λ o. ops_on (with_op ops o) (drop (i + 1) (texts_of xs))) op

pub op_stops : (ops : List (List ℕ)) (xs : List (Bor (List ℕ))) (i : ℕ) (d : Bor (List ℕ)) → i < length xs
    → op_of (get_or xs i d).now ≡ None → ops_on (Some ops) (drop i (texts_of xs)) ≡ ops_on (Some []) (texts_of xs)
    → ops_on (Some []) (texts_of xs) ≡ None
op_stops ops xs i d lt none keep = sym keep ∙ op_next ops xs i d None lt none ∙ none_on (drop (i + 1) (texts_of xs))

pub op_goes_on : (ops more : List (List ℕ)) (op : List ℕ) (xs : List (Bor (List ℕ))) (i : ℕ) (d : Bor (List ℕ)) → i < length xs
    → op_of (get_or xs i d).now ≡ Some op → more ≡ ops ++ op ∷ []
    → ops_on (Some ops) (drop i (texts_of xs)) ≡ ops_on (Some []) (texts_of xs)
    → ops_on (Some more) (drop (i + 1) (texts_of xs)) ≡ ops_on (Some []) (texts_of xs)
op_goes_on ops more op xs i d lt some is keep =
    ap (λ o. ops_on (Some o) (drop (i + 1) (texts_of xs))) is ∙ sym (op_next ops xs i d (Some op) lt some) ∙ keep
