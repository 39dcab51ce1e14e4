-- Lists of bytes, and services that answer with them.
use Rattle.std.proofs.Common.{◌≡◌, ℕ, zero, suc, ◌<◌, true, List, [], ◌∷◌, ◌++◌, Some, refl, subst, arith}
use Rattle.std.specs.Prelude.{nat_lt, nat_eq}
use Rattle.std.proofs.lemmas.Bool.{and_parts, ltb-true, eqb-true}
use Rattle.std.specs.Cmp.Lexicographic.{pointwise}
use Rattle.nop_types.specs.Histories.{answer_from}
use Rattle.nop_types.specs.Lists.{all_below}
use Rattle.nop_types.specs.Meaning.{Meaning}
use Rattle.nop_types.specs.Services.{IsBytes, OpsAreBytes, AnswersAreBytes}
use Rattle.nop_types.specs.declared.request.Request.{Request}
use Rattle.lemmas.proofs.Members.{Has-first, Has-rest}

-- ---- lists

pub no_bytes : IsBytes []
no_bytes i = omega arith

pub byte_first : (b : ℕ) (bs : List ℕ) → b < 256 → IsBytes bs → IsBytes (b ∷ bs)
byte_first b bs small rest zero = small
byte_first b bs small rest (suc i) = rest i

pub bytes_behind : (b : ℕ) (bs : List ℕ) → IsBytes (b ∷ bs) → IsBytes bs
bytes_behind b bs all i = all (suc i)

pub bytes_both : (xs ys : List ℕ) → IsBytes xs → IsBytes ys → IsBytes (xs ++ ys)
bytes_both [] ys prefix back = back
bytes_both (x ∷ xs) ys prefix back = byte_first x (xs ++ ys) (prefix 0) (bytes_both xs ys (bytes_behind x xs prefix) back)

pub bytes_back : (xs ys : List ℕ) → IsBytes (xs ++ ys) → IsBytes ys
bytes_back [] ys all = all
bytes_back (x ∷ xs) ys all = bytes_back xs ys (bytes_behind x (xs ++ ys) all)

pub small_bytes : (xs : List ℕ) → all_below xs 256 ≡ true → IsBytes xs
small_bytes [] e = no_bytes
small_bytes (x ∷ xs) e =
    let p = and_parts (nat_lt x 256) (all_below xs 256) e in
    byte_first x xs (ltb-true x 256 p.0) (small_bytes xs p.1)

-- ---- a service, by what holds of the states that ops of bytes lead to

module _ {S : Type 0} (m : Meaning S) (Is : S → Type 0) (opens : Is m.opening)
    (stays : (s : S) (op : List ℕ) → Is s → IsBytes op → Is (m.after s op))
    (answers : (s : S) (op : List ℕ) → Is s → IsBytes op → IsBytes (m.answer s op)) where
  answers_from : (rs : List Request) (s : S) (i : ℕ) (result : List ℕ) → Is s → OpsAreBytes rs → answer_from m s rs i ≡ Some result
      → IsBytes result
  answers_from [] s i result is all e = absurd cc
  answers_from (r ∷ rs) s zero result is all e =
      let same : m.answer s r.op ≡ result = cc in
      subst IsBytes same (answers s r.op is (all r (Has-first r r rs refl)))
  answers_from (r ∷ rs) s (suc i) result is all e =
      answers_from rs (m.after s r.op) i result (stays s r.op is (all r (Has-first r r rs refl))) (λ q h. all q (Has-rest q r rs h)) e

  pub answers_are_bytes : AnswersAreBytes m
  answers_are_bytes rs i result all e = answers_from rs m.opening i result opens all e

-- ---- texts

pub pointwise-true : (xs ys : List ℕ) → pointwise nat_eq xs ys ≡ true → xs ≡ ys
pointwise-true [] [] e = refl
pointwise-true [] (y ∷ ys) e = absurd cc
pointwise-true (x ∷ xs) [] e = absurd cc
pointwise-true (x ∷ xs) (y ∷ ys) e =
    let p = and_parts (nat_eq x y) (pointwise nat_eq xs ys) e in
    let first = eqb-true x y p.0 in
    let rest = pointwise-true xs ys p.1 in
    cc
