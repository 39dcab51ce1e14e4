-- One line: before it is written none of its bytes are, and words that are taken give it back.
use Rattle.std.proofs.Common.{◌≡◌, ℕ, zero, suc, Bool, true, false, cond, List, [], ◌∷◌, ◌++◌, Option, refl, sym, ap, subst, inl, inr, arith, eqb-true, length-append}
use Rattle.std.specs.Prelude.{◌⊎◌, nat_eq}
use Rattle.std.specs.Cmp.Lexicographic.{pointwise}
use Rattle.std.proofs.KnownBytes.{Appends-nil}
use Rattle.std.proofs.lemmas.Bool.{and_parts}
use Rattle.line_fields.specs.Fields.{is_text}
use Rattle.outside.specs.Prefixes.{AppendsPrefix}
use Rattle.service_words.specs.Lines.{Texts, in_hex, in_words, shown_line}

pub no_line : (h : Option (List ℕ)) (line : List ℕ) → AppendsPrefix h h (line ++ 10 ∷ [])
no_line h line = record { count = 0; below = omega (arith, length-append line (10 ∷ [])); appended = Appends-nil h }

same_bytes : (xs ys : List ℕ) → pointwise nat_eq xs ys ≡ true → xs ≡ ys
same_bytes [] [] e = refl
same_bytes [] (y ∷ ys) e = absurd cc
same_bytes (x ∷ xs) [] e = absurd cc
same_bytes (x ∷ xs) (y ∷ ys) e =
    let p = and_parts (nat_eq x y) (pointwise nat_eq xs ys) e in
    let first = eqb-true x y p.0 in
    let rest = same_bytes xs ys p.1 in
    cc

either : (t : Texts) (line words : List ℕ) (b : Bool) → is_text line (in_hex t words) ≡ b
    → (cond b words line ≡ line) ⊎ (in_hex t (cond b words line) ≡ line)
either t line words true e = inr (same_bytes (in_hex t words) line e)
either t line words false e = inl refl

pub words_again : (t : Texts) (line : List ℕ) → (in_words t line ≡ line) ⊎ (in_hex t (in_words t line) ≡ line)
unfolding in_words
words_again t line = either t line (shown_line t line) (is_text line (in_hex t (shown_line t line))) refl
