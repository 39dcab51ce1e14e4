-- A list is cut at the first element that passes a test, and what that gives of lines and words.
use Rattle.std.proofs.Common.{◌≡◌, ℕ, suc, ◌+◌, Bool, true, false, not, nat_lt, cond, List, [], ◌∷◌, length, take, drop}
use Rattle.std.proofs.Common.{Option, Some, None, refl, ap, ◌∙◌, arith, position}
use Rattle.std.specs.Prelude.{◌==◌}
use Rattle.std.specs.List.{slice_split, position_or_len, before_first}
use Rattle.std.proofs.Math.Seq.{take-length}
use Rattle.std.proofs.lemmas.Bool.{ltb-true}
use Rattle.std.proofs.lemmas.Bool.Decides.{nat_tests}
use Rattle.std.proofs.lemmas.List.Sums.{prefix_len-le-length, fails_before_first}
use Rattle.std.proofs.lemmas.List.Splits.{slice_split_first, slice_split_none}
use Rattle.host_list.specs.Words.{is_blank, other_pieces, other_words, words_in}

-- the parts, by the place of the first element that passes
abbrev pub parts_by : (ℕ → Bool) → List ℕ → Option ℕ → List (List ℕ)
parts_by p xs None = xs ∷ []
parts_by p xs (Some i) = take i xs ∷ slice_split p (drop (i + 1) xs)

all_before : (p : ℕ → Bool) (xs : List ℕ) → nat_lt (position_or_len p xs) (length xs) ≡ false → position_or_len p xs ≡ length xs
all_before p xs e = grind (arith, nat_tests, e, prefix_len-le-length (λ b. not (p b)) xs)

by_place : (found : Bool) (p : ℕ → Bool) (xs : List ℕ) → nat_lt (position_or_len p xs) (length xs) ≡ found
    → slice_split p xs ≡ parts_by p xs (cond found (Some (position_or_len p xs)) None)
by_place true p xs e = slice_split_first p xs 0 (ltb-true (position_or_len p xs) (length xs) e)
by_place false p xs e =
    let all = all_before p xs e in
    slice_split_none p xs (λ k d l. fails_before_first p xs k d (omega (arith, all, l)))

-- the first part and the others
pub split_at_place : (p : ℕ → Bool) (xs : List ℕ) → slice_split p xs ≡ parts_by p xs (position p xs)
split_at_place p xs = by_place (nat_lt (position_or_len p xs) (length xs)) p xs refl

-- what stands before, by the place of the first element that passes
abbrev pub before_by : List ℕ → Option ℕ → List ℕ
before_by xs None = xs
before_by xs (Some i) = take i xs

before_at : (found : Bool) (p : ℕ → Bool) (xs : List ℕ) → nat_lt (position_or_len p xs) (length xs) ≡ found
    → before_first p xs ≡ before_by xs (cond found (Some (position_or_len p xs)) None)
before_at true p xs e = refl
before_at false p xs e = rw (all_before p xs e) (take-length xs)

pub before_place : (p : ℕ → Bool) (xs : List ℕ) → before_first p xs ≡ before_by xs (position p xs)
before_place p xs = before_at (nat_lt (position_or_len p xs) (length xs)) p xs refl

-- how much is left: one more than there are bytes, where there is something
abbrev pub size : Option (List ℕ) → ℕ
size None = 0
size (Some xs) = suc (length xs)

-- ---- words

word_or : (b : Bool) (piece : List ℕ) (more : Option (List ℕ)) → (length piece == 0) ≡ b
    → words_in (piece ∷ other_pieces more) ≡ cond b (other_words more) (piece ∷ other_words more)
word_or b piece more e = ap (λ (x : Bool). cond (not x) (piece ∷ other_words more) (other_words more)) e ∙ turned_round b
  where
    turned_round : (x : Bool) → cond (not x) (piece ∷ other_words more) (other_words more) ≡ cond x (other_words more) (piece ∷ other_words more)
    turned_round true = refl
    turned_round false = refl

-- an empty piece is no word, any other one is
pub piece_is_word : (line piece : List ℕ) (more : Option (List ℕ)) (b : Bool) → slice_split is_blank line ≡ piece ∷ other_pieces more
    → (length piece == 0) ≡ b → words_in (slice_split is_blank line) ≡ cond b (other_words more) (piece ∷ other_words more)
piece_is_word line piece more b pieces e = ap words_in pieces ∙ word_or b piece more e
