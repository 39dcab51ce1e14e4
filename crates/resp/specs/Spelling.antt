-- How a request is spelled: each in one way.
use Rattle.std.specs.Prelude.{◌≡◌, ℕ, ◌<◌, ◌≤◌, List, [], ◌∷◌, ◌++◌, length, decimal, ⊤}
use Rattle.std.specs.List.{flat_map}
use Rattle.resp.specs.declared.limits.TheConstants.{MAX_ARGUMENTS, MAX_ARGUMENT_BYTES}

-- a carriage return and a line feed
abbrev pub line_end : List ℕ
line_end = 13 ∷ 10 ∷ []

-- a sign and a number in decimal
abbrev pub line_of : ℕ → ℕ → List ℕ
line_of sign n = sign ∷ (decimal n ++ line_end)

-- `$` and its length, then its bytes
unfoldable pub bulk : List ℕ → List ℕ
bulk argument = line_of 36 (length argument) ++ (argument ++ line_end)

-- `*` and how many arguments there are, then these
unfoldable pub spelled : List (List ℕ) → List ℕ
spelled arguments = line_of 42 (length arguments) ++ flat_map bulk arguments

abbrev pub AreShort : List (List ℕ) → Type 0
AreShort [] = ⊤
AreShort (argument ∷ others) = (length argument ≤ MAX_ARGUMENT_BYTES) × AreShort others

-- there are no more arguments, and none is longer, than a request may have
pub record IsRequest (arguments : List (List ℕ)) : Type 0 where
  pub few : length arguments ≤ MAX_ARGUMENTS
  pub short : AreShort arguments

-- the bytes begin with the request, and the rest follows it
pub record Begins (bytes : List ℕ) (arguments : List (List ℕ)) (rest : List ℕ) : Type 0 where
  pub fits : IsRequest arguments
  pub is : bytes ≡ spelled arguments ++ rest

-- the bytes are those of a request but for some at its end
pub record AreFront (bytes : List ℕ) : Type 0 where
  pub arguments : List (List ℕ)
  pub missing : List ℕ
  pub fits : IsRequest arguments
  pub some : 0 < length missing
  pub is : bytes ++ missing ≡ spelled arguments
