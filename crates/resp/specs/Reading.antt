-- Reading a request from left to right, as far as its bytes have come.
use Rattle.std.specs.Prelude.{ℕ, zero, suc, ◌+◌, ◌-◌, ◌*◌, List, [], ◌∷◌, take, drop, length, Bool, nat_le, nat_lt, ◌==◌, ◌&&◌, if◌then◌else◌}
use Rattle.std.specs.Prelude.{Result, Ok, Err}
use Rattle.resp.specs.declared.limits.TheConstants.{MAX_ARGUMENTS, MAX_ARGUMENT_BYTES}
use Rattle.resp.specs.declared.parsed.Fault.{Fault}
use Rattle.resp.specs.declared.parsed.Fault.TheVariants.{Spelling, TooMany, TooLong}
use Rattle.resp.specs.declared.parsed.Stop.{Stop}
use Rattle.resp.specs.declared.parsed.Stop.TheVariants.{More, Wrong}
pub use Rattle.nop_types.specs.Results.{◌>>=◌}

-- what is read, and the bytes after it
abbrev pub Read : Type 0 → Type 0
Read A = Result (A × List ℕ) Stop

-- what follows a carriage return and a line feed
unfoldable pub read_end : List ℕ → Result (List ℕ) Stop
read_end [] = Err More
read_end (c ∷ []) = if c == 13 then Err More else Err (Wrong Spelling)
read_end (c ∷ l ∷ rest) = if (c == 13) && (l == 10) then Ok rest else Err (Wrong Spelling)

abbrev pub is_digit : ℕ → Bool
is_digit b = nat_le 48 b && nat_le b 57

-- the number and one more digit; behind the digit 0 there is none
abbrev pub digit_on : ℕ → Fault → ℕ → ℕ → Result ℕ Stop
digit_on most fault n d =
    if n == 0 then Err (Wrong Spelling)
    else if nat_le (n * 10 + (d - 48)) most then Ok (n * 10 + (d - 48))
    else Err (Wrong fault)

-- the number of which the first digits are read already
unfoldable pub read_digits : ℕ → Fault → ℕ → List ℕ → Read ℕ
read_digits most fault n [] = Err More
read_digits most fault n (d ∷ ds) =
    if is_digit d then digit_on most fault n d >>= (λ m. read_digits most fault m ds)
    else read_end (d ∷ ds) >>= (λ rest. Ok (n, rest))

-- a line of a sign and a number up to `most`
unfoldable pub read_line : ℕ → ℕ → Fault → List ℕ → Read ℕ
read_line sign most fault [] = Err More
read_line sign most fault (s ∷ []) = if s == sign then Err More else Err (Wrong Spelling)
read_line sign most fault (s ∷ d ∷ ds) =
    if (s == sign) && is_digit d then read_digits most fault (d - 48) ds else Err (Wrong Spelling)

-- so many bytes and the end of a line
unfoldable pub read_body : ℕ → List ℕ → Read (List ℕ)
read_body len bytes =
    if nat_lt (length bytes) len then Err More else read_end (drop len bytes) >>= λ rest. Ok (take len bytes, rest)

-- an argument: a line with its length, and its bytes
unfoldable pub read_bulk : List ℕ → Read (List ℕ)
read_bulk bytes = read_line 36 MAX_ARGUMENT_BYTES TooLong bytes >>= λ len. read_body len.0 len.1

-- so many arguments
unfoldable pub read_bulks : ℕ → List ℕ → Read (List (List ℕ))
read_bulks zero bytes = Ok ([], bytes)
read_bulks (suc count) bytes =
    read_bulk bytes >>= λ first.
    read_bulks count first.1 >>= λ others. Ok (first.0 ∷ others.0, others.1)

-- a request: a line with the number of its arguments, and these
unfoldable pub read_request : List ℕ → Read (List (List ℕ))
read_request bytes = read_line 42 MAX_ARGUMENTS TooMany bytes >>= λ count. read_bulks count.0 count.1
