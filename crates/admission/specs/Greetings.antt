-- How a greeting is spelled, and what bytes spell.
use Rattle.std.specs.Prelude.{◌<◌, ◌^◌, ℕ, List, ◌∷◌, ◌++◌, length, take, drop, slice_index, Result, Ok, Err, ◌==◌, ◌&&◌}
use Rattle.std.specs.Prelude.{if◌then◌else◌}
use Rattle.std.specs.Int.{w32, w64, to_be_bytes, from_be_bytes}
use Rattle.nop_types.specs.declared.kinds.TheConstants.{FIRST_MAGIC}
use Rattle.admission.specs.declared.greeting.TheConstants.{HELLO_MAGIC, GREETING_BYTES}
use Rattle.admission.specs.declared.greeting.Greeting.{Greeting}
use Rattle.admission.specs.declared.greeting.Word.{Word}
use Rattle.admission.specs.declared.greeting.Word.TheVariants.{Ask, Claim, Free, Noted, Taken, Foreign}
use Rattle.admission.specs.declared.greeting.BadGreeting.{BadGreeting}
use Rattle.admission.specs.declared.greeting.BadGreeting.TheVariants as bad

abbrev pub word_number : Word → ℕ
word_number Ask = 1
word_number Claim = 2
word_number Free = 3
word_number Noted = 4
word_number Taken = 5
word_number Foreign = 6

abbrev pub word_named : ℕ → Result Word BadGreeting
word_named n =
    if n == 1 then Ok Ask
    else if n == 2 then Ok Claim
    else if n == 3 then Ok Free
    else if n == 4 then Ok Noted
    else if n == 5 then Ok Taken
    else if n == 6 then Ok Foreign
    else Err bad.Word

-- the letters N and H, the word, the digest, the number and the process, high bytes first
unfoldable pub spelling : Greeting → List ℕ
spelling g =
    FIRST_MAGIC ∷ HELLO_MAGIC ∷ word_number g.word
    ∷ (to_be_bytes w64 g.digest ++ to_be_bytes w32 g.number ++ to_be_bytes w64 g.process)

abbrev pub with_word : Result Word BadGreeting → List ℕ → Result Greeting BadGreeting
with_word (Err e) rest = Err e
with_word (Ok word) rest =
    Ok
    (record {
      word = word;
      digest = from_be_bytes w64 (take 8 rest);
      number = from_be_bytes w32 (take 4 (drop 8 rest));
      process = from_be_bytes w64 (drop 12 rest);
    })

-- the greeting, or the first test that the bytes fail: their count, the two letters, the word
unfoldable pub reading : List ℕ → Result Greeting BadGreeting
reading bytes =
    if length bytes == GREETING_BYTES then
    (if (slice_index bytes 0 == FIRST_MAGIC) && (slice_index bytes 1 == HELLO_MAGIC)
    then with_word (word_named (slice_index bytes 2)) (drop 3 bytes)
    else Err bad.Magic)
    else Err bad.Length

-- what its fields can hold
pub record GreetingFits (g : Greeting) : Type 0 where
  pub digest : g.digest < 2 ^ 64
  pub number : g.number < 2 ^ 32
  pub process : g.process < 2 ^ 64

-- each is a byte
abbrev pub AreBytes : List ℕ → Type 0
AreBytes bytes = (i : ℕ) → slice_index bytes i < 256
