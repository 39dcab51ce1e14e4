-- A greeting and its bytes.
use Rattle.std.proofs.Common.{◌≡◌, ℕ, zero, suc, Bool, true, false, cond, List, [], ◌∷◌, ◌++◌, length, take, drop, refl}
use Rattle.std.proofs.Common.{sym, ap, ◌∙◌, arith, eqb-true, Ok, Err, append_assoc, length-take, length-drop}
use Rattle.std.proofs.lemmas.List.{take-append-drop, drop-drop}
use Rattle.std.specs.Prelude.{◌==◌, ◌&&◌, Result, slice_index}
use Rattle.std.specs.Int.{w32, w64, to_be_bytes, from_be_bytes}
use Rattle.std.proofs.lemmas.Bool.{and_parts}
use Rattle.std.proofs.lemmas.Nat.{from_be_bytes-to_be_bytes_4, from_be_bytes-to_be_bytes_8, be_bytes_4, be_bytes_8}
use Rattle.nop_types.specs.declared.kinds.TheConstants.{FIRST_MAGIC}
use Rattle.admission.specs.declared.greeting.TheConstants.{HELLO_MAGIC, GREETING_BYTES}
use Rattle.admission.specs.declared.greeting.Greeting.{Greeting}
use Rattle.admission.specs.declared.greeting.Word.{Word}
use Rattle.admission.specs.declared.greeting.Word.TheVariants as words
use Rattle.admission.specs.declared.greeting.BadGreeting.{BadGreeting}
use Rattle.admission.specs.declared.greeting.BadGreeting.TheVariants as bad
use Rattle.admission.specs.Greetings.{AreBytes, GreetingFits, reading, spelling, with_word, word_named, word_number}

word_again : (w : Word) → word_named (word_number w) ≡ Ok w
word_again words.Ask = refl
word_again words.Claim = refl
word_again words.Free = refl
word_again words.Noted = refl
word_again words.Taken = refl
word_again words.Foreign = refl

-- the fields behind the word
abbrev body : Greeting → List ℕ
body g = to_be_bytes w64 g.digest ++ to_be_bytes w32 g.number ++ to_be_bytes w64 g.process

body_again : (g : Greeting) → GreetingFits g → with_word (Ok g.word) (body g) ≡ Ok g
body_again g fits =
    let d = from_be_bytes-to_be_bytes_8 g.digest fits.digest in
    let n = from_be_bytes-to_be_bytes_4 g.number fits.number in
    let p = from_be_bytes-to_be_bytes_8 g.process fits.process in
    λ i. Ok (record { word = g.word; digest = d i; number = n i; process = p i })

pub spelled_is_read : (g : Greeting) → GreetingFits g → reading (spelling g) ≡ Ok g
unfolding reading spelling
spelled_is_read g fits = ap (λ (r : Result Word BadGreeting). with_word r (body g)) (word_again g.word) ∙ body_again g fits

-- ---- back

bytes_dropped : (n : ℕ) (xs : List ℕ) → AreBytes xs → AreBytes (drop n xs)
bytes_dropped zero xs h = h
bytes_dropped (suc n) [] h = h
bytes_dropped (suc n) (x ∷ xs) h = bytes_dropped n xs (λ i. h (suc i))

bytes_taken : (n : ℕ) (xs : List ℕ) → AreBytes xs → AreBytes (take n xs)
bytes_taken zero xs h = λ i. omega arith
bytes_taken (suc n) [] h = h
bytes_taken (suc n) (x ∷ xs) h = first_or (bytes_taken n xs (λ i. h (suc i)))
  where
    first_or : AreBytes (take n xs) → AreBytes (x ∷ take n xs)
    first_or rest zero = h zero
    first_or rest (suc i) = rest i

named_by : (b : Bool) (n k : ℕ) (v w : Word) (rest : Result Word BadGreeting) → (n == k) ≡ b → word_number v ≡ k
    → (rest ≡ Ok w → n ≡ word_number w) → cond b (Ok v) rest ≡ Ok w → n ≡ word_number w
named_by true n k v w rest t is later e = let same : v ≡ w = cc in eqb-true n k t ∙ sym is ∙ ap word_number same
named_by false n k v w rest t is later e = later e

named_back : (n : ℕ) (w : Word) → word_named n ≡ Ok w → n ≡ word_number w
named_back n w e =
    named_by (n == 1) n 1 words.Ask w _ refl refl
    (λ f.
    named_by (n == 2) n 2 words.Claim w _ refl refl
    (λ g.
    named_by (n == 3) n 3 words.Free w _ refl refl
    (λ h.
    named_by (n == 4) n 4 words.Noted w _ refl refl
    (λ k.
    named_by (n == 5) n 5 words.Taken w _ refl refl
    (λ l. named_by (n == 6) n 6 words.Foreign w (Err bad.Word) refl refl (λ m. absurd cc) l) k) h) g) f)
    e

three_first : (bytes : List ℕ) → length bytes ≡ 23
    → (bytes ≡ slice_index bytes 0 ∷ slice_index bytes 1 ∷ slice_index bytes 2 ∷ drop 3 bytes) × (length (drop 3 bytes) ≡ 20)
three_first [] e = absurd (omega (arith, e))
three_first (a ∷ []) e = absurd (omega (arith, e))
three_first (a ∷ b ∷ []) e = absurd (omega (arith, e))
three_first (a ∷ b ∷ c ∷ rest) e = (refl, omega (arith, e))

abbrev fields_in : Word → List ℕ → Greeting
fields_in w rest =
    record {
      word = w;
      digest = from_be_bytes w64 (take 8 rest);
      number = from_be_bytes w32 (take 4 (drop 8 rest));
      process = from_be_bytes w64 (drop 12 rest);
    }

body_back : (w : Word) (rest : List ℕ) → length rest ≡ 20 → AreBytes rest → body (fields_in w rest) ≡ rest
body_back w rest len are =
    let d = be_bytes_8 (take 8 rest) (from_be_bytes w64 (take 8 rest)) (omega (arith, length-take 8 rest)) (bytes_taken 8 rest are) refl in
    let n =
    be_bytes_4 (take 4 (drop 8 rest)) (from_be_bytes w32 (take 4 (drop 8 rest)))
    (omega (arith, length-take 4 (drop 8 rest), length-drop 8 rest))
    (bytes_taken 4 (drop 8 rest) (bytes_dropped 8 rest are)) refl in
    let p = be_bytes_8 (drop 12 rest) (from_be_bytes w64 (drop 12 rest)) (omega (arith, length-drop 12 rest)) (bytes_dropped 12 rest are) refl in
    let joined : body (fields_in w rest) ≡ take 8 rest ++ take 4 (drop 8 rest) ++ drop 12 rest = λ i. d i ++ n i ++ p i in
    joined
    ∙ append_assoc (take 8 rest) (take 4 (drop 8 rest)) (drop 12 rest)
    ∙ ap (λ (xs : List ℕ). take 8 rest ++ (take 4 (drop 8 rest) ++ xs)) (sym (drop-drop 4 8 rest))
    ∙ ap (λ (xs : List ℕ). take 8 rest ++ xs) (take-append-drop 4 (drop 8 rest))
    ∙ take-append-drop 8 rest

record Starts (bytes : List ℕ) : Type 0 where
  len : length bytes ≡ 23
  first : slice_index bytes 0 ≡ FIRST_MAGIC
  second : slice_index bytes 1 ≡ HELLO_MAGIC

spelled_by : (o : Result Word BadGreeting) (bytes : List ℕ) (g : Greeting) → AreBytes bytes → Starts bytes
    → word_named (slice_index bytes 2) ≡ o → with_word o (drop 3 bytes) ≡ Ok g → bytes ≡ spelling g
unfolding spelling
spelled_by (Err x) bytes g are h o e = absurd cc
spelled_by (Ok w) bytes g are h o e =
    let is : fields_in w (drop 3 bytes) ≡ g = cc in
    let three = three_first bytes h.len in
    let third = named_back (slice_index bytes 2) w o in
    let back = body_back w (drop 3 bytes) three.1 (bytes_dropped 3 bytes are) in
    let made : bytes ≡ FIRST_MAGIC ∷ HELLO_MAGIC ∷ word_number w ∷ body (fields_in w (drop 3 bytes)) =
    three.0 ∙ λ i. h.first i ∷ h.second i ∷ third i ∷ (sym back) i in
    made ∙ ap (λ (x : Greeting). FIRST_MAGIC ∷ HELLO_MAGIC ∷ word_number x.word ∷ body x) is

by_magic : (b : Bool) (bytes : List ℕ) (g : Greeting) → AreBytes bytes → length bytes ≡ 23
    → ((slice_index bytes 0 == FIRST_MAGIC) && (slice_index bytes 1 == HELLO_MAGIC)) ≡ b
    → cond b (with_word (word_named (slice_index bytes 2)) (drop 3 bytes)) (Err bad.Magic) ≡ Ok g → bytes ≡ spelling g
by_magic false bytes g are len t e = absurd cc
by_magic true bytes g are len t e =
    let both = and_parts (slice_index bytes 0 == FIRST_MAGIC) (slice_index bytes 1 == HELLO_MAGIC) t in
    spelled_by (word_named (slice_index bytes 2)) bytes g are
    (record {
      len = len;
      first = eqb-true (slice_index bytes 0) FIRST_MAGIC both.0;
      second = eqb-true (slice_index bytes 1) HELLO_MAGIC both.1;
    }) refl e

by_length : (b : Bool) (bytes : List ℕ) (g : Greeting) → AreBytes bytes → (length bytes == GREETING_BYTES) ≡ b
    → cond b
    (cond ((slice_index bytes 0 == FIRST_MAGIC) && (slice_index bytes 1 == HELLO_MAGIC))
    (with_word (word_named (slice_index bytes 2)) (drop 3 bytes)) (Err bad.Magic))
    (Err bad.Length)
    ≡ Ok g → bytes ≡ spelling g
by_length false bytes g are t e = absurd cc
by_length true bytes g are t e = by_magic _ bytes g are (eqb-true (length bytes) GREETING_BYTES t) refl e

pub read_is_spelled : (bytes : List ℕ) (g : Greeting) → AreBytes bytes → reading bytes ≡ Ok g → bytes ≡ spelling g
unfolding reading
read_is_spelled bytes g are e = by_length (length bytes == GREETING_BYTES) bytes g are refl e
