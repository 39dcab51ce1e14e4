-- A line of a sign and a number: read as it is spelled, and only so.
use Rattle.std.proofs.Common.{◌≡◌, ℕ, zero, suc, ◌+◌, ◌-◌, ◌*◌, ◌<◌, ◌≤◌, Bool, true, false, cond, List, [], ◌∷◌, ◌++◌, length, Result, Ok, Err}
use Rattle.std.proofs.Common.{refl, sym, ap, subst, ◌∙◌, arith, append_assoc, append-nil, decimal}
use Rattle.std.specs.Prelude.{⊤, nat_le, ◌==◌, ◌&&◌}
use Rattle.std.proofs.lemmas.Bool.{and_parts, eq-eqb, eqb-true}
use Rattle.std.proofs.lemmas.Bool.Decides.{nat_tests}
use Rattle.std.proofs.lemmas.Fmt.{decimal_digit}
use Rattle.std.proofs.lemmas.List.{length-append}
use Rattle.resp.specs.declared.parsed.Fault.{Fault}
use Rattle.resp.specs.declared.parsed.Fault.TheVariants.{Spelling}
use Rattle.resp.specs.declared.parsed.Stop.{Stop}
use Rattle.resp.specs.declared.parsed.Stop.TheVariants.{More, Wrong}
use Rattle.resp.specs.Reading.{Read, ◌>>=◌, read_end, is_digit, digit_on, read_digits, read_line}
use Rattle.resp.specs.Spelling.{line_end, line_of}
use Rattle.resp.proofs.Readers.{Front, IsTrueOf, Stays}
use Rattle.resp.proofs.Numerals.{value_on, AreDigits, IsNumeral, decimal_numeral, le_value, decimal_on}

-- ---- the end of a line

pub record FrontOfEnd (bytes : List ℕ) : Type 0 where
  pub missing : List ℕ
  pub some : 0 < length missing
  pub is : bytes ++ missing ≡ line_end

abbrev pub IsEnd : List ℕ → Result (List ℕ) Stop → Type 0
IsEnd bytes (Ok rest) = bytes ≡ line_end ++ rest
IsEnd bytes (Err More) = FrontOfEnd bytes
IsEnd bytes (Err (Wrong fault)) = ⊤

one_end : (c : ℕ) (b : Bool) → (c == 13) ≡ b → IsEnd (c ∷ []) (cond b (Err More) (Err (Wrong Spelling)))
one_end c true e =
    let same = eqb-true c 13 e in
    record { missing = 10 ∷ []; some = omega arith; is = ap (λ (x : ℕ). x ∷ 10 ∷ []) same }
one_end c false e = tt

two_end : (c l : ℕ) (rest : List ℕ) (b : Bool) → ((c == 13) && (l == 10)) ≡ b
    → IsEnd (c ∷ l ∷ rest) (cond b (Ok rest) (Err (Wrong Spelling)))
two_end c l rest true e =
    let both = and_parts (c == 13) (l == 10) e in
    let first = eqb-true c 13 both.0 in
    let second = eqb-true l 10 both.1 in
    ap (λ (x : ℕ). x ∷ l ∷ rest) first ∙ ap (λ (x : ℕ). 13 ∷ x ∷ rest) second
two_end c l rest false e = tt

pub end_is : (bytes : List ℕ) → IsEnd bytes (read_end bytes)
unfolding read_end
end_is [] = record { missing = line_end; some = omega arith; is = refl }
end_is (c ∷ []) = one_end c (c == 13) refl
end_is (c ∷ l ∷ rest) = two_end c l rest _ refl

abbrev pub EndStays : List ℕ → Result (List ℕ) Stop → Result (List ℕ) Stop → Type 0
EndStays more (Ok rest) y = y ≡ Ok (rest ++ more)
EndStays more (Err More) y = ⊤
EndStays more (Err (Wrong fault)) y = y ≡ Err (Wrong fault)

two_stay : (more rest : List ℕ) (b : Bool)
    → EndStays more (cond b (Ok rest) (Err (Wrong Spelling))) (cond b (Ok (rest ++ more)) (Err (Wrong Spelling)))
two_stay more rest true = refl
two_stay more rest false = refl

not_both : (a b : Bool) → a ≡ false → (a && b) ≡ false
not_both true b e = absurd cc
not_both false b e = refl

one_stays : (c : ℕ) (more : List ℕ) (b : Bool) → (c == 13) ≡ b
    → EndStays more (cond b (Err More) (Err (Wrong Spelling))) (read_end (c ∷ more))
unfolding read_end
one_stays c more true e = tt
one_stays c [] false e = rw e refl
one_stays c (l ∷ more) false e = rw (not_both (c == 13) (l == 10) e) refl

pub end_stays : (bytes more : List ℕ) → EndStays more (read_end bytes) (read_end (bytes ++ more))
unfolding read_end
end_stays [] more = tt
end_stays (c ∷ []) more = one_stays c more (c == 13) refl
end_stays (c ∷ l ∷ rest) more = two_stay more rest _

pub end_again : (rest : List ℕ) → read_end (line_end ++ rest) ≡ Ok rest
unfolding read_end
end_again rest = refl

-- ---- digits

-- what follows the number so far, where `v` is the whole one
pub record Goes (most n v : ℕ) (s : List ℕ) : Type 0 where
  pub digits : List ℕ
  pub fits : v ≤ most
  pub is : decimal v ≡ decimal n ++ digits
  pub spelled : s ≡ digits ++ line_end

-- the number, where its digits are over
abbrev with_number : ℕ → Result (List ℕ) Stop → Read ℕ
with_number n x = x >>= λ rest. Ok (n, rest)

no_digit : (most n : ℕ) (bytes : List ℕ) → n ≤ most → (x : Result (List ℕ) Stop) → IsEnd bytes x
    → IsTrueOf (Goes most n) bytes (with_number n x)
no_digit most n bytes le (Ok rest) h = record {
  spelling = line_end;
  spells = record { digits = []; fits = le; is = sym (append-nil (decimal n)); spelled = refl };
  is = h;
}
no_digit most n bytes le (Err More) h = record {
  value = n;
  spelling = line_end;
  missing = h.missing;
  spells = record { digits = []; fits = le; is = sym (append-nil (decimal n)); spelled = refl };
  some = h.some;
  is = h.is;
}
no_digit most n bytes le (Err (Wrong fault)) h = tt

longer : (most n m v d : ℕ) (s : List ℕ) → decimal m ≡ decimal n ++ d ∷ [] → Goes most m v s → Goes most n v (d ∷ s)
longer most n m v d s e h = record {
  digits = d ∷ h.digits;
  fits = h.fits;
  is = h.is ∙ ap (λ (l : List ℕ). l ++ h.digits) e ∙ append_assoc (decimal n) (d ∷ []) h.digits;
  spelled = ap (λ (l : List ℕ). d ∷ l) h.spelled;
}

one_longer : (most n m d : ℕ) (ds : List ℕ) → decimal m ≡ decimal n ++ d ∷ [] → (x : Read ℕ) → IsTrueOf (Goes most m) ds x
    → IsTrueOf (Goes most n) (d ∷ ds) x
one_longer most n m d ds e (Ok p) h = record {
  spelling = d ∷ h.spelling;
  spells = longer most n m p.0 d h.spelling e h.spells;
  is = ap (λ (l : List ℕ). d ∷ l) h.is;
}
one_longer most n m d ds e (Err More) h = record {
  value = h.value;
  spelling = d ∷ h.spelling;
  missing = h.missing;
  spells = longer most n m h.value d h.spelling e h.spells;
  some = h.some;
  is = ap (λ (l : List ℕ). d ∷ l) h.is;
}
one_longer most n m d ds e (Err (Wrong fault)) h = tt

digit_read : (most : ℕ) (fault : Fault) (n d : ℕ) (ds : List ℕ) (none fits : Bool) → (n == 0) ≡ none
    → nat_le (n * 10 + (d - 48)) most ≡ fits → is_digit d ≡ true → most ≤ 100000
    → ((m : ℕ) → m ≤ most → IsTrueOf (Goes most m) ds (read_digits most fault m ds))
    → IsTrueOf (Goes most n) (d ∷ ds)
    (cond none (Err (Wrong Spelling)) (cond fits (Ok (n * 10 + (d - 48))) (Err (Wrong fault))) >>= λ m. read_digits most fault m ds)
digit_read most fault n d ds true fits z f digit small rec = tt
digit_read most fault n d ds false false z f digit small rec = tt
digit_read most fault n d ds false true z f digit small rec =
    let some : 0 < n = grind (arith, nat_tests) in
    let low : 48 ≤ d = grind (arith, nat_tests) in
    let high : d ≤ 57 = grind (arith, nat_tests) in
    let le : n * 10 + (d - 48) ≤ most = grind (arith, nat_tests) in
    one_longer most n (n * 10 + (d - 48)) d ds (decimal_on n d some low high (omega arith)) _ (rec (n * 10 + (d - 48)) le)

byte_read : (most : ℕ) (fault : Fault) (n d : ℕ) (ds : List ℕ) (digit : Bool) → is_digit d ≡ digit → n ≤ most → most ≤ 100000
    → ((m : ℕ) → m ≤ most → IsTrueOf (Goes most m) ds (read_digits most fault m ds))
    → IsTrueOf (Goes most n) (d ∷ ds)
    (cond digit (digit_on most fault n d >>= λ m. read_digits most fault m ds) (with_number n (read_end (d ∷ ds))))
byte_read most fault n d ds true e le small rec = digit_read most fault n d ds _ _ refl refl e small rec
byte_read most fault n d ds false e le small rec = no_digit most n (d ∷ ds) le (read_end (d ∷ ds)) (end_is (d ∷ ds))

pub digits_are : (most : ℕ) (fault : Fault) (n : ℕ) (bytes : List ℕ) → n ≤ most → most ≤ 100000
    → IsTrueOf (Goes most n) bytes (read_digits most fault n bytes)
unfolding read_digits
digits_are most fault n [] le small = record {
  value = n;
  spelling = line_end;
  missing = line_end;
  spells = record { digits = []; fits = le; is = sym (append-nil (decimal n)); spelled = refl };
  some = omega arith;
  is = refl;
}
digits_are most fault n (d ∷ ds) le small = byte_read most fault n d ds _ refl le small (λ m l. digits_are most fault m ds l small)

-- ---- more bytes behind digits

no_digit_stays : (n : ℕ) (more : List ℕ) (x y : Result (List ℕ) Stop) → EndStays more x y
    → Stays more (with_number n x) (with_number n y)
no_digit_stays n more (Ok rest) y h = ap (with_number n) h
no_digit_stays n more (Err More) y h = tt
no_digit_stays n more (Err (Wrong fault)) y h = ap (with_number n) h

digit_stays : (more : List ℕ) (x : Result ℕ Stop) (f g : ℕ → Read ℕ) → ((m : ℕ) → Stays more (f m) (g m))
    → Stays more (x >>= f) (x >>= g)
digit_stays more (Ok m) f g h = h m
digit_stays more (Err More) f g h = tt
digit_stays more (Err (Wrong fault)) f g h = refl

either_stays : (more : List ℕ) (b : Bool) (w x y z : Read ℕ) → Stays more w y → Stays more x z → Stays more (cond b w x) (cond b y z)
either_stays more true w x y z h k = h
either_stays more false w x y z h k = k

pub digits_stay : (most : ℕ) (fault : Fault) (n : ℕ) (bytes more : List ℕ)
    → Stays more (read_digits most fault n bytes) (read_digits most fault n (bytes ++ more))
unfolding read_digits
digits_stay most fault n [] more = tt
digits_stay most fault n (d ∷ ds) more =
    either_stays more (is_digit d) _ _ _ _
    (digit_stays more (digit_on most fault n d) (λ m. read_digits most fault m ds) (λ m. read_digits most fault m (ds ++ more))
    (λ m. digits_stay most fault m ds more))
    (no_digit_stays n more (read_end (d ∷ ds)) (read_end (d ∷ (ds ++ more))) (end_stays (d ∷ ds) more))

-- ---- digits that are spelled

digit_goes : (most : ℕ) (fault : Fault) (n d : ℕ) → 0 < n → n * 10 + (d - 48) ≤ most → digit_on most fault n d ≡ Ok (n * 10 + (d - 48))
digit_goes most fault n d some le =
    let none : (n == 0) ≡ false = grind (arith, nat_tests) in
    let fits : nat_le (n * 10 + (d - 48)) most ≡ true = grind (arith, nat_tests) in
    rw (none, fits) refl

pub digits_again : (most : ℕ) (fault : Fault) (n : ℕ) (ds rest : List ℕ) → AreDigits ds → (n ≡ 0 → ds ≡ []) → value_on n ds ≤ most
    → read_digits most fault n (ds ++ (line_end ++ rest)) ≡ Ok (value_on n ds, rest)
unfolding read_digits read_end
digits_again most fault n [] rest h lead le = refl
digits_again most fault n (d ∷ ds) rest h lead le =
    let some : 0 < n = positive n (λ z. no_cons (lead z)) in
    let under = le_value (n * 10 + (d - 48)) ds in
    let fits : n * 10 + (d - 48) ≤ most = omega arith in
    rw (h.0, digit_goes most fault n d some fits)
    (digits_again most fault (n * 10 + (d - 48)) ds rest h.1 (λ z. absurd (omega arith)) le)
  where
    no_cons : d ∷ ds ≡ [] → ⊥
    no_cons e = cc

    positive : (m : ℕ) → (m ≡ 0 → ⊥) → 0 < m
    positive zero h = absurd (h refl)
    positive (suc m) h = omega arith

-- ---- the line

pub record IsLine (sign most v : ℕ) (s : List ℕ) : Type 0 where
  pub fits : v ≤ most
  pub is : s ≡ line_of sign v

a_line : (sign most d v : ℕ) (s : List ℕ) → is_digit d ≡ true → Goes most (d - 48) v s → IsLine sign most v (sign ∷ d ∷ s)
a_line sign most d v s digit h =
    let low : 48 ≤ d = grind (arith, nat_tests) in
    let high : d ≤ 57 = grind (arith, nat_tests) in
    let back : 48 + (d - 48) ≡ d = omega arith in
    let one : decimal (d - 48) ≡ d ∷ [] = decimal_digit (d - 48) (omega arith) ∙ ap (λ (b : ℕ). b ∷ []) back in
    record {
      fits = h.fits;
      is = ap (λ (l : List ℕ). sign ∷ l)
          (ap (λ (l : List ℕ). d ∷ l) h.spelled ∙ ap (λ (l : List ℕ). l ++ line_end) (sym (h.is ∙ ap (λ (l : List ℕ). l ++ h.digits) one)));
    }

first_digit : (sign most d : ℕ) (ds : List ℕ) → is_digit d ≡ true → (x : Read ℕ) → IsTrueOf (Goes most (d - 48)) ds x
    → IsTrueOf (IsLine sign most) (sign ∷ d ∷ ds) x
first_digit sign most d ds digit (Ok p) h = record {
  spelling = sign ∷ d ∷ h.spelling;
  spells = a_line sign most d p.0 h.spelling digit h.spells;
  is = ap (λ (l : List ℕ). sign ∷ d ∷ l) h.is;
}
first_digit sign most d ds digit (Err More) h = record {
  value = h.value;
  spelling = sign ∷ d ∷ h.spelling;
  missing = h.missing;
  spells = a_line sign most d h.value h.spelling digit h.spells;
  some = h.some;
  is = ap (λ (l : List ℕ). sign ∷ d ∷ l) h.is;
}
first_digit sign most d ds digit (Err (Wrong fault)) h = tt

none_yet : (sign most : ℕ) (bytes missing : List ℕ) → bytes ++ missing ≡ line_of sign 0 → 0 < length missing
    → Front (IsLine sign most) bytes
none_yet sign most bytes missing e some = record {
  value = 0;
  spelling = line_of sign 0;
  missing = missing;
  spells = record { fits = omega arith; is = refl };
  some = some;
  is = e;
}

sign_alone : (sign most s : ℕ) (b : Bool) → (s == sign) ≡ b
    → IsTrueOf (IsLine sign most) (s ∷ []) (cond b (Err More) (Err (Wrong Spelling)))
sign_alone sign most s true e =
    let same = eqb-true s sign e in
    none_yet sign most (s ∷ []) (decimal 0 ++ line_end) (ap (λ (x : ℕ). x ∷ (decimal 0 ++ line_end)) same)
    (omega (arith, length-append (decimal 0) line_end))
sign_alone sign most s false e = tt

sign_before : (sign most : ℕ) (fault : Fault) (s d : ℕ) (ds : List ℕ) (b : Bool) → ((s == sign) && is_digit d) ≡ b → 9 ≤ most
    → most ≤ 100000
    → IsTrueOf (IsLine sign most) (s ∷ d ∷ ds) (cond b (read_digits most fault (d - 48) ds) (Err (Wrong Spelling)))
sign_before sign most fault s d ds true e least small =
    let both = and_parts (s == sign) (is_digit d) e in
    let same = eqb-true s sign both.0 in
    let digit = both.1 in
    let low : d - 48 ≤ most = grind (arith, nat_tests) in
    subst (λ (x : ℕ). IsTrueOf (IsLine sign most) (x ∷ d ∷ ds) (read_digits most fault (d - 48) ds)) (sym same)
    (first_digit sign most d ds digit _ (digits_are most fault (d - 48) ds low small))
sign_before sign most fault s d ds false e least small = tt

pub line_is : (sign most : ℕ) (fault : Fault) (bytes : List ℕ) → 9 ≤ most → most ≤ 100000
    → IsTrueOf (IsLine sign most) bytes (read_line sign most fault bytes)
unfolding read_line
line_is sign most fault [] least small = none_yet sign most [] (line_of sign 0) refl (omega arith)
line_is sign most fault (s ∷ []) least small = sign_alone sign most s _ refl
line_is sign most fault (s ∷ d ∷ ds) least small = sign_before sign most fault s d ds _ refl least small

sign_stays : (sign most : ℕ) (fault : Fault) (s : ℕ) (more : List ℕ) (b : Bool) → (s == sign) ≡ b
    → Stays {A = ℕ} more (cond b (Err More) (Err (Wrong Spelling))) (read_line sign most fault (s ∷ more))
unfolding read_line
sign_stays sign most fault s more true e = tt
sign_stays sign most fault s [] false e = rw e refl
sign_stays sign most fault s (d ∷ more) false e = rw (not_both (s == sign) (is_digit d) e) refl

pub line_stays : (sign most : ℕ) (fault : Fault) (bytes more : List ℕ)
    → Stays more (read_line sign most fault bytes) (read_line sign most fault (bytes ++ more))
unfolding read_line
line_stays sign most fault [] more = tt
line_stays sign most fault (s ∷ []) more = sign_stays sign most fault s more (s == sign) refl
line_stays sign most fault (s ∷ d ∷ ds) more =
    either_stays more ((s == sign) && is_digit d) _ _ _ _ (digits_stay most fault (d - 48) ds more) refl

numeral_again : (sign most : ℕ) (fault : Fault) (n : ℕ) (ds rest : List ℕ) → IsNumeral n ds → n ≤ most
    → read_line sign most fault (sign ∷ ((ds ++ line_end) ++ rest)) ≡ Ok (n, rest)
unfolding read_line
numeral_again sign most fault n ds rest h le =
    let own = eq-eqb sign sign refl in
    let digits = digits_again most fault (h.first - 48) h.others rest h.digits h.lead (omega (arith, h.value)) in
    rw (h.is, append_assoc h.others line_end rest, own, h.digit) (rw h.value at digits)

pub line_again : (sign most : ℕ) (fault : Fault) (n : ℕ) (rest : List ℕ) → n ≤ most → most ≤ 100000
    → read_line sign most fault (line_of sign n ++ rest) ≡ Ok (n, rest)
line_again sign most fault n rest le small =
    numeral_again sign most fault n (decimal n) rest (decimal_numeral n (omega arith)) le
