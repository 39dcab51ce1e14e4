-- A number in decimal, digit by digit from the left.
use Rattle.std.proofs.Common.{◌≡◌, ℕ, ◌+◌, ◌-◌, ◌*◌, ◌/◌, ◌%◌, ◌^◌, ◌<◌, ◌≤◌, true, List, [], ◌∷◌, ◌++◌, refl, ap, ◌∙◌}
use Rattle.std.proofs.Common.{decimal, arith}
use Rattle.std.specs.Prelude.{⊤}
use Rattle.std.proofs.lemmas.Bool.Decides.{nat_tests}
use Rattle.std.proofs.lemmas.Fmt.{decimal_by_steps, decimal_step}
use Rattle.resp.specs.Reading.{is_digit}

abbrev pub value_on : ℕ → List ℕ → ℕ
value_on n [] = n
value_on n (d ∷ ds) = value_on (n * 10 + (d - 48)) ds

abbrev pub AreDigits : List ℕ → Type 0
AreDigits [] = ⊤
AreDigits (d ∷ ds) = (is_digit d ≡ true) × AreDigits ds

-- digits with this value, and no zero before others
pub record IsNumeral (n : ℕ) (ds : List ℕ) : Type 0 where
  pub first : ℕ
  pub others : List ℕ
  pub is : ds ≡ first ∷ others
  pub digit : is_digit first ≡ true
  pub digits : AreDigits others
  pub value : value_on (first - 48) others ≡ n
  pub lead : first - 48 ≡ 0 → others ≡ []

value_on-append : (n : ℕ) (ds : List ℕ) (d : ℕ) → value_on n (ds ++ d ∷ []) ≡ value_on n ds * 10 + (d - 48)
value_on-append n [] d = refl
value_on-append n (x ∷ ds) d = value_on-append (n * 10 + (x - 48)) ds d

digits-append : (ds : List ℕ) (d : ℕ) → AreDigits ds → is_digit d ≡ true → AreDigits (ds ++ d ∷ [])
digits-append [] d h e = (e, tt)
digits-append (x ∷ ds) d h e = (h.0, digits-append ds d h.1 e)

digit_is : (d : ℕ) → d < 10 → is_digit (48 + d) ≡ true
digit_is d small = grind (arith, nat_tests)

one : (n : ℕ) → n < 10 → IsNumeral n ((48 + n) ∷ [])
one n small = record {
  first = 48 + n;
  others = [];
  is = refl;
  digit = digit_is n small;
  digits = tt;
  value = omega arith;
  lead = λ z. refl;
}

one_more : (n : ℕ) (ds : List ℕ) → 10 ≤ n → IsNumeral (n / 10) ds → IsNumeral n (ds ++ (48 + n % 10) ∷ [])
one_more n ds low h = record {
  first = h.first;
  others = h.others ++ (48 + n % 10) ∷ [];
  is = ap (λ (l : List ℕ). l ++ (48 + n % 10) ∷ []) h.is;
  digit = h.digit;
  digits = digits-append h.others (48 + n % 10) h.digits (digit_is (n % 10) (omega arith));
  value =
      let v = h.value in
      omega (arith, value_on-append (h.first - 48) h.others (48 + n % 10));
  lead = λ z. absurd (no_lead h.first h.others (h.lead z) z h.value);
}
  where
    no_lead : (first : ℕ) (others : List ℕ) → others ≡ [] → first - 48 ≡ 0 → value_on (first - 48) others ≡ n / 10 → ⊥
    no_lead first [] e z v = omega arith
    no_lead first (x ∷ xs) e z v = cc

pub decimal_numeral : (n : ℕ) → n < 2 ^ 64 → IsNumeral n (decimal n)
decimal_numeral = decimal_by_steps IsNumeral one one_more

pub le_value : (n : ℕ) (ds : List ℕ) → n ≤ value_on n ds
le_value n [] = omega arith
le_value n (d ∷ ds) =
    let h = le_value (n * 10 + (d - 48)) ds in
    omega arith

-- a number and one more digit
pub decimal_on : (n d : ℕ) → 0 < n → 48 ≤ d → d ≤ 57 → n * 10 + (d - 48) < 2 ^ 64
    → decimal (n * 10 + (d - 48)) ≡ decimal n ++ d ∷ []
decimal_on n d some low high fits =
    decimal_step (n * 10 + (d - 48)) (omega arith) fits ∙ joined ((n * 10 + (d - 48)) / 10) (48 + (n * 10 + (d - 48)) % 10) (omega arith) (omega arith)
  where
    joined : (m e : ℕ) → m ≡ n → e ≡ d → decimal m ++ e ∷ [] ≡ decimal n ++ d ∷ []
    joined m e p q = rw (p, q) refl
