-- What the first word makes of the options.
use Rattle.std.proofs.Common.{◌≡◌, ◌∙◌, ℕ, ◌+◌, true, false, refl, sym, ap, subst, arith, List, [], ◌∷◌, ◌-◌, ◌≤◌, length, take, drop, get_or}
use Rattle.std.specs.Prelude.{Result, Ok, Err}
use Rattle.std.proofs.lemmas.List.{take_all}
use Rattle.service_tool.specs.Options.{◌>>=◌, is_flag, is_option, options_in, with_flag, with_value}
use Rattle.service_tool.specs.declared.options.Options.{Options}
use Rattle.service_tool.specs.declared.reason.Fault.{Fault}
use Rattle.service_tool.specs.declared.reason.Reason.TheVariants.{NoValue}

pub flag_first : (o : Options) (at : ℕ) (word : List ℕ) (words : List (List ℕ)) → is_flag word ≡ true
    → options_in o at (word ∷ words) ≡ options_in (with_flag o word) (at + 1) words
flag_first o at word [] flag = rw flag refl
flag_first o at word (value ∷ words) flag = rw flag refl

pub value_first : (o : Options) (at : ℕ) (word value : List ℕ) (words : List (List ℕ)) → is_flag word ≡ false
    → is_option word ≡ true
    → options_in o at (word ∷ value ∷ words) ≡ (with_value o at word value >>= λ p. options_in p (at + 2) words)
value_first o at word value words flag option = rw (flag, option) refl

pub value_missing : (o : Options) (at : ℕ) (word : List ℕ) → is_flag word ≡ false → is_option word ≡ true
    → options_in o at (word ∷ []) ≡ Err (record { reason = NoValue; at = at })
value_missing o at word flag option = rw (flag, option) refl

pub other_first : (o : Options) (at : ℕ) (word : List ℕ) (words : List (List ℕ)) → is_flag word ≡ false → is_option word ≡ false
    → options_in o at (word ∷ words) ≡ Ok (o, at)
other_first o at word [] flag option = rw (flag, option) refl
other_first o at word (value ∷ words) flag option = rw (flag, option) refl

pub ruleset first_word = (flag_first, value_first, other_first, value_missing)

-- ---- what is left of the words gives what all of them give

pub flag_taken : (o : Options) (at : ℕ) (word : List ℕ) (words : List (List ℕ)) (all : Result (Options × ℕ) Fault)
    → options_in o at (word ∷ words) ≡ all → is_flag word ≡ true → options_in (with_flag o word) (at + 1) words ≡ all
flag_taken o at word words all is flag = sym (flag_first o at word words flag) ∙ is

pub value_taken : (o p : Options) (at : ℕ) (word value : List ℕ) (words : List (List ℕ)) (all : Result (Options × ℕ) Fault)
    → options_in o at (word ∷ value ∷ words) ≡ all → is_flag word ≡ false → is_option word ≡ true
    → with_value o at word value ≡ Ok p
    → options_in p (at + 2) words ≡ all
value_taken o p at word value words all is flag option takes =
    sym (value_first o at word value words flag option
    ∙ ap (λ (r : Result Options Fault). r >>= λ q. options_in q (at + 2) words) takes) ∙ is

-- the first word, and the part behind it
pub parted : (xs : List (List ℕ)) (word : List ℕ) → 1 ≤ length xs → word ≡ get_or xs 0 word
    → xs ≡ word ∷ take (length xs - 1) (drop 1 xs)
parted [] word some is = absurd (omega arith)
parted (x ∷ xs) word some is =
    rw is (ap (λ (ys : List (List ℕ)). x ∷ ys) (sym (take_all (length (x ∷ xs) - 1) xs (omega arith))))

pub flag_step : (o p : Options) (at n : ℕ) (word : List ℕ) (xs ys : List (List ℕ)) (all : Result (Options × ℕ) Fault)
    → xs ≡ word ∷ ys → p ≡ with_flag o word → is_flag word ≡ true → (options_in o at xs ≡ all) × (at + length xs ≡ n)
    → (options_in p (at + 1) ys ≡ all) × (at + 1 + length ys ≡ n)
flag_step o p at n word xs ys all parts becomes flag is =
    let whole = subst (λ (zs : List (List ℕ)). (options_in o at zs ≡ all) × (at + length zs ≡ n)) parts is in (
      subst (λ (q : Options). options_in q (at + 1) ys ≡ all) (sym becomes) (flag_taken o at word ys all whole.0 flag),
      omega (arith, whole.1),
    )

pub value_step : (o p : Options) (at n : ℕ) (word value : List ℕ) (xs ys zs : List (List ℕ)) (all : Result (Options × ℕ) Fault)
    → xs ≡ word ∷ ys → ys ≡ value ∷ zs → is_flag word ≡ false → is_option word ≡ true → with_value o at word value ≡ Ok p
    → (options_in o at xs ≡ all) × (at + length xs ≡ n) → (options_in p (at + 2) zs ≡ all) × (at + 2 + length zs ≡ n)
value_step o p at n word value xs ys zs all parts others flag option takes is =
    let both : xs ≡ word ∷ value ∷ zs = parts ∙ ap (λ (ws : List (List ℕ)). word ∷ ws) others in
    let whole = subst (λ (ws : List (List ℕ)). (options_in o at ws ≡ all) × (at + length ws ≡ n)) both is in
    (value_taken o p at word value zs all whole.0 flag option takes, omega (arith, whole.1))
