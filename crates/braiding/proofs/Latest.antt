-- The last step of each node, step by step.
use Rattle.std.proofs.Common.{◌≡◌, ◌∙◌, ℕ, ◌<◌, ◌≤◌, Bool, true, false, cond, List, [], ◌∷◌, ◌++◌, Some, sym, ap, arith, inl, inr}
use Rattle.std.specs.Global.{Vec}
use Rattle.std.specs.HashMap.{get}
use Rattle.std.specs.Prelude.{◌⊎◌}
use Rattle.std.specs.Str.{bytes_eq}
use Rattle.std.proofs.lemmas.Bool.{cases_Bool, cond-true, cond-false, false≢true}
use Rattle.std.proofs.lemmas.Slice.Eq.{bytes_eq-Decides}
use Rattle.lemmas.proofs.Members.{Has-push_cases}
use Rattle.nop_types.specs.Lists.{Has}
use Rattle.braiding.specs.Checks.{AreLatest, Follows}
use Rattle.braiding.specs.Orders.{line_at, node_in, starts, IsBehindOwn}
use Rattle.braiding.specs.declared.checking.Marks.{Marks}

pub some_is : (k n : ℕ) → Some k ≡ Some n → k ≡ n
some_is k n e = cc

abbrev same : Vec ℕ → Vec ℕ → Bool
same a b = bytes_eq a.items b.items

module _ (lines : List (List ℕ)) (m n : Marks) (p : ℕ) (name : Vec ℕ) (step : starts lines p ≡ true) (is : name.items ≡ node_in (line_at lines p))
    (noted : (q : Vec ℕ) → get same n.last q ≡ cond (same name q) (Some p) (get same m.last q))
    (earlier : (k : ℕ) → get same m.last name ≡ Some k → k < p) where
  behind_own : (before : List ℕ) → AreLatest lines m before → IsBehindOwn lines before p
  behind_own before h q has other equal =
      let at = h q has other name (is ∙ sym equal) in
      let l = earlier at.0 at.1 in
      let k = at.2 in
      omega (arith, l, k)

  latest : (before : List ℕ) → AreLatest lines m before → AreLatest lines n (before ++ p ∷ [])
  latest before h q has other text e = by (cases_Bool (same name text)) (Has-push_cases before p q has)
    where
      here : same name text ≡ true → q ≤ p → (k : ℕ) × (get same n.last text ≡ Some k) × (q ≤ k)
      here b l = (p, noted text ∙ cond-true (same name text) (Some p) (get same m.last text) b, l)

      by : (same name text ≡ true) ⊎ (same name text ≡ false) → Has before q ⊎ (p ≡ q) → (k : ℕ) × (get same n.last text ≡ Some k) × (q ≤ k)
      by (inl b) (inr it) = here b (omega (arith, it))
      by (inl b) (inl before_it) =
          let equal : node_in (line_at lines q) ≡ node_in (line_at lines p) = sym e ∙ sym ((bytes_eq-Decides name.items text.items).0 b) ∙ is in
          let l = behind_own before h q before_it other equal in
          here b (omega (arith, l))
      by (inr b) (inl before_it) =
          let at = h q before_it other text e in
          (at.0, noted text ∙ cond-false (same name text) (Some p) (get same m.last text) b ∙ at.1, at.2)
      by (inr b) (inr it) =
          let equal : name.items ≡ text.items = is ∙ ap (λ (k : ℕ). node_in (line_at lines k)) it ∙ sym e in
          absurd (false≢true (sym b ∙ (bytes_eq-Decides name.items text.items).1 equal))

  pub step_follows : Follows lines m n p
  step_follows = record {
    together = λ none. absurd (false≢true (sym none ∙ step));
    own = λ before h is_step. behind_own before h;
    latest = latest;
  }
