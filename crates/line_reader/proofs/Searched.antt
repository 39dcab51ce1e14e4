-- What a search behind bytes that were searched before says of all of them.
use Rattle.std.proofs.Common.{◌≡◌, ℕ, ◌+◌, ◌-◌, ◌<◌, ◌≤◌, true, eqb, List, length, get_or, drop, slice_index, refl, sym}
use Rattle.std.proofs.Common.{ap, ◌∙◌, arith}
use Rattle.std.specs.List.{slice_range}
use Rattle.std.proofs.lemmas.Bool.{cases_lt, eqb-true}
use Rattle.std.proofs.lemmas.List.{length-take-le, length-drop, get_or-take, get_or-drop}
use Rattle.std.proofs.Common.{⊎_elim}
use Rattle.memchr.specs.Find.{Passes, NoneBefore, Nowhere, is_byte}
use Rattle.line_reader.specs.Deciding.{HasNoEnd, IsSearched, IsFirstEnd}

module _ (bytes : List ℕ) (searched limit : ℕ) (before : IsSearched searched bytes) (low : searched ≤ limit)
    (within : limit ≤ length bytes) where
  length-window : length (slice_range bytes searched limit) ≡ limit - searched
  length-window = length-take-le (limit - searched) (drop searched bytes) (omega (arith, length-drop searched bytes))

  in_window : (k : ℕ) → searched ≤ k → k < limit → slice_index (slice_range bytes searched limit) (k - searched) ≡ slice_index bytes k
  in_window k from below =
      let place : searched + (k - searched) ≡ k = omega arith in
      get_or-take (limit - searched) (drop searched bytes) (k - searched) 0 (omega arith) ∙ get_or-drop searched bytes (k - searched) 0
      ∙ ap (λ n. get_or bytes n 0) place

  -- no end below a place, if the search met none below it
  none_below : (end : ℕ) → end ≤ limit
      → ((k : ℕ) → searched ≤ k → k < end → Passes (is_byte 10) (slice_range bytes searched limit) (k - searched) → ⊥) → HasNoEnd end bytes
  none_below end high met k below is =
      ⊎_elim (λ old. before.no_end k old is) (λ new. met k new below (ap (λ b. eqb b 10) (in_window k new (omega arith) ∙ is) ∙ refl10))
      (cases_lt k searched)
    where
      refl10 : eqb 10 10 ≡ true
      refl10 = refl

  pub none : Nowhere (Passes (is_byte 10) (slice_range bytes searched limit)) 0 (length (slice_range bytes searched limit))
      → HasNoEnd limit bytes
  none nowhere = none_below limit (omega arith)
      (λ k from below passes. nowhere (k - searched) (omega arith) (omega (arith, length-window)) passes)

  pub found : (at : ℕ) → limit ≤ 4097
      → NoneBefore (Passes (is_byte 10) (slice_range bytes searched limit)) 0 (length (slice_range bytes searched limit)) at
      → Passes (is_byte 10) (slice_range bytes searched limit) at → IsFirstEnd bytes (searched + at)
  found at short nowhere passes =
      let there : at < limit - searched = omega (arith, nowhere.high, length-window) in
      let same : searched + at - searched ≡ at = omega arith in
      let byte : slice_index (slice_range bytes searched limit) at ≡ 10 =
      eqb-true (slice_index (slice_range bytes searched limit) at) 10 passes in
      record {
        within = omega arith;
        short = omega arith;
        no_end = none_below (searched + at) (omega arith)
            (λ k from below passed. nowhere.before (k - searched) (omega arith) (omega arith) passed);
        end = sym (in_window (searched + at) (omega arith) (omega arith))
            ∙ ap (λ n. slice_index (slice_range bytes searched limit) n) same ∙ byte;
      }
