-- Which claims are marked as reads.
use Rattle.std.proofs.Common.{◌≡◌, ℕ, suc, Bool, true, List, [], ◌∷◌, ◌++◌, Some, refl, subst, arith, inl, inr}
use Rattle.std.proofs.lemmas.List.{length-append}
use Rattle.std.specs.Prelude.{slice_get}
use Rattle.fronts.specs.Fronts.{OnlyReads}
use Rattle.lemmas.proofs.Places.{slice_get-push_cases}
use Rattle.nop_types.specs.Lines.{Line, Submit}
use Rattle.nop_types.specs.Meaning.{Meaning}
use Rattle.nop_types.specs.declared.request.Request.{Request}
use Rattle.order_search.specs.Reads.{AreReads}

module _ {S : Type 0} (m : Meaning S) (lines : List Line) where
  pub no_reads : AreReads m lines 0 []
  no_reads = record { count = refl; marked = λ i r mark at. absurd cc }

  -- one line more
  pub reads_more : (k : ℕ) (reads : List Bool) (b : Bool) (line : Line) → AreReads m lines k reads → slice_get lines k ≡ Some line
      → (b ≡ true → (r : Request) → line ≡ Submit r → OnlyReads m r.op) → AreReads m lines (suc k) (reads ++ b ∷ [])
  reads_more k reads b line old here is = record {
    count = let e = length-append reads (b ∷ []) in omega (arith, e, old.count);
    marked = λ i r mark at. elim (slice_get-push_cases reads b i true mark) [
      | inl x ↦ old.marked i r x.1 at
      | inr x ↦
          let e : i ≡ k = omega (arith, x.0, old.count) in
          let there : slice_get lines k ≡ Some (Submit r) = subst (λ (t : ℕ). slice_get lines t ≡ Some (Submit r)) e at in
          let same : line ≡ Submit r = cc in
          is x.1 r same
    ];
  }
