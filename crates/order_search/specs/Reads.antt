-- Which claims submit reads.
use Rattle.std.specs.Prelude.{◌≡◌, ℕ, Bool, true, List, Some, length, slice_get}
use Rattle.fronts.specs.Fronts.{OnlyReads}
use Rattle.nop_types.specs.Lines.{Line, Submit}
use Rattle.nop_types.specs.Meaning.{Meaning}
use Rattle.nop_types.specs.declared.request.Request.{Request}

-- a mark for each of the first k lines: what is submitted where it is set changes nothing
pub record AreReads {S : Type 0} (m : Meaning S) (lines : List Line) (k : ℕ) (reads : List Bool) : Type 0 where
  pub count : length reads ≡ k
  pub marked : (i : ℕ) (r : Request) → slice_get reads i ≡ Some true → slice_get lines i ≡ Some (Submit r) → OnlyReads m r.op
