-- A front of some bytes was written.
use Rattle.std.specs.Prelude.{ℕ, ◌<◌, List, length, take, Option}
use Rattle.std.specs.Io.KnownBytes.{Appends}

-- known bytes grow by a front of bs that is not all of it
pub record AppendsPrefix (old new : Option (List ℕ)) (bs : List ℕ) : Type 0 where
  pub count : ℕ
  pub below : count < length bs
  pub appended : Appends old new (take count bs)

-- known bytes grow by a front of bs, perhaps all of it
pub record AppendsUpTo (old new : Option (List ℕ)) (bs : List ℕ) : Type 0 where
  pub count : ℕ
  pub appended : Appends old new (take count bs)
