-- What the answers of `parse` say.
use Rattle.std.specs.Prelude.{◌≡◌, ℕ, ◌≤◌, List, ◌++◌, length, drop, Result, Ok, Err, ⊤}
use Rattle.resp.specs.declared.parsed.Parsed.{Parsed}
use Rattle.resp.specs.declared.parsed.Parsed.TheVariants.{Complete, Incomplete, Broken}
use Rattle.resp.specs.declared.parsed.Request.{Request}
use Rattle.resp.specs.declared.parsed.Stop.{Stop}
use Rattle.resp.specs.declared.parsed.Stop.TheVariants.{More, Wrong}
use Rattle.resp.specs.Reading.{Read, read_request}
use Rattle.resp.specs.Spelling.{spelled, Begins, AreFront}

-- ---- what is read, from left to right

abbrev pub rest_of : {A : Type 0} → Read A → Result (List ℕ) Stop
rest_of (Ok p) = Ok p.1
rest_of (Err stop) = Err stop

-- what follows was found, or why it wasn't
abbrev pub Skips : {A : Type 0} → Result (List ℕ) Stop → Read A → Type 0
Skips (Ok rest) x = rest_of x ≡ Ok rest
Skips (Err stop) x = x ≡ Err stop

abbrev pub AreIn : {A : Type 0} → A → Read A → Type 0
AreIn found (Ok p) = found ≡ p.0
AreIn found (Err stop) = ⊤

-- the request is read, and so many bytes before the others
pub record IsIn (bytes : List ℕ) (r : Request) : Type 0 where
  pub len : r.len ≤ length bytes
  pub is : read_request bytes ≡ Ok (r.arguments.items, drop r.len bytes)

abbrev pub Reads : List ℕ → Parsed → Type 0
Reads bytes (Complete r) = IsIn bytes r
Reads bytes Incomplete = read_request bytes ≡ Err More
Reads bytes (Broken fault) = read_request bytes ≡ Err (Wrong fault)

-- ---- what it means

-- the bytes begin with the request, which has so many of them
pub record IsFirst (bytes : List ℕ) (r : Request) : Type 0 where
  pub begins : Begins bytes r.arguments.items (drop r.len bytes)
  pub len : r.len ≡ length (spelled r.arguments.items)

-- whatever follows them, they do not begin with a request
abbrev pub BeginNone : List ℕ → Type 0
BeginNone bytes = (more : List ℕ) (arguments : List (List ℕ)) (rest : List ℕ) → Begins (bytes ++ more) arguments rest → ⊥

abbrev pub Means : List ℕ → Parsed → Type 0
Means bytes (Complete r) = IsFirst bytes r
Means bytes Incomplete = AreFront bytes
Means bytes (Broken fault) = BeginNone bytes
