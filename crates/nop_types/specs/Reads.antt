-- What was read, against a log: the log from which the history is read.
use Rattle.std.specs.Prelude.{◌≡◌, ℕ, ◌<◌, ◌≤◌, List, [], ◌∷◌, length, take, Some, slice_get}
use Rattle.nop_types.specs.declared.request.Entry.{Entry}
use Rattle.nop_types.specs.declared.request.Request.{Request}
use Rattle.nop_types.specs.Histories.{history_of}
use Rattle.nop_types.specs.Lines.{Line, Read, Answer}
use Rattle.nop_types.specs.Lists.{IsPrefixOf}
use Rattle.nop_types.specs.Meaning.{Meaning}
use Rattle.nop_types.specs.Services.{get_of}

-- a line before the place k asks this observer for this key, under the client and id
pub record IsAskedBefore (lines : List Line) (k client id observer : ℕ) (key : List ℕ) : Type 0 where
  pub place : ℕ
  pub before : place < k
  pub line : slice_get lines place ≡ Some (Read client id observer key)

-- the state of a host that was given the ops of these requests
abbrev pub state_after : {S : Type 0} → Meaning S → S → List Request → S
state_after m s [] = s
state_after m s (r ∷ rs) = state_after m (m.after s r.op) rs

-- what a host that begins in the opening state, given the requests of the history that stand in the first slots, answers for a key
abbrev pub read_at : {S : Type 0} → Meaning S → List Entry → (position : ℕ) → (key : List ℕ) → List ℕ
read_at m main position key = m.answer (state_after m m.opening (history_of (take position main))) (get_of key)

-- the result is that of the first slots
pub record ReadIsRight {S : Type 0} (m : Meaning S) (main : List Entry) (position : ℕ) (key result : List ℕ) : Type 0 where
  pub within : position ≤ length main
  -- their requests that are executed begin the history
  pub members : IsPrefixOf (history_of (take position main)) (history_of main)
  pub gives : result ≡ read_at m main position key

-- an answer line: its read line stands before it, to the observer that answers, and what is read for its key is right
pub record IsReadRight {S : Type 0} (m : Meaning S) (lines : List Line) (main : List Entry) (k client id observer position : ℕ)
    (result : List ℕ) : Type 0 where
  pub key : List ℕ
  pub asked : IsAskedBefore lines k client id observer key
  pub is : ReadIsRight m main position key result

abbrev pub AskedOnce : List Line → Type 0
AskedOnce lines = (k l client id o p : ℕ) (a b : List ℕ) → slice_get lines k ≡ Some (Read client id o a)
    → slice_get lines l ≡ Some (Read client id p b) → k ≡ l

abbrev pub AnsweredOnce : List Line → Type 0
AnsweredOnce lines = (k l client id o x p q : ℕ) (a b : List ℕ) → slice_get lines k ≡ Some (Answer client id o p a)
    → slice_get lines l ≡ Some (Answer client id x q b) → k ≡ l

-- where an answer of an observer stands before a line that asks it for a key, what that read is answered with is no earlier
abbrev pub PositionsRise : List Line → Type 0
PositionsRise lines = (k l j c d i n o p q : ℕ) (a b key : List ℕ) → k < l → slice_get lines k ≡ Some (Answer c i o p a)
    → slice_get lines l ≡ Some (Read d n o key) → slice_get lines j ≡ Some (Answer d n o q b) → p ≤ q

pub record ReadsAreRight {S : Type 0} (m : Meaning S) (lines : List Line) (main : List Entry) : Type 0 where
  pub right : (k client id observer position : ℕ) (result : List ℕ) → slice_get lines k ≡ Some (Answer client id observer position result)
      → IsReadRight m lines main k client id observer position result
  -- at most one line for each client and id
  pub asked : AskedOnce lines
  pub once : AnsweredOnce lines
  pub rising : PositionsRise lines
