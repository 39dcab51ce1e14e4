-- What the tokens and the holders of locks keep to, whatever ops come.
use Rattle.std.specs.Prelude.{◌≡◌, ℕ, ◌<◌, List, [], ◌∷◌, slice_get, Some, ◌⊎◌}
use Rattle.lock_host.specs.declared.op.LockOp.TheVariants.{Acquire, Release}
use Rattle.lock_host.specs.Op.{read_op}
use Rattle.lock_host.specs.Locks.{Locks, granted}
use Rattle.lock_host.specs.Service.{lock_meaning}

-- the locks after these ops, one after the other
abbrev pub after_all : Locks → List (List ℕ) → Locks
after_all locks [] = locks
after_all locks (op ∷ ops) = after_all (lock_meaning.after locks op) ops

-- the locks after these ops, from the opening state on
abbrev pub reached : List (List ℕ) → Locks
reached ops = after_all lock_meaning.opening ops

-- the owner holds the lock with this name, by this token
abbrev pub Holds : Locks → List ℕ → List ℕ → ℕ → Type 0
Holds locks name owner token = (i : ℕ) × (slice_get locks.places i ≡ Some (Some (record { name = name; owner = owner; token = token })))

-- after the op the owner holds the lock by this token, and before it not
pub record Grants (locks : Locks) (op name owner : List ℕ) (token : ℕ) : Type 0 where
  pub after : Holds (lock_meaning.after locks op) name owner token
  pub before : Holds locks name owner token → ⊥

-- a token that is granted is above all by which any lock was held at any time before
abbrev pub TokensRise : Type 0
TokensRise = (ops later : List (List ℕ)) (op name owner other whose : List ℕ) (old new : ℕ) → Holds (reached ops) other whose old
    → Grants (after_all (reached ops) later) op name owner new → old < new

-- a lock has at most one holder, with one token
abbrev pub OneHolder : Type 0
OneHolder = (ops : List (List ℕ)) (name owner other : List ℕ) (a b : ℕ) → Holds (reached ops) name owner a → Holds (reached ops) name other b
    → (owner ≡ other) × (a ≡ b)

-- by one token one lock is held
abbrev pub OneLock : Type 0
OneLock = (ops : List (List ℕ)) (name other owner whose : List ℕ) (token : ℕ) → Holds (reached ops) name owner token
    → Holds (reached ops) other whose token → name ≡ other

-- a release changes nothing, unless its owner holds the lock by its token
abbrev pub ReleasesOwn : Type 0
ReleasesOwn = (locks : Locks) (op name owner : List ℕ) (token : ℕ) → read_op op ≡ Release name owner token
    → (Holds locks name owner token → ⊥) → lock_meaning.after locks op ≡ locks

-- who holds a lock holds it after each op but its own release by the token
abbrev pub HeldUntilReleased : Type 0
HeldUntilReleased = (locks : Locks) (op name owner : List ℕ) (token : ℕ) → Holds locks name owner token
    → (read_op op ≡ Release name owner token → ⊥) → Holds (lock_meaning.after locks op) name owner token

-- after an acquire its owner holds the lock by the token that is answered, or nothing has changed and no token is answered
abbrev pub AnswersGrants : Type 0
AnswersGrants = (locks : Locks) (op name owner : List ℕ) → read_op op ≡ Acquire name owner
    → ((token : ℕ) × (lock_meaning.answer locks op ≡ granted token) × Holds (lock_meaning.after locks op) name owner token)
    ⊎ ((lock_meaning.after locks op ≡ locks) × ((token : ℕ) → lock_meaning.answer locks op ≡ granted token → ⊥))

-- who holds the lock and acquires it again is answered the token that it has, and nothing changes
abbrev pub AnswersAgain : Type 0
AnswersAgain = (ops : List (List ℕ)) (op name owner : List ℕ) (token : ℕ) → read_op op ≡ Acquire name owner → Holds (reached ops) name owner token
    → (lock_meaning.answer (reached ops) op ≡ granted token) × (lock_meaning.after (reached ops) op ≡ reached ops)
