-- The lock service: what it answers to an op, what the op leaves, and what takes the op back.
use Rattle.std.specs.Prelude.{ℕ, ◌+◌, ◌-◌, List, [], ◌∷◌, ◌++◌, length, take, slice_get, slice_set, position, Bool, true, false}
use Rattle.std.specs.Prelude.{Option, Some, None, option_map, option_and_then, codes, nat_eq, nat_lt, ◌==◌, ◌&&◌, if◌then◌else◌}
use Rattle.std.specs.Option.{option_flatten}
use Rattle.std.specs.Cmp.Lexicographic.{pointwise}
use Rattle.lock_host.specs.declared.lock.Lock.{Lock}
use Rattle.lock_host.specs.declared.locks.TheConstants.{MAX_LOCKS, LAST_TOKEN}
use Rattle.lock_host.specs.declared.undo.LockUndo.{LockUndo}
use Rattle.lock_host.specs.declared.undo.LockUndo.TheVariants.{Nothing, Last, Back}
use Rattle.lock_host.specs.declared.op.LockOp.{LockOp}
use Rattle.lock_host.specs.declared.op.LockOp.TheVariants.{Acquire, Release, Inspect, Bad}
use Rattle.saved_fields.specs.Numbers.{number_bytes}

-- at a place stands a lock that is held; or the place is free, and the next lock that is granted stands there
abbrev pub Places : Type 0
Places = List (Option Lock)

-- the last token that was granted, 0 before the first one, and the places
pub record Locks : Type 0 where
  pub last : ℕ
  pub places : Places

-- ---- look-ups

-- the two lists of bytes are the same
abbrev pub is_same : List ℕ → List ℕ → Bool
is_same a b = pointwise nat_eq a b

abbrev pub is_free : Option Lock → Bool
is_free None = true
is_free (Some lock) = false

abbrev pub is_named : List ℕ → Option Lock → Bool
is_named name None = false
is_named name (Some lock) = is_same lock.name name

-- the lock with this name, where it is held, and its place
abbrev pub found : Places → List ℕ → Option (ℕ × Lock)
found places name =
    option_and_then (λ i. option_map (λ lock. (i, lock)) (option_flatten (slice_get places i))) (position (is_named name) places)

-- ---- answers

abbrev pub granted : ℕ → List ℕ
granted token = codes "granted" ++ number_bytes token

abbrev pub held : Lock → List ℕ
held lock = codes "held" ++ (number_bytes lock.token ++ lock.owner)

-- who holds the lock, with which token
abbrev pub holder_text : Option (ℕ × Lock) → List ℕ
holder_text None = codes "free"
holder_text (Some p) = held p.1

-- ---- what an op does

-- its answer, the locks after it, and what takes it back
pub record Step : Type 0 where
  pub answer : List ℕ
  pub locks : Locks
  pub undo : LockUndo

-- the locks stay as they are
abbrev pub says : Locks → List ℕ → Step
says locks answer = record { answer = answer; locks = locks; undo = Nothing }

-- the lock, with its token, is granted at the free place; or at a new one, where there is none and one more is allowed
abbrev pub granted_at : Locks → Lock → Option ℕ → Step
granted_at locks lock (Some i) = record {
  answer = granted lock.token;
  locks = record { last = lock.token; places = slice_set locks.places i (Some lock) };
  undo = Back i None locks.last;
}
granted_at locks lock None =
    if nat_lt (length locks.places) MAX_LOCKS
    then record {
      answer = granted lock.token;
      locks = record { last = lock.token; places = locks.places ++ Some lock ∷ [] };
      undo = Last;
    }
    else says locks (codes "full")

-- a lock that nobody holds is granted with the next token, if there is one
abbrev pub grant : Locks → List ℕ → List ℕ → Step
grant locks name owner =
    if nat_lt locks.last LAST_TOKEN
    then granted_at locks (record { name = name; owner = owner; token = locks.last + 1 }) (position is_free locks.places)
    else says locks (codes "spent")

-- who holds the lock is told the token again
abbrev pub acquire : Locks → List ℕ → List ℕ → Option (ℕ × Lock) → Step
acquire locks name owner None = grant locks name owner
acquire locks name owner (Some p) = if is_same p.1.owner owner then says locks (granted p.1.token) else says locks (held p.1)

-- whether this owner holds the lock, with this token
abbrev pub holds : Lock → List ℕ → ℕ → Bool
holds lock owner token = is_same lock.owner owner && lock.token == token

abbrev pub release : Locks → List ℕ → ℕ → Option (ℕ × Lock) → Step
release locks owner token None = says locks (codes "refused")
release locks owner token (Some p) =
    if holds p.1 owner token
    then record {
      answer = codes "released";
      locks = record { last = locks.last; places = slice_set locks.places p.0 None };
      undo = Back p.0 (Some p.1) locks.last;
    }
    else says locks (codes "refused")

abbrev pub step : Locks → LockOp → Step
step locks (Acquire name owner) = acquire locks name owner (found locks.places name)
step locks (Release name owner token) = release locks owner token (found locks.places name)
step locks (Inspect name) = says locks (holder_text (found locks.places name))
step locks Bad = says locks (codes "bad")

-- ---- back

abbrev pub undone : Locks → LockUndo → Locks
undone locks Nothing = locks
undone locks Last = record { last = locks.last - 1; places = take (length locks.places - 1) locks.places }
undone locks (Back i was last) = record { last = last; places = slice_set locks.places i was }
