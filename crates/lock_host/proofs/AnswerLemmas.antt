-- The answers of the lock service to bytes are bytes: what they show of an op that came before is an owner.
use Rattle.std.proofs.Common.{◌≡◌, ℕ, ◌+◌, Bool, true, false, cond, List, ◌++◌, ◌⊎◌, length, slice_get, Option, Some, None, refl, sym}
use Rattle.std.proofs.Common.{subst, inl, inr}
use Rattle.std.specs.Prelude.{⊤, codes, nat_lt, position}
use Rattle.std.proofs.lemmas.Option.{none-some}
use Rattle.lemmas.proofs.Bytes as services
use Rattle.lemmas.proofs.Bytes.{bytes_behind, bytes_both, bytes_back, small_bytes}
use Rattle.nop_types.specs.Services.{IsBytes, AnswersAreBytes}
use Rattle.saved_fields.specs.Numbers.{number_bytes}
use Rattle.saved_fields.specs.Reading.{number_is_bytes}
use Rattle.lock_host.specs.declared.locks.TheConstants.{MAX_LOCKS, LAST_TOKEN}
use Rattle.lock_host.specs.declared.lock.Lock.{Lock}
use Rattle.lock_host.specs.declared.op.LockOp.{LockOp}
use Rattle.lock_host.specs.declared.op.LockOp.TheVariants.{Acquire, Release, Inspect, Bad}
use Rattle.lock_host.specs.declared.op.TheConstants.{ACQUIRE}
use Rattle.lock_host.specs.Fields.{name_bytes}
use Rattle.lock_host.specs.Finding.{IsFound, found_is}
use Rattle.lock_host.specs.Locks.{Places, Locks, Step, is_same, is_free, found, granted, held, holder_text, says, granted_at, acquire, holds}
use Rattle.lock_host.specs.Locks.{release, step}
use Rattle.lock_host.specs.Op.{read_op}
use Rattle.lock_host.specs.Service.{lock_meaning}
use Rattle.lock_host.specs.Spelling.{Spells}
use Rattle.lock_host.proofs.ReadLemmas.{reads_only_spelled}
use Rattle.lock_host.proofs.TokenLemmas.{get_set, get_add}

-- ---- ops

abbrev OpIs : LockOp → Type 0
OpIs (Acquire name owner) = IsBytes owner
OpIs _ = ⊤

spelled_is : (op : LockOp) (bytes : List ℕ) → Spells op bytes → IsBytes bytes → OpIs op
spelled_is (Acquire name owner) bytes h all =
    bytes_behind (length owner) owner
    (bytes_back (name_bytes name) (name_bytes owner)
    (bytes_behind ACQUIRE (name_bytes name ++ name_bytes owner) (subst IsBytes h.2 all)))
spelled_is _ bytes h all = tt

op_is : (bytes : List ℕ) → IsBytes bytes → OpIs (read_op bytes)
op_is bytes all = elim (reads_only_spelled bytes) [
  | inl bad ↦ subst OpIs (sym bad) tt
  | inr spelled ↦ spelled_is (read_op bytes) bytes spelled all
]

-- ---- states

-- each owner is bytes
abbrev OwnersAre : Places → Type 0
OwnersAre places = (i : ℕ) (lock : Lock) → slice_get places i ≡ Some (Some lock) → IsBytes lock.owner

abbrev OwnerIs : Option Lock → Type 0
OwnerIs None = ⊤
OwnerIs (Some lock) = IsBytes lock.owner

-- a lock that stood there before, or the one that was written
by_write : (places : Places) (i : ℕ) (place : Option Lock) (lock : Lock) → OwnersAre places → OwnerIs place
    → (slice_get places i ≡ Some (Some lock)) ⊎ (place ≡ Some lock) → IsBytes lock.owner
by_write places i place lock all is (inl old) = all i lock old
by_write places i place lock all is (inr new) = subst OwnerIs new is

-- ---- answers

granted_is : (token : ℕ) → IsBytes (granted token)
granted_is token = bytes_both (codes "granted") (number_bytes token) (small_bytes (codes "granted") refl) (number_is_bytes token)

held_is : (lock : Lock) → IsBytes lock.owner → IsBytes (held lock)
held_is lock owner =
    bytes_both (codes "held") (number_bytes lock.token ++ lock.owner) (small_bytes (codes "held") refl)
    (bytes_both (number_bytes lock.token) lock.owner (number_is_bytes lock.token) owner)

-- ---- steps

record StepIs (s : Step) : Type 0 where
  answer : IsBytes s.answer
  owners : OwnersAre s.locks.places

either_is : (b : Bool) (s t : Step) → StepIs s → StepIs t → StepIs (cond b s t)
either_is true s t h k = h
either_is false s t h k = k

module _ (locks : Locks) (all : OwnersAre locks.places) where
  says_is : (answer : List ℕ) → IsBytes answer → StepIs (says locks answer)
  says_is answer is = record { answer = is; owners = all }

  granted_at_is : (lock : Lock) → IsBytes lock.owner → (o : Option ℕ) → StepIs (granted_at locks lock o)
  granted_at_is lock owner None =
      either_is (nat_lt (length locks.places) MAX_LOCKS) _ _
      (record {
        answer = granted_is lock.token;
        owners = λ k l e. by_write locks.places k (Some lock) l all owner (get_add locks.places k (Some lock) (Some l) e);
      })
      (says_is (codes "full") (small_bytes (codes "full") refl))
  granted_at_is lock owner (Some i) = record {
    answer = granted_is lock.token;
    owners = λ k l e. by_write locks.places k (Some lock) l all owner (get_set locks.places i k (Some lock) (Some l) e);
  }

  acquire_is : (name owner : List ℕ) → IsBytes owner → (o : Option (ℕ × Lock)) → IsFound locks.places name o
      → StepIs (acquire locks name owner o)
  acquire_is name owner is None at =
      either_is (nat_lt locks.last LAST_TOKEN) _ _
      (granted_at_is (record { name = name; owner = owner; token = locks.last + 1 }) is (position is_free locks.places))
      (says_is (codes "spent") (small_bytes (codes "spent") refl))
  acquire_is name owner is (Some p) at =
      either_is (is_same p.1.owner owner) _ _ (says_is (granted p.1.token) (granted_is p.1.token))
      (says_is (held p.1) (held_is p.1 (all p.0 p.1 at.0)))

  release_is : (owner : List ℕ) (token : ℕ) (o : Option (ℕ × Lock)) → StepIs (release locks owner token o)
  release_is owner token None = says_is (codes "refused") (small_bytes (codes "refused") refl)
  release_is owner token (Some p) =
      either_is (holds p.1 owner token) _ _
      (record {
        answer = small_bytes (codes "released") refl;
        owners = λ k l e. by_write locks.places k None l all tt (get_set locks.places p.0 k None (Some l) e);
      })
      (says_is (codes "refused") (small_bytes (codes "refused") refl))

  holder_text_is : (name : List ℕ) (o : Option (ℕ × Lock)) → IsFound locks.places name o → IsBytes (holder_text o)
  holder_text_is name None at = small_bytes (codes "free") refl
  holder_text_is name (Some p) at = held_is p.1 (all p.0 p.1 at.0)

  step_is : (op : LockOp) → OpIs op → StepIs (step locks op)
  step_is (Acquire name owner) is = acquire_is name owner is (found locks.places name) (found_is locks.places name)
  step_is (Release name owner token) is = release_is owner token (found locks.places name)
  step_is (Inspect name) is =
      says_is (holder_text (found locks.places name)) (holder_text_is name (found locks.places name) (found_is locks.places name))
  step_is Bad is = says_is (codes "bad") (small_bytes (codes "bad") refl)

opening_owners : OwnersAre lock_meaning.opening.places
opening_owners i lock e = absurd (none-some (Some lock) e)

pub answers_are_bytes : AnswersAreBytes lock_meaning
answers_are_bytes =
    services.answers_are_bytes lock_meaning (λ locks. OwnersAre locks.places) opening_owners
    (λ locks op all bytes. (step_is locks all (read_op op) (op_is op bytes)).owners)
    (λ locks op all bytes. (step_is locks all (read_op op) (op_is op bytes)).answer)
