-- Tokens rise, a lock has one holder, and nobody else releases it.
use Rattle.std.proofs.Common.{◌≡◌, ℕ, zero, suc, ◌+◌, ◌≤◌, Bool, true, false, cond, List, [], ◌∷◌, ◌++◌, length, slice_get, slice_set}
use Rattle.std.proofs.Common.{Option, Some, None, refl, sym, ap, subst, ◌∙◌, true≢false, arith, inl, inr, ◌⊎◌, eqb-true}
use Rattle.std.specs.Prelude.{nat_lt, codes, position, ◌||◌, ◌==◌}
use Rattle.std.specs.List.{list_any}
use Rattle.std.proofs.lemmas.Bool.Decides.{nat_tests}
use Rattle.std.proofs.lemmas.Option.{none-some, same_Some}
use Rattle.std.specs.Cmp.Lexicographic.{bytes_decides}
use Rattle.std.proofs.lemmas.Bool.{and_parts, or_parts}
use Rattle.lock_host.specs.declared.locks.TheConstants.{MAX_LOCKS, LAST_TOKEN}
use Rattle.lock_host.specs.declared.lock.Lock.{Lock}
use Rattle.lock_host.specs.declared.op.LockOp.{LockOp}
use Rattle.lock_host.specs.declared.op.LockOp.TheVariants.{Acquire, Release, Inspect, Bad}
use Rattle.lock_host.specs.declared.undo.LockUndo.TheVariants.{Back}
use Rattle.lock_host.specs.Op.{read_op}
use Rattle.lock_host.specs.Locks.{Places, Locks, Step, is_same, is_free, is_named, found, granted, held, says, granted_at, acquire}
use Rattle.lock_host.specs.Locks.{holds, release, step}
use Rattle.lock_host.specs.Finding.{IsFound, found_is, IsFree, free_is}
use Rattle.lock_host.specs.Saved.{clashes}
use Rattle.lock_host.specs.Service.{lock_meaning, IsApart, AreApart, IsSound}
use Rattle.lock_host.specs.Places.{fits_get}
use Rattle.lock_host.specs.Laws.{opens_sound, stays_sound}
use Rattle.lock_host.specs.Tokens.{after_all, reached, Holds, TokensRise, OneHolder, OneLock, ReleasesOwn, HeldUntilReleased, AnswersGrants}
use Rattle.lock_host.specs.Tokens.{AnswersAgain}

-- ---- what stands at a place after a write

pub get_set : {X : Type 0} (xs : List X) (i k : ℕ) (y x : X) → slice_get (slice_set xs i y) k ≡ Some x → (slice_get xs k ≡ Some x) ⊎ (y ≡ x)
get_set [] i k y x e = absurd (none-some x e)
get_set (z ∷ zs) zero zero y x e = inr (same_Some y x e)
get_set (z ∷ zs) zero (suc k) y x e = inl e
get_set (z ∷ zs) (suc i) zero y x e = inl e
get_set (z ∷ zs) (suc i) (suc k) y x e = get_set zs i k y x e

pub get_add : {X : Type 0} (xs : List X) (k : ℕ) (y x : X) → slice_get (xs ++ y ∷ []) k ≡ Some x → (slice_get xs k ≡ Some x) ⊎ (y ≡ x)
get_add [] zero y x e = inr (same_Some y x e)
get_add [] (suc k) y x e = absurd (none-some x e)
get_add (z ∷ zs) zero y x e = inl e
get_add (z ∷ zs) (suc k) y x e = get_add zs k y x e

set_stands : {X : Type 0} (xs : List X) (i : ℕ) (x y : X) → slice_get xs i ≡ Some x → slice_get (slice_set xs i y) i ≡ Some y
set_stands [] i x y e = absurd (none-some x e)
set_stands (z ∷ zs) zero x y e = refl
set_stands (z ∷ zs) (suc i) x y e = set_stands zs i x y e

-- a write to a place where something else stands
set_keeps : {X : Type 0} (xs : List X) (i k : ℕ) (x y z : X) → slice_get xs k ≡ Some x → slice_get xs i ≡ Some z → (z ≡ x → ⊥)
    → slice_get (slice_set xs i y) k ≡ Some x
set_keeps [] i k x y z e f other = absurd (none-some x e)
set_keeps (w ∷ ws) zero zero x y z e f other = absurd (other (sym (same_Some w z f) ∙ same_Some w x e))
set_keeps (w ∷ ws) zero (suc k) x y z e f other = e
set_keeps (w ∷ ws) (suc i) zero x y z e f other = e
set_keeps (w ∷ ws) (suc i) (suc k) x y z e f other = set_keeps ws i k x y z e f other

add_keeps : {X : Type 0} (xs : List X) (k : ℕ) (x y : X) → slice_get xs k ≡ Some x → slice_get (xs ++ y ∷ []) k ≡ Some x
add_keeps [] k x y e = absurd (none-some x e)
add_keeps (w ∷ ws) zero x y e = e
add_keeps (w ∷ ws) (suc k) x y e = add_keeps ws k x y e

add_stands : {X : Type 0} (xs : List X) (y : X) → slice_get (xs ++ y ∷ []) (length xs) ≡ Some y
add_stands [] y = refl
add_stands (z ∷ zs) y = add_stands zs y

-- ---- tokens rise

either_last : (n : ℕ) (b : Bool) (s t : Step) → n ≤ s.locks.last → n ≤ t.locks.last → n ≤ (cond b s t).locks.last
either_last n true s t h k = h
either_last n false s t h k = k

granted_last : (locks : Locks) (lock : Lock) (o : Option ℕ) → locks.last ≤ lock.token → locks.last ≤ (granted_at locks lock o).locks.last
granted_last locks lock None h = either_last locks.last (nat_lt (length locks.places) MAX_LOCKS) _ _ h (omega arith)
granted_last locks lock (Some i) h = h

acquire_last : (locks : Locks) (name owner : List ℕ) (o : Option (ℕ × Lock)) → locks.last ≤ (acquire locks name owner o).locks.last
acquire_last locks name owner None =
    either_last locks.last (nat_lt locks.last LAST_TOKEN) _ _
    (granted_last locks (record { name = name; owner = owner; token = locks.last + 1 }) (position is_free locks.places) (omega arith))
    (omega arith)
acquire_last locks name owner (Some p) = either_last locks.last (is_same p.1.owner owner) _ _ (omega arith) (omega arith)

release_last : (locks : Locks) (owner : List ℕ) (token : ℕ) (o : Option (ℕ × Lock)) → locks.last ≤ (release locks owner token o).locks.last
release_last locks owner token None = omega arith
release_last locks owner token (Some p) = either_last locks.last (holds p.1 owner token) _ _ (omega arith) (omega arith)

step_last : (locks : Locks) (op : LockOp) → locks.last ≤ (step locks op).locks.last
step_last locks (Acquire name owner) = acquire_last locks name owner (found locks.places name)
step_last locks (Release name owner token) = release_last locks owner token (found locks.places name)
step_last locks (Inspect name) = omega arith
step_last locks Bad = omega arith

all_last : (locks : Locks) (ops : List (List ℕ)) → locks.last ≤ (after_all locks ops).last
all_last locks [] = omega arith
all_last locks (op ∷ ops) =
    let one = step_last locks (read_op op) in
    let rest = all_last (lock_meaning.after locks op) ops in
    omega (arith, one, rest)

all_sound : (locks : Locks) (ops : List (List ℕ)) → IsSound locks → IsSound (after_all locks ops)
all_sound locks [] sound = sound
all_sound locks (op ∷ ops) sound = all_sound (lock_meaning.after locks op) ops (stays_sound locks op sound)

pub reached_sound : (ops : List (List ℕ)) → IsSound (reached ops)
reached_sound ops = all_sound lock_meaning.opening ops opens_sound

token_of : Option Lock → ℕ
token_of None = 0
token_of (Some lock) = lock.token

module _ (locks : Locks) (name owner : List ℕ) (token : ℕ) where
  -- it was held so before, or the token is the next one
  abbrev Was : Type 0
  Was = Holds locks name owner token ⊎ (locks.last + 1 ≡ token)

  abbrev held_so : Option Lock
  held_so = Some (record { name = name; owner = owner; token = token })

  either_was : (b : Bool) (s t : Step) → (Holds s.locks name owner token → Was) → (Holds t.locks name owner token → Was)
      → Holds (cond b s t).locks name owner token → Was
  either_was true s t h k x = h x
  either_was false s t h k x = k x

  by_write : (k : ℕ) (place : Option Lock) → (place ≡ held_so → locks.last + 1 ≡ token)
      → (slice_get locks.places k ≡ Some held_so) ⊎ (place ≡ held_so) → Was
  by_write k place new (inl e) = inl (k, e)
  by_write k place new (inr e) = inr (new e)

  abbrev granted_now : List ℕ → List ℕ → Lock
  granted_now n o = record { name = n; owner = o; token = locks.last + 1 }

  next_token : (n o : List ℕ) → Some (granted_now n o) ≡ held_so → locks.last + 1 ≡ token
  unfolding token_of
  next_token n o e = ap token_of e

  granted_was : (n o : List ℕ) (place : Option ℕ) → Holds (granted_at locks (granted_now n o) place).locks name owner token → Was
  granted_was n o None h =
      either_was (nat_lt (length locks.places) MAX_LOCKS) _ _
      (λ k. by_write k.0 (Some (granted_now n o)) (next_token n o) (get_add locks.places k.0 (Some (granted_now n o)) held_so k.1))
      (λ k. inl k) h
  granted_was n o (Some i) h =
      by_write h.0 (Some (granted_now n o)) (next_token n o) (get_set locks.places i h.0 (Some (granted_now n o)) held_so h.1)

  acquire_was : (n o : List ℕ) (p : Option (ℕ × Lock)) → Holds (acquire locks n o p).locks name owner token → Was
  acquire_was n o None h =
      either_was (nat_lt locks.last LAST_TOKEN) _ _ (granted_was n o (position is_free locks.places)) (λ k. inl k) h
  acquire_was n o (Some p) h = either_was (is_same p.1.owner o) _ _ (λ k. inl k) (λ k. inl k) h

  release_was : (o : List ℕ) (t : ℕ) (p : Option (ℕ × Lock)) → Holds (release locks o t p).locks name owner token → Was
  release_was o t None h = inl h
  release_was o t (Some p) h =
      either_was (holds p.1 o t) _ _
      (λ k. by_write k.0 None (λ e. absurd (none-some (record { name = name; owner = owner; token = token }) e))
      (get_set locks.places p.0 k.0 None held_so k.1))
      (λ k. inl k) h

  step_was : (op : LockOp) → Holds (step locks op).locks name owner token → Was
  step_was (Acquire n o) h = acquire_was n o (found locks.places n) h
  step_was (Release n o t) h = release_was o t (found locks.places n) h
  step_was (Inspect n) h = inl h
  step_was Bad h = inl h

is_next : (locks : Locks) (name owner : List ℕ) (token : ℕ) → (Holds locks name owner token → ⊥)
    → Holds locks name owner token ⊎ (locks.last + 1 ≡ token) → locks.last + 1 ≡ token
is_next locks name owner token not_held (inl h) = absurd (not_held h)
is_next locks name owner token not_held (inr e) = e

pub tokens_rise : TokensRise
tokens_rise ops later op name owner other whose old new h g =
    let s = reached ops in
    let t = after_all s later in
    let most = (fits_get s.last s.places h.0 (Some (record { name = other; owner = whose; token = old })) (reached_sound ops).fits h.1).most in
    let rises = all_last s later in
    let next = is_next t name owner new g.before (step_was t name owner new (read_op op) g.after) in
    omega (arith, most, rises, next)

-- ---- one holder

any_in : {X : Type 0} (t : X → Bool) (xs : List X) (k : ℕ) (x : X) → list_any t xs ≡ false → slice_get xs k ≡ Some x → t x ≡ false
any_in t [] k x h e = absurd (none-some x e)
any_in t (y ∷ ys) zero x h e = subst (λ (z : _). t z ≡ false) (same_Some y x e) ((or_parts (t y) (list_any t ys) h).0)
any_in t (y ∷ ys) (suc k) x h e = any_in t ys k x ((or_parts (t y) (list_any t ys) h).1) e

abbrev Shares : Lock → Lock → Type 0
Shares a b = (b.name ≡ a.name) ⊎ (b.token ≡ a.token)

clash_true : (a b : Lock) → Shares a b → clashes a (Some b) ≡ true
clash_true a b (inl e) = rw ((bytes_decides b.name a.name).1 e) refl
clash_true a b (inr e) =
    let same : b.token == a.token ≡ true = grind (arith, nat_tests, e) in
    or_true (is_same b.name a.name) (b.token == a.token) same
  where
    or_true : (x y : Bool) → y ≡ true → (x || y) ≡ true
    or_true true y e = refl
    or_true false y e = e

turned : (a b : Lock) → Shares a b → Shares b a
turned a b (inl e) = inl (sym e)
turned a b (inr e) = inr (sym e)

no_share : (p : Option Lock) (places : Places) (k : ℕ) (a b : Lock) → IsApart p places → p ≡ Some a → slice_get places k ≡ Some (Some b)
    → Shares a b → ⊥
no_share p places k a b h e at share =
    true≢false
    (sym (clash_true a b share) ∙ any_in (clashes a) places k (Some b) (subst (λ (q : Option Lock). IsApart q places) e h) at)

same_place : (places : Places) → AreApart places → (i k : ℕ) (a b : Lock) → slice_get places i ≡ Some (Some a)
    → slice_get places k ≡ Some (Some b) → Shares a b → a ≡ b
same_place [] h i k a b e f share = absurd (none-some (Some a) e)
same_place (p ∷ places) h zero zero a b e f share = same_Some a b (sym (same_Some p (Some a) e) ∙ same_Some p (Some b) f)
same_place (p ∷ places) h zero (suc k) a b e f share = absurd (no_share p places k a b h.0 (same_Some p (Some a) e) f share)
same_place (p ∷ places) h (suc i) zero a b e f share =
    absurd (no_share p places i b a h.0 (same_Some p (Some b) f) e (turned a b share))
same_place (p ∷ places) h (suc i) (suc k) a b e f share = same_place places h.1 i k a b e f share

pub one_holder : OneHolder
one_holder ops name owner other a b h k =
    let same = same_place (reached ops).places (reached_sound ops).apart h.0 k.0 _ _ h.1 k.1 (inl refl) in
    (ap (λ (lock : Lock). lock.owner) same, ap (λ (lock : Lock). lock.token) same)

pub one_lock : OneLock
one_lock ops name other owner whose token h k =
    let same = same_place (reached ops).places (reached_sound ops).apart h.0 k.0 _ _ h.1 k.1 (inr refl) in
    ap (λ (lock : Lock). lock.name) same

-- ---- a release of another's lock

is_lock : (lock : Lock) (name owner : List ℕ) (token : ℕ) → lock.name ≡ name → lock.owner ≡ owner → lock.token ≡ token
    → lock ≡ record { name = name; owner = owner; token = token }
is_lock lock name owner token n o t =
    ap (λ (x : List ℕ). record { name = x; owner = lock.owner; token = lock.token }) n
    ∙ ap (λ (x : List ℕ). record { name = name; owner = x; token = lock.token }) o
    ∙ ap (λ (x : ℕ). record { name = name; owner = owner; token = x }) t

module _ (locks : Locks) (name owner : List ℕ) where
  -- where the lock that was found is held by the owner
  holds_found : (token : ℕ) (p : ℕ × Lock) → IsFound locks.places name (Some p) → is_same p.1.owner owner ≡ true → p.1.token ≡ token
      → Holds locks name owner token
  holds_found token p at o t = (
    p.0,
    at.0 ∙ ap (λ (lock : Lock). Some (Some lock))
        (is_lock p.1 name owner token ((bytes_decides p.1.name name).0 at.1) ((bytes_decides p.1.owner owner).0 o) t),
  )

  kept_by : (token : ℕ) (p : ℕ × Lock) (b : Bool) → IsFound locks.places name (Some p) → (Holds locks name owner token → ⊥)
      → holds p.1 owner token ≡ b → (s : Step) → (cond b s (says locks (codes "refused"))).locks ≡ locks
  kept_by token p true at not_held e s =
      let o = and_parts (is_same p.1.owner owner) (p.1.token == token) e in
      absurd (not_held (holds_found token p at o.0 (eqb-true p.1.token token o.1)))
  kept_by token p false at not_held e s = refl

  release_kept : (token : ℕ) (o : Option (ℕ × Lock)) → IsFound locks.places name o → (Holds locks name owner token → ⊥)
      → (release locks owner token o).locks ≡ locks
  release_kept token None at not_held = refl
  release_kept token (Some p) at not_held = kept_by token p _ at not_held refl _

pub releases_own : ReleasesOwn
releases_own locks op name owner token e not_held =
    ap (λ (o : LockOp). (step locks o).locks) e
    ∙ release_kept locks name owner token (found locks.places name) (found_is locks.places name) not_held

-- ---- a lock that is held

module _ (locks : Locks) (name owner : List ℕ) (token : ℕ) (h : Holds locks name owner token) where
  -- it is held so after the step too
  abbrev Keeps : Step → Type 0
  Keeps s = Holds s.locks name owner token

  either_keeps : (b : Bool) (s t : Step) → Keeps s → Keeps t → Keeps (cond b s t)
  either_keeps true s t k l = k
  either_keeps false s t k l = l

  granted_keeps : (lock : Lock) (o : Option ℕ) → IsFree locks.places o → Keeps (granted_at locks lock o)
  granted_keeps lock None free =
      either_keeps (nat_lt (length locks.places) MAX_LOCKS) _ _ (h.0, add_keeps locks.places h.0 _ (Some lock) h.1) h
  granted_keeps lock (Some i) free = (h.0, set_keeps locks.places i h.0 _ (Some lock) None h.1 free (λ e. none-some _ e))

  acquire_keeps : (n o : List ℕ) (p : Option (ℕ × Lock)) → Keeps (acquire locks n o p)
  acquire_keeps n o None =
      either_keeps (nat_lt locks.last LAST_TOKEN) _ _ (granted_keeps _ (position is_free locks.places) (free_is locks.places)) h
  acquire_keeps n o (Some p) = either_keeps (is_same p.1.owner o) _ _ h h

  -- the lock that is found there has the name, the owner and the token of the release
  is_release : (n o : List ℕ) (t : ℕ) (p : ℕ × Lock) → is_same p.1.name n ≡ true → holds p.1 o t ≡ true
      → p.1 ≡ record { name = name; owner = owner; token = token } → Release n o t ≡ Release name owner token
  is_release n o t p named e same =
      let parts = and_parts (is_same p.1.owner o) (p.1.token == t) e in
      let a : n ≡ name = sym ((bytes_decides p.1.name n).0 named) ∙ ap (λ (lock : Lock). lock.name) same in
      let b : o ≡ owner = sym ((bytes_decides p.1.owner o).0 parts.0) ∙ ap (λ (lock : Lock). lock.owner) same in
      let c : t ≡ token = sym (eqb-true p.1.token t parts.1) ∙ ap (λ (lock : Lock). lock.token) same in
      ap (λ (x : List ℕ). Release x o t) a ∙ ap (λ (x : List ℕ). Release name x t) b ∙ ap (λ (x : ℕ). Release name owner x) c

  -- its place is free
  abbrev freed : ℕ × Lock → Step
  freed p = record {
    answer = codes "released";
    locks = record { last = locks.last; places = slice_set locks.places p.0 None };
    undo = Back p.0 (Some p.1) locks.last;
  }

  freed_keeps : (n o : List ℕ) (t : ℕ) (p : ℕ × Lock) (b : Bool) → IsFound locks.places n (Some p) → holds p.1 o t ≡ b
      → (Release n o t ≡ Release name owner token → ⊥) → Keeps (cond b (freed p) (says locks (codes "refused")))
  freed_keeps n o t p true at e other = (
    h.0,
    set_keeps locks.places p.0 h.0 _ None (Some p.1) h.1 at.0
        (λ same. other (is_release n o t p at.1 e (same_Some p.1 (record { name = name; owner = owner; token = token }) same))),
  )
  freed_keeps n o t p false at e other = h

  release_keeps : (n o : List ℕ) (t : ℕ) (p : Option (ℕ × Lock)) → IsFound locks.places n p
      → (Release n o t ≡ Release name owner token → ⊥) → Keeps (release locks o t p)
  release_keeps n o t None at other = h
  release_keeps n o t (Some p) at other = freed_keeps n o t p (holds p.1 o t) at refl other

  step_keeps : (op : LockOp) → (op ≡ Release name owner token → ⊥) → Keeps (step locks op)
  step_keeps (Acquire n o) other = acquire_keeps n o (found locks.places n)
  step_keeps (Release n o t) other = release_keeps n o t (found locks.places n) (found_is locks.places n) other
  step_keeps (Inspect n) other = h
  step_keeps Bad other = h

pub held_until_released : HeldUntilReleased
held_until_released locks op name owner token h other = step_keeps locks name owner token h (read_op op) other

-- ---- what an acquire answers

-- an answer with another first byte
no_grant : (b : ℕ) (rest : List ℕ) → (b ≡ 103 → ⊥) → (token : ℕ) → b ∷ rest ≡ granted token → ⊥
no_grant b rest other token e = other (same_Some b 103 (ap (λ (x : List ℕ). slice_get x 0) e))

module _ (locks : Locks) (name owner : List ℕ) where
  -- the owner holds the lock after the step by the token that it answers, or the step changes nothing and answers no token
  abbrev AnswersToken : Step → Type 0
  AnswersToken s = ((token : ℕ) × (s.answer ≡ granted token) × Holds s.locks name owner token)
      ⊎ ((s.locks ≡ locks) × ((token : ℕ) → s.answer ≡ granted token → ⊥))

  either_answers : (b : Bool) (s t : Step) → AnswersToken s → AnswersToken t → AnswersToken (cond b s t)
  either_answers true s t h k = h
  either_answers false s t h k = k

  granted_answers : (o : Option ℕ) → IsFree locks.places o
      → AnswersToken (granted_at locks (record { name = name; owner = owner; token = locks.last + 1 }) o)
  granted_answers None free =
      either_answers (nat_lt (length locks.places) MAX_LOCKS) _ _
      (inl (locks.last + 1, refl, (length locks.places, add_stands locks.places _)))
      (inr (refl, no_grant 102 _ (λ e. omega (arith, e))))
  granted_answers (Some i) free = inl (locks.last + 1, refl, (i, set_stands locks.places i None _ free))

  held_answers : (p : ℕ × Lock) (b : Bool) → IsFound locks.places name (Some p) → is_same p.1.owner owner ≡ b
      → AnswersToken (cond b (says locks (granted p.1.token)) (says locks (held p.1)))
  held_answers p true at e = inl (p.1.token, refl, holds_found locks name owner p.1.token p at e refl)
  held_answers p false at e = inr (refl, no_grant 104 _ (λ e. omega (arith, e)))

  acquire_answers : (o : Option (ℕ × Lock)) → IsFound locks.places name o → AnswersToken (acquire locks name owner o)
  acquire_answers None at =
      either_answers (nat_lt locks.last LAST_TOKEN) _ _ (granted_answers (position is_free locks.places) (free_is locks.places))
      (inr (refl, no_grant 115 _ (λ e. omega (arith, e))))
  acquire_answers (Some p) at = held_answers p (is_same p.1.owner owner) at refl

pub answers_grants : AnswersGrants
answers_grants locks op name owner e =
    subst (λ (o : LockOp). AnswersToken locks name owner (step locks o)) (sym e)
    (acquire_answers locks name owner (found locks.places name) (found_is locks.places name))

-- ---- an acquire by the holder

named_in : (places : Places) (name : List ℕ) (i : ℕ) (lock : Lock) → slice_get places i ≡ Some (Some lock) → lock.name ≡ name
    → list_any (is_named name) places ≡ false → ⊥
named_in places name i lock at same none =
    true≢false (sym ((bytes_decides lock.name name).1 same) ∙ any_in (is_named name) places i (Some lock) none at)

module _ (locks : Locks) (name owner : List ℕ) (token : ℕ) (sound : IsSound locks) (h : Holds locks name owner token) where
  abbrev AnswersSo : Step → Type 0
  AnswersSo s = (s.answer ≡ granted token) × (s.locks ≡ locks)

  again_by : (p : ℕ × Lock) (b : Bool) → p.1 ≡ record { name = name; owner = owner; token = token } → is_same p.1.owner owner ≡ b
      → AnswersSo (cond b (says locks (granted p.1.token)) (says locks (held p.1)))
  again_by p true same e = (ap (λ (lock : Lock). granted lock.token) same, refl)
  again_by p false same e =
      absurd (true≢false (sym ((bytes_decides p.1.owner owner).1 (ap (λ (lock : Lock). lock.owner) same)) ∙ e))

  again : (o : Option (ℕ × Lock)) → IsFound locks.places name o → AnswersSo (acquire locks name owner o)
  again None none = absurd (named_in locks.places name h.0 _ h.1 refl none)
  again (Some p) at =
      again_by p _
      (same_place locks.places sound.apart p.0 h.0 p.1 _ at.0 h.1 (inl (sym ((bytes_decides p.1.name name).0 at.1)))) refl

pub answers_again : AnswersAgain
answers_again ops op name owner token e h =
    let locks = reached ops in
    subst (λ (o : LockOp). ((step locks o).answer ≡ granted token) × ((step locks o).locks ≡ locks)) (sym e)
    (again locks name owner token (reached_sound ops) h (found locks.places name) (found_is locks.places name))
