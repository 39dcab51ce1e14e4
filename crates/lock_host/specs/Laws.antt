-- Proofs: nothing here has to be believed.
-- The laws of a host, for the lock service.
use Rattle.std.proofs.Common.{◌≡◌, ℕ, ◌+◌, ◌-◌, ◌<◌, ◌≤◌, Bool, true, false, cond, List, [], ◌∷◌, ◌++◌, length, take, slice_get}
use Rattle.std.proofs.Common.{slice_set, Option, Some, None, refl, ap, ◌∙◌, arith, ltb-true}
use Rattle.std.specs.Prelude.{IfSome, nat_lt, codes, position, ⊤, ◌==◌}
use Rattle.std.specs.Option.{unwrap_or, option_and_then}
use Rattle.std.specs.List.{list_any}
use Rattle.std.proofs.lemmas.List.{length-append}
use Rattle.std.proofs.Math.Seq.{take-append_seam}
use Rattle.lemmas.proofs.Options.{then_holds}
use Rattle.lemmas.proofs.Places.{length-slice_set}
use Rattle.nop_types.specs.declared.limits.TheConstants.{MAX_RESULT_BYTES}
use Rattle.lock_host.specs.declared.locks.TheConstants.{MAX_LOCKS, LAST_TOKEN}
use Rattle.lock_host.specs.declared.op.TheConstants.{ACQUIRE, RELEASE, INSPECT}
use Rattle.lock_host.specs.declared.lock.Lock.{Lock}
use Rattle.lock_host.specs.declared.op.LockOp.{LockOp}
use Rattle.lock_host.specs.declared.op.LockOp.TheVariants.{Acquire, Release, Inspect, Bad}
use Rattle.saved_fields.specs.Numbers.{number_bytes, number_at}
use Rattle.saved_fields.specs.Reading.{length-number}
use Rattle.lock_host.specs.Fields.{NameFits, name_at}
use Rattle.lock_host.specs.Op.{at_end, read_acquire, read_release, read_inspect, read_fields, read_op}
use Rattle.lock_host.specs.Reading.{Field, BeginsName, name_at-begins}
use Rattle.lock_host.specs.Locks.{Places, Locks, Step, is_same, is_free, is_named, found, granted, held, holder_text, says, granted_at, acquire}
use Rattle.lock_host.specs.Locks.{holds, release, step, undone}
use Rattle.lock_host.specs.Finding.{IsFound, found_is, IsFree, free_is}
use Rattle.lock_host.specs.Saved.{clashes}
use Rattle.lock_host.specs.Service.{lock_meaning, undo_of, LockFits, PlacesFit, IsSound}
use Rattle.lock_host.specs.Places.{set_back, fits_get, fits_set, fits_add, all_later, new_lock, apart_set, apart_add}

-- ---- an op that is read has its names within their limits

abbrev pub OpFits : LockOp → Type 0
OpFits (Acquire name owner) = NameFits name × NameFits owner
OpFits (Release name owner token) = NameFits name × NameFits owner
OpFits (Inspect name) = NameFits name
OpFits Bad = ⊤

any : {A B : Type 0} (Q : B → Type 0) (o : Option A) (f : A → Option B) → ((x : A) → IfSome (f x) Q) → IfSome (option_and_then f o) Q
any Q None f k = tt
any Q (Some x) f k = k x

ends : (rest : List ℕ) (op : LockOp) → OpFits op → IfSome (at_end rest op) OpFits
ends [] op h = h
ends (b ∷ rest) op h = tt

after_name : (bytes : List ℕ) (f : Field → Option LockOp) → ((name : Field) → NameFits name.0 → IfSome (f name) OpFits)
    → IfSome (option_and_then f (name_at bytes)) OpFits
after_name bytes f h = then_holds (BeginsName bytes) OpFits (name_at bytes) f (name_at-begins bytes) (λ name k. h name k.fits)

acquire_fits : (bytes : List ℕ) → IfSome (read_acquire bytes) OpFits
unfolding read_acquire
acquire_fits bytes =
    after_name bytes _ (λ name n. after_name name.1 _ (λ owner o. ends owner.1 (Acquire name.0 owner.0) (n, o)))

release_fits : (bytes : List ℕ) → IfSome (read_release bytes) OpFits
unfolding read_release
release_fits bytes =
    after_name bytes _ (λ name n. after_name name.1 _ (λ owner o.
    any OpFits (number_at owner.1) _ (λ token. ends token.1 (Release name.0 owner.0 token.0) (n, o))))

inspect_fits : (bytes : List ℕ) → IfSome (read_inspect bytes) OpFits
unfolding read_inspect
inspect_fits bytes = after_name bytes _ (λ name n. ends name.1 (Inspect name.0) n)

either : (b : Bool) (o p : Option LockOp) → IfSome o OpFits → IfSome p OpFits → IfSome (cond b o p) OpFits
either true o p h k = h
either false o p h k = k

fields_fit : (kind : ℕ) (bytes : List ℕ) → IfSome (read_fields kind bytes) OpFits
fields_fit kind bytes =
    either (kind == ACQUIRE) _ _ (acquire_fits bytes)
    (either (kind == RELEASE) _ _ (release_fits bytes)
    (either (kind == INSPECT) _ None (inspect_fits bytes) tt))

or_bad : (o : Option LockOp) → IfSome o OpFits → OpFits (unwrap_or o Bad)
or_bad None h = tt
or_bad (Some op) h = h

pub read_fits : (bytes : List ℕ) → OpFits (read_op bytes)
unfolding read_op
read_fits [] = tt
read_fits (kind ∷ bytes) = or_bad _ (fields_fit kind bytes)

-- ---- states stay sound

pub opens_sound : IsSound lock_meaning.opening
opens_sound = record { few = omega arith; last = omega arith; fits = tt; apart = tt }

module _ (locks : Locks) (name owner : List ℕ) (sound : IsSound locks) (n : NameFits name) (o : NameFits owner)
    (below : locks.last < LAST_TOKEN) (free : list_any (is_named name) locks.places ≡ false) where
  abbrev new : Lock
  new = record { name = name; owner = owner; token = locks.last + 1 }

  new_fits : LockFits (locks.last + 1) new
  new_fits = record { name = n; owner = o; least = omega arith; most = omega arith }

  others : PlacesFit (locks.last + 1) locks.places
  others = all_later locks.last (locks.last + 1) locks.places (omega arith) sound.fits

  new_apart : list_any (clashes new) locks.places ≡ false
  new_apart = new_lock locks.last locks.places name owner (locks.last + 1) sound.fits free (omega arith)

  at_new_place : (b : Bool) → nat_lt (length locks.places) MAX_LOCKS ≡ b
      → IsSound (cond b
      (record {
        answer = granted new.token;
        locks = record { last = new.token; places = locks.places ++ Some new ∷ [] };
        undo = Rattle.lock_host.specs.declared.undo.LockUndo.TheVariants.Last;
      })
      (says locks (codes "full"))).locks
  at_new_place true e =
      let l = length-append locks.places (Some new ∷ []) in
      let room = ltb-true (length locks.places) MAX_LOCKS e in
      record {
        few = omega (arith, l, room);
        last = omega (arith, below);
        fits = fits_add (locks.last + 1) locks.places (Some new) others new_fits;
        apart = apart_add locks.places (Some new) sound.apart new_apart;
      }
  at_new_place false e = sound

  granted_sound : (place : Option ℕ) → IsSound (granted_at locks new place).locks
  granted_sound None = at_new_place _ refl
  granted_sound (Some i) =
      let l = length-slice_set locks.places i (Some new) in
      let few = sound.few in
      record {
        few = omega (arith, l, few);
        last = omega (arith, below);
        fits = fits_set (locks.last + 1) locks.places i (Some new) others new_fits;
        apart = apart_set locks.places i (Some new) sound.apart new_apart;
      }

grant_sound : (locks : Locks) (name owner : List ℕ) (b : Bool) → IsSound locks → NameFits name → NameFits owner
    → list_any (is_named name) locks.places ≡ false → nat_lt locks.last LAST_TOKEN ≡ b
    → IsSound (cond b
    (granted_at locks (record { name = name; owner = owner; token = locks.last + 1 }) (position is_free locks.places))
    (says locks (codes "spent"))).locks
grant_sound locks name owner true sound n o free e =
    granted_sound locks name owner sound n o (ltb-true locks.last LAST_TOKEN e) free (position is_free locks.places)
grant_sound locks name owner false sound n o free e = sound

either_sound : (b : Bool) (s t : Step) → IsSound s.locks → IsSound t.locks → IsSound (cond b s t).locks
either_sound true s t h k = h
either_sound false s t h k = k

acquire_sound : (locks : Locks) (name owner : List ℕ) (o : Option (ℕ × Lock)) → IsSound locks → NameFits name → NameFits owner
    → IsFound locks.places name o → IsSound (acquire locks name owner o).locks
acquire_sound locks name owner None sound n o free = grant_sound locks name owner _ sound n o free refl
acquire_sound locks name owner (Some p) sound n o at = either_sound (is_same p.1.owner owner) _ _ sound sound

freed_sound : (locks : Locks) (i : ℕ) → IsSound locks → IsSound (record { last = locks.last; places = slice_set locks.places i None })
freed_sound locks i sound =
    let l = length-slice_set locks.places i None in
    let few = sound.few in
    record {
      few = omega (arith, l, few);
      last = sound.last;
      fits = fits_set locks.last locks.places i None sound.fits tt;
      apart = apart_set locks.places i None sound.apart tt;
    }

release_sound : (locks : Locks) (owner : List ℕ) (token : ℕ) (o : Option (ℕ × Lock)) → IsSound locks
    → IsSound (release locks owner token o).locks
release_sound locks owner token None sound = sound
release_sound locks owner token (Some p) sound = either_sound (holds p.1 owner token) _ _ (freed_sound locks p.0 sound) sound

pub step_sound : (locks : Locks) (op : LockOp) → OpFits op → IsSound locks → IsSound (step locks op).locks
step_sound locks (Acquire name owner) fits sound =
    acquire_sound locks name owner (found locks.places name) sound fits.0 fits.1 (found_is locks.places name)
step_sound locks (Release name owner token) fits sound = release_sound locks owner token (found locks.places name) sound
step_sound locks (Inspect name) fits sound = sound
step_sound locks Bad fits sound = sound

pub stays_sound : (locks : Locks) (op : List ℕ) → IsSound locks → IsSound (lock_meaning.after locks op)
stays_sound locks op sound = step_sound locks (read_op op) (read_fits op) sound

-- ---- answers are short

abbrev IsShort : List ℕ → Type 0
IsShort answer = length answer ≤ 76

granted_short : (token : ℕ) → IsShort (granted token)
granted_short token = let n = length-number token in omega (arith, n)

held_short : (lock : Lock) → NameFits lock.owner → IsShort (held lock)
held_short lock fits =
    let n = length-number lock.token in
    let l = length-append (number_bytes lock.token) lock.owner in
    let most = fits.most in
    omega (arith, n, l, most)

found_short : (locks : Locks) (name : List ℕ) (p : ℕ × Lock) → IsSound locks → IsFound locks.places name (Some p) → IsShort (held p.1)
found_short locks name p sound at = held_short p.1 (fits_get locks.last locks.places p.0 (Some p.1) sound.fits at.0).owner

either_short : (b : Bool) (s t : Step) → IsShort s.answer → IsShort t.answer → IsShort (cond b s t).answer
either_short true s t h k = h
either_short false s t h k = k

granted_at_short : (locks : Locks) (lock : Lock) (o : Option ℕ) → IsShort (granted_at locks lock o).answer
granted_at_short locks lock None =
    either_short (nat_lt (length locks.places) MAX_LOCKS) _ _ (granted_short lock.token) (omega arith)
granted_at_short locks lock (Some i) = granted_short lock.token

acquire_short : (locks : Locks) (name owner : List ℕ) (o : Option (ℕ × Lock)) → IsSound locks → IsFound locks.places name o
    → IsShort (acquire locks name owner o).answer
acquire_short locks name owner None sound free =
    either_short (nat_lt locks.last LAST_TOKEN) _ _ (granted_at_short locks _ (position is_free locks.places)) (omega arith)
acquire_short locks name owner (Some p) sound at =
    either_short (is_same p.1.owner owner) _ _ (granted_short p.1.token) (found_short locks name p sound at)

release_short : (locks : Locks) (owner : List ℕ) (token : ℕ) (o : Option (ℕ × Lock)) → IsShort (release locks owner token o).answer
release_short locks owner token None = omega arith
release_short locks owner token (Some p) = either_short (holds p.1 owner token) _ _ (omega arith) (omega arith)

holder_text_short : (locks : Locks) (name : List ℕ) (o : Option (ℕ × Lock)) → IsSound locks → IsFound locks.places name o → IsShort (holder_text o)
holder_text_short locks name None sound free = omega arith
holder_text_short locks name (Some p) sound at = found_short locks name p sound at

step_short : (locks : Locks) (op : LockOp) → IsSound locks → IsShort (step locks op).answer
step_short locks (Acquire name owner) sound = acquire_short locks name owner (found locks.places name) sound (found_is locks.places name)
step_short locks (Release name owner token) sound = release_short locks owner token (found locks.places name)
step_short locks (Inspect name) sound = holder_text_short locks name (found locks.places name) sound (found_is locks.places name)
step_short locks Bad sound = omega arith

pub answers_limited : (locks : Locks) (op : List ℕ) → IsSound locks → length (lock_meaning.answer locks op) ≤ 76
answers_limited locks op sound = step_short locks (read_op op) sound

pub answers_short : (locks : Locks) (op : List ℕ) → IsSound locks → length (lock_meaning.answer locks op) ≤ MAX_RESULT_BYTES
answers_short locks op sound = let most = answers_limited locks op sound in omega (arith, most)

-- ---- an op is undone

IsBack : Locks → Step → Type 0
IsBack locks s = undone s.locks s.undo ≡ locks

either_back : (locks : Locks) (b : Bool) (s t : Step) → IsBack locks s → IsBack locks t → IsBack locks (cond b s t)
either_back locks true s t h k = h
either_back locks false s t h k = k

-- what was written is as it was
written : (locks : Locks) (i : ℕ) (was place : Option Lock) → slice_get locks.places i ≡ Some was
    → record { last = locks.last; places = slice_set (slice_set locks.places i place) i was } ≡ locks
written locks i was place at = ap (λ (places : Places). record { last = locks.last; places = places }) (set_back locks.places i was place at)

added : (locks : Locks) (place : Option Lock)
    → record {
      last = (locks.last + 1) - 1;
      places = take (length (locks.places ++ place ∷ []) - 1) (locks.places ++ place ∷ []);
    } ≡ locks
added locks place =
    let l = length-append locks.places (place ∷ []) in
    let n : length (locks.places ++ place ∷ []) - 1 ≡ length locks.places = omega (arith, l) in
    let m : (locks.last + 1) - 1 ≡ locks.last = omega arith in
    ap (λ (k : ℕ). record { last = (locks.last + 1) - 1; places = take k (locks.places ++ place ∷ []) }) n
    ∙ ap (λ (places : Places). record { last = (locks.last + 1) - 1; places = places }) (take-append_seam locks.places (place ∷ []))
    ∙ ap (λ (last : ℕ). record { last = last; places = locks.places }) m

granted_back : (locks : Locks) (name owner : List ℕ) (o : Option ℕ) → IsFree locks.places o
    → IsBack locks (granted_at locks (record { name = name; owner = owner; token = locks.last + 1 }) o)
unfolding IsBack
granted_back locks name owner None free = either_back locks (nat_lt (length locks.places) MAX_LOCKS) _ _ (added locks _) refl
granted_back locks name owner (Some i) free = written locks i None _ free

acquire_back : (locks : Locks) (name owner : List ℕ) (o : Option (ℕ × Lock)) → IsBack locks (acquire locks name owner o)
unfolding IsBack
acquire_back locks name owner None =
    either_back locks (nat_lt locks.last LAST_TOKEN) _ _
    (granted_back locks name owner (position is_free locks.places) (free_is locks.places)) refl
acquire_back locks name owner (Some p) = either_back locks (is_same p.1.owner owner) _ _ refl refl

release_back : (locks : Locks) (name owner : List ℕ) (token : ℕ) (o : Option (ℕ × Lock)) → IsFound locks.places name o
    → IsBack locks (release locks owner token o)
unfolding IsBack
release_back locks name owner token None at = refl
release_back locks name owner token (Some p) at =
    either_back locks (holds p.1 owner token) _ _ (written locks p.0 (Some p.1) None at.0) refl

step_back : (locks : Locks) (op : LockOp) → IsBack locks (step locks op)
unfolding IsBack
step_back locks (Acquire name owner) = acquire_back locks name owner (found locks.places name)
step_back locks (Release name owner token) = release_back locks name owner token (found locks.places name) (found_is locks.places name)
step_back locks (Inspect name) = refl
step_back locks Bad = refl

pub undoes : (locks : Locks) (op : List ℕ) → undone (lock_meaning.after locks op) (undo_of locks op) ≡ locks
unfolding IsBack
undoes locks op = step_back locks (read_op op)
