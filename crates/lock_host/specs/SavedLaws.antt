-- Proofs: nothing here has to be believed.
-- A saved state is short, it loads again, and nothing loads but what was saved of a sound state.
use Rattle.std.proofs.Common.{◌≡◌, ℕ, zero, suc, ◌*◌, ◌<◌, ◌≤◌, ◌^◌, Bool, true, false, cond, List, [], ◌∷◌, ◌++◌, length}
use Rattle.std.proofs.Common.{Option, Some, None, refl, sym, ap, subst, ◌∙◌, append_assoc, true≢false, arith, eqb-true, leb-true}
use Rattle.std.specs.Prelude.{IfSome, ◌==◌, not, nat_le}
use Rattle.std.specs.List.{flat_map, list_any}
use Rattle.std.proofs.lemmas.Bool.Decides.{nat_tests}
use Rattle.std.proofs.lemmas.List.{length-append, append-nil}
use Rattle.std.proofs.lemmas.Bool.{and_parts, or_parts}
use Rattle.lemmas.proofs.Options.{then_holds}
use Rattle.nop_types.specs.declared.limits.TheConstants.{MAX_HOST_BYTES}
use Rattle.saved_fields.specs.Numbers.{BeginsNumber, number_bytes, number_at}
use Rattle.saved_fields.specs.Reading.{length-number, number_at-begins, number_at-number}
use Rattle.lock_host.specs.declared.locks.TheConstants.{MAX_LOCKS}
use Rattle.lock_host.specs.declared.lock.Lock.{Lock}
use Rattle.lock_host.specs.Fields.{NameFits, name_bytes, name_at}
use Rattle.lock_host.specs.Reading.{BeginsName, name_at-begins, name_at-name}
use Rattle.lock_host.specs.Locks.{Places, Locks}
use Rattle.lock_host.specs.Saved.{place_bytes, saved, clashes, is_allowed, lock_at, place_at, nothing_after, with_places, loaded}
use Rattle.lock_host.specs.Service.{LockFits, PlaceFits, PlacesFit, IsApart, AreApart, IsSound}
use Rattle.lock_host.specs.Places.{clashes_back, apart_add}

-- ---- a saved state is short

place_short : (last : ℕ) (p : Option Lock) → PlaceFits last p → length (place_bytes p) ≤ 138
place_short last None h = omega arith
place_short last (Some lock) h =
    let n = length-number lock.token in
    let a = length-append lock.name (name_bytes lock.owner ++ number_bytes lock.token) in
    let b = length-append lock.owner (number_bytes lock.token) in
    let name = h.name.most in
    let owner = h.owner.most in
    omega (arith, n, a, b, name, owner)

places_short : (last : ℕ) (places : Places) → PlacesFit last places → length (flat_map place_bytes places) ≤ 138 * length places
places_short last [] h = omega arith
places_short last (p ∷ places) h =
    let one = place_short last p h.0 in
    let rest = places_short last places h.1 in
    let whole = length-append (place_bytes p) (flat_map place_bytes places) in
    omega (arith, one, rest, whole)

pub saves_limited : (locks : Locks) → IsSound locks → length (saved locks) ≤ 565264
saves_limited locks sound =
    let places = places_short locks.last locks.places sound.fits in
    let a = length-append (number_bytes locks.last) (number_bytes (length locks.places) ++ flat_map place_bytes locks.places) in
    let b = length-append (number_bytes (length locks.places)) (flat_map place_bytes locks.places) in
    let n = length-number locks.last in
    let m = length-number (length locks.places) in
    let few = sound.few in
    omega (arith, places, a, b, n, m, few)

pub saves_short : (locks : Locks) → IsSound locks → length (saved locks) ≤ MAX_HOST_BYTES
saves_short locks sound = let most = saves_limited locks sound in omega (arith, most)

-- ---- what was saved loads

joined : (name owner : List ℕ) (token : ℕ) (rest : List ℕ)
    → (name_bytes name ++ (name_bytes owner ++ number_bytes token)) ++ rest
    ≡ name_bytes name ++ (name_bytes owner ++ (number_bytes token ++ rest))
joined name owner token rest =
    append_assoc (name_bytes name) (name_bytes owner ++ number_bytes token) rest
    ∙ ap (λ (x : List ℕ). name_bytes name ++ x) (append_assoc (name_bytes owner) (number_bytes token) rest)

lock_read : (lock : Lock) (rest : List ℕ) → NameFits lock.name → NameFits lock.owner → lock.token < 2 ^ 64
    → lock_at (name_bytes lock.name ++ (name_bytes lock.owner ++ (number_bytes lock.token ++ rest))) ≡ Some (lock, rest)
unfolding lock_at
lock_read lock rest n o t =
    rw (
      name_at-name lock.name (name_bytes lock.owner ++ (number_bytes lock.token ++ rest)) n,
      name_at-name lock.owner (number_bytes lock.token ++ rest) o,
      number_at-number lock.token rest t,
    ) refl

place_some : (last : ℕ) (prefix : Places) (b : ℕ) (rest : List ℕ) (lock : Lock) (more : List ℕ) → b == 0 ≡ false
    → lock_at (b ∷ rest) ≡ Some (lock, more) → is_allowed last prefix lock ≡ true → place_at last prefix (b ∷ rest) ≡ Some (Some lock, more)
unfolding place_at
place_some last prefix b rest lock more e f g = rw (e, f, g) refl

allowed : (last : ℕ) (prefix : Places) (lock : Lock) → LockFits last lock → list_any (clashes lock) prefix ≡ false
    → is_allowed last prefix lock ≡ true
allowed last prefix lock fits none =
    let least = fits.least in
    let most = fits.most in
    let a : nat_le 1 lock.token ≡ true = grind (arith, nat_tests, least) in
    let b : nat_le lock.token last ≡ true = grind (arith, nat_tests, most) in
    rw (a, b, none) refl

first_place : (last : ℕ) (prefix : Places) (p : Option Lock) (more : List ℕ) → PlaceFits last p → last < 2 ^ 64 → IsApart p prefix
    → place_at last prefix (place_bytes p ++ more) ≡ Some (p, more)
unfolding place_at
first_place last prefix None more fits small none = refl
first_place last prefix (Some lock) more fits small none =
    let least = fits.name.least in
    let some : length lock.name == 0 ≡ false = grind (arith, nat_tests, least) in
    let most = fits.most in
    place_some last prefix (length lock.name) _ lock more some
    (ap lock_at (joined lock.name lock.owner lock.token more) ∙ lock_read lock more fits.name fits.owner (omega (arith, most, small)))
    (allowed last prefix lock fits none)

any_at : {X : Type 0} (t : X → Bool) (prefix : List X) (x : X) (rest : List X) → list_any t (prefix ++ x ∷ rest) ≡ false → t x ≡ false
any_at t [] x rest h = (or_parts (t x) (list_any t rest) h).0
any_at t (y ∷ prefix) x rest h = any_at t prefix x rest ((or_parts (t y) (list_any t (prefix ++ x ∷ rest)) h).1)

no_clash : (lock : Lock) (q : Option Lock) (prefix rest : Places) → IsApart q (prefix ++ Some lock ∷ rest) → clashes lock q ≡ false
no_clash lock None prefix rest h = refl
no_clash lock (Some other) prefix rest h = clashes_back lock other ∙ any_at (clashes other) prefix (Some lock) rest h

apart_prefix : (prefix : Places) (p : Option Lock) (rest : Places) → AreApart (prefix ++ p ∷ rest) → IsApart p prefix
apart_prefix prefix None rest h = tt
apart_prefix [] (Some lock) rest h = refl
apart_prefix (q ∷ prefix) (Some lock) rest h = rw (no_clash lock q prefix rest h.0) (apart_prefix prefix (Some lock) rest h.1)

read_again : (last : ℕ) (prefix rest : Places) → PlacesFit last rest → last < 2 ^ 64 → AreApart (prefix ++ rest)
    → with_places (length rest) last prefix (flat_map place_bytes rest) ≡ Some (record { last = last; places = prefix ++ rest })
unfolding with_places
read_again last prefix [] fits small apart = ap (λ (places : Places). Some (record { last = last; places = places })) (sym (append-nil prefix))
read_again last prefix (p ∷ rest) fits small apart =
    rw (first_place last prefix p (flat_map place_bytes rest) fits.0 small (apart_prefix prefix p rest apart))
    (read_again last (prefix ++ p ∷ []) rest fits.1 small (subst AreApart (sym (append_assoc prefix (p ∷ []) rest)) apart)
    ∙ ap (λ (places : Places). Some (record { last = last; places = places })) (append_assoc prefix (p ∷ []) rest))

pub loads_saved : (locks : Locks) → IsSound locks → loaded (saved locks) ≡ Some locks
unfolding loaded
loads_saved locks sound =
    let places = locks.places in
    let few = sound.few in
    let last = sound.last in
    let test : nat_le (length places) MAX_LOCKS ≡ true = grind (arith, nat_tests, few) in
    rw (
      number_at-number locks.last (number_bytes (length places) ++ flat_map place_bytes places) (omega (arith, last)),
      number_at-number (length places) (flat_map place_bytes places) (omega (arith, few)),
      test,
    ) (read_again locks.last [] places sound.fits (omega (arith, last)) sound.apart)

-- ---- nothing else loads

not_so : (b : Bool) → not b ≡ true → b ≡ false
not_so true e = absurd (true≢false (sym e))
not_so false e = refl

-- the bytes begin with the lock
record BeginsLock (bytes : List ℕ) (found : Lock × List ℕ) : Type 0 where
  name : NameFits found.0.name
  owner : NameFits found.0.owner
  spelled : bytes ≡ place_bytes (Some found.0) ++ found.1

lock_at-begins : (bytes : List ℕ) → IfSome (lock_at bytes) (BeginsLock bytes)
unfolding lock_at
lock_at-begins bytes =
    then_holds (BeginsName bytes) (BeginsLock bytes) (name_at bytes) _ (name_at-begins bytes) (λ name n.
    then_holds (BeginsName name.1) (BeginsLock bytes) (name_at name.1) _ (name_at-begins name.1) (λ owner o.
    then_holds (BeginsNumber owner.1) (BeginsLock bytes) (number_at owner.1) _ (number_at-begins owner.1) (λ token t.
    record {
      name = n.fits;
      owner = o.fits;
      spelled =
          n.spelled
          ∙ ap (λ (x : List ℕ). name_bytes name.0 ++ x) (o.spelled ∙ ap (λ (x : List ℕ). name_bytes owner.0 ++ x) t.spelled)
          ∙ sym (joined name.0 owner.0 token.0 token.1);
    })))

-- the bytes begin with a place that may stand behind these
record BeginsPlace (last : ℕ) (prefix : Places) (bytes : List ℕ) (found : Option Lock × List ℕ) : Type 0 where
  fits : PlaceFits last found.0
  apart : IsApart found.0 prefix
  spelled : bytes ≡ place_bytes found.0 ++ found.1

allowed_by : (last : ℕ) (prefix : Places) (bytes : List ℕ) (lock : Lock × List ℕ) (test : Bool) → is_allowed last prefix lock.0 ≡ test
    → BeginsLock bytes lock → IfSome (cond test (Some (Some lock.0, lock.1)) None) (BeginsPlace last prefix bytes)
allowed_by last prefix bytes lock true e l =
    let one = and_parts (nat_le 1 lock.0.token) _ e in
    let two = and_parts (nat_le lock.0.token last) _ one.1 in
    record {
      fits = record { name = l.name; owner = l.owner; least = leb-true 1 lock.0.token one.0; most = leb-true lock.0.token last two.0 };
      apart = not_so (list_any (clashes lock.0) prefix) two.1;
      spelled = l.spelled;
    }
allowed_by last prefix bytes lock false e l = tt

place_by : (last : ℕ) (prefix : Places) (b : ℕ) (rest : List ℕ) (test : Bool) → b == 0 ≡ test
    → IfSome (cond test (Some (None, rest))
    (Rattle.std.specs.Option.option_and_then
    (λ lock. cond (is_allowed last prefix lock.0) (Some (Some lock.0, lock.1)) None) (lock_at (b ∷ rest))))
    (BeginsPlace last prefix (b ∷ rest))
place_by last prefix b rest true e = record { fits = tt; apart = tt; spelled = ap (λ (n : ℕ). n ∷ rest) (eqb-true b 0 e) }
place_by last prefix b rest false e =
    then_holds (BeginsLock (b ∷ rest)) (BeginsPlace last prefix (b ∷ rest)) (lock_at (b ∷ rest)) _ (lock_at-begins (b ∷ rest))
    (λ lock l. allowed_by last prefix (b ∷ rest) lock _ refl l)

place_at-begins : (last : ℕ) (prefix : Places) (bytes : List ℕ) → IfSome (place_at last prefix bytes) (BeginsPlace last prefix bytes)
unfolding place_at
place_at-begins last prefix [] = tt
place_at-begins last prefix (b ∷ rest) = place_by last prefix b rest _ refl

-- the locks have the places in front, and then n that the bytes spell
record AreRead (n last : ℕ) (prefix : Places) (bytes : List ℕ) (s : Locks) : Type 0 where
  rest : Places
  count : length rest ≡ n
  fits : PlacesFit last rest
  apart : AreApart (prefix ++ rest)
  spelled : bytes ≡ flat_map place_bytes rest
  is : s ≡ record { last = last; places = prefix ++ rest }

nothing_follows : (last : ℕ) (prefix : Places) (bytes : List ℕ) → AreApart prefix
    → IfSome (nothing_after bytes (record { last = last; places = prefix })) (AreRead 0 last prefix bytes)
nothing_follows last prefix [] apart = record {
  rest = [];
  count = refl;
  fits = tt;
  apart = subst AreApart (sym (append-nil prefix)) apart;
  spelled = refl;
  is = ap (λ (places : Places). record { last = last; places = places }) (sym (append-nil prefix));
}
nothing_follows last prefix (b ∷ bytes) apart = tt

one_before : (n last : ℕ) (prefix : Places) (bytes : List ℕ) (p : Option Lock) (more : List ℕ) → BeginsPlace last prefix bytes (p, more)
    → (o : Option Locks) → IfSome o (AreRead n last (prefix ++ p ∷ []) more) → IfSome o (AreRead (suc n) last prefix bytes)
one_before n last prefix bytes p more begins None read = tt
one_before n last prefix bytes p more begins (Some s) read = record {
  rest = p ∷ read.rest;
  count = ap suc read.count;
  fits = (begins.fits, read.fits);
  apart = subst AreApart (append_assoc prefix (p ∷ []) read.rest) read.apart;
  spelled = begins.spelled ∙ ap (λ (x : List ℕ). place_bytes p ++ x) read.spelled;
  is = read.is ∙ ap (λ (places : Places). record { last = last; places = places }) (append_assoc prefix (p ∷ []) read.rest);
}

with_places-read : (n last : ℕ) (prefix : Places) (bytes : List ℕ) → AreApart prefix
    → IfSome (with_places n last prefix bytes) (AreRead n last prefix bytes)
unfolding with_places
with_places-read zero last prefix bytes apart = nothing_follows last prefix bytes apart
with_places-read (suc n) last prefix bytes apart =
    then_holds (BeginsPlace last prefix bytes) (AreRead (suc n) last prefix bytes) (place_at last prefix bytes) _
    (place_at-begins last prefix bytes)
    (λ place begins.
    one_before n last prefix bytes place.0 place.1 begins (with_places n last (prefix ++ place.0 ∷ []) place.1)
    (with_places-read n last (prefix ++ place.0 ∷ []) place.1 (apart_add prefix place.0 apart begins.apart)))

abbrev IsSaved : List ℕ → Locks → Type 0
IsSaved bytes s = IsSound s × (saved s ≡ bytes)

read_sound : (bytes : List ℕ) (last count : ℕ × List ℕ) → BeginsNumber bytes last → BeginsNumber last.1 count → count.0 ≤ MAX_LOCKS
    → (o : Option Locks) → IfSome o (AreRead count.0 last.0 [] count.1) → IfSome o (IsSaved bytes)
read_sound bytes last count l c few None read = tt
read_sound bytes last count l c few (Some s) read =
    let n = read.count in
    let small = l.fits in
    let made : Locks = record { last = last.0; places = read.rest } in
    subst (IsSaved bytes) (sym read.is) (
      record { few = omega (arith, n, few); last = omega (arith, small); fits = read.fits; apart = read.apart },
      ap (λ (m : ℕ). number_bytes last.0 ++ (number_bytes m ++ flat_map place_bytes read.rest)) n
          ∙ ap (λ (x : List ℕ). number_bytes last.0 ++ (number_bytes count.0 ++ x)) (sym read.spelled)
          ∙ ap (λ (x : List ℕ). number_bytes last.0 ++ x) (sym c.spelled)
          ∙ sym l.spelled,
    )

counted : (bytes : List ℕ) (last count : ℕ × List ℕ) (test : Bool) → nat_le count.0 MAX_LOCKS ≡ test → BeginsNumber bytes last
    → BeginsNumber last.1 count → IfSome (cond test (with_places count.0 last.0 [] count.1) None) (IsSaved bytes)
counted bytes last count true e l c =
    read_sound bytes last count l c (leb-true count.0 MAX_LOCKS e) (with_places count.0 last.0 [] count.1)
    (with_places-read count.0 last.0 [] count.1 tt)
counted bytes last count false e l c = tt

loaded_saved : (bytes : List ℕ) → IfSome (loaded bytes) (IsSaved bytes)
unfolding loaded
loaded_saved bytes =
    then_holds (BeginsNumber bytes) (IsSaved bytes) (number_at bytes) _ (number_at-begins bytes) (λ last l.
    then_holds (BeginsNumber last.1) (IsSaved bytes) (number_at last.1) _ (number_at-begins last.1) (λ count c.
    counted bytes last count _ refl l c))

pub loads_only : (bytes : List ℕ) (s : Locks) → loaded bytes ≡ Some s → IsSound s × (saved s ≡ bytes)
loads_only bytes s e = subst (λ (o : Option Locks). IfSome o (IsSaved bytes)) e (loaded_saved bytes)
