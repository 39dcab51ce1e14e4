-- Steps of a reader that may find nothing, or fail with an error of any type.
use Rattle.std.proofs.Common.{◌≡◌, Bool, true, false, cond, Option, Some, None, Result, Ok, Err, refl}
use Rattle.std.specs.Prelude.{ok_or}
use Rattle.oum_codec.specs.Numbers as numbers
use Rattle.oum_codec.specs.Reading as results

abbrev found : {A : Type 0} → A → Option A
found x = Some x

abbrev done : {A E : Type 0} → A → Result A E
done x = Ok x

pub some_is : {A : Type 0} (x y : A) → found x ≡ found y → x ≡ y
some_is x y e = cc

pub ok_is : {A E : Type 0} (x y : A) → done {E = E} x ≡ done y → x ≡ y
ok_is x y e = cc

-- a step that found something had a value, from which the next step found it
pub bind_some : {A B : Type 0} (o : Option A) (next : A → Option B) (y : B) → numbers.◌>>=◌ o next ≡ Some y
    → (x : A) × (o ≡ Some x) × (next x ≡ Some y)
bind_some (Some x) next y e = (x, refl, e)
bind_some None next y e = absurd cc

pub bind_ok : {A B E : Type 0} (r : Result A E) (next : A → Result B E) (y : B) → results.◌>>=◌ r next ≡ Ok y
    → (x : A) × (r ≡ Ok x) × (next x ≡ Ok y)
bind_ok (Ok x) next y e = (x, refl, e)
bind_ok (Err d) next y e = absurd cc

pub ok_or_ok : {A E : Type 0} (o : Option A) (d : E) (x : A) → ok_or o d ≡ Ok x → o ≡ Some x
ok_or_ok (Some y) d x e = cc
ok_or_ok None d x e = absurd cc

-- a test that passed, where failing is the second choice, and the first
pub passed_ok : {A E : Type 0} (b : Bool) (d : E) (r : Result A E) (y : A) → cond b r (Err d) ≡ Ok y → (b ≡ true) × (r ≡ Ok y)
passed_ok true d r y e = (refl, e)
passed_ok false d r y e = absurd cc

pub guard_ok : {A E : Type 0} (b : Bool) (d : E) (r : Result A E) (y : A) → cond b (Err d) r ≡ Ok y → (b ≡ false) × (r ≡ Ok y)
guard_ok true d r y e = absurd cc
guard_ok false d r y e = (refl, e)

pub passed_some : {A : Type 0} (b : Bool) (o : Option A) (y : A) → cond b o None ≡ Some y → (b ≡ true) × (o ≡ Some y)
passed_some true o y e = (refl, e)
passed_some false o y e = absurd cc

pub guard_some : {A : Type 0} (b : Bool) (o : Option A) (y : A) → cond b None o ≡ Some y → (b ≡ false) × (o ≡ Some y)
guard_some true o y e = absurd cc
guard_some false o y e = (refl, e)
