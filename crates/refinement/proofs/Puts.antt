-- One place of a function changes to what it was, or changes twice.
use Rattle.std.proofs.Common.{◌≡◌, ℕ, Bool, true, false, cond, refl}
use Rattle.std.specs.Prelude.{◌==◌}
use Rattle.lemmas.specs.Functions.{put}
use Rattle.lemmas.proofs.Functions.{put-all}

pub put-same : {S : Type 0} (s : ℕ → S) (r : ℕ) → put s r (s r) ≡ s
put-same s r = λ i q. put-all (λ n x. x ≡ s n) s r (s r) refl (λ n d. refl) q i

cond-twice : {S : Type 0} (b : Bool) (x y z : S) → cond b y (cond b x z) ≡ cond b y z
cond-twice true x y z = refl
cond-twice false x y z = refl

pub put-twice : {S : Type 0} (s : ℕ → S) (r : ℕ) (x y : S) → put (put s r x) r y ≡ put s r y
put-twice s r x y = λ i q. cond-twice (q == r) x y (s q) i
