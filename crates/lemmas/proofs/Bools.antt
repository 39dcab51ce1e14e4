-- Tests that hold, and tests that fail.
use Rattle.std.proofs.Common.{◌≡◌, Bool, true, false, not, cond}

pub not-both : (b : Bool) → not b ≡ true → b ≡ true → ⊥
not-both true e g = cc
not-both false e g = cc

-- what holds of both holds of the chosen one
pub either_holds : {A : Type 0} (P : A → Type 0) (b : Bool) (x y : A) → P x → P y → P (cond b x y)
either_holds P true x y p q = p
either_holds P false x y p q = q
