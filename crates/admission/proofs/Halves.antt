-- More than half, by how many are left.
use Rattle.std.proofs.Common.{◌≡◌, ℕ, ◌-◌, ◌*◌, Bool, true, false, nat_lt, refl, arith}
use Rattle.std.proofs.lemmas.Bool.{lt-ltb, ltb-true}

lt_by : (b c : Bool) (n a : ℕ) → nat_lt (n - a) a ≡ b → nat_lt n (2 * a) ≡ c → b ≡ c
lt_by true true n a e f = refl
lt_by false false n a e f = refl
lt_by true false n a e f =
    let k = ltb-true (n - a) a e in
    let t = lt-ltb n (2 * a) (omega (arith, k)) in
    absurd cc
lt_by false true n a e f =
    let k = ltb-true n (2 * a) f in
    let t = lt-ltb (n - a) a (omega (arith, k)) in
    absurd cc

pub fewer_are_left : (n a : ℕ) → nat_lt (n - a) a ≡ nat_lt n (2 * a)
fewer_are_left n a = lt_by (nat_lt (n - a) a) (nat_lt n (2 * a)) n a refl refl
