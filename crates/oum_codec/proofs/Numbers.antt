-- A field that is read is the field that was written, and what was written is read again.
use Rattle.std.proofs.Common.{◌≡◌, ℕ, suc, ◌+◌, ◌^◌, ◌<◌, ◌≤◌, false, ltb, List, [], ◌∷◌, ◌++◌, length, take, drop, Some, refl, sym, ap}
use Rattle.std.proofs.Common.{subst, ◌∙◌, append_assoc, arith, inl, inr}
use Rattle.std.specs.Int.{Width, w16, w32, w64, byte_len, from_be_bytes}
use Rattle.std.proofs.lemmas.Bool.{cases_lt, ltb-false, le-ltb}
use Rattle.std.proofs.lemmas.List.{take_at, drop_at, take-append-drop, length-append, length-take, get_or-drop, get_or-take, get_or_past}
use Rattle.std.proofs.lemmas.Nat.{be_bytes_2, be_bytes_4, be_bytes_8, from_be_bytes-to_be_bytes_2, from_be_bytes-to_be_bytes_4}
use Rattle.std.proofs.lemmas.Nat.{from_be_bytes-to_be_bytes_8}
use Rattle.nop_types.specs.declared.view.View.{View}
use Rattle.oum_codec.specs.Numbers.{IsBytes, be_bytes, number_at, byte_at, bytes_at, view_at}
use Rattle.oum_codec.specs.Places.{ViewWidths}
use Rattle.oum_codec.specs.Spelling.{view_bytes}
use Rattle.oum_codec.proofs.Steps.{bind_some, some_is, guard_some}

pub IsBytes-drop : (n : ℕ) (bytes : List ℕ) → IsBytes bytes → IsBytes (drop n bytes)
IsBytes-drop n bytes h i = rw get_or-drop (h (n + i))

pub IsBytes-take : (n : ℕ) (bytes : List ℕ) → IsBytes bytes → IsBytes (take n bytes)
IsBytes-take n bytes h i =
    elim (cases_lt i n) [
      | inl lt ↦ rw (get_or-take n bytes i 0 lt) (h i)
      | inr le ↦ rw (get_or_past (take n bytes) i 0 (omega (arith, length-take n bytes))) (omega arith)
    ]

pub IsBytes-rest : (b : ℕ) (bytes : List ℕ) → IsBytes (b ∷ bytes) → IsBytes bytes
IsBytes-rest b bytes h i = h (suc i)

-- a reader took text from the front of the bytes
pub record Takes (bytes text rest : List ℕ) : Type 0 where
  pub parts : bytes ≡ text ++ rest
  pub rest_fits : IsBytes rest

pub Takes-then : (a x b y c : List ℕ) → Takes a x b → Takes b y c → Takes a (x ++ y) c
Takes-then a x b y c p q =
    record { parts = p.parts ∙ ap (λ (t : List ℕ). x ++ t) q.parts ∙ sym (append_assoc x y c); rest_fits = q.rest_fits }

-- the numbers below a limit are those of as many bytes as a width has
pub record IsWide (w : Width) (limit : ℕ) : Type 0 where
  pub len : (n : ℕ) → length (be_bytes w n) ≡ byte_len w
  pub back : (bytes : List ℕ) → length bytes ≡ byte_len w → IsBytes bytes → be_bytes w (from_be_bytes w bytes) ≡ bytes
  pub again : (n : ℕ) → n < limit → from_be_bytes w (be_bytes w n) ≡ n
  pub below : (bytes : List ℕ) → IsBytes bytes → from_be_bytes w bytes < limit

pub wide16 : IsWide w16 (2 ^ 16)
unfolding be_bytes
wide16 = record {
  len = λ n. refl;
  back = λ bytes len fits. be_bytes_2 bytes _ len fits refl;
  again = λ n lt. from_be_bytes-to_be_bytes_2 n lt;
  below = λ bytes fits. omega (arith, fits 0, fits 1);
}

pub wide32 : IsWide w32 (2 ^ 32)
unfolding be_bytes
wide32 = record {
  len = λ n. refl;
  back = λ bytes len fits. be_bytes_4 bytes _ len fits refl;
  again = λ n lt. from_be_bytes-to_be_bytes_4 n lt;
  below = λ bytes fits. omega (arith, fits 0, fits 1, fits 2, fits 3);
}

pub wide64 : IsWide w64 (2 ^ 64)
unfolding be_bytes
wide64 = record {
  len = λ n. refl;
  back = λ bytes len fits. be_bytes_8 bytes _ len fits refl;
  again = λ n lt. from_be_bytes-to_be_bytes_8 n lt;
  below = λ bytes fits. omega (arith, fits 0, fits 1, fits 2, fits 3, fits 4, fits 5, fits 6, fits 7);
}

pub number_takes : (w : Width) (limit : ℕ) (wide : IsWide w limit) (bytes : List ℕ) (x : ℕ × List ℕ) → IsBytes bytes
    → number_at w bytes ≡ Some x → Takes bytes (be_bytes w x.0) x.1 × (x.0 < limit)
number_takes w limit wide bytes x fits e =
    let made : ℕ × List ℕ = (from_be_bytes w (take (byte_len w) bytes), drop (byte_len w) bytes) in
    let g = guard_some (ltb (length bytes) (byte_len w)) (Some made) x e in
    let long : byte_len w ≤ length bytes = ltb-false _ _ g.0 in
    let prefix : be_bytes w (from_be_bytes w (take (byte_len w) bytes)) ≡ take (byte_len w) bytes =
    wide.back (take (byte_len w) bytes) (omega (arith, length-take (byte_len w) bytes)) (IsBytes-take (byte_len w) bytes fits) in
    subst (λ (y : ℕ × List ℕ). Takes bytes (be_bytes w y.0) y.1 × (y.0 < limit)) (some_is made x g.1) (
      record { parts = rw prefix (sym (take-append-drop (byte_len w) bytes)); rest_fits = IsBytes-drop (byte_len w) bytes fits },
      wide.below (take (byte_len w) bytes) (IsBytes-take (byte_len w) bytes fits),
    )

pub number_again : (w : Width) (limit : ℕ) (wide : IsWide w limit) (n : ℕ) (rest : List ℕ) → n < limit
    → number_at w (be_bytes w n ++ rest) ≡ Some (n, rest)
number_again w limit wide n rest lt =
    let len = wide.len n in
    let long : ltb (length (be_bytes w n ++ rest)) (byte_len w) ≡ false = le-ltb _ _ (omega (arith, length-append (be_bytes w n) rest)) in
    rw (long, take_at (be_bytes w n) rest (byte_len w) len, drop_at (be_bytes w n) rest (byte_len w) len, wide.again n lt) refl

pub u16_takes : (bytes : List ℕ) (x : ℕ × List ℕ) → IsBytes bytes → number_at w16 bytes ≡ Some x
    → Takes bytes (be_bytes w16 x.0) x.1 × (x.0 < 2 ^ 16)
u16_takes = number_takes w16 (2 ^ 16) wide16

pub u32_takes : (bytes : List ℕ) (x : ℕ × List ℕ) → IsBytes bytes → number_at w32 bytes ≡ Some x
    → Takes bytes (be_bytes w32 x.0) x.1 × (x.0 < 2 ^ 32)
u32_takes = number_takes w32 (2 ^ 32) wide32

pub u64_takes : (bytes : List ℕ) (x : ℕ × List ℕ) → IsBytes bytes → number_at w64 bytes ≡ Some x
    → Takes bytes (be_bytes w64 x.0) x.1 × (x.0 < 2 ^ 64)
u64_takes = number_takes w64 (2 ^ 64) wide64

pub u16_again : (n : ℕ) (rest : List ℕ) → n < 2 ^ 16 → number_at w16 (be_bytes w16 n ++ rest) ≡ Some (n, rest)
u16_again = number_again w16 (2 ^ 16) wide16

pub u32_again : (n : ℕ) (rest : List ℕ) → n < 2 ^ 32 → number_at w32 (be_bytes w32 n ++ rest) ≡ Some (n, rest)
u32_again = number_again w32 (2 ^ 32) wide32

pub u64_again : (n : ℕ) (rest : List ℕ) → n < 2 ^ 64 → number_at w64 (be_bytes w64 n ++ rest) ≡ Some (n, rest)
u64_again = number_again w64 (2 ^ 64) wide64

pub byte_takes : (bytes : List ℕ) (x : ℕ × List ℕ) → IsBytes bytes → byte_at bytes ≡ Some x → Takes bytes (x.0 ∷ []) x.1
byte_takes [] x fits e = absurd cc
byte_takes (b ∷ bytes) x fits e =
    subst (λ (y : ℕ × List ℕ). Takes (b ∷ bytes) (y.0 ∷ []) y.1) (some_is (b, bytes) x e)
    (record { parts = refl; rest_fits = IsBytes-rest b bytes fits })

pub bytes_take : (n : ℕ) (bytes : List ℕ) (x : List ℕ × List ℕ) → IsBytes bytes → bytes_at n bytes ≡ Some x
    → Takes bytes x.0 x.1 × (length x.0 ≡ n)
bytes_take n bytes x fits e =
    let made : List ℕ × List ℕ = (take n bytes, drop n bytes) in
    let g = guard_some (ltb (length bytes) n) (Some made) x e in
    let long : n ≤ length bytes = ltb-false _ _ g.0 in
    subst (λ (y : List ℕ × List ℕ). Takes bytes y.0 y.1 × (length y.0 ≡ n)) (some_is made x g.1)
    (record { parts = sym (take-append-drop n bytes); rest_fits = IsBytes-drop n bytes fits }, omega (arith, length-take n bytes))

pub bytes_again : (n : ℕ) (prefix rest : List ℕ) → length prefix ≡ n → bytes_at n (prefix ++ rest) ≡ Some (prefix, rest)
bytes_again n prefix rest len =
    let long : ltb (length (prefix ++ rest)) n ≡ false = le-ltb _ _ (omega (arith, length-append prefix rest)) in
    rw (long, take_at prefix rest n len, drop_at prefix rest n len) refl

pub view_takes : (bytes : List ℕ) (x : View × List ℕ) → IsBytes bytes → view_at bytes ≡ Some x
    → Takes bytes (view_bytes x.0) x.1 × ViewWidths x.0
unfolding view_at
view_takes bytes x fits e =
    let a = bind_some (number_at w32 bytes) _ x e in
    let b = bind_some (number_at w64 a.0.1) _ x a.2 in
    let t0 = u32_takes bytes a.0 fits a.1 in
    let t1 = u64_takes a.0.1 b.0 t0.0.rest_fits b.1 in
    let both = Takes-then bytes _ _ _ _ t0.0 t1.0 in
    let made : View × List ℕ = (record { leader = a.0.0; session = b.0.0 }, b.0.1) in
    subst (λ (y : View × List ℕ). Takes bytes (view_bytes y.0) y.1 × ViewWidths y.0) (some_is made x b.2)
    (both, record { leader = t0.1; session = t1.1 })

pub view_again : (v : View) (rest : List ℕ) → ViewWidths v → view_at (view_bytes v ++ rest) ≡ Some (v, rest)
unfolding view_at
view_again v rest fits =
    let regrouped : view_bytes v ++ rest ≡ be_bytes w32 v.leader ++ (be_bytes w64 v.session ++ rest) =
    append_assoc (be_bytes w32 v.leader) (be_bytes w64 v.session) rest in
    rw (regrouped, u32_again v.leader (be_bytes w64 v.session ++ rest) fits.leader, u64_again v.session rest fits.session) refl
