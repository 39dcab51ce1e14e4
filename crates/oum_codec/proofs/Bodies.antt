-- Fields of a fixed size, then bytes within two sizes: what each kind has after its four bytes.
use Rattle.std.proofs.Common.{◌≡◌, ℕ, ◌≤◌, Bool, true, false, ltb, List, length, Option, Some, None, Result, Ok, refl, ap, subst, ◌∙◌}
use Rattle.std.proofs.lemmas.Bool.{ltb-false, le-ltb}
use Rattle.oum_codec.specs.declared.bad.Bad.{Bad}
use Rattle.oum_codec.specs.declared.bad.Bad.TheVariants.{Short, Field, Trailing}
use Rattle.oum_codec.specs.Reading.{◌>>=◌, fields_of, sized}
use Rattle.oum_codec.proofs.Steps.{bind_ok, ok_is, passed_ok, guard_ok}

abbrev done : {A : Type 0} → A → Result A Bad
done x = Ok x

-- fields that passed both tests
pub fields_ok : {F : Type 0} (found : Option (F × List ℕ)) (test : F → Bool) (x : F × List ℕ) → fields_of found test ≡ Ok x
    → (found ≡ Some x) × (test x.0 ≡ true)
fields_ok None test x e = absurd cc
fields_ok {F} (Some y) test x e =
    let g = passed_ok (test y.0) Field (done y) x e in
    let same : y ≡ x = ok_is y x g.1 in
    (ap (λ (z : F × List ℕ). Some z) same, subst (λ (z : F × List ℕ). test z.0 ≡ true) same g.0)

pub record IsSized (least most : ℕ) (bytes out : List ℕ) : Type 0 where
  pub same : bytes ≡ out
  pub enough : least ≤ length bytes
  pub no_more : length bytes ≤ most

pub sized_ok : (least most : ℕ) (bytes out : List ℕ) → sized least most bytes ≡ Ok out → IsSized least most bytes out
sized_ok least most bytes out e =
    let low = guard_ok (ltb (length bytes) least) Short _ out e in
    let high = guard_ok (ltb most (length bytes)) Trailing (done bytes) out low.1 in
    record { same = ok_is bytes out high.1; enough = ltb-false _ _ low.0; no_more = ltb-false _ _ high.0 }

pub sized_again : (least most : ℕ) (bytes : List ℕ) → least ≤ length bytes → length bytes ≤ most → sized least most bytes ≡ Ok bytes
sized_again least most bytes low high =
    let a : ltb (length bytes) least ≡ false = le-ltb _ _ low in
    let b : ltb most (length bytes) ≡ false = le-ltb _ _ high in
    rw (a, b) refl

-- what a kind's reading says of its value
pub record IsBody {F D : Type 0} (found : Option (F × List ℕ)) (test : F → Bool) (least most : F → ℕ) (make : F → List ℕ → D) (d : D) : Type
    0 where
  pub f : F
  pub out : List ℕ
  pub there : found ≡ Some (f, out)
  pub ranges : test f ≡ true
  pub enough : least f ≤ length out
  pub no_more : length out ≤ most f
  pub is : make f out ≡ d

pub body_ok : {F D : Type 0} (found : Option (F × List ℕ)) (test : F → Bool) (least most : F → ℕ) (make : F → List ℕ → D) (d : D)
    → (fields_of found test >>= λ f. sized (least f.0) (most f.0) f.1 >>= λ out. Ok (make f.0 out)) ≡ Ok d
    → IsBody found test least most make d
body_ok found test least most make d e =
    let a = bind_ok (fields_of found test) (λ f. sized (least f.0) (most f.0) f.1 >>= λ out. Ok (make f.0 out)) d e in
    let b = bind_ok (sized (least a.0.0) (most a.0.0) a.0.1) (λ out. Ok (make a.0.0 out)) d a.2 in
    let g = fields_ok found test a.0 a.1 in
    let s = sized_ok (least a.0.0) (most a.0.0) a.0.1 b.0 b.1 in
    record {
      f = a.0.0;
      out = a.0.1;
      there = g.0;
      ranges = g.1;
      enough = s.enough;
      no_more = s.no_more;
      is = ap (make a.0.0) s.same
          ∙ ok_is (make a.0.0 b.0) d b.2;
    }

pub body_again : {F D : Type 0} (found : Option (F × List ℕ)) (test : F → Bool) (least most : F → ℕ) (make : F → List ℕ → D) (f : F)
    (out : List ℕ)
    → found ≡ Some (f, out) → test f ≡ true → least f ≤ length out → length out ≤ most f
    → (fields_of found test >>= λ f. sized (least f.0) (most f.0) f.1 >>= λ out. Ok (make f.0 out)) ≡ Ok (make f out)
body_again found test least most make f out there ranges enough no_more =
    rw (there, ranges, sized_again (least f) (most f) out enough no_more) refl
