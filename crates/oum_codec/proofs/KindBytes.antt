-- What is read is of the kind of its fourth byte, in whatever ranges.
use Rattle.std.proofs.Common.{◌≡◌, ℕ, Bool, true, false, cond, eqb, List, [], ◌∷◌, Some, Option, Result, Ok, Err, refl}
use Rattle.std.specs.Prelude.{not, ◌&&◌, slice_get}
use Rattle.std.proofs.lemmas.Bool.{eqb-true}
use Rattle.nop_types.specs.declared.datagram.Datagram.{Datagram}
use Rattle.nop_types.specs.declared.kinds.TheConstants.{KIND_PLACE}
use Rattle.nop_types.specs.declared.limits.TheConstants.{FRAGMENT_BYTES}
use Rattle.oum_codec.specs.declared.bad.Bad.{Bad}
use Rattle.oum_codec.specs.declared.bad.Bad.TheVariants.{Magic, Version}
use Rattle.oum_codec.specs.Fixed.{request_fields_at, request_in_range, stamped_fields_at, stamped_in_range, reply_fields_at, reply_in_range}
use Rattle.oum_codec.specs.Fixed.{fragment_fields_at, fragment_in_range, least_payload, read_in_range, answer_fields_at, answer_in_range}
use Rattle.oum_codec.specs.Kinds.{IsOfKind}
use Rattle.oum_codec.specs.Reading.{◌>>=◌, fields_of, sized, request_of, stamped_of, reply_of, install_of, ping_of, fragment_of, read_of, answer_of}
use Rattle.oum_codec.specs.Reading.{body_of, reading}

then_kind : {A : Type 0} (k : ℕ) (r : Result A Bad) (next : A → Result Datagram Bad) → ((x : A) → IsOfKind (Some k) (next x))
    → IsOfKind (Some k) (r >>= next)
then_kind k (Ok x) next h = h x
then_kind k (Err e) next h = tt

-- behind a test of the kind, and behind one that refuses
if_kind : (kind k : ℕ) (x y : Result Datagram Bad) → IsOfKind (Some k) x → IsOfKind (Some kind) y
    → IsOfKind (Some kind) (cond (eqb kind k) x y)
if_kind kind k x y here other = by_test (eqb kind k) (eqb-true kind k)
  where
    by_test : (b : Bool) → (b ≡ true → kind ≡ k) → IsOfKind (Some kind) (cond b x y)
    by_test true same = rw (same refl) here
    by_test false same = other

unless_refused : (b : Bool) (e : Bad) (kind : Option ℕ) (r : Result Datagram Bad) → IsOfKind kind r → IsOfKind kind (cond b (Err e) r)
unless_refused true e kind r is = tt
unless_refused false e kind r is = is

-- fields, then bytes within two sizes
parts_kind : {F : Type 0} (k : ℕ) (found : Option (F × List ℕ)) (test : F → Bool) (least most : F → ℕ) (make : F → List ℕ → Datagram)
    → ((f : F) (out : List ℕ) → IsOfKind (Some k) (Ok (make f out)))
    → IsOfKind (Some k) (fields_of found test >>= λ f. sized (least f.0) (most f.0) f.1 >>= λ out. Ok (make f.0 out))
parts_kind k found test least most make h =
    then_kind k (fields_of found test) _ (λ f. then_kind k (sized (least f.0) (most f.0) f.1) _ (h f.0))

body_kind : (kind : ℕ) (rest : List ℕ) → IsOfKind (Some kind) (body_of kind rest)
unfolding request_of stamped_of reply_of fragment_of read_of answer_of
body_kind kind rest =
    if_kind kind 1 _ _ (parts_kind 1 (request_fields_at rest) request_in_range (λ f. f.op_len) (λ f. f.op_len) _ (λ f x. refl))
    (if_kind kind 2 _ _ (parts_kind 2 (stamped_fields_at rest) stamped_in_range (λ f. f.request.op_len) (λ f. f.request.op_len) _ (λ f x. refl))
    (if_kind kind 3 _ _ (parts_kind 3 (reply_fields_at rest) reply_in_range (λ f. f.result_len) (λ f. f.result_len) _ (λ f x. refl))
    (if_kind kind 4 _ _ (then_kind 4 (install_of rest) _ (λ f. refl))
    (if_kind kind 5 _ _ (then_kind 5 (install_of rest) _ (λ f. refl))
    (if_kind kind 6 _ _ (then_kind 6 (ping_of rest) _ (λ f. refl))
    (if_kind kind 7 _ _ (then_kind 7 (ping_of rest) _ (λ f. refl))
    (if_kind kind 8 _ _ (parts_kind 8 (fragment_fields_at rest) fragment_in_range least_payload (λ f. FRAGMENT_BYTES) _ (λ f x. refl))
    (if_kind kind 9 _ _ (parts_kind 9 (request_fields_at rest) read_in_range (λ f. f.op_len) (λ f. f.op_len) _ (λ f x. refl))
    (if_kind kind 10 _ _ (parts_kind 10 (answer_fields_at rest) answer_in_range (λ f. f.result_len) (λ f. f.result_len) _ (λ f x. refl)) tt)))))))))

pub kinds_are_told : (bytes : List ℕ) → IsOfKind (slice_get bytes KIND_PLACE) (reading bytes)
unfolding reading
kinds_are_told [] = tt
kinds_are_told (a ∷ []) = tt
kinds_are_told (a ∷ b ∷ []) = tt
kinds_are_told (a ∷ b ∷ c ∷ []) = tt
kinds_are_told (a ∷ b ∷ c ∷ kind ∷ rest) =
    unless_refused (not (eqb a 0x4e && eqb b 0x4f)) Magic _ _ (unless_refused (not (eqb c 3)) Version _ _ (body_kind kind rest))
