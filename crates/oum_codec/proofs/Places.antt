-- Fields at a place are those that were written there.
use Rattle.std.proofs.Common.{◌≡◌, ℕ, ◌+◌, ◌^◌, ◌<◌, ◌≤◌, false, true, ltb, List, ◌++◌, length, take, drop, Option, Some, None, refl, sym}
use Rattle.std.proofs.Common.{ap, subst, ◌∙◌, append_assoc, arith}
use Rattle.std.specs.Prelude.{option_map}
use Rattle.std.specs.Int.{Width, w16, w32, w64, byte_len, from_be_bytes}
use Rattle.std.proofs.lemmas.Bool.{le-ltb, ltb-false}
use Rattle.std.proofs.lemmas.Bool.Decides.{nat_tests}
use Rattle.std.proofs.lemmas.List.{take_at, drop_at, length-append, length-take, length-drop, take-append-drop}
use Rattle.nop_types.specs.Ranges.{RequestFits}
use Rattle.nop_types.specs.declared.limits.TheConstants.{MAX_OP_BYTES}
use Rattle.nop_types.specs.declared.view.View.{View}
use Rattle.nop_types.specs.declared.request.Request.{Request}
use Rattle.oum_codec.specs.declared.fixed.RequestFields.{RequestFields}
use Rattle.oum_codec.specs.Numbers.{IsBytes, be_bytes, number_at, bytes_at}
use Rattle.oum_codec.specs.Spelling.{view_bytes, request_bytes}
use Rattle.oum_codec.specs.Fixed.{request_fields_at, request_in_range}
use Rattle.oum_codec.specs.Places.{StandsAt, ViewWidths, number_in, view_in, request_at, request_in}
use Rattle.oum_codec.proofs.Steps.{bind_some, some_is, passed_some, guard_some}
use Rattle.oum_codec.proofs.Numbers.{IsBytes-drop, Takes, Takes-then, IsWide, wide16, wide32, wide64, number_takes, bytes_take, bytes_again}
use Rattle.oum_codec.proofs.FixedFields.{request_fields_bytes, request_fields_take, request_fields_again}
use Rattle.oum_codec.proofs.EachKind.{request_whole}

-- ---- what stands there is read

number_found : (w : Width) (limit : ℕ) → IsWide w limit → (at n : ℕ) (bytes : List ℕ) → n < limit → StandsAt at (be_bytes w n) bytes
    → number_in w at bytes ≡ Some n
number_found w limit wide at n bytes lt s =
    let text : List ℕ = be_bytes w n ++ s.rest in
    let whole : List ℕ = s.prefix ++ text in
    let long : ltb (length whole) (at + byte_len w) ≡ false =
    le-ltb _ _ (omega (arith, length-append s.prefix text, length-append (be_bytes w n) s.rest, wide.len n, s.place)) in
    let here : number_in w at whole ≡ Some n =
    rw (long, drop_at s.prefix text at s.place, take_at (be_bytes w n) s.rest (byte_len w) (wide.len n), wide.again n lt) refl in
    ap (number_in w at) s.parts ∙ here

pub u16_found : (at n : ℕ) (bytes : List ℕ) → n < 2 ^ 16 → StandsAt at (be_bytes w16 n) bytes → number_in w16 at bytes ≡ Some n
u16_found = number_found w16 (2 ^ 16) wide16

pub u32_found : (at n : ℕ) (bytes : List ℕ) → n < 2 ^ 32 → StandsAt at (be_bytes w32 n) bytes → number_in w32 at bytes ≡ Some n
u32_found = number_found w32 (2 ^ 32) wide32

pub u64_found : (at n : ℕ) (bytes : List ℕ) → n < 2 ^ 64 → StandsAt at (be_bytes w64 n) bytes → number_in w64 at bytes ≡ Some n
u64_found = number_found w64 (2 ^ 64) wide64

-- a text in two parts stands where its first part does, and the second after it
first_stands : (at : ℕ) (a b bytes : List ℕ) → StandsAt at (a ++ b) bytes → StandsAt at a bytes
first_stands at a b bytes s =
    record {
      prefix = s.prefix;
      rest = b ++ s.rest;
      place = s.place;
      parts = s.parts
          ∙ ap (λ (x : List ℕ). s.prefix ++ x) (append_assoc a b s.rest);
    }

second_stands : (at : ℕ) (a b bytes : List ℕ) → StandsAt at (a ++ b) bytes → StandsAt (at + length a) b bytes
second_stands at a b bytes s = record {
  prefix = s.prefix ++ a;
  rest = s.rest;
  place = omega (arith, length-append s.prefix a, s.place);
  parts = s.parts ∙ ap (λ (x : List ℕ). s.prefix ++ x) (append_assoc a b s.rest) ∙ sym (append_assoc s.prefix a (b ++ s.rest));
}

pub view_found : (at : ℕ) (v : View) (bytes : List ℕ) → ViewWidths v → StandsAt at (view_bytes v) bytes → view_in at bytes ≡ Some v
view_found at v bytes fits s =
    let a : number_in w32 at bytes ≡ Some v.leader =
    u32_found at v.leader bytes fits.leader (first_stands at _ (be_bytes w64 v.session) bytes s) in
    let place : at + length (be_bytes w32 v.leader) ≡ at + 4 = ap (λ n. at + n) (wide32.len v.leader) in
    let b : number_in w64 (at + 4) bytes ≡ Some v.session =
    u64_found (at + 4) v.session bytes fits.session
    (subst (λ (k : ℕ). StandsAt k (be_bytes w64 v.session) bytes) place (second_stands at (be_bytes w32 v.leader) _ bytes s)) in
    rw (a, b) refl

request_again : (r : Request) (rest : List ℕ) → RequestFits r → request_at (request_bytes r ++ rest) ≡ Some (r, rest)
unfolding request_at
request_again r rest fits =
    let f : RequestFields = record { client = r.client; id = r.id; op_len = length r.op } in
    let regrouped : request_bytes r ++ rest ≡ request_fields_bytes f ++ (r.op ++ rest) =
    ap (λ (x : List ℕ). x ++ rest) (sym (request_whole f r.op refl)) ∙ append_assoc (request_fields_bytes f) r.op rest in
    let there : request_fields_at (request_bytes r ++ rest) ≡ Some (f, r.op ++ rest) = ap request_fields_at regrouped
    ∙ request_fields_again f (r.op ++ rest) (record { client = fits.client; id = fits.id; op_len = omega (arith, fits.op) }) in
    let ranges : request_in_range f ≡ true = grind (arith, nat_tests, fits.id_low, fits.op) in
    rw (there, ranges, bytes_again (length r.op) r.op rest refl) refl

pub request_found : (at : ℕ) (r : Request) (bytes : List ℕ) → RequestFits r → StandsAt at (request_bytes r) bytes
    → request_in at bytes ≡ Some r
request_found at r bytes fits s =
    let text : List ℕ = request_bytes r ++ s.rest in
    let whole : List ℕ = s.prefix ++ text in
    let long : ltb (length whole) at ≡ false = le-ltb _ _ (omega (arith, length-append s.prefix text, s.place)) in
    let here : request_in at whole ≡ Some r = rw (long, drop_at s.prefix text at s.place, request_again r s.rest fits) refl in
    ap (request_in at) s.parts ∙ here

-- ---- what is read stands there

stands : (at : ℕ) (text rest bytes : List ℕ) → at ≤ length bytes → drop at bytes ≡ text ++ rest → StandsAt at text bytes
stands at text rest bytes long e =
    record {
      prefix = take at bytes;
      rest = rest;
      place = omega (arith, length-take at bytes);
      parts = sym (take-append-drop at bytes)
          ∙ ap (λ (x : List ℕ). take at bytes ++ x) e;
    }

-- a number that is read is in range, and stands there
number_stands : (w : Width) (limit : ℕ) → IsWide w limit → (at n : ℕ) (bytes : List ℕ) → IsBytes bytes → number_in w at bytes ≡ Some n
    → (n < limit) × StandsAt at (be_bytes w n) bytes
number_stands w limit wide at n bytes fits e =
    let g = guard_some (ltb (length bytes) (at + byte_len w)) (Some (from_be_bytes w (take (byte_len w) (drop at bytes)))) n e in
    let long : at + byte_len w ≤ length bytes = ltb-false _ _ g.0 in
    let short : ltb (length (drop at bytes)) (byte_len w) ≡ false = le-ltb _ _ (omega (arith, length-drop at bytes)) in
    let same : from_be_bytes w (take (byte_len w) (drop at bytes)) ≡ n = some_is _ n g.1 in
    let rest : List ℕ = drop (byte_len w) (drop at bytes) in
    let there : number_at w (drop at bytes) ≡ Some (n, rest) = rw (short, same) refl in
    let t = number_takes w limit wide (drop at bytes) (n, rest) (IsBytes-drop at bytes fits) there in
    (t.1, stands at (be_bytes w n) rest bytes (omega arith) t.0.parts)

pub u16_stands : (at n : ℕ) (bytes : List ℕ) → IsBytes bytes → number_in w16 at bytes ≡ Some n
    → (n < 2 ^ 16) × StandsAt at (be_bytes w16 n) bytes
u16_stands = number_stands w16 (2 ^ 16) wide16

pub u32_stands : (at n : ℕ) (bytes : List ℕ) → IsBytes bytes → number_in w32 at bytes ≡ Some n
    → (n < 2 ^ 32) × StandsAt at (be_bytes w32 n) bytes
u32_stands = number_stands w32 (2 ^ 32) wide32

pub u64_stands : (at n : ℕ) (bytes : List ℕ) → IsBytes bytes → number_in w64 at bytes ≡ Some n
    → (n < 2 ^ 64) × StandsAt at (be_bytes w64 n) bytes
u64_stands = number_stands w64 (2 ^ 64) wide64

-- a text stands where its first part does, if its second one stands after it
both_stand : (at : ℕ) (a b bytes : List ℕ) → StandsAt at a bytes → StandsAt (at + length a) b bytes → StandsAt at (a ++ b) bytes
both_stand at a b bytes first second =
    let prefix : List ℕ = first.prefix ++ a in
    let len : length prefix ≡ at + length a = omega (arith, length-append first.prefix a, first.place) in
    let regrouped : bytes ≡ prefix ++ first.rest = first.parts ∙ sym (append_assoc first.prefix a first.rest) in
    let one : drop (at + length a) bytes ≡ first.rest =
    ap (drop (at + length a)) regrouped ∙ drop_at prefix first.rest (at + length a) len in
    let two : drop (at + length a) bytes ≡ b ++ second.rest =
    ap (drop (at + length a)) second.parts ∙ drop_at second.prefix (b ++ second.rest) (at + length a) second.place in
    record {
      prefix = first.prefix;
      rest = second.rest;
      place = first.place;
      parts = first.parts
          ∙ ap (λ (x : List ℕ). first.prefix ++ (a ++ x)) (sym one ∙ two)
          ∙ ap (λ (x : List ℕ). first.prefix ++ x) (sym (append_assoc a b second.rest));
    }

pub view_stands : (at : ℕ) (v : View) (bytes : List ℕ) → IsBytes bytes → view_in at bytes ≡ Some v
    → ViewWidths v × StandsAt at (view_bytes v) bytes
view_stands at v bytes fits e =
    let a = bind_some (number_in w32 at bytes) _ v e in
    let b = bind_some (number_in w64 (at + 4) bytes) (λ (session : ℕ). Some (record { leader = a.0; session = session })) v a.2 in
    let t0 = u32_stands at a.0 bytes fits a.1 in
    let t1 = u64_stands (at + 4) b.0 bytes fits b.1 in
    let place : at + 4 ≡ at + length (be_bytes w32 a.0) = ap (λ n. at + n) (sym (wide32.len a.0)) in
    let both =
    both_stand at (be_bytes w32 a.0) (be_bytes w64 b.0) bytes t0.1
    (subst (λ (k : ℕ). StandsAt k (be_bytes w64 b.0) bytes) place t1.1) in
    let made : View = record { leader = a.0; session = b.0 } in
    subst (λ (x : View). ViewWidths x × StandsAt at (view_bytes x) bytes) (some_is made v b.2)
    (record { leader = t0.0; session = t1.0 }, both)

request_takes : (bytes : List ℕ) (x : Request × List ℕ) → IsBytes bytes → request_at bytes ≡ Some x
    → Takes bytes (request_bytes x.0) x.1 × RequestFits x.0
unfolding request_at
request_takes bytes x fits e =
    let a = bind_some (request_fields_at bytes) _ x e in
    let f = a.0.0 in
    let b = bind_some _ (λ (op : List ℕ × List ℕ). Some (record { client = f.client; id = f.id; op = op.0 }, op.1)) x a.2 in
    let g = passed_some (request_in_range f) (bytes_at f.op_len a.0.1) b.0 b.1 in
    let t0 = request_fields_take bytes a.0 fits a.1 in
    let t1 = bytes_take f.op_len a.0.1 b.0 t0.0.rest_fits g.1 in
    let both = Takes-then bytes _ _ _ _ t0.0 t1.0 in
    let id_low : 1 ≤ f.id = grind (arith, nat_tests, g.0) in
    let op_high : f.op_len ≤ MAX_OP_BYTES = grind (arith, nat_tests, g.0) in
    let made : Request = record { client = f.client; id = f.id; op = b.0.0 } in
    let text : Takes bytes (request_bytes made) b.0.1 =
    subst (λ (t : List ℕ). Takes bytes t b.0.1) (request_whole f b.0.0 (sym t1.1)) both in
    subst (λ (y : Request × List ℕ). Takes bytes (request_bytes y.0) y.1 × RequestFits y.0) (some_is (made, b.0.1) x b.2)
    (text, record { client = t0.1.client; id_low = id_low; id = t0.1.id; op = omega (arith, op_high, t1.1) })

first_of_pair : (o : Option (Request × List ℕ)) (r : Request) → option_map (λ (x : Request × List ℕ). x.0) o ≡ Some r
    → (rest : List ℕ) × (o ≡ Some (r, rest))
first_of_pair None r e = absurd cc
first_of_pair (Some x) r e = let same : x.0 ≡ r = some_is x.0 r e in (x.1, ap (λ (q : Request). Some (q, x.1)) same)

pub request_stands : (at : ℕ) (r : Request) (bytes : List ℕ) → IsBytes bytes → request_in at bytes ≡ Some r
    → RequestFits r × StandsAt at (request_bytes r) bytes
request_stands at r bytes fits e =
    let g = guard_some (ltb (length bytes) at) (option_map (λ (x : Request × List ℕ). x.0) (request_at (drop at bytes))) r e in
    let long : at ≤ length bytes = ltb-false _ _ g.0 in
    let p = first_of_pair (request_at (drop at bytes)) r g.1 in
    let t = request_takes (drop at bytes) (r, p.0) (IsBytes-drop at bytes fits) p.1 in
    (t.1, stands at (request_bytes r) p.0 bytes long t.0.parts)
