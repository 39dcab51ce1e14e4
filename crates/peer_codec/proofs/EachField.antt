-- A field that is read is the field that was written, and what was written is read again.
use Rattle.std.proofs.Common.{◌≡◌, ℕ, ◌^◌, ◌<◌, ◌≤◌, Bool, true, List, [], ◌∷◌, ◌++◌, length, Option, Some, None, Result, Ok, refl, sym, ap}
use Rattle.std.proofs.Common.{subst, ◌∙◌, append_assoc, arith}
use Rattle.std.specs.Prelude.{◌+◌, nat_lt, nat_le, ◌&&◌}
use Rattle.std.specs.Int.{Width, w16, w32, w64}
use Rattle.std.proofs.lemmas.Bool.Decides.{nat_tests}
use Rattle.nop_types.specs.Ranges.{ViewFits, SlotFits, NextFits, RequestFits}
use Rattle.nop_types.specs.declared.limits.TheConstants.{MAX_HOST_BYTES, MAX_LENGTH, MAX_OP_BYTES, MAX_REPLICAS, MAX_RESULT_BYTES, MAX_SERVED}
use Rattle.nop_types.specs.declared.limits.TheConstants.{MAX_SLOTS, NUMBER_END, WINDOW}
use Rattle.nop_types.specs.declared.view.View.{View}
use Rattle.nop_types.specs.declared.request.Request.{Request}
use Rattle.oum_codec.specs.Numbers.{IsBytes, be_bytes, number_at, byte_at, bytes_at}
use Rattle.oum_codec.specs.Numbers as numbers
use Rattle.oum_codec.specs.Spelling.{view_bytes, counted_bytes, request_bytes}
use Rattle.oum_codec.proofs.Steps.{bind_ok, ok_is, ok_or_ok, passed_ok}
use Rattle.oum_codec.proofs.Numbers.{Takes, Takes-then, IsWide, wide16, wide32, wide64, number_takes, number_again, u32_takes, u32_again}
use Rattle.oum_codec.proofs.Numbers.{byte_takes, bytes_take, bytes_again, view_takes, view_again}
use Rattle.peer_codec.specs.declared.bad_peer.BadPeer.{BadPeer}
use Rattle.peer_codec.specs.declared.bad_peer.BadPeer.TheVariants.{Short, Field}
use Rattle.peer_codec.specs.Fields.{there, in_range, sender_at, view_at, slot_at, next_at, length_at, count_at, id_at, op_at}
use Rattle.peer_codec.specs.Fields.{counted_at, request_at, host_at, served_at, client_at, kept_count_at, kept_id_at, result_at}

abbrev done : {A : Type 0} → A → Result A BadPeer
done x = Ok x

-- a field that passed both tests
in_range_ok : {A : Type 0} (test : A → Bool) (found : Option (A × List ℕ)) (x : A × List ℕ) → in_range test found ≡ Ok x
    → (found ≡ Some x) × (test x.0 ≡ true)
in_range_ok test None x e = absurd cc
in_range_ok {A} test (Some y) x e =
    let g = passed_ok (test y.0) Field (done y) x e in
    let same : y ≡ x = ok_is y x g.1 in
    (ap (λ (z : A × List ℕ). Some z) same, subst (λ (z : A × List ℕ). test z.0 ≡ true) same g.0)

-- ---- numbers

pub record TakesNumber (w : Width) (limit : ℕ) (test : ℕ → Bool) (bytes : List ℕ) (x : ℕ × List ℕ) : Type 0 where
  pub takes : Takes bytes (be_bytes w x.0) x.1
  pub below : x.0 < limit
  pub passes : test x.0 ≡ true

number_in_range : (w : Width) (limit : ℕ) → IsWide w limit → (test : ℕ → Bool) (bytes : List ℕ) (x : ℕ × List ℕ) → IsBytes bytes
    → in_range test (number_at w bytes) ≡ Ok x → TakesNumber w limit test bytes x
number_in_range w limit wide test bytes x fits e =
    let g = in_range_ok test (number_at w bytes) x e in
    let t = number_takes w limit wide bytes x fits g.0 in
    record { takes = t.0; below = t.1; passes = g.1 }

number_in_range_again : (w : Width) (limit : ℕ) → IsWide w limit → (test : ℕ → Bool) (n : ℕ) (rest : List ℕ) → n < limit → test n ≡ true
    → in_range test (number_at w (be_bytes w n ++ rest)) ≡ Ok (n, rest)
number_in_range_again w limit wide test n rest lt passes = rw (number_again w limit wide n rest lt, passes) refl

pub slot_takes : (bytes : List ℕ) (x : ℕ × List ℕ) → IsBytes bytes → slot_at bytes ≡ Ok x
    → Takes bytes (be_bytes w32 x.0) x.1 × SlotFits x.0
unfolding slot_at
slot_takes bytes x fits e =
    let t = number_in_range w32 (2 ^ 32) wide32 (λ n. nat_lt 0 n) bytes x fits e in
    let low : 1 ≤ x.0 = grind (arith, nat_tests, t.passes) in
    (t.takes, record { low = low; high = t.below })

pub slot_again : (n : ℕ) (rest : List ℕ) → SlotFits n → slot_at (be_bytes w32 n ++ rest) ≡ Ok (n, rest)
unfolding slot_at
slot_again n rest fits =
    let passes : nat_lt 0 n ≡ true = grind (arith, nat_tests, fits.low) in
    number_in_range_again w32 (2 ^ 32) wide32 (λ n. nat_lt 0 n) n rest fits.high passes

pub next_takes : (bytes : List ℕ) (x : ℕ × List ℕ) → IsBytes bytes → next_at bytes ≡ Ok x
    → Takes bytes (be_bytes w64 x.0) x.1 × NextFits x.0
unfolding next_at
next_takes bytes x fits e =
    let t = number_in_range w64 (2 ^ 64) wide64 (λ n. nat_lt 0 n && nat_le n NUMBER_END) bytes x fits e in
    let low : 1 ≤ x.0 = grind (arith, nat_tests, t.passes) in
    let high : x.0 ≤ NUMBER_END = grind (arith, nat_tests, t.passes) in
    (t.takes, record { low = low; high = high })

pub next_again : (n : ℕ) (rest : List ℕ) → NextFits n → next_at (be_bytes w64 n ++ rest) ≡ Ok (n, rest)
unfolding next_at
next_again n rest fits =
    let passes : (nat_lt 0 n && nat_le n NUMBER_END) ≡ true = grind (arith, nat_tests, fits.low, fits.high) in
    number_in_range_again w64 (2 ^ 64) wide64 (λ n. nat_lt 0 n && nat_le n NUMBER_END) n rest (omega (arith, fits.high)) passes

pub length_takes : (bytes : List ℕ) (x : ℕ × List ℕ) → IsBytes bytes → length_at bytes ≡ Ok x
    → Takes bytes (be_bytes w32 x.0) x.1 × (x.0 < 2 ^ 32)
unfolding length_at
length_takes bytes x fits e = u32_takes bytes x fits (ok_or_ok (number_at w32 bytes) Short x e)

pub length_again : (n : ℕ) (rest : List ℕ) → n < 2 ^ 32 → length_at (be_bytes w32 n ++ rest) ≡ Ok (n, rest)
unfolding length_at
length_again n rest high = rw (u32_again n rest high) refl

pub record CountFits (sync_point count : ℕ) : Type 0 where
  pub most : count ≤ MAX_SLOTS
  pub limit : sync_point + count ≤ MAX_LENGTH

pub count_takes : (sync_point : ℕ) (bytes : List ℕ) (x : ℕ × List ℕ) → IsBytes bytes → count_at sync_point bytes ≡ Ok x
    → Takes bytes (be_bytes w32 x.0) x.1 × CountFits sync_point x.0
unfolding count_at
count_takes sync_point bytes x fits e =
    let t = number_in_range w32 (2 ^ 32) wide32 (λ n. nat_le n MAX_SLOTS && nat_le (sync_point + n) MAX_LENGTH) bytes x fits e in
    let most : x.0 ≤ MAX_SLOTS = grind (arith, nat_tests, t.passes) in
    let limit : sync_point + x.0 ≤ MAX_LENGTH = grind (arith, nat_tests, t.passes) in
    (t.takes, record { most = most; limit = limit })

pub count_again : (sync_point n : ℕ) (rest : List ℕ) → n ≤ MAX_SLOTS → sync_point + n ≤ MAX_LENGTH
    → count_at sync_point (be_bytes w32 n ++ rest) ≡ Ok (n, rest)
unfolding count_at
count_again sync_point n rest most limit =
    let passes : (nat_le n MAX_SLOTS && nat_le (sync_point + n) MAX_LENGTH) ≡ true = grind (arith, nat_tests, most, limit) in
    number_in_range_again w32 (2 ^ 32) wide32 (λ n. nat_le n MAX_SLOTS && nat_le (sync_point + n) MAX_LENGTH) n rest (omega (arith, most))
    passes

pub served_takes : (bytes : List ℕ) (x : ℕ × List ℕ) → IsBytes bytes → served_at bytes ≡ Ok x
    → Takes bytes (be_bytes w32 x.0) x.1 × (x.0 ≤ MAX_SERVED)
unfolding served_at
served_takes bytes x fits e =
    let t = number_in_range w32 (2 ^ 32) wide32 (λ n. nat_le n MAX_SERVED) bytes x fits e in
    let most : x.0 ≤ MAX_SERVED = grind (arith, nat_tests, t.passes) in
    (t.takes, most)

pub served_again : (n : ℕ) (rest : List ℕ) → n ≤ MAX_SERVED → served_at (be_bytes w32 n ++ rest) ≡ Ok (n, rest)
unfolding served_at
served_again n rest most =
    let passes : nat_le n MAX_SERVED ≡ true = grind (arith, nat_tests, most) in
    number_in_range_again w32 (2 ^ 32) wide32 (λ n. nat_le n MAX_SERVED) n rest (omega (arith, most)) passes

pub record ClientFits (least client : ℕ) : Type 0 where
  pub low : least ≤ client
  pub high : client < 2 ^ 32

pub client_takes : (least : ℕ) (bytes : List ℕ) (x : ℕ × List ℕ) → IsBytes bytes → client_at least bytes ≡ Ok x
    → Takes bytes (be_bytes w32 x.0) x.1 × ClientFits least x.0
unfolding client_at
client_takes least bytes x fits e =
    let t = number_in_range w32 (2 ^ 32) wide32 (λ n. nat_le least n) bytes x fits e in
    let low : least ≤ x.0 = grind (arith, nat_tests, t.passes) in
    (t.takes, record { low = low; high = t.below })

pub client_again : (least n : ℕ) (rest : List ℕ) → least ≤ n → n < 2 ^ 32 → client_at least (be_bytes w32 n ++ rest) ≡ Ok (n, rest)
unfolding client_at
client_again least n rest low high =
    let passes : nat_le least n ≡ true = grind (arith, nat_tests, low) in
    number_in_range_again w32 (2 ^ 32) wide32 (λ n. nat_le least n) n rest high passes

pub record KeptCountFits (n : ℕ) : Type 0 where
  pub low : 1 ≤ n
  pub high : n ≤ WINDOW

pub kept_count_takes : (bytes : List ℕ) (x : ℕ × List ℕ) → IsBytes bytes → kept_count_at bytes ≡ Ok x
    → Takes bytes (x.0 ∷ []) x.1 × KeptCountFits x.0
unfolding kept_count_at
kept_count_takes bytes x fits e =
    let g = in_range_ok (λ n. nat_lt 0 n && nat_le n WINDOW) (byte_at bytes) x e in
    let low : 1 ≤ x.0 = grind (arith, nat_tests, g.1) in
    let high : x.0 ≤ WINDOW = grind (arith, nat_tests, g.1) in
    (byte_takes bytes x fits g.0, record { low = low; high = high })

pub kept_count_again : (n : ℕ) (rest : List ℕ) → 1 ≤ n → n ≤ WINDOW → kept_count_at (n ∷ rest) ≡ Ok (n, rest)
unfolding kept_count_at
kept_count_again n rest low high =
    let passes : (nat_lt 0 n && nat_le n WINDOW) ≡ true = grind (arith, nat_tests, low, high) in rw passes refl

pub record KeptIdFits (least greatest id : ℕ) : Type 0 where
  pub low : least ≤ id
  pub high : id ≤ greatest

pub kept_id_takes : (least greatest : ℕ) (bytes : List ℕ) (x : ℕ × List ℕ) → IsBytes bytes → kept_id_at least greatest bytes ≡ Ok x
    → Takes bytes (be_bytes w64 x.0) x.1 × KeptIdFits least greatest x.0
unfolding kept_id_at
kept_id_takes least greatest bytes x fits e =
    let t = number_in_range w64 (2 ^ 64) wide64 (λ n. nat_le least n && nat_le n greatest) bytes x fits e in
    let low : least ≤ x.0 = grind (arith, nat_tests, t.passes) in
    let high : x.0 ≤ greatest = grind (arith, nat_tests, t.passes) in
    (t.takes, record { low = low; high = high })

pub kept_id_again : (least greatest n : ℕ) (rest : List ℕ) → least ≤ n → n ≤ greatest → n < 2 ^ 64
    → kept_id_at least greatest (be_bytes w64 n ++ rest) ≡ Ok (n, rest)
unfolding kept_id_at
kept_id_again least greatest n rest low high wide =
    let passes : (nat_le least n && nat_le n greatest) ≡ true = grind (arith, nat_tests, low, high) in
    number_in_range_again w64 (2 ^ 64) wide64 (λ n. nat_le least n && nat_le n greatest) n rest wide passes

pub record IdFits (id : ℕ) : Type 0 where
  pub low : 1 ≤ id
  pub high : id < 2 ^ 64

pub id_takes : (bytes : List ℕ) (x : ℕ × List ℕ) → IsBytes bytes → id_at bytes ≡ Ok x → Takes bytes (be_bytes w64 x.0) x.1 × IdFits x.0
unfolding id_at
id_takes bytes x fits e =
    let t = number_in_range w64 (2 ^ 64) wide64 (λ n. nat_lt 0 n) bytes x fits e in
    let low : 1 ≤ x.0 = grind (arith, nat_tests, t.passes) in
    (t.takes, record { low = low; high = t.below })

pub id_again : (n : ℕ) (rest : List ℕ) → 1 ≤ n → n < 2 ^ 64 → id_at (be_bytes w64 n ++ rest) ≡ Ok (n, rest)
unfolding id_at
id_again n rest low high =
    let passes : nat_lt 0 n ≡ true = grind (arith, nat_tests, low) in
    number_in_range_again w64 (2 ^ 64) wide64 (λ n. nat_lt 0 n) n rest high passes

-- ---- sender and view

pub sender_takes : (bytes : List ℕ) (x : ℕ × List ℕ) → IsBytes bytes → sender_at bytes ≡ Ok x → Takes bytes (x.0 ∷ []) x.1 × (x.0 ≤ 6)
unfolding sender_at
sender_takes bytes x fits e =
    let g = in_range_ok (λ n. nat_lt n MAX_REPLICAS) (byte_at bytes) x e in
    let small : x.0 ≤ 6 = grind (arith, nat_tests, g.1) in
    (byte_takes bytes x fits g.0, small)

pub sender_again : (n : ℕ) (rest : List ℕ) → n ≤ 6 → sender_at (n ∷ rest) ≡ Ok (n, rest)
unfolding sender_at
sender_again n rest le = let passes : nat_lt n MAX_REPLICAS ≡ true = grind (arith, nat_tests, le) in rw passes refl

pub started_takes : (bytes : List ℕ) (x : View × List ℕ) → IsBytes bytes → view_at bytes ≡ Ok x
    → Takes bytes (view_bytes x.0) x.1 × ViewFits x.0
unfolding view_at
started_takes bytes x fits e =
    let g = in_range_ok (λ v. nat_lt 0 v.session) (numbers.view_at bytes) x e in
    let t = view_takes bytes x fits g.0 in
    let low : 1 ≤ x.0.session = grind (arith, nat_tests, g.1) in
    (t.0, record { leader = t.1.leader; session = record { low = low; high = t.1.session } })

pub started_again : (v : View) (rest : List ℕ) → ViewFits v → view_at (view_bytes v ++ rest) ≡ Ok (v, rest)
unfolding view_at
started_again v rest fits =
    let passes : nat_lt 0 v.session ≡ true = grind (arith, nat_tests, fits.session.low) in
    rw (view_again v rest (record { leader = fits.leader; session = fits.session.high }), passes) refl

-- ---- bytes behind their length

counted_takes : (w : Width) (limit : ℕ) → IsWide w limit → (most : ℕ) (bytes : List ℕ) (x : List ℕ × List ℕ) → IsBytes bytes
    → counted_at w most bytes ≡ Ok x → Takes bytes (be_bytes w (length x.0) ++ x.0) x.1 × (length x.0 ≤ most)
unfolding counted_at
counted_takes w limit wide most bytes x fits e =
    let a = bind_ok (in_range (λ n. nat_le n most) (number_at w bytes)) (λ len. there (bytes_at len.0 len.1)) x e in
    let t = number_in_range w limit wide (λ n. nat_le n most) bytes a.0 fits a.1 in
    let s = bytes_take a.0.0 a.0.1 x t.takes.rest_fits (ok_or_ok (bytes_at a.0.0 a.0.1) Short x a.2) in
    let both = Takes-then bytes _ _ _ _ t.takes s.0 in
    let small : a.0.0 ≤ most = grind (arith, nat_tests, t.passes) in
    (subst (λ (n : ℕ). Takes bytes (be_bytes w n ++ x.0) x.1) (sym s.1) both, omega (arith, small, s.1))

counted_again : (w : Width) (limit : ℕ) → IsWide w limit → (most : ℕ) (text rest : List ℕ) → most < limit → length text ≤ most
    → counted_at w most (be_bytes w (length text) ++ text ++ rest) ≡ Ok (text, rest)
unfolding counted_at
counted_again w limit wide most text rest lt le =
    let passes : nat_le (length text) most ≡ true = grind (arith, nat_tests, le) in
    rw (
      append_assoc (be_bytes w (length text)) text rest,
      number_again w limit wide (length text) (text ++ rest) (omega (arith, le, lt)),
      passes,
      bytes_again (length text) text rest refl,
    ) refl

op_takes : (bytes : List ℕ) (x : List ℕ × List ℕ) → IsBytes bytes → op_at bytes ≡ Ok x
    → Takes bytes (counted_bytes x.0) x.1 × (length x.0 ≤ MAX_OP_BYTES)
op_takes bytes x fits e = counted_takes w16 (2 ^ 16) wide16 MAX_OP_BYTES bytes x fits e

op_again : (op rest : List ℕ) → length op ≤ MAX_OP_BYTES → op_at (counted_bytes op ++ rest) ≡ Ok (op, rest)
op_again op rest le = counted_again w16 (2 ^ 16) wide16 MAX_OP_BYTES op rest (omega arith) le

pub result_takes : (bytes : List ℕ) (x : List ℕ × List ℕ) → IsBytes bytes → result_at bytes ≡ Ok x
    → Takes bytes (counted_bytes x.0) x.1 × (length x.0 ≤ MAX_RESULT_BYTES)
result_takes bytes x fits e = counted_takes w16 (2 ^ 16) wide16 MAX_RESULT_BYTES bytes x fits e

pub result_again : (result rest : List ℕ) → length result ≤ MAX_RESULT_BYTES → result_at (counted_bytes result ++ rest) ≡ Ok (result, rest)
result_again result rest le = counted_again w16 (2 ^ 16) wide16 MAX_RESULT_BYTES result rest (omega arith) le

pub host_takes : (bytes : List ℕ) (x : List ℕ × List ℕ) → IsBytes bytes → host_at bytes ≡ Ok x
    → Takes bytes (be_bytes w32 (length x.0) ++ x.0) x.1 × (length x.0 ≤ MAX_HOST_BYTES)
host_takes bytes x fits e = counted_takes w32 (2 ^ 32) wide32 MAX_HOST_BYTES bytes x fits e

pub host_again : (host rest : List ℕ) → length host ≤ MAX_HOST_BYTES
    → host_at (be_bytes w32 (length host) ++ host ++ rest) ≡ Ok (host, rest)
host_again host rest le = counted_again w32 (2 ^ 32) wide32 MAX_HOST_BYTES host rest (omega arith) le

-- ---- a request

pub request_takes : (bytes : List ℕ) (x : Request × List ℕ) → IsBytes bytes → request_at bytes ≡ Ok x
    → Takes bytes (request_bytes x.0) x.1 × RequestFits x.0
unfolding request_at
request_takes bytes x fits e =
    let a = bind_ok (there (number_at w32 bytes)) _ x e in
    let b = bind_ok (id_at a.0.1) _ x a.2 in
    let c = bind_ok (op_at b.0.1) _ x b.2 in
    let t0 = u32_takes bytes a.0 fits (ok_or_ok (number_at w32 bytes) Short a.0 a.1) in
    let t1 = id_takes a.0.1 b.0 t0.0.rest_fits b.1 in
    let t2 = op_takes b.0.1 c.0 t1.0.rest_fits c.1 in
    let e1 = Takes-then bytes _ _ _ _ t0.0 t1.0 in
    let e2 = Takes-then bytes _ _ _ _ e1 t2.0 in
    let made : Request × List ℕ = (record { client = a.0.0; id = b.0.0; op = c.0.0 }, c.0.1) in
    subst (λ (y : Request × List ℕ). Takes bytes (request_bytes y.0) y.1 × RequestFits y.0) (ok_is made x c.2)
    (e2, record { client = t0.1; id_low = t1.1.low; id = t1.1.high; op = t2.1 })

pub request_again : (r : Request) (rest : List ℕ) → RequestFits r → request_at (request_bytes r ++ rest) ≡ Ok (r, rest)
unfolding request_at
request_again r rest fits =
    let regrouped : request_bytes r ++ rest ≡ be_bytes w32 r.client ++ (be_bytes w64 r.id ++ (counted_bytes r.op ++ rest)) =
    append_assoc (be_bytes w32 r.client ++ be_bytes w64 r.id) (counted_bytes r.op) rest
    ∙ append_assoc (be_bytes w32 r.client) (be_bytes w64 r.id) (counted_bytes r.op ++ rest) in
    rw (
      regrouped,
      u32_again r.client (be_bytes w64 r.id ++ (counted_bytes r.op ++ rest)) fits.client,
      id_again r.id (counted_bytes r.op ++ rest) fits.id_low fits.id,
      op_again r.op rest fits.op,
    ) refl
