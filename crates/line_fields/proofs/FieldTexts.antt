-- Reading the text of a field gives the field again.
use Rattle.std.proofs.Common.{◌≡◌, ℕ, zero, suc, ◌+◌, ◌-◌, ◌*◌, ◌/◌, ◌%◌, ◌^◌, ◌<◌, ◌≤◌, Bool, true, false, Option, Some, None, refl, ap}
use Rattle.std.proofs.Common.{◌∙◌, arith, length, List, [], ◌∷◌, ◌++◌, append_assoc, append-nil, slice_index, get_or}
use Rattle.std.proofs.Common.{decimal, codes, take, nat_lt, nat_le, inl, inr}
use Rattle.std.specs.Prelude.{if◌then◌else◌, ◌&&◌, ◌==◌, Ok, nat_eq, IsTrue}
use Rattle.std.specs.Cmp.Lexicographic.{pointwise}
use Rattle.std.specs.List.{flat_map, list_all}
use Rattle.std.proofs.lemmas.Bool.{le-leb, lt-ltb, leb-true, ne_eqb, and_parts, and_left, and_right, cases_lt}
use Rattle.std.proofs.lemmas.Fmt.{decimal_by_steps, decimal_digit, first_decimal, length-decimal-le, decimal_nonempty}
use Rattle.std.proofs.lemmas.List.Folds.{list_all-append}
use Rattle.std.proofs.lemmas.List.Sums.{AllPass-from_list_all}
use Rattle.hex.specs.Hex.{IsBytes, decode_of, encode_lower, encode_with, lower_digits}
use Rattle.hex.proofs.HexLemmas.{decode_of-encode_lower, length-encode_with}
use Rattle.nop_types.specs.Configuration.{Configuration, is_configuration}
use Rattle.nop_types.specs.declared.limits.TheConstants.{MAX_REPLICAS}
use Rattle.nop_types.specs.declared.limits.TheConstants.{MAX_SEQUENCERS, MAX_CLIENTS, MAX_CONTROLLERS, MAX_OBSERVERS, MAX_KEY_BYTES}
use Rattle.nop_types.specs.declared.output.Actor.{Actor}
use Rattle.nop_types.specs.declared.output.Actor.TheVariants as actors
use Rattle.line_fields.specs.Fields.{fields, fields_on, is_text, digit_on, number_on, number_of, number_below, numbered, actor_of}
use Rattle.line_fields.specs.Fields.{from_one, by_number, as_option, bytes_of, key_in, key_of, IsActorOf}
use Rattle.transcript_text.specs.LineText.{after_space}
use Rattle.transcript_text.specs.Transcript.{actor_text, hex_text}

-- ---- the bytes of a field

-- a printable character, and no space
abbrev pub is_mark : ℕ → Bool
is_mark b = nat_le 33 b && nat_le b 126

pub and_true : (a b : Bool) → a ≡ true → b ≡ true → (a && b) ≡ true
and_true true true e f = refl
and_true true false e f = f
and_true false b e f = e

mark : (b : ℕ) → 33 ≤ b → b ≤ 126 → is_mark b ≡ true
mark b low high = and_true (nat_le 33 b) (nat_le b 126) (le-leb 33 b low) (le-leb b 126 high)

mark_low : (b : ℕ) → is_mark b ≡ true → 33 ≤ b
mark_low b e = leb-true 33 b (and_parts (nat_le 33 b) (nat_le b 126) e).0

both_marked : (xs ys : List ℕ) → list_all is_mark xs ≡ true → list_all is_mark ys ≡ true → list_all is_mark (xs ++ ys) ≡ true
both_marked xs ys e f = list_all-append is_mark xs ys ∙ and_true (list_all is_mark xs) (list_all is_mark ys) e f

-- ---- decimal numbers

number_on-append : (n : Option ℕ) (ds : List ℕ) (d : ℕ) → number_on n (ds ++ d ∷ []) ≡ number_on (number_on n ds) (d ∷ [])
number_on-append n [] d = refl
number_on-append None (x ∷ ds) d = refl
number_on-append (Some n) (x ∷ ds) d = number_on-append (digit_on n x) ds d

digit_goes_on : (n d : ℕ) → d < 10 → n * 10 + d < 2 ^ 64 → digit_on n (48 + d) ≡ Some (n * 10 + d)
digit_goes_on n d small fits =
    let value : 48 + d - 48 ≡ d = omega arith in
    rw value
    (rw (le-leb 48 (48 + d) (omega arith), le-leb (48 + d) 57 (omega arith), lt-ltb (n * 10 + d) (2 ^ 64) fits) refl)

pub decimal_marked : (n : ℕ) → n < 2 ^ 64 → list_all is_mark (decimal n) ≡ true
decimal_marked = decimal_by_steps (λ m ds. list_all is_mark ds ≡ true) one more
  where
    one : (n : ℕ) → n < 10 → list_all is_mark ((48 + n) ∷ []) ≡ true
    one n small = and_true (is_mark (48 + n)) true (mark (48 + n) (omega arith) (omega arith)) refl

    more : (n : ℕ) (ds : List ℕ) → 10 ≤ n → list_all is_mark ds ≡ true → list_all is_mark (ds ++ (48 + n % 10) ∷ []) ≡ true
    more n ds low e = both_marked ds ((48 + n % 10) ∷ []) e (one (n % 10) (omega arith))

decimal_goes_on : (n : ℕ) → n < 2 ^ 64 → n < 2 ^ 64 → number_on (Some 0) (decimal n) ≡ Some n
decimal_goes_on = decimal_by_steps (λ m ds. m < 2 ^ 64 → number_on (Some 0) ds ≡ Some m) one more
  where
    one : (n : ℕ) → n < 10 → n < 2 ^ 64 → number_on (Some 0) ((48 + n) ∷ []) ≡ Some n
    one n small fits = let e : 0 * 10 + n ≡ n = omega arith in digit_goes_on 0 n small (omega arith) ∙ ap Some e

    more : (n : ℕ) (ds : List ℕ) → 10 ≤ n → (n / 10 < 2 ^ 64 → number_on (Some 0) ds ≡ Some (n / 10)) → n < 2 ^ 64
        → number_on (Some 0) (ds ++ (48 + n % 10) ∷ []) ≡ Some n
    more n ds low h fits =
        let whole : n / 10 * 10 + n % 10 ≡ n = omega arith in
        number_on-append (Some 0) ds (48 + n % 10)
        ∙ ap (λ (k : Option ℕ). number_on k ((48 + n % 10) ∷ [])) (h (omega arith))
        ∙ digit_goes_on (n / 10) (n % 10) (omega arith) (omega arith)
        ∙ ap Some whole

-- digits without a leading zero
number_from : (xs : List ℕ) (n : ℕ) → number_on (Some 0) xs ≡ Some n → 0 < length xs → (1 < length xs → get_or xs 0 0 ≡ 48 → ⊥)
    → number_of xs ≡ Some n
unfolding number_of
number_from [] n e some first = absurd (omega arith)
number_from (d ∷ []) n e some first = e
number_from (d ∷ x ∷ ds) n e some first = rw (ne_eqb d 48 (first (omega arith))) e

first_is_no_zero : (n : ℕ) → n < 2 ^ 64 → 1 < length (decimal n) → get_or (decimal n) 0 0 ≡ 48 → ⊥
first_is_no_zero n fits long e = elim (cases_lt n 10) [
  | inl small ↦ omega (arith, ap length (decimal_digit n small))
  | inr big ↦ omega (arith, first_decimal n (omega arith) fits)
]

pub number_again : (n : ℕ) → n < 2 ^ 64 → number_of (decimal n) ≡ Some n
number_again n fits = number_from (decimal n) n (decimal_goes_on n fits fits) (decimal_nonempty n fits) (first_is_no_zero n fits)

-- ---- actors

pub small_again : (limit n : ℕ) → n < limit → limit ≤ 2 ^ 64 → number_below limit (decimal n) ≡ Some n
small_again limit n small top = rw (number_again n (omega arith)) (rw (lt-ltb n limit small) refl)

-- a number begins with a digit
pub record StartsWithDigit (ds : List ℕ) : Type 0 where
  pub first : ℕ
  pub rest : List ℕ
  pub is : ds ≡ first ∷ rest
  pub low : first < 58
  pub high : 48 ≤ first

pub starts_with_digit : (n : ℕ) → n < 2 ^ 64 → StartsWithDigit (decimal n)
starts_with_digit = decimal_by_steps (λ m ds. StartsWithDigit ds) one more
  where
    one : (n : ℕ) → n < 10 → StartsWithDigit ((48 + n) ∷ [])
    one n small = record { first = 48 + n; rest = []; is = refl; low = omega arith; high = omega arith }

    more : (n : ℕ) (ds : List ℕ) → 10 ≤ n → StartsWithDigit ds → StartsWithDigit (ds ++ (48 + n % 10) ∷ [])
    more n ds low h = record {
      first = h.first;
      rest = h.rest ++ (48 + n % 10) ∷ [];
      is = ap (λ (xs : List ℕ). xs ++ (48 + n % 10) ∷ []) h.is;
      low = h.low;
      high = h.high;
    }

-- so a client's name does not begin as a controller's
no_name : (d : ℕ) (ds : List ℕ) → d < 58 → pointwise nat_eq (d ∷ ds) (codes "tl") ≡ false
no_name d ds low = and_left (d == 116) _ (ne_eqb d 116 (λ same. omega arith))

client_is_other : (c : Configuration) (ds : List ℕ) → StartsWithDigit ds
    → actor_of c (99 ∷ ds) ≡ numbered actors.Client (number_below c.clients ds)
unfolding actor_of
client_is_other c ds h = rw h.is (rw (no_name h.first h.rest h.low, no_name h.first (take 1 h.rest) h.low) refl)

later_text : (k : ℕ) → actor_text (actors.Controller (suc k)) ≡ codes "ctl" ++ decimal (suc k)
later_text k = rw (ne_eqb (suc k) 0 (λ e. omega (arith, e))) refl

-- `ctl` and a number is a controller from 1 on
controller_is_later : (c : Configuration) (ds : List ℕ) → StartsWithDigit ds → actor_of c (codes "ctl" ++ ds) ≡ by_number c ds
unfolding actor_of
controller_is_later c ds h = rw h.is refl

pub record Small (c : Configuration) : Type 0 where
  pub replicas : c.replicas ≤ 7
  pub sequencers : c.sequencers ≤ 4
  pub clients : c.clients ≤ 16
  pub controllers : c.controllers ≤ 4
  pub observers : c.observers ≤ 4

pub actor_again : (c : Configuration) → Small c → (a : Actor) → IsActorOf c a → actor_of c (actor_text a) ≡ Some a
unfolding actor_of
actor_again c small (actors.Replica i) h = ap (numbered actors.Replica) (small_again c.replicas i h (omega (arith, small.replicas)))
actor_again c small (actors.Sequencer i) h = ap (numbered actors.Sequencer) (small_again c.sequencers i h (omega (arith, small.sequencers)))
actor_again c small (actors.Client i) h =
    client_is_other c (decimal i) (starts_with_digit i (omega (arith, small.clients)))
    ∙ ap (numbered actors.Client) (small_again c.clients i h (omega (arith, small.clients)))
actor_again c small (actors.Controller zero) h = refl
actor_again c small (actors.Controller (suc k)) h =
    ap (actor_of c) (later_text k)
    ∙ controller_is_later c (decimal (suc k)) (starts_with_digit (suc k) (omega (arith, small.controllers)))
    ∙ ap (λ (n : Option ℕ). numbered actors.Controller (from_one n))
    (small_again c.controllers (suc k) h (omega (arith, small.controllers)))
actor_again c small (actors.Observer i) h = ap (numbered actors.Observer) (small_again c.observers i h (omega (arith, small.observers)))

pub small_counts : (c : Configuration) → IsTrue (is_configuration c) → Small c
small_counts c e =
    let observers = nat_le c.observers MAX_OBSERVERS in
    let controllers = nat_lt 0 c.controllers && (nat_le c.controllers MAX_CONTROLLERS && observers) in
    let clients = nat_le c.clients MAX_CLIENTS && controllers in
    let sequencers = nat_le c.sequencers MAX_SEQUENCERS && (nat_lt 0 c.clients && clients) in
    let replicas = nat_le c.replicas MAX_REPLICAS && (nat_lt 0 c.sequencers && sequencers) in
    let a = and_parts (c.replicas % 2 == 1) replicas e in
    let b = and_parts (nat_le c.replicas MAX_REPLICAS) (nat_lt 0 c.sequencers && sequencers) a.1 in
    let d = and_parts (nat_lt 0 c.sequencers) sequencers b.1 in
    let g = and_parts (nat_le c.sequencers MAX_SEQUENCERS) (nat_lt 0 c.clients && clients) d.1 in
    let h = and_parts (nat_lt 0 c.clients) clients g.1 in
    let k = and_parts (nat_le c.clients MAX_CLIENTS) controllers h.1 in
    let m = and_parts (nat_lt 0 c.controllers) (nat_le c.controllers MAX_CONTROLLERS && observers) k.1 in
    let o = and_parts (nat_le c.controllers MAX_CONTROLLERS) observers m.1 in
    record {
      replicas = leb-true c.replicas MAX_REPLICAS b.0;
      sequencers = leb-true c.sequencers MAX_SEQUENCERS g.0;
      clients = leb-true c.clients MAX_CLIENTS k.0;
      controllers = leb-true c.controllers MAX_CONTROLLERS o.0;
      observers = leb-true c.observers MAX_OBSERVERS o.1;
    }

pub actor_named_again : (c : Configuration) (a : Actor) → IsTrue (is_configuration c) → IsActorOf c a → actor_of c (actor_text a) ≡ Some a
actor_named_again c a is h = actor_again c (small_counts c is) a h

-- ---- bytes

digits_again : (field bytes : List ℕ) → is_text (codes "-") field ≡ false → 0 < length field → decode_of field ≡ Ok bytes
    → bytes_of field ≡ Some bytes
unfolding bytes_of
digits_again [] bytes other some e = absurd (omega arith)
digits_again (d ∷ ds) bytes other some e = rw other (ap as_option e)

-- a field of two characters or more is none of one
longer_is_other : (c d x : ℕ) (ds : List ℕ) → is_text (c ∷ []) (d ∷ x ∷ ds) ≡ false
longer_is_other c d x ds = and_right (d == c) false refl

two_digits_first : (b : ℕ) (bs : List ℕ) → (d : ℕ) × (x : ℕ) × (ds : List ℕ) × (encode_lower (b ∷ bs) ≡ d ∷ x ∷ ds)
unfolding encode_with
two_digits_first b bs = (_, _, _, refl)

pub bytes_again : (bytes : List ℕ) → IsBytes bytes → bytes_of (hex_text bytes) ≡ Some bytes
unfolding bytes_of
bytes_again [] h = refl
bytes_again (b ∷ bs) h =
    let t = two_digits_first b bs in
    digits_again (encode_lower (b ∷ bs)) (b ∷ bs) (rw t.3 (longer_is_other 45 t.0 t.1 t.2))
    (omega (arith, length-encode_with lower_digits (b ∷ bs))) (decode_of-encode_lower (b ∷ bs) h)

pub key_again : (key : List ℕ) → 1 ≤ length key → length key ≤ MAX_KEY_BYTES → IsBytes key → key_of (hex_text key) ≡ Some key
key_again key some most bytes =
    ap key_in (bytes_again key bytes) ∙ rw (le-leb 1 (length key) some, le-leb (length key) MAX_KEY_BYTES most) refl

-- the digits of one byte or more are no `-`
pub no_dash : (bytes : List ℕ) → 1 ≤ length bytes → is_text (codes "-") (hex_text bytes) ≡ false
no_dash [] some = absurd (omega arith)
no_dash (b ∷ bs) some = let t = two_digits_first b bs in rw t.3 (longer_is_other 45 t.0 t.1 t.2)

digit_marked : (d : ℕ) → d < 16 → is_mark (slice_index lower_digits d) ≡ true
digit_marked d small = AllPass-from_list_all is_mark lower_digits refl d 0 small

encoded_marked : (bytes : List ℕ) → IsBytes bytes → list_all is_mark (encode_lower bytes) ≡ true
unfolding encode_with
encoded_marked [] h = refl
encoded_marked (b ∷ bs) h =
    let fits : b < 256 = h 0 in
    and_true (is_mark (slice_index lower_digits (b / 16))) _ (digit_marked (b / 16) (omega arith))
    (and_true (is_mark (slice_index lower_digits (b % 16))) _ (digit_marked (b % 16) (omega arith)) (encoded_marked bs (λ k. h (suc k))))

pub hex_marked : (bytes : List ℕ) → IsBytes bytes → list_all is_mark (hex_text bytes) ≡ true
hex_marked [] h = refl
hex_marked (b ∷ bs) h = encoded_marked (b ∷ bs) h

pub hex_short : (bytes : List ℕ) → length (hex_text bytes) ≤ 2 * length bytes + 1
hex_short [] = omega arith
hex_short (b ∷ bs) = omega (arith, length-encode_with lower_digits (b ∷ bs))

pub hex_within : (bytes : List ℕ) (most : ℕ) → 1 ≤ most → length bytes ≤ most → length (hex_text bytes) ≤ 2 * most
hex_within [] most low short = omega arith
hex_within (b ∷ bs) most low short = omega (arith, length-encode_with lower_digits (b ∷ bs))

-- ---- the fields of a line

-- these bytes, behind a field, end it and have these further fields
record Cuts (rest : List ℕ) (more : List (List ℕ)) : Type 0 where
  at : (field : List ℕ) → fields_on field rest ≡ field ∷ more

on_mark : (field rest : List ℕ) (b : ℕ) → is_mark b ≡ true → fields_on field (b ∷ rest) ≡ fields_on (field ++ b ∷ []) rest
on_mark field rest b e = let low = mark_low b e in rw (ne_eqb b 32 (λ same. omega arith)) refl

field_first : (a rest : List ℕ) (more : List (List ℕ)) → list_all is_mark a ≡ true → Cuts rest more → (field : List ℕ)
    → fields_on field (a ++ rest) ≡ (field ++ a) ∷ more
field_first [] rest more e cuts field = rw append-nil (cuts.at field)
field_first (b ∷ bs) rest more e cuts field =
    let parts = and_parts (is_mark b) (list_all is_mark bs) e in
    on_mark field (bs ++ rest) b parts.0
    ∙ field_first bs rest more parts.1 cuts (field ++ b ∷ [])
    ∙ ap (λ (x : List ℕ). x ∷ more) (append_assoc field (b ∷ []) bs)

-- each of them is a field
abbrev pub AllMarked : List (List ℕ) → Type 0
AllMarked [] = Unit {0}
AllMarked (x ∷ xs) = (list_all is_mark x ≡ true) × AllMarked xs

spaced_cuts : (xs : List (List ℕ)) → AllMarked xs → Cuts (flat_map after_space xs) xs
spaced_cuts [] h = record { at = λ field. refl }
spaced_cuts (x ∷ xs) h = record {
  at = λ field. ap (λ (ys : List (List ℕ)). field ∷ ys) (field_first x (flat_map after_space xs) xs h.0 (spaced_cuts xs h.1) []);
}

pub line_fields : (word : List ℕ) (xs : List (List ℕ)) → list_all is_mark word ≡ true → AllMarked xs
    → fields (word ++ flat_map after_space xs) ≡ word ∷ xs
unfolding fields
line_fields word xs e h = field_first word (flat_map after_space xs) xs e (spaced_cuts xs h) []

pub decimal_short : (n : ℕ) → n < 2 ^ 64 → length (decimal n) ≤ 20
decimal_short n fits = length-decimal-le 20 n (omega arith) (omega arith) fits

-- ---- the names of actors

numbers_marked : (b : Bool) (i : ℕ) → i < 2 ^ 64 → list_all is_mark (codes "ctl" ++ (if b then [] else decimal i)) ≡ true
numbers_marked true i fits = refl
numbers_marked false i fits = decimal_marked i fits

controller_marked : (i : ℕ) → i < 2 ^ 64 → list_all is_mark (actor_text (actors.Controller i)) ≡ true
controller_marked i fits = numbers_marked (i == 0) i fits

controller_short : (i : ℕ) → i < 10 → length (actor_text (actors.Controller i)) ≤ 21
controller_short i small = by_zero (i == 0)
  where
    by_zero : (b : Bool) → length (codes "ctl" ++ (if b then [] else decimal i)) ≤ 21
    by_zero true = omega arith
    by_zero false = omega (arith, ap length (decimal_digit i small))

module _ (c : Configuration) (small : Small c) where
  pub actor_marked : (a : Actor) → IsActorOf c a → list_all is_mark (actor_text a) ≡ true
  actor_marked (actors.Replica i) h = decimal_marked i (let k = small.replicas in omega arith)
  actor_marked (actors.Sequencer i) h = decimal_marked i (let k = small.sequencers in omega arith)
  actor_marked (actors.Client i) h = decimal_marked i (let k = small.clients in omega arith)
  actor_marked (actors.Controller i) h = controller_marked i (let k = small.controllers in omega arith)
  actor_marked (actors.Observer i) h = decimal_marked i (let k = small.observers in omega arith)

  pub actor_short : (a : Actor) → IsActorOf c a → length (actor_text a) ≤ 21
  actor_short (actors.Replica i) h = omega (arith, decimal_short i (let k = small.replicas in omega arith))
  actor_short (actors.Sequencer i) h = omega (arith, decimal_short i (let k = small.sequencers in omega arith))
  actor_short (actors.Client i) h = omega (arith, decimal_short i (let k = small.clients in omega arith))
  actor_short (actors.Controller i) h = controller_short i (let k = small.controllers in omega arith)
  actor_short (actors.Observer i) h = omega (arith, decimal_short i (let k = small.observers in omega arith))
