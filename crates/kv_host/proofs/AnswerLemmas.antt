-- The answers of the key-value service to bytes are bytes.
use Rattle.std.proofs.Common.{ℕ, Bool, true, false, cond, List, ◌++◌, length, Option, Some, None, refl, sym, subst, inl, inr}
use Rattle.std.specs.Prelude.{⊤, IfSome, codes}
use Rattle.std.specs.Int.{w16, to_be_bytes}
use Rattle.std.specs.Ordering.{nat_cmp, eq_by_cmp}
use Rattle.std.specs.Cmp.Lexicographic.{slice_cmp, nat_list_cmp_total}
use Rattle.std.specs.FinMap as finite
use Rattle.lemmas.proofs.Bytes as services
use Rattle.lemmas.proofs.Bytes.{bytes_behind, bytes_both, bytes_back, small_bytes}
use Rattle.nop_types.specs.Services.{IsBytes, AnswersAreBytes}
use Rattle.kv_host.specs.declared.op.TheConstants.{PUT, SWAP}
use Rattle.kv_host.specs.Op.{Op, Get, Put, Delete, Swap, Bad, read_op}
use Rattle.kv_host.specs.Spelling.{Spells, field}
use Rattle.kv_host.specs.Reading.{read_spelled}
use Rattle.kv_host.specs.Values.{Kv, has_value}
use Rattle.kv_host.specs.Kv.{shown, is_refused, answer_to, state_after, kv_meaning}

-- ---- ops

abbrev OpIs : Op → Type 0
OpIs (Put key value) = IsBytes value
OpIs (Swap key old new) = IsBytes new
OpIs _ = ⊤

field_behind : (value : List ℕ) → IsBytes (field value) → IsBytes value
unfolding field
field_behind value h = bytes_back (to_be_bytes w16 (length value)) value h

spelled_is : (op : Op) (bytes : List ℕ) → Spells op bytes → IsBytes bytes → OpIs op
spelled_is (Get key) bytes h all = tt
spelled_is (Put key value) bytes h all =
    field_behind value (bytes_back (field key) (field value) (bytes_behind PUT (field key ++ field value) (subst IsBytes h.2 all)))
spelled_is (Delete key) bytes h all = tt
spelled_is (Swap key old new) bytes h all =
    let behind : IsBytes (field key ++ (field old ++ field new)) =
    bytes_behind SWAP (field key ++ (field old ++ field new)) (subst IsBytes h.3 all) in
    field_behind new (bytes_back (field old) (field new) (bytes_back (field key) (field old ++ field new) behind))
spelled_is Bad bytes h all = absurd h

op_is : (bytes : List ℕ) → IsBytes bytes → OpIs (read_op bytes)
op_is bytes all = elim (read_spelled bytes) [
  | inl bad ↦ subst OpIs (sym bad) tt
  | inr spelled ↦ spelled_is (read_op bytes) bytes spelled all
]

-- ---- states

-- each value is bytes
ValuesAre : Kv → Type 0
ValuesAre kv = (key : List ℕ) → IfSome (finite.get kv key) IsBytes

opening_values : ValuesAre kv_meaning.opening
unfolding ValuesAre
opening_values key = rw (finite.get-empty {X = List ℕ} (slice_cmp nat_cmp) key) tt

either : (b : Bool) (v w : Option (List ℕ)) → IfSome v IsBytes → IfSome w IsBytes → IfSome (cond b v w) IsBytes
either true v w h k = h
either false v w h k = k

insert_values : (kv : Kv) (key value : List ℕ) → IsBytes value → ValuesAre kv → ValuesAre (finite.insert kv key value)
unfolding ValuesAre
insert_values kv key value is all q =
    rw (finite.get-insert nat_list_cmp_total kv key value q)
    (either (eq_by_cmp (slice_cmp nat_cmp) q key) (Some value) (finite.get kv q) is (all q))

remove_values : (kv : Kv) (key : List ℕ) → ValuesAre kv → ValuesAre (finite.remove kv key)
unfolding ValuesAre
remove_values kv key all q =
    rw (finite.get-remove nat_list_cmp_total kv key q)
    (either (eq_by_cmp (slice_cmp nat_cmp) q key) None (finite.get kv q) tt (all q))

one_of : (b : Bool) (v w : Kv) → ValuesAre v → ValuesAre w → ValuesAre (cond b v w)
one_of true v w h k = h
one_of false v w h k = k

after_values : (kv : Kv) (op : Op) → OpIs op → ValuesAre kv → ValuesAre (state_after kv op)
after_values kv (Get key) is all = all
after_values kv (Put key value) is all =
    one_of (is_refused kv key) kv (finite.insert kv key value) all (insert_values kv key value is all)
after_values kv (Delete key) is all = remove_values kv key all
after_values kv (Swap key old new) is all =
    one_of (has_value kv key old) (finite.insert kv key new) kv (insert_values kv key new is all) all
after_values kv Bad is all = all

-- ---- answers

shown_bytes : (o : Option (List ℕ)) → IfSome o IsBytes → IsBytes (shown o)
shown_bytes None h = small_bytes (codes "none") refl
shown_bytes (Some value) h = bytes_both (codes "=") value (small_bytes (codes "=") refl) h

word : (b : Bool) (v w : List ℕ) → IsBytes v → IsBytes w → IsBytes (cond b v w)
word true v w h k = h
word false v w h k = k

answer_bytes : (kv : Kv) (op : Op) → ValuesAre kv → IsBytes (answer_to kv op)
unfolding ValuesAre
answer_bytes kv (Get key) all = shown_bytes (finite.get kv key) (all key)
answer_bytes kv (Put key value) all =
    word (is_refused kv key) (codes "full") (shown (finite.get kv key)) (small_bytes (codes "full") refl)
    (shown_bytes (finite.get kv key) (all key))
answer_bytes kv (Delete key) all = shown_bytes (finite.get kv key) (all key)
answer_bytes kv (Swap key old new) all =
    word (has_value kv key old) (codes "yes") (codes "no") (small_bytes (codes "yes") refl) (small_bytes (codes "no") refl)
answer_bytes kv Bad all = small_bytes (codes "bad") refl

pub answers_are_bytes : AnswersAreBytes kv_meaning
answers_are_bytes =
    services.answers_are_bytes kv_meaning ValuesAre opening_values
    (λ s op is bytes. after_values s (read_op op) (op_is op bytes) is) (λ s op is bytes. answer_bytes s (read_op op) is)
