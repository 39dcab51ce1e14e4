-- Proofs: nothing here has to be believed.
-- The words of an op name it, and what words name is spelled by their bytes.
use Rattle.std.proofs.Common.{◌≡◌, ℕ, zero, suc, List, [], ◌∷◌, ◌++◌, length, Option, Some, None, refl, sym, ap, subst, ◌∙◌}
use Rattle.std.proofs.Common.{arith, inl, inr}
use Rattle.std.specs.Prelude.{⊤, IfSome}
use Rattle.std.specs.Int.{w16, to_be_bytes}
use Rattle.std.specs.Option.{option_and_then}
use Rattle.hex.specs.Hex.{IsBytes}
use Rattle.op_text.proofs.WordLemmas.{read_back}
use Rattle.kv_host.specs.declared.op.TheConstants.{GET, PUT, DELETE, SWAP}
use Rattle.kv_host.specs.Op.{Op, Get, Put, Delete, Swap, Bad, read_op}
use Rattle.kv_host.specs.Spelling.{field, Spells}
use Rattle.kv_host.specs.Reading.{read_spelled}
use Rattle.kv_spelling.specs.Spell.{spell}
use Rattle.kv_spelling.specs.Laws.{spelled_again, spelled_op}
use Rattle.kv_text.specs.Text.{named, op_of, words_in, words_of}

-- ---- the fields of an op of bytes are bytes

bytes_prefix : (xs ys : List ℕ) → IsBytes (xs ++ ys) → IsBytes xs
bytes_prefix [] ys all i = omega arith
bytes_prefix (x ∷ xs) ys all zero = all 0
bytes_prefix (x ∷ xs) ys all (suc i) = bytes_prefix xs ys (λ j. all (suc j)) i

bytes_back : (xs ys : List ℕ) → IsBytes (xs ++ ys) → IsBytes ys
bytes_back [] ys all = all
bytes_back (x ∷ xs) ys all = bytes_back xs ys (λ j. all (suc j))

field_is : (f : List ℕ) → IsBytes (field f) → IsBytes f
unfolding field
field_is f all = bytes_back (to_be_bytes w16 (length f)) f all

first_is : (f rest : List ℕ) → IsBytes (field f ++ rest) → IsBytes f
first_is f rest all = field_is f (bytes_prefix (field f) rest all)

abbrev BytesIn : Op → Type 0
BytesIn (Get key) = IsBytes key
BytesIn (Put key value) = IsBytes key × IsBytes value
BytesIn (Delete key) = IsBytes key
BytesIn (Swap key old new) = IsBytes key × IsBytes old × IsBytes new
BytesIn Bad = ⊤

after_kind : (kind : ℕ) (bytes fields : List ℕ) → bytes ≡ kind ∷ fields → IsBytes bytes → IsBytes fields
after_kind kind bytes fields e all j = subst IsBytes e all (suc j)

bytes_in : (op : Op) (bytes : List ℕ) → Spells op bytes → IsBytes bytes → BytesIn op
bytes_in (Get key) bytes (k, e) all = field_is key (after_kind GET bytes (field key) e all)
bytes_in (Put key value) bytes (k, v, e) all =
    let fields = after_kind PUT bytes (field key ++ field value) e all in
    (first_is key (field value) fields, field_is value (bytes_back (field key) (field value) fields))
bytes_in (Delete key) bytes (k, e) all = field_is key (after_kind DELETE bytes (field key) e all)
bytes_in (Swap key old new) bytes (k, o, n, e) all =
    let fields = after_kind SWAP bytes (field key ++ (field old ++ field new)) e all in
    let values = bytes_back (field key) (field old ++ field new) fields in
    (first_is key (field old ++ field new) fields, first_is old (field new) values, field_is new (bytes_back (field old) (field new) values))
bytes_in Bad bytes h all = absurd h

-- ---- the words of an op name it

named_again : (op : Op) → BytesIn op → IfSome (words_in op) (λ words. named words ≡ Some op)
unfolding named
named_again (Get key) k = rw (read_back key k) refl
named_again (Put key value) (k, v) = rw (read_back key k, read_back value v) refl
named_again (Delete key) k = rw (read_back key k) refl
named_again (Swap key old new) (k, o, n) = rw (read_back key k, read_back old o, read_back new n) refl
named_again Bad h = tt

both : (words : Option (List (List ℕ))) (op : Op) (bytes : List ℕ) → IfSome words (λ w. named w ≡ Some op) → spell op ≡ Some bytes
    → IfSome words (λ w. op_of w ≡ Some bytes)
both None op bytes h e = tt
both (Some w) op bytes h e = ap (λ (o : Option Op). option_and_then spell o) h ∙ e

pub reads_back : (op : List ℕ) → IsBytes op → IfSome (words_of op) (λ words. op_of words ≡ Some op)
reads_back op all = elim (read_spelled op) [
  | inl bad ↦ subst (λ (o : Op). IfSome (words_in o) (λ words. op_of words ≡ Some op)) (sym bad) tt
  | inr spelled ↦ both (words_in (read_op op)) (read_op op) op (named_again (read_op op) (bytes_in (read_op op) op spelled all))
      (spelled_again (read_op op) op spelled)
]

-- ---- what words name is spelled

pub named_spelled : (words : List (List ℕ)) (op : Op) (bytes : List ℕ) → named words ≡ Some op → op_of words ≡ Some bytes
    → Spells op bytes
named_spelled words op bytes n e = spelled_op op bytes (sym (ap (λ (o : Option Op). option_and_then spell o) n) ∙ e)
