-- Proofs: nothing here has to be believed.
-- What the replies say of the map.
use Rattle.std.proofs.Common.{◌≡◌, ℕ, Bool, true, false, cond, List, [], ◌∷◌, ◌++◌, Option, Some, None, refl}
use Rattle.std.specs.Prelude.{codes, is_some, ◌&&◌, ◌||◌}
use Rattle.std.proofs.lemmas.Bool.{and_parts}
use Rattle.std.specs.FinMap as finite
use Rattle.kv_host.specs.declared.op.TheConstants.{GET, PUT, DELETE, SWAP}
use Rattle.kv_host.specs.Op.{Op, Get, Put, Delete, Swap}
use Rattle.kv_host.specs.Spelling.{field, KeyFits, Spells}
use Rattle.kv_host.specs.Kv.{answer_to, is_refused, shown}
use Rattle.kv_host.specs.Values.{Kv, has_value}
use Rattle.resp.specs.Spelling.{bulk}
use Rattle.resp.specs.Replies.{simple, error, integer, nil}
use Rattle.kv_resp.specs.declared.demand.Form.{Form}
use Rattle.kv_resp.specs.declared.demand.Form.TheVariants.{Value, Stored, Presence, Swapped}
use Rattle.kv_resp.specs.Results.{reply_to}
use Rattle.kv_spelling.specs.Spell.{fits_key, fits_value}
use Rattle.kv_spelling.specs.Laws.{key_fits, value_fits}
use Rattle.kv_resp.specs.Table.{Action, Execute, ReadAt, Info, Answer, End}
use Rattle.kv_resp.specs.Table.{with_any, with_one, with_two, with_three, asked, is_word, bad_key, bad_value}

-- ---- results

abbrev pub full : List ℕ
full = error (codes "ERR full: as many keys have a value as may have one")

-- the value, or that there is none
abbrev pub value_reply : Option (List ℕ) → List ℕ
value_reply None = nil
value_reply (Some value) = bulk value

-- 1 or 0
abbrev pub flag : Bool → List ℕ
flag true = integer 1
flag false = integer 0

shown_value : (value : Option (List ℕ)) → reply_to Value (shown value) ≡ value_reply value
unfolding reply_to
shown_value None = refl
shown_value (Some value) = refl

shown_presence : (value : Option (List ℕ)) → reply_to Presence (shown value) ≡ flag (is_some value)
unfolding reply_to
shown_presence None = refl
shown_presence (Some value) = refl

shown_stored : (value : Option (List ℕ)) → reply_to Stored (shown value) ≡ simple (codes "OK")
unfolding reply_to
shown_stored None = refl
shown_stored (Some value) = refl

-- the value of the key
pub get_replied : (kv : Kv) (key : List ℕ) → reply_to Value (answer_to kv (Get key)) ≡ value_reply (finite.get kv key)
get_replied kv key = shown_value (finite.get kv key)

-- whether it has one
pub exists_replied : (kv : Kv) (key : List ℕ) → reply_to Presence (answer_to kv (Get key)) ≡ flag (is_some (finite.get kv key))
exists_replied kv key = shown_presence (finite.get kv key)

pub delete_replied : (kv : Kv) (key : List ℕ) → reply_to Presence (answer_to kv (Delete key)) ≡ flag (is_some (finite.get kv key))
delete_replied kv key = shown_presence (finite.get kv key)

pub former_replied : (kv : Kv) (key : List ℕ) → reply_to Value (answer_to kv (Delete key)) ≡ value_reply (finite.get kv key)
former_replied kv key = shown_value (finite.get kv key)

stored_or_full : (b : Bool) (value : Option (List ℕ)) → reply_to Stored (cond b (codes "full") (shown value)) ≡ cond b full (simple (codes "OK"))
unfolding reply_to
stored_or_full true value = refl
stored_or_full false value = shown_stored value

-- that it is done; or that it isn't, since the map is full
pub set_replied : (kv : Kv) (key value : List ℕ)
    → reply_to Stored (answer_to kv (Put key value)) ≡ cond (is_refused kv key) full (simple (codes "OK"))
set_replied kv key value = stored_or_full (is_refused kv key) (finite.get kv key)

former_or_full : (b : Bool) (value : Option (List ℕ)) → reply_to Value (cond b (codes "full") (shown value)) ≡ cond b full (value_reply value)
unfolding reply_to
former_or_full true value = refl
former_or_full false value = shown_value value

pub set_get_replied : (kv : Kv) (key value : List ℕ)
    → reply_to Value (answer_to kv (Put key value)) ≡ cond (is_refused kv key) full (value_reply (finite.get kv key))
set_get_replied kv key value = former_or_full (is_refused kv key) (finite.get kv key)

yes_or_no : (b : Bool) → reply_to Swapped (cond b (codes "yes") (codes "no")) ≡ flag b
unfolding reply_to
yes_or_no true = refl
yes_or_no false = refl

pub swap_replied : (kv : Kv) (key old new : List ℕ) → reply_to Swapped (answer_to kv (Swap key old new)) ≡ flag (has_value kv key old)
swap_replied kv key old new = yes_or_no (has_value kv key old)

-- ---- ops

-- the bytes spell an op
pub record IsOp (bytes : List ℕ) : Type 0 where
  pub op : Op
  pub spells : Spells op bytes

-- an op that is asked for is spelled by its bytes, and a key that is read may be that of an op
abbrev pub IsSpelled : Action → Type 0
IsSpelled (Execute bytes form) = IsOp bytes
IsSpelled (ReadAt key) = KeyFits key
IsSpelled Info = Unit {0}
IsSpelled (Answer reply) = Unit {0}
IsSpelled (End reply) = Unit {0}

get_spelled : (key : List ℕ) (form : Form) (b : Bool) → fits_key key ≡ b → IsSpelled (cond b (Execute (GET ∷ field key) form) bad_key)
get_spelled key form true e = record { op = Get key; spells = (key_fits key e, refl) }
get_spelled key form false e = tt

delete_spelled : (key : List ℕ) (form : Form) (b : Bool) → fits_key key ≡ b
    → IsSpelled (cond b (Execute (DELETE ∷ field key) form) bad_key)
delete_spelled key form true e = record { op = Delete key; spells = (key_fits key e, refl) }
delete_spelled key form false e = tt

read_spelled : (key : List ℕ) (b : Bool) → fits_key key ≡ b → IsSpelled (cond b (ReadAt key) bad_key)
read_spelled key true e = key_fits key e
read_spelled key false e = tt

put_spelled : (key value : List ℕ) (form : Form) (b c : Bool) → fits_key key ≡ b → fits_value value ≡ c
    → IsSpelled (cond b (cond c (Execute (PUT ∷ (field key ++ field value)) form) bad_value) bad_key)
put_spelled key value form true true e f = record { op = Put key value; spells = (key_fits key e, value_fits value f, refl) }
put_spelled key value form true false e f = tt
put_spelled key value form false c e f = tt

swap_spelled : (key old new : List ℕ) (b c : Bool) → fits_key key ≡ b → (fits_value old && fits_value new) ≡ c
    → IsSpelled (cond b (cond c (Execute (SWAP ∷ (field key ++ (field old ++ field new))) Swapped) bad_value) bad_key)
swap_spelled key old new true true e f =
    let p = and_parts (fits_value old) (fits_value new) f in
    record { op = Swap key old new; spells = (key_fits key e, value_fits old p.0, value_fits new p.1, refl) }
swap_spelled key old new true false e f = tt
swap_spelled key old new false c e f = tt

either : (b : Bool) (x y : Action) → IsSpelled x → IsSpelled y → IsSpelled (cond b x y)
either true x y h k = h
either false x y h k = k

any_spelled : (word : List ℕ) → IsSpelled (with_any word)
any_spelled word =
    either (is_word word (codes "quit")) _ _ tt
    (either (is_word word (codes "client")) _ _ tt
    (either (is_word word (codes "command") || is_word word (codes "config")) _ _ tt (either (is_word word (codes "info")) _ _ tt tt)))

one_spelled : (word first : List ℕ) → IsSpelled (with_one word first)
unfolding with_one
one_spelled word first =
    either (is_word word (codes "get")) _ _ (get_spelled first Value _ refl)
    (either (is_word word (codes "exists")) _ _ (get_spelled first Presence _ refl)
    (either (is_word word (codes "del")) _ _ (delete_spelled first Presence _ refl)
    (either (is_word word (codes "getdel")) _ _ (delete_spelled first Value _ refl)
    (either (is_word word (codes "getat")) _ _ (read_spelled first _ refl)
    (either (is_word word (codes "ping") || is_word word (codes "echo")) _ _ tt
    (either (is_word word (codes "select")) _ _ (either (is_word first (codes "0")) _ _ tt tt) (any_spelled word)))))))

two_spelled : (word key value : List ℕ) → IsSpelled (with_two word key value)
two_spelled word key value =
    either (is_word word (codes "set")) _ _ (put_spelled key value Stored _ _ refl refl)
    (either (is_word word (codes "getset")) _ _ (put_spelled key value Value _ _ refl refl) (any_spelled word))

three_spelled : (word key second third : List ℕ) → IsSpelled (with_three word key second third)
three_spelled word key second third =
    either (is_word word (codes "set")) _ _
    (either (is_word third (codes "get")) _ _ (put_spelled key second Value _ _ refl refl) tt)
    (either (is_word word (codes "cas")) _ _ (swap_spelled key second third _ _ refl refl) (any_spelled word))

pub asked_spelled : (arguments : List (List ℕ)) → IsSpelled (asked arguments)
unfolding asked
asked_spelled [] = tt
asked_spelled (word ∷ []) = either (is_word word (codes "ping")) _ _ tt (any_spelled word)
asked_spelled (word ∷ first ∷ []) = one_spelled word first
asked_spelled (word ∷ key ∷ value ∷ []) = two_spelled word key value
asked_spelled (word ∷ key ∷ second ∷ third ∷ []) = three_spelled word key second third
asked_spelled (word ∷ a ∷ b ∷ c ∷ d ∷ others) = any_spelled word
