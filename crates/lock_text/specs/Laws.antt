-- Proofs: nothing here has to be believed.
-- What words name is spelled by their bytes, what is spelled has words, and the words of answers.
use Rattle.std.proofs.Common.{◌≡◌, ℕ, ◌<◌, ◌≤◌, ◌^◌, Bool, true, false, cond, List, [], ◌∷◌, ◌++◌, length, Option, Some, None, refl, sym, ap, subst}
use Rattle.std.proofs.Common.{◌∙◌, arith, append-nil, decimal, lit<, length-append}
use Rattle.std.specs.Prelude.{IfSome, nat_le, nat_lt, option_map, ◌&&◌, ◌==◌, ◌*◌, ◌+◌, ◌-◌, codes}
use Rattle.std.proofs.lemmas.Bool.{and_parts, leb-true, ltb-true}
use Rattle.std.proofs.lemmas.Bool.Decides.{nat_tests}
use Rattle.lemmas.proofs.Options.{same_Some-at}
use Rattle.line_fields.specs.Fields.{is_text, digit_on, number_on, number_of}
use Rattle.op_text.specs.Words.{bytes_of, word_of}
use Rattle.saved_fields.specs.Numbers.{number_bytes}
use Rattle.saved_fields.specs.Reading.{length-number, number_at-number, text_at-text}
use Rattle.saved_fields.proofs.FieldLemmas.{last_number}
use Rattle.op_table.specs.declared.table.FieldShape.TheVariants.{Number}
use Rattle.op_table.specs.Laws.{op_is}
use Rattle.op_table.specs.Shapes as table
use Rattle.op_table.specs.Shapes.{AreFields, OpShape, field_of, named_words, row_words, word_at, words_at}
use Rattle.lock_host.specs.declared.name.TheConstants.{MAX_NAME_BYTES}
use Rattle.lock_host.specs.declared.op.TheConstants.{ACQUIRE, RELEASE, INSPECT}
use Rattle.lock_host.specs.declared.op.LockOp.{LockOp}
use Rattle.lock_host.specs.declared.op.LockOp.TheVariants.{Acquire, Release, Inspect, Bad}
use Rattle.lock_host.specs.declared.lock.Lock.{Lock}
use Rattle.lock_host.specs.Fields.{NameFits, name_bytes}
use Rattle.lock_host.specs.Locks.{granted, held}
use Rattle.lock_host.specs.Spelling.{Spells}
use Rattle.lock_text.specs.Text.{IsNamed, Names, a_name, acquire_of, acquire_shape, fits_name, inspect_of, inspect_shape, lock_ops}
use Rattle.lock_text.specs.Text.{name_of, named, op_of, release_of, release_shape, result_words, words_in, words_of}

-- ---- fields

guarded : {A : Type 0} (P : A → Type 0) (b : Bool) (x : A) → (b ≡ true → P x) → IfSome (cond b (Some x) None) P
guarded P true x h = h refl
guarded P false x h = tt

name_fits_back : (name : List ℕ) → fits_name name ≡ true → NameFits name
name_fits_back name e =
    let p = and_parts (nat_le 1 (length name)) (nat_le (length name) MAX_NAME_BYTES) e in
    record { least = leb-true 1 (length name) p.0; most = leb-true (length name) MAX_NAME_BYTES p.1 }

abbrev Is64 : ℕ → Type 0
Is64 n = n < 2 ^ 64

digit_fits : (n d : ℕ) → IfSome (digit_on n d) Is64
digit_fits n d = guarded Is64 (nat_le 48 d && (nat_le d 57 && nat_lt (n * 10 + (d - 48)) (2 ^ 64))) (n * 10 + (d - 48)) below
  where
    below : (nat_le 48 d && (nat_le d 57 && nat_lt (n * 10 + (d - 48)) (2 ^ 64))) ≡ true → Is64 (n * 10 + (d - 48))
    below e =
        let rest = (and_parts (nat_le 48 d) (nat_le d 57 && nat_lt (n * 10 + (d - 48)) (2 ^ 64)) e).1 in
        ltb-true (n * 10 + (d - 48)) (2 ^ 64) (and_parts (nat_le d 57) (nat_lt (n * 10 + (d - 48)) (2 ^ 64)) rest).1

number_on_fits : (o : Option ℕ) (ds : List ℕ) → IfSome o Is64 → IfSome (number_on o ds) Is64
number_on_fits o [] h = h
number_on_fits None (d ∷ ds) h = tt
number_on_fits (Some n) (d ∷ ds) h = number_on_fits (digit_on n d) ds (digit_fits n d)

number_fits : (word : List ℕ) → IfSome (number_of word) Is64
unfolding number_of
number_fits [] = tt
number_fits (d ∷ []) = number_on_fits (Some 0) (d ∷ []) (lit< tt)
number_fits (d ∷ e ∷ ds) = either (d == 48)
  where
    either : (b : Bool) → IfSome (cond b None (number_on (Some 0) (d ∷ e ∷ ds))) Is64
    either true = tt
    either false = number_on_fits (Some 0) (d ∷ e ∷ ds) (lit< tt)

-- the field is that of a name for which the word stands
record IsNameIn (word bytes : List ℕ) : Type 0 where
  name : List ℕ
  named : name_of word ≡ Some name
  fits : NameFits name
  spelled : bytes ≡ name_bytes name

name_by : (word name bytes : List ℕ) → bytes_of word ≡ Some name → (b : Bool) → fits_name name ≡ b
    → cond b (Some (name_bytes name)) None ≡ Some bytes → IsNameIn word bytes
unfolding name_of
name_by word name bytes is false e given = absurd cc
name_by word name bytes is true e given =
    record { name = name; named = rw (is, e) refl; fits = name_fits_back name e; spelled = cc }

name_from : (word bytes : List ℕ) (o : Option (List ℕ)) → bytes_of word ≡ o
    → Rattle.std.specs.Option.option_and_then (λ name. cond (fits_name name) (Some (name_bytes name)) None) o ≡ Some bytes
    → IsNameIn word bytes
name_from word bytes None is given = absurd cc
name_from word bytes (Some name) is given = name_by word name bytes is (fits_name name) refl given

name_in : (word bytes : List ℕ) → field_of a_name word ≡ Some bytes → IsNameIn word bytes
unfolding field_of
name_in word bytes given = name_from word bytes (bytes_of word) refl given

-- the field is that of a number for which the word stands
record IsNumberIn (word bytes : List ℕ) : Type 0 where
  number : ℕ
  named : number_of word ≡ Some number
  fits : number < 2 ^ 64
  spelled : bytes ≡ number_bytes number

number_from : (word bytes : List ℕ) (o : Option ℕ) → number_of word ≡ o → IfSome o Is64 → option_map number_bytes o ≡ Some bytes
    → IsNumberIn word bytes
number_from word bytes None is fits given = absurd cc
number_from word bytes (Some n) is fits given = record { number = n; named = is; fits = fits; spelled = cc }

number_in : (word bytes : List ℕ) → field_of Number word ≡ Some bytes → IsNumberIn word bytes
unfolding field_of
number_in word bytes given = number_from word bytes (number_of word) refl (number_fits word) given

-- ---- what words name is spelled

last_field : (l r a fields : List ℕ) → fields ≡ l ++ r → l ≡ a → r ≡ [] → fields ≡ a
last_field l r a fields s e none = s ∙ rw (none, e) (append-nil a)

first_field : (l r a b fields : List ℕ) → fields ≡ l ++ r → l ≡ a → r ≡ b → fields ≡ a ++ b
first_field l r a b fields s e f = s ∙ rw (e, f) refl

acquire_is : (words : List (List ℕ)) (fields : List ℕ) → AreFields acquire_shape.fields words fields
    → Names (acquire_of words) (ACQUIRE ∷ fields)
acquire_is [] fields are = absurd are
acquire_is (lock ∷ []) fields (l, r, e, are, s) = absurd are
acquire_is (lock ∷ owner ∷ []) fields (l, r, e, (o, q, g, none, t), s) =
    let name = name_in lock l e in
    let holder = name_in owner o g in (
      Acquire name.name holder.name,
      rw (name.named, holder.named) refl,
      (
        name.fits,
        holder.fits,
        ap (λ (bytes : List ℕ). ACQUIRE ∷ bytes) (first_field l r _ _ fields s name.spelled (last_field o q _ r t holder.spelled none)),
      ),
    )
acquire_is (lock ∷ owner ∷ more ∷ words) fields (l, r, e, (o, q, g, none, t), s) = absurd none

release_is : (words : List (List ℕ)) (fields : List ℕ) → AreFields release_shape.fields words fields
    → Names (release_of words) (RELEASE ∷ fields)
release_is [] fields are = absurd are
release_is (lock ∷ []) fields (l, r, e, are, s) = absurd are
release_is (lock ∷ owner ∷ []) fields (l, r, e, (o, q, g, are, t), s) = absurd are
release_is (lock ∷ owner ∷ token ∷ []) fields (l, r, e, (o, q, g, (n, z, h, none, u), t), s) =
    let name = name_in lock l e in
    let holder = name_in owner o g in
    let number = number_in token n h in (
      Release name.name holder.name number.number,
      rw (name.named, holder.named, number.named) refl,
      (
        name.fits,
        holder.fits,
        number.fits,
        ap (λ (bytes : List ℕ). RELEASE ∷ bytes)
            (first_field l r _ _ fields s name.spelled
            (first_field o q _ _ r t holder.spelled (last_field n z _ q u number.spelled none))),
      ),
    )
release_is (lock ∷ owner ∷ token ∷ more ∷ words) fields (l, r, e, (o, q, g, (n, z, h, none, u), t), s) = absurd none

inspect_is : (words : List (List ℕ)) (fields : List ℕ) → AreFields inspect_shape.fields words fields
    → Names (inspect_of words) (INSPECT ∷ fields)
inspect_is [] fields are = absurd are
inspect_is (lock ∷ []) fields (l, r, e, none, s) =
    let name = name_in lock l e in (
      Inspect name.name,
      rw (name.named) refl,
      (
        name.fits,
        ap (λ (bytes : List ℕ). INSPECT ∷ bytes) (last_field l r _ fields s name.spelled none),
      ),
    )
inspect_is (lock ∷ more ∷ words) fields (l, r, e, none, s) = absurd none

by_name : (a r i : Bool) (words : List (List ℕ)) → IfSome (cond a (Some acquire_shape) (cond r (Some release_shape) (cond i (Some inspect_shape) None)))
    (λ shape. (fields : List ℕ) → AreFields shape.fields words fields
    → Names (cond a (acquire_of words) (cond r (release_of words) (cond i (inspect_of words) None))) (shape.kind ∷ fields))
by_name true r i words = acquire_is words
by_name false true i words = release_is words
by_name false false true words = inspect_is words
by_name false false false words = tt

all_named : (word : List ℕ) (words : List (List ℕ)) (o : Option (List ℕ)) → IfSome o (table.IsOpOf lock_ops word words)
    → IfSome o (IsNamed (word ∷ words))
all_named word words None h = tt
all_named word words (Some bytes) h =
    let is =
    subst (λ (o : Option OpShape). IfSome o (λ shape. (fields : List ℕ) → AreFields shape.fields words fields
    → IsNamed (word ∷ words) (shape.kind ∷ fields))) h.named
    (by_name (is_text (codes "acquire") word) (is_text (codes "release") word) (is_text (codes "inspect") word) words) in
    subst (IsNamed (word ∷ words)) (sym h.spelled) (is h.fields h.are)

no_words : IfSome (op_of []) (IsNamed [])
unfolding table.op_of
no_words = tt

pub op_named : (words : List (List ℕ)) → IfSome (op_of words) (IsNamed words)
op_named [] = no_words
op_named (word ∷ words) = all_named word words (op_of (word ∷ words)) (op_is lock_ops word words)

same_op : (words : List (List ℕ)) (op : LockOp) (bytes : List ℕ) → named words ≡ Some op → IsNamed words bytes → Spells op bytes
same_op words op bytes n (x, e, spells) =
    subst (λ (o : LockOp). Spells o bytes) (same_Some-at (named words) x op e n) spells

pub named_spelled : (words : List (List ℕ)) (op : LockOp) (bytes : List ℕ) → named words ≡ Some op → op_of words ≡ Some bytes
    → Spells op bytes
named_spelled words op bytes n e =
    same_op words op bytes n (subst (λ (o : Option (List ℕ)). IfSome o (IsNamed words)) e (op_named words))

-- ---- what is spelled has words

name_word : (name rest : List ℕ) → NameFits name → word_at a_name (name_bytes name ++ rest) ≡ Some (word_of name, rest)
unfolding word_at
name_word name rest fits =
    let least = fits.least in
    let test : nat_le 1 (length name) ≡ true = grind (arith, nat_tests, least) in
    rw (text_at-text MAX_NAME_BYTES name rest fits.most, test) refl

last_name : (name : List ℕ) → NameFits name → word_at a_name (name_bytes name) ≡ Some (word_of name, [])
last_name name fits = ap (word_at a_name) (sym (append-nil (name_bytes name))) ∙ name_word name [] fits

number_word : (n : ℕ) → n < 2 ^ 64 → word_at Number (number_bytes n) ≡ Some (decimal n, [])
unfolding word_at
number_word n fits = rw (last_number n fits) refl

short : (op : List ℕ) → length op ≤ 139 → nat_le (length op) 640 ≡ true
short op fits = grind (arith, nat_tests)

pub spelled_words : (op : LockOp) (bytes : List ℕ) → Spells op bytes → words_of bytes ≡ words_in op
unfolding table.words_of named_words words_at
spelled_words (Acquire name owner) bytes (n, o, e) =
    let l = length-append (name_bytes name) (name_bytes owner) in
    let few : length (ACQUIRE ∷ (name_bytes name ++ name_bytes owner)) ≤ 139 = omega (arith, l, n.most, o.most) in
    ap (λ (b : List ℕ). words_of b) e
    ∙ rw (short _ few, name_word name (name_bytes owner) n, last_name owner o) refl
spelled_words (Release name owner token) bytes (n, o, t, e) =
    let l = length-append (name_bytes name) (name_bytes owner ++ number_bytes token) in
    let m = length-append (name_bytes owner) (number_bytes token) in
    let k = length-number token in
    let few : length (RELEASE ∷ (name_bytes name ++ (name_bytes owner ++ number_bytes token))) ≤ 139 = omega (arith, l, m, k, n.most, o.most) in
    ap (λ (b : List ℕ). words_of b) e
    ∙ rw (short _ few, name_word name (name_bytes owner ++ number_bytes token) n, name_word owner (number_bytes token) o, number_word token t) refl
spelled_words (Inspect name) bytes (n, e) =
    let few : length (INSPECT ∷ name_bytes name) ≤ 139 = omega (arith, n.most) in
    ap (λ (b : List ℕ). words_of b) e ∙ rw (short _ few, last_name name n) refl
spelled_words Bad bytes h = absurd h

-- ---- the words of answers

pub granted_words_of : (token : ℕ) → token < 2 ^ 64 → result_words (granted token) ≡ codes "granted" ∷ decimal token ∷ []
unfolding table.result_words row_words words_at
granted_words_of token fits = rw (number_word token fits) refl

pub held_words_of : (lock : Lock) → lock.token < 2 ^ 64
    → result_words (held lock) ≡ codes "held" ∷ decimal lock.token ∷ word_of lock.owner ∷ []
unfolding table.result_words row_words words_at word_at
held_words_of lock fits = rw (number_at-number lock.token lock.owner fits) refl
