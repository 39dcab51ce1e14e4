-- Proofs: nothing here has to be believed.
-- The words of an op name it.
use Rattle.std.proofs.Common.{◌≡◌, ℕ, Bool, true, false, cond, List, [], ◌∷◌, ◌++◌, length, Option, Some, None, refl, sym, ap, subst, eqb-true}
use Rattle.std.proofs.Common.{◌∙◌, append-nil, arith}
use Rattle.std.specs.Prelude.{IfSome, decimal, nat_le, not, option_map, ◌==◌, ◌&&◌}
use Rattle.std.specs.List.{list_any}
use Rattle.std.proofs.lemmas.Bool.Decides.{nat_tests}
use Rattle.std.proofs.lemmas.Cmp.{nat_list_eq_equiv}
use Rattle.std.proofs.lemmas.Bool.{or_parts}
use Rattle.line_fields.specs.Fields.{is_text}
use Rattle.hex.specs.Hex.{IsBytes}
use Rattle.lemmas.proofs.Bytes.{byte_first, bytes_back, bytes_behind, no_bytes}
use Rattle.lemmas.proofs.Options.{then_holds}
use Rattle.line_fields.proofs.FieldTexts.{number_again}
use Rattle.nop_types.specs.declared.limits.TheConstants.{MAX_OP_BYTES}
use Rattle.op_text.proofs.WordLemmas.{read_back}
use Rattle.op_text.specs.Words.{word_of}
use Rattle.saved_fields.specs.Numbers.{BeginsNumber, number_at, number_bytes}
use Rattle.saved_fields.specs.Reading.{number_at-begins, text_at-begins}
use Rattle.saved_fields.specs.Texts.{BeginsText, text_at, text_bytes}
use Rattle.op_table.specs.declared.table.FieldShape.{FieldShape}
use Rattle.op_table.specs.declared.table.FieldShape.TheVariants.{Number, Text, Rest}
use Rattle.op_table.specs.Shapes.{AreFields, IsOpOf, OpShape, are_apart, by_kind, by_name, field_of, fields_of, named_words, op_of, word_at}
use Rattle.op_table.specs.Shapes.{words_at, words_of}

bytes_front : (xs ys : List ℕ) → IsBytes (xs ++ ys) → IsBytes xs
bytes_front [] ys all = no_bytes
bytes_front (x ∷ xs) ys all = byte_first x xs (all 0) (bytes_front xs ys (bytes_behind x (xs ++ ys) all))

-- the bytes begin with the field for which the word stands
record BeginsField (shape : FieldShape) (bytes : List ℕ) (word : List ℕ × List ℕ) : Type 0 where
  front : List ℕ
  names : field_of shape word.0 ≡ Some front
  spelled : bytes ≡ front ++ word.1
  behind : IsBytes word.1

number_begins : (bytes : List ℕ) → IsBytes bytes → (o : Option (ℕ × List ℕ)) → IfSome o (BeginsNumber bytes)
    → IfSome (option_map (λ n. (decimal n.0, n.1)) o) (BeginsField Number bytes)
unfolding field_of
number_begins bytes all None h = tt
number_begins bytes all (Some (n, rest)) h = record {
  front = number_bytes n;
  names = rw (number_again n h.fits) refl;
  spelled = h.spelled;
  behind = bytes_back (number_bytes n) rest (subst IsBytes h.spelled all);
}

text_by : (least most : ℕ) (bytes : List ℕ) → IsBytes bytes → (t : List ℕ × List ℕ) → BeginsText most bytes t → (b : Bool)
    → nat_le least (length t.0) ≡ b → IfSome (cond b (Some (word_of t.0, t.1)) None) (BeginsField (Text least most) bytes)
unfolding field_of
text_by least most bytes all (t, rest) h false e = tt
text_by least most bytes all (t, rest) h true e =
    let behind = bytes_behind (length t) (t ++ rest) (subst IsBytes h.spelled all) in
    let fits = h.fits in
    let test : nat_le (length t) most ≡ true = grind (arith, nat_tests, fits) in
    record {
      front = text_bytes t;
      names = rw (read_back t (bytes_front t rest behind), e, test) refl;
      spelled = h.spelled;
      behind = bytes_back t rest behind;
    }

rest_begins : (bytes : List ℕ) → IsBytes bytes → BeginsField Rest bytes (word_of bytes, [])
unfolding field_of
rest_begins bytes all = record { front = bytes; names = read_back bytes all; spelled = sym (append-nil bytes); behind = no_bytes }

field_begins : (shape : FieldShape) (bytes : List ℕ) → IsBytes bytes → IfSome (word_at shape bytes) (BeginsField shape bytes)
unfolding word_at
field_begins Number bytes all = number_begins bytes all (number_at bytes) (number_at-begins bytes)
field_begins (Text least most) bytes all =
    then_holds (BeginsText most bytes) (BeginsField (Text least most) bytes) (text_at most bytes) _ (text_at-begins most bytes)
    (λ t h. text_by least most bytes all t h _ refl)
field_begins Rest bytes all = rest_begins bytes all

fields_again : (shapes : List FieldShape) (bytes : List ℕ) → IsBytes bytes
    → IfSome (words_at shapes bytes) (λ words. fields_of shapes words ≡ Some bytes)
unfolding words_at fields_of
fields_again [] [] all = refl
fields_again [] (b ∷ bytes) all = tt
fields_again (shape ∷ shapes) bytes all =
    then_holds (BeginsField shape bytes) (λ words. fields_of (shape ∷ shapes) words ≡ Some bytes) (word_at shape bytes) _
    (field_begins shape bytes all) (λ word w.
    then_holds (λ words. fields_of shapes words ≡ Some word.1) (λ words. fields_of (shape ∷ shapes) words ≡ Some bytes)
    (words_at shapes word.1) _ (fields_again shapes word.1 w.behind) (λ words again.
    rw (w.names, again) (ap Some (sym w.spelled))))

-- a shape of this kind, which is found by its name; a name that no shape has is not its own
record IsFound (shapes : List OpShape) (kind : ℕ) (s : OpShape) : Type 0 where
  kind_is : s.kind ≡ kind
  named : by_name shapes s.name ≡ Some s
  no_other : (name : List ℕ) → list_any (λ t. is_text t.name name) shapes ≡ false → is_text s.name name ≡ false

both : (a b : Bool) → (not a && b) ≡ true → (a ≡ false) × (b ≡ true)
both true b e = absurd cc
both false b e = (refl, e)

found_here : (shapes : List OpShape) (s : OpShape) → IsFound (s ∷ shapes) s.kind s
found_here shapes s = record {
  kind_is = refl;
  named = rw (nat_list_eq_equiv.refl s.name) refl;
  no_other = λ name e. (or_parts (is_text s.name name) (list_any (λ t. is_text t.name name) shapes) e).0;
}

found_later : (shapes : List OpShape) (t : OpShape) (kind : ℕ) → list_any (λ s. is_text s.name t.name) shapes ≡ false
    → (o : Option OpShape) → IfSome o (IsFound shapes kind) → IfSome o (IsFound (t ∷ shapes) kind)
found_later shapes t kind apart None h = tt
found_later shapes t kind apart (Some s) h =
    let other : is_text t.name s.name ≡ false = nat_list_eq_equiv.symm s.name t.name ∙ h.no_other t.name apart in
    record {
      kind_is = h.kind_is;
      named = rw other h.named;
      no_other = λ name e. h.no_other name ((or_parts (is_text t.name name) (list_any (λ s. is_text s.name name) shapes) e).1);
    }

by_test : (shapes : List OpShape) (kind : ℕ) (s : OpShape) → IfSome (by_kind shapes kind) (IsFound (s ∷ shapes) kind)
    → (b : Bool) → s.kind == kind ≡ b → IfSome (cond b (Some s) (by_kind shapes kind)) (IsFound (s ∷ shapes) kind)
by_test shapes kind s later true e = subst (λ (k : ℕ). IsFound (s ∷ shapes) k s) (eqb-true s.kind kind e) (found_here shapes s)
by_test shapes kind s later false e = later

found_by_kind : (shapes : List OpShape) (kind : ℕ) → are_apart shapes ≡ true → IfSome (by_kind shapes kind) (IsFound shapes kind)
found_by_kind [] kind apart = tt
found_by_kind (s ∷ shapes) kind apart =
    let p = both (list_any (λ t. is_text t.name s.name) shapes) (are_apart shapes) apart in
    by_test shapes kind s (found_later shapes s kind p.0 (by_kind shapes kind) (found_by_kind shapes kind p.1)) (s.kind == kind) refl

named_again : (shapes : List OpShape) (op : List ℕ) → are_apart shapes ≡ true → IsBytes op → nat_le (length op) MAX_OP_BYTES ≡ true
    → IfSome (named_words shapes op) (λ words. op_of shapes words ≡ Some op)
unfolding named_words op_of
named_again shapes [] apart all short = tt
named_again shapes (kind ∷ fields) apart all short =
    then_holds (IsFound shapes kind) (λ words. op_of shapes words ≡ Some (kind ∷ fields)) (by_kind shapes kind) _
    (found_by_kind shapes kind apart) (λ shape found.
    then_holds (λ words. fields_of shape.fields words ≡ Some fields) (λ words. op_of shapes words ≡ Some (kind ∷ fields))
    (words_at shape.fields fields) _ (fields_again shape.fields fields (bytes_behind kind fields all)) (λ words again.
    rw (found.named, again, found.kind_is, short) refl))

pub reads_back : (shapes : List OpShape) → are_apart shapes ≡ true → (op : List ℕ) → IsBytes op
    → IfSome (words_of shapes op) (λ words. op_of shapes words ≡ Some op)
unfolding words_of
reads_back shapes apart op all = by_length (nat_le (length op) MAX_OP_BYTES) refl
  where
    by_length : (b : Bool) → nat_le (length op) MAX_OP_BYTES ≡ b
        → IfSome (cond b (named_words shapes op) None) (λ words. op_of shapes words ≡ Some op)
    by_length true short = named_again shapes op apart all short
    by_length false short = tt

-- ---- what words name

some_is : {A : Type 0} (o : Option A) → IfSome o (λ x. o ≡ Some x)
some_is None = tt
some_is (Some x) = refl

fields_are : (shapes : List FieldShape) (words : List (List ℕ)) → IfSome (fields_of shapes words) (AreFields shapes words)
unfolding fields_of
fields_are [] [] = refl
fields_are [] (word ∷ words) = tt
fields_are (shape ∷ shapes) [] = tt
fields_are (shape ∷ shapes) (word ∷ words) =
    then_holds (λ prefix. field_of shape word ≡ Some prefix) (AreFields (shape ∷ shapes) (word ∷ words)) (field_of shape word) _
    (some_is (field_of shape word)) (λ prefix e.
    then_holds (AreFields shapes words) (AreFields (shape ∷ shapes) (word ∷ words)) (fields_of shapes words) _ (fields_are shapes words)
    (λ rest are. (prefix, rest, e, are, refl)))

one : (P : List ℕ → Type 0) (b : Bool) (bytes : List ℕ) → P bytes → IfSome (cond b (Some bytes) None) P
one P true bytes h = h
one P false bytes h = tt

pub op_is : (shapes : List OpShape) (word : List ℕ) (words : List (List ℕ)) → IfSome (op_of shapes (word ∷ words)) (IsOpOf shapes word words)
unfolding op_of
op_is shapes word words =
    then_holds (λ shape. by_name shapes word ≡ Some shape) (IsOpOf shapes word words) (by_name shapes word) _
    (some_is (by_name shapes word)) (λ shape e.
    then_holds (AreFields shape.fields words) (IsOpOf shapes word words) (fields_of shape.fields words) _ (fields_are shape.fields words)
    (λ fields are. one (IsOpOf shapes word words) (nat_le (length (shape.kind ∷ fields)) MAX_OP_BYTES) (shape.kind ∷ fields)
    (record { shape = shape; fields = fields; named = e; are = are; spelled = refl })))
