-- Proofs: nothing here has to be believed.
-- An op that is read has its fields within their limits, and is spelled by the bytes.
use Rattle.std.proofs.Common.{◌≡◌, ℕ, ◌<◌, ◌⊎◌, inl, inr, Bool, true, false, cond, List, [], ◌∷◌, ◌++◌, length, take, drop, get_or, zero}
use Rattle.std.proofs.Common.{suc, ◌^◌, Option, Some, None, refl, sym, ap, subst, ◌∙◌, arith, eqb}
use Rattle.std.specs.Prelude.{IfSome, nat_le, ◌&&◌}
use Rattle.std.specs.Option.{unwrap_or, option_and_then}
use Rattle.std.specs.Int.{w16, from_be_bytes}
use Rattle.std.proofs.lemmas.Bool.Decides.{nat_tests}
use Rattle.std.proofs.lemmas.List.{length-take, length-append, take-append-drop, append-nil}
use Rattle.std.proofs.Math.Nat.{mod-lt}
use Rattle.std.proofs.Math.Seq.{take-append_seam, drop-append_seam}
use Rattle.std.proofs.lemmas.Nat.{be_bytes_2, from_be_bytes-to_be_bytes_2}
use borrow.Author.Tests.{eqb-true}
use Rattle.nop_types.specs.declared.limits.TheConstants.{MAX_KEY_BYTES, MAX_VALUE_BYTES}
use Rattle.lemmas.proofs.Options.{then_holds}
use Rattle.nop_types.specs.Lists.{all_below}
use Rattle.kv_host.specs.declared.op.TheConstants.{GET, PUT, DELETE, SWAP}
use Rattle.kv_host.specs.Op.{Op, Get, Put, Delete, Swap, Bad, Field, field_at, key_at, value_at, at_end, read_get, read_put, read_delete}
use Rattle.kv_host.specs.Op.{read_swap, read_fields, read_op}
use Rattle.kv_host.specs.Spelling.{FieldFits, KeyFits, ValueFits, OpFits, field, Spells}

-- the bytes begin with the field, which has a length from low to high
pub record Begins (low high : ℕ) (bytes : List ℕ) (f : Field) : Type 0 where
  pub fits : FieldFits low high f.0
  pub spelled : bytes ≡ field f.0 ++ f.1

each_byte : (high low : ℕ) → high < 256 → low < 256 → (i : ℕ) → get_or (high ∷ low ∷ []) i 0 < 256
each_byte high low h l zero = h
each_byte high low h l (suc zero) = l
each_byte high low h l (suc (suc i)) = omega arith

first_field : (b : Bool) (least most high low : ℕ) (rest : List ℕ) → let len = from_be_bytes w16 (high ∷ low ∷ []) in
    all_below (high ∷ low ∷ []) 256 && (nat_le least len && (nat_le len most && nat_le len (length rest))) ≡ b
    → IfSome (cond b (Some (take len rest, drop len rest)) None) (Begins least most (high ∷ low ∷ rest))
unfolding field
first_field true least most high low rest e =
    let len = from_be_bytes w16 (high ∷ low ∷ []) in
    let t = length-take len rest in
    let h : high < 256 = grind (arith, nat_tests) in
    let l : low < 256 = grind (arith, nat_tests) in
    let whole : length (take len rest) ≡ len = grind (arith, nat_tests) in
    record {
      fits = record { least = grind (arith, nat_tests); most = grind (arith, nat_tests) };
      spelled =
          sym
          (ap (λ (prefix : List ℕ). prefix ++ (take len rest ++ drop len rest))
          (be_bytes_2 (high ∷ low ∷ []) (length (take len rest)) refl (each_byte high low h l) whole)
          ∙ ap (λ (tail : List ℕ). high ∷ low ∷ tail) (take-append-drop len rest));
    }
first_field false least most high low rest e = tt

pub field_at-begins : (least most : ℕ) (bytes : List ℕ) → IfSome (field_at least most bytes) (Begins least most bytes)
unfolding field_at
field_at-begins least most [] = tt
field_at-begins least most (high ∷ []) = tt
field_at-begins least most (high ∷ low ∷ rest) = first_field _ least most high low rest refl

-- ---- a field that is spelled is read

split : (low high a b : ℕ) (f rest : List ℕ) → let len = from_be_bytes w16 (a ∷ b ∷ []) in
    a < 256 → b < 256 → len ≡ length f → FieldFits low high f → field_at low high (a ∷ b ∷ (f ++ rest)) ≡ Some (f, rest)
unfolding field_at
split low high a b f rest x y e fits =
    let both = f ++ rest in
    let len = from_be_bytes w16 (a ∷ b ∷ []) in
    let l = length-append f rest in
    let small = fits.least in
    let large = fits.most in
    let test : all_below (a ∷ b ∷ []) 256 && (nat_le low len && (nat_le len high && nat_le len (length both))) ≡ true =
    grind (arith, nat_tests) in
    rw (test, e, take-append_seam f rest, drop-append_seam f rest) refl

pub field_at-field : (low high : ℕ) (f rest : List ℕ) → FieldFits low high f → high < 2 ^ 16
    → field_at low high (field f ++ rest) ≡ Some (f, rest)
unfolding field
field_at-field low high f rest fits small =
    split low high _ _ f rest (mod-lt _ (omega arith)) (mod-lt _ (omega arith))
    (from_be_bytes-to_be_bytes_2 (length f) (omega (arith, fits.most))) fits

-- a key and what follows it, or with nothing after it; the same of a value
pub first_key : (key rest : List ℕ) → KeyFits key → key_at (field key ++ rest) ≡ Some (key, rest)
first_key key rest fits = field_at-field 1 MAX_KEY_BYTES key rest fits (omega arith)

pub last_key : (key : List ℕ) → KeyFits key → key_at (field key) ≡ Some (key, [])
last_key key fits = ap key_at (sym (append-nil (field key))) ∙ first_key key [] fits

pub first_value : (value rest : List ℕ) → ValueFits value → value_at (field value ++ rest) ≡ Some (value, rest)
first_value value rest fits = field_at-field 0 MAX_VALUE_BYTES value rest fits (omega arith)

pub last_value : (value : List ℕ) → ValueFits value → value_at (field value) ≡ Some (value, [])
last_value value fits = ap value_at (sym (append-nil (field value))) ∙ first_value value [] fits

-- ---- an op that is read

-- the op has its fields within their limits, and the bytes spell it
record IsRead (kind : ℕ) (bytes : List ℕ) (op : Op) : Type 0 where
  fits : OpFits op
  spelled : Spells op (kind ∷ bytes)

module _ (kind : ℕ) (all : List ℕ) where
  after_key : (bytes : List ℕ) (f : Field → Option Op)
      → ((key : Field) → Begins 1 MAX_KEY_BYTES bytes key → IfSome (f key) (IsRead kind all))
      → IfSome (option_and_then f (key_at bytes)) (IsRead kind all)
  after_key bytes f = then_holds (Begins 1 MAX_KEY_BYTES bytes) (IsRead kind all) (key_at bytes) f (field_at-begins 1 MAX_KEY_BYTES bytes)

  after_value : (bytes : List ℕ) (f : Field → Option Op)
      → ((value : Field) → Begins 0 MAX_VALUE_BYTES bytes value → IfSome (f value) (IsRead kind all))
      → IfSome (option_and_then f (value_at bytes)) (IsRead kind all)
  after_value bytes f =
      then_holds (Begins 0 MAX_VALUE_BYTES bytes) (IsRead kind all) (value_at bytes) f (field_at-begins 0 MAX_VALUE_BYTES bytes)

  ends : (rest : List ℕ) (op : Op) → (rest ≡ [] → IsRead kind all op) → IfSome (at_end rest op) (IsRead kind all)
  ends [] op h = h refl
  ends (b ∷ rest) op h = tt

-- the last field, with nothing after it
last : (bytes f rest : List ℕ) → bytes ≡ field f ++ rest → rest ≡ [] → bytes ≡ field f
last bytes f rest e none = e ∙ ap (λ (r : List ℕ). field f ++ r) none ∙ append-nil (field f)

-- a field, and the bytes of the others
more : (bytes f rest others : List ℕ) → bytes ≡ field f ++ rest → rest ≡ others → bytes ≡ field f ++ others
more bytes f rest others e same = e ∙ ap (λ (r : List ℕ). field f ++ r) same

read_get-is : (bytes : List ℕ) → IfSome (read_get bytes) (IsRead GET bytes)
unfolding read_get
read_get-is bytes =
    after_key GET bytes bytes _ (λ key k. ends GET bytes key.1 (Get key.0) (λ none.
    record { fits = k.fits; spelled = (k.fits, ap (λ (b : List ℕ). GET ∷ b) (last bytes key.0 key.1 k.spelled none)) }))

read_delete-is : (bytes : List ℕ) → IfSome (read_delete bytes) (IsRead DELETE bytes)
unfolding read_delete
read_delete-is bytes =
    after_key DELETE bytes bytes _ (λ key k. ends DELETE bytes key.1 (Delete key.0) (λ none.
    record { fits = k.fits; spelled = (k.fits, ap (λ (b : List ℕ). DELETE ∷ b) (last bytes key.0 key.1 k.spelled none)) }))

read_put-is : (bytes : List ℕ) → IfSome (read_put bytes) (IsRead PUT bytes)
unfolding read_put
read_put-is bytes =
    after_key PUT bytes bytes _ (λ key k. after_value PUT bytes key.1 _ (λ value v. ends PUT bytes value.1 (Put key.0 value.0) (λ none.
    record {
      fits = (k.fits, v.fits);
      spelled = (
        k.fits,
        v.fits,
        ap (λ (b : List ℕ). PUT ∷ b) (more bytes key.0 key.1 _ k.spelled (last key.1 value.0 value.1 v.spelled none)),
      );
    })))

read_swap-is : (bytes : List ℕ) → IfSome (read_swap bytes) (IsRead SWAP bytes)
unfolding read_swap
read_swap-is bytes =
    after_key SWAP bytes bytes _
    (λ key k.
    after_value SWAP bytes key.1 _
    (λ old o. after_value SWAP bytes old.1 _ (λ new n. ends SWAP bytes new.1 (Swap key.0 old.0 new.0) (λ none.
    record {
      fits = (k.fits, o.fits, n.fits);
      spelled = (
        k.fits,
        o.fits,
        n.fits,
        ap (λ (b : List ℕ). SWAP ∷ b)
            (more bytes key.0 key.1 _ k.spelled (more key.1 old.0 old.1 _ o.spelled (last old.1 new.0 new.1 n.spelled none))),
      );
    }))))

one_of : (kind this : ℕ) (bytes : List ℕ) (b : Bool) (x y : Option Op) → eqb kind this ≡ b → IfSome x (IsRead this bytes)
    → IfSome y (IsRead kind bytes) → IfSome (cond b x y) (IsRead kind bytes)
one_of kind this bytes true x y e h k = subst (λ (n : ℕ). IfSome x (IsRead n bytes)) (sym (eqb-true kind this e)) h
one_of kind this bytes false x y e h k = k

read_fields-is : (kind : ℕ) (bytes : List ℕ) → IfSome (read_fields kind bytes) (IsRead kind bytes)
read_fields-is kind bytes =
    one_of kind GET bytes _ _ _ refl (read_get-is bytes)
    (one_of kind PUT bytes _ _ _ refl (read_put-is bytes)
    (one_of kind DELETE bytes _ _ _ refl (read_delete-is bytes)
    (one_of kind SWAP bytes _ _ _ refl (read_swap-is bytes) tt)))

or_bad : (o : Option Op) (kind : ℕ) (bytes : List ℕ) → IfSome o (IsRead kind bytes) → OpFits (unwrap_or o Bad)
or_bad None kind bytes h = tt
or_bad (Some op) kind bytes h = h.fits

pub read_fits : (bytes : List ℕ) → OpFits (read_op bytes)
unfolding read_op
read_fits [] = tt
read_fits (kind ∷ bytes) = or_bad (read_fields kind bytes) kind bytes (read_fields-is kind bytes)

or_spelled : (o : Option Op) (kind : ℕ) (bytes : List ℕ) → IfSome o (IsRead kind bytes)
    → (unwrap_or o Bad ≡ Bad) ⊎ Spells (unwrap_or o Bad) (kind ∷ bytes)
or_spelled None kind bytes h = inl refl
or_spelled (Some op) kind bytes h = inr h.spelled

pub read_spelled : (bytes : List ℕ) → (read_op bytes ≡ Bad) ⊎ Spells (read_op bytes) bytes
unfolding read_op
read_spelled [] = inl refl
read_spelled (kind ∷ bytes) = or_spelled (read_fields kind bytes) kind bytes (read_fields-is kind bytes)
