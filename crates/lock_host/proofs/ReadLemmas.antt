-- An op is read from the bytes that spell it, and from no others.
use Rattle.std.proofs.Common.{◌≡◌, ℕ, ◌⊎◌, inl, inr, Bool, true, false, cond, List, [], ◌∷◌, ◌++◌, Option, Some, None, refl, sym, ap, subst, ◌∙◌}
use Rattle.std.proofs.Common.{eqb, eqb-true, ◌<◌, ◌^◌}
use Rattle.std.specs.Prelude.{IfSome}
use Rattle.std.specs.Option.{unwrap_or, option_and_then}
use Rattle.std.proofs.lemmas.List.{append-nil}
use Rattle.lemmas.proofs.Options.{then_holds}
use Rattle.lock_host.specs.declared.op.TheConstants.{ACQUIRE, RELEASE, INSPECT}
use Rattle.lock_host.specs.declared.op.LockOp.{LockOp}
use Rattle.lock_host.specs.declared.op.LockOp.TheVariants.{Acquire, Release, Inspect, Bad}
use Rattle.saved_fields.specs.Numbers.{BeginsNumber, number_bytes, number_at}
use Rattle.saved_fields.specs.Reading.{number_at-begins}
use Rattle.saved_fields.proofs.FieldLemmas.{last_number}
use Rattle.lock_host.specs.Fields.{NameFits, name_bytes, name_at}
use Rattle.lock_host.specs.Op.{at_end, read_acquire, read_release, read_inspect, read_fields, read_op}
use Rattle.lock_host.specs.Reading.{Field, BeginsName, name_at-begins, name_at-name}
use Rattle.lock_host.specs.Spelling.{Spells, ReadsSpelled, ReadsOnlySpelled}

-- ---- what is spelled is read

last_name : (name : List ℕ) → NameFits name → name_at (name_bytes name) ≡ Some (name, [])
last_name name fits = ap name_at (sym (append-nil (name_bytes name))) ∙ name_at-name name [] fits

spelled_acquire : (name owner : List ℕ) → NameFits name → NameFits owner
    → read_op (ACQUIRE ∷ (name_bytes name ++ name_bytes owner)) ≡ Acquire name owner
unfolding read_op read_acquire
spelled_acquire name owner n o = rw (name_at-name name (name_bytes owner) n, last_name owner o) refl

spelled_release : (name owner : List ℕ) (token : ℕ) → NameFits name → NameFits owner → token < 2 ^ 64
    → read_op (RELEASE ∷ (name_bytes name ++ (name_bytes owner ++ number_bytes token))) ≡ Release name owner token
unfolding read_op read_release
spelled_release name owner token n o t =
    rw (
      name_at-name name (name_bytes owner ++ number_bytes token) n,
      name_at-name owner (number_bytes token) o,
      last_number token t,
    ) refl

spelled_inspect : (name : List ℕ) → NameFits name → read_op (INSPECT ∷ name_bytes name) ≡ Inspect name
unfolding read_op read_inspect
spelled_inspect name n = rw (last_name name n) refl

pub reads_spelled : ReadsSpelled
reads_spelled (Acquire name owner) bytes (n, o, e) = ap read_op e ∙ spelled_acquire name owner n o
reads_spelled (Release name owner token) bytes (n, o, t, e) = ap read_op e ∙ spelled_release name owner token n o t
reads_spelled (Inspect name) bytes (n, e) = ap read_op e ∙ spelled_inspect name n
reads_spelled Bad bytes h = absurd h

-- ---- what is read is spelled

module _ (kind : ℕ) (all : List ℕ) where
  abbrev IsRead : LockOp → Type 0
  IsRead op = Spells op (kind ∷ all)

  after_name : (bytes : List ℕ) (f : Field → Option LockOp) → ((name : Field) → BeginsName bytes name → IfSome (f name) IsRead)
      → IfSome (option_and_then f (name_at bytes)) IsRead
  after_name bytes f = then_holds (BeginsName bytes) IsRead (name_at bytes) f (name_at-begins bytes)

  after_number : (bytes : List ℕ) (f : ℕ × List ℕ → Option LockOp) → ((n : ℕ × List ℕ) → BeginsNumber bytes n → IfSome (f n) IsRead)
      → IfSome (option_and_then f (number_at bytes)) IsRead
  after_number bytes f = then_holds (BeginsNumber bytes) IsRead (number_at bytes) f (number_at-begins bytes)

  ends : (rest : List ℕ) (op : LockOp) → (rest ≡ [] → IsRead op) → IfSome (at_end rest op) IsRead
  ends [] op h = h refl
  ends (b ∷ rest) op h = tt

-- the last field, with nothing after it
last : (bytes prefix rest : List ℕ) → bytes ≡ prefix ++ rest → rest ≡ [] → bytes ≡ prefix
last bytes prefix rest e none = e ∙ ap (λ (r : List ℕ). prefix ++ r) none ∙ append-nil prefix

-- a field, and the bytes of the others
more : (bytes prefix rest others : List ℕ) → bytes ≡ prefix ++ rest → rest ≡ others → bytes ≡ prefix ++ others
more bytes prefix rest others e same = e ∙ ap (λ (r : List ℕ). prefix ++ r) same

acquire_is : (bytes : List ℕ) → IfSome (read_acquire bytes) (λ op. Spells op (ACQUIRE ∷ bytes))
unfolding read_acquire
acquire_is bytes =
    after_name ACQUIRE bytes bytes _
    (λ name n. after_name ACQUIRE bytes name.1 _ (λ owner o. ends ACQUIRE bytes owner.1 (Acquire name.0 owner.0) (λ none. (
      n.fits,
      o.fits,
      ap (λ (b : List ℕ). ACQUIRE ∷ b)
          (more bytes (name_bytes name.0) name.1 _ n.spelled (last name.1 (name_bytes owner.0) owner.1 o.spelled none)),
    ))))

release_is : (bytes : List ℕ) → IfSome (read_release bytes) (λ op. Spells op (RELEASE ∷ bytes))
unfolding read_release
release_is bytes =
    after_name RELEASE bytes bytes _
    (λ name n.
    after_name RELEASE bytes name.1 _
    (λ owner o.
    after_number RELEASE bytes owner.1 _ (λ token t. ends RELEASE bytes token.1 (Release name.0 owner.0 token.0) (λ none. (
      n.fits,
      o.fits,
      t.fits,
      ap (λ (b : List ℕ). RELEASE ∷ b)
          (more bytes (name_bytes name.0) name.1 _ n.spelled
          (more name.1 (name_bytes owner.0) owner.1 _ o.spelled (last owner.1 (number_bytes token.0) token.1 t.spelled none))),
    )))))

inspect_is : (bytes : List ℕ) → IfSome (read_inspect bytes) (λ op. Spells op (INSPECT ∷ bytes))
unfolding read_inspect
inspect_is bytes =
    after_name INSPECT bytes bytes _ (λ name n. ends INSPECT bytes name.1 (Inspect name.0) (λ none. (
      n.fits,
      ap (λ (b : List ℕ). INSPECT ∷ b) (last bytes (name_bytes name.0) name.1 n.spelled none),
    )))

one_of : (kind this : ℕ) (bytes : List ℕ) (b : Bool) (x y : Option LockOp) → eqb kind this ≡ b
    → IfSome x (λ op. Spells op (this ∷ bytes)) → IfSome y (λ op. Spells op (kind ∷ bytes))
    → IfSome (cond b x y) (λ op. Spells op (kind ∷ bytes))
one_of kind this bytes true x y e h k =
    subst (λ (n : ℕ). IfSome x (λ op. Spells op (n ∷ bytes))) (sym (eqb-true kind this e)) h
one_of kind this bytes false x y e h k = k

fields_are : (kind : ℕ) (bytes : List ℕ) → IfSome (read_fields kind bytes) (λ op. Spells op (kind ∷ bytes))
fields_are kind bytes =
    one_of kind ACQUIRE bytes _ _ _ refl (acquire_is bytes)
    (one_of kind RELEASE bytes _ _ _ refl (release_is bytes)
    (one_of kind INSPECT bytes _ _ _ refl (inspect_is bytes) tt))

or_bad : (o : Option LockOp) (bytes : List ℕ) → IfSome o (λ op. Spells op bytes) → (unwrap_or o Bad ≡ Bad) ⊎ Spells (unwrap_or o Bad) bytes
or_bad None bytes h = inl refl
or_bad (Some op) bytes h = inr h

pub reads_only_spelled : ReadsOnlySpelled
unfolding read_op
reads_only_spelled [] = inl refl
reads_only_spelled (kind ∷ bytes) = or_bad (read_fields kind bytes) (kind ∷ bytes) (fields_are kind bytes)
