-- A slot of a log that is held in two parts.
use Rattle.std.proofs.Common.{◌≡◌, ℕ, ◌+◌, ◌-◌, ◌<◌, ◌≤◌, List, ◌++◌, length, get_or, Option, Some, None, sym, ap, ◌∙◌, arith, add-one}
use Rattle.std.specs.Borrow.{Bor}
use Rattle.std.specs.Prelude.{nat_lt, slice_get, is_some, IfSome}
use Rattle.std.specs.Option.{option_copied}
use Rattle.std.proofs.lemmas.Bool.{ltb-true, ltb-false}
use Rattle.std.proofs.lemmas.Option.{get_or_from_slice_get, slice_get_past}
use Rattle.lemmas.proofs.Places.{slice_get-some, slice_get-append_left, slice_get-append_right}
use Rattle.nop_types.specs.Lists.{slot_of}

module _ {A : Type 0} (xs ys all : List A) (slot place : ℕ) (next : slot ≡ place + 1) (parts : xs ++ ys ≡ all) where
  at_place : slice_get (xs ++ ys) place ≡ slot_of all slot
  at_place = ap (λ (zs : List A). slice_get zs place) parts ∙ sym (ap (slot_of all) (next ∙ add-one place))

  pub slot_in_prefix : (x : A) → place < length xs → x ≡ get_or xs place x → Some x ≡ slot_of all slot
  slot_in_prefix x less is =
      let found = slice_get-some xs place less in
      let same : Some x ≡ Some found.0 = ap (λ (y : A). Some y) (is ∙ get_or_from_slice_get xs place found.0 x found.1) in
      same ∙ sym (slice_get-append_left xs ys place found.0 found.1) ∙ at_place

  pub slot_behind : length xs ≤ place → slice_get ys (place - length xs) ≡ slot_of all slot
  slot_behind le =
      let behind : place ≡ length xs + (place - length xs) = omega (arith, le) in
      sym (ap (slice_get (xs ++ ys)) behind ∙ slice_get-append_right xs ys (place - length xs)) ∙ at_place

-- what a lookup found, without where it lies in memory
pub found_is : {A : Type 0} (o : Option (Bor A)) (ys : List A) (j : ℕ) → is_some o ≡ nat_lt j (length ys)
    → IfSome o (λ x. x.now ≡ get_or ys j x.now) → option_copied o ≡ slice_get ys j
found_is None ys j there is = sym (slice_get_past ys j (ltb-false j (length ys) (sym there)))
found_is {A} (Some x) ys j there is =
    let found = slice_get-some ys j (ltb-true j (length ys) (sym there)) in
    let same : Some x.now ≡ Some found.0 = ap (λ (y : A). Some y) (is ∙ get_or_from_slice_get ys j found.0 x.now found.1) in
    same ∙ sym found.1
