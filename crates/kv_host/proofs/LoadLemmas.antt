-- Reading keys and values one after the other, as a loop does.
use Rattle.std.proofs.Common.{◌≡◌, ℕ, suc, ◌-◌, ◌+◌, ◌≤◌, ◌<◌, List, [], length, Option, Some, None, refl, sym, ap, subst, ◌∙◌, arith}
use Rattle.std.specs.Prelude.{IfSome}
use Rattle.std.specs.FinMap as finite
use Rattle.nop_types.specs.declared.limits.TheConstants.{MAX_VALUE_BYTES}
use Rattle.kv_host.specs.Values.{Kv}
use Rattle.kv_host.specs.Places.{Place, places, values_of}
use Rattle.kv_host.specs.Saved.{nothing_after, entry_at, with_keys}
use Rattle.kv_host.specs.SavedLaws.{BeginsEntry, entry_at-begins}
use Rattle.kv_host.proofs.PlacesLemmas.{values_of-insert, values_of-empty}

module _ (count i : ℕ) (kv : Kv) (last bytes : List ℕ) (total : Option Kv)
    (so_far : with_keys (count - i) kv last bytes ≡ total) where
  one_more : (more : i < count) → count - i ≡ suc (count - (i + 1))
  one_more more = omega arith

  pub goes_on : (key value rest : List ℕ) → i < count → Some (key, value, rest) ≡ entry_at last bytes
      → with_keys (count - (i + 1)) (finite.insert kv key value) key rest ≡ total
  unfolding with_keys
  goes_on key value rest more e =
      let one : with_keys (count - i) kv last bytes ≡ with_keys (count - (i + 1)) (finite.insert kv key value) key rest =
      rw (one_more more, sym e) refl in
      sym one ∙ so_far

  pub stops : i < count → None ≡ entry_at last bytes → None ≡ total
  unfolding with_keys
  stops more e =
      let one : with_keys (count - i) kv last bytes ≡ None = rw (one_more more, sym e) refl in
      sym one ∙ so_far

  pub ends : count ≤ i → nothing_after bytes kv ≡ total
  unfolding with_keys
  ends all =
      let none : count - i ≡ 0 = omega arith in
      let one : with_keys (count - i) kv last bytes ≡ nothing_after bytes kv = rw none refl in
      sym one ∙ so_far

pub begins : (count : ℕ) (bytes : List ℕ)
    → with_keys (count - 0) (values_of (places [])) [] bytes ≡ with_keys count finite.empty [] bytes
begins count bytes =
    let all : count - 0 ≡ count = omega arith in
    rw (all, values_of-empty) refl

pub value_short : (last bytes key value rest : List ℕ) → Some (key, value, rest) ≡ entry_at last bytes → length value ≤ MAX_VALUE_BYTES
value_short last bytes key value rest e =
    let begins = subst (λ (o : Option (List ℕ × List ℕ × List ℕ)). IfSome o (BeginsEntry last bytes)) (sym e) (entry_at-begins last bytes) in
    begins.fits.1.most

pub values_of-added : (old new : List Place) (key value : List ℕ) → places new ≡ finite.insert (places old) key (Some value)
    → values_of (places new) ≡ finite.insert (values_of (places old)) key value
values_of-added old new key value e = ap values_of e ∙ values_of-insert (places old) key (Some value)
