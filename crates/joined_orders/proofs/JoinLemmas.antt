-- Orders of parts, one more.
use Rattle.std.proofs.Common.{◌≡◌, ℕ, ◌+◌, take, add-one, Bool, true, false, List, [], ◌∷◌, ◌++◌, Some, refl, sym, ap, subst, ◌∙◌, arith, inl, inr}
use Rattle.std.specs.Prelude.{slice_get, filter}
use Rattle.std.proofs.lemmas.List.{append-nil}
use Rattle.std.proofs.lemmas.List.Elements.{filter-append}
use Rattle.std.proofs.lemmas.Slice.Eq.{bytes_eq-Decides}
use Rattle.fronts.specs.Parts.{is_of, AreDistinct}
use Rattle.joined_orders.specs.Joining.{is_placed_of, IsPartOrder, AreJoined}
use Rattle.joined_orders.specs.Owning.{is_own, passes}
use Rattle.order_search.specs.declared.outcome.Placed.{Placed}
use Rattle.lemmas.proofs.Members.{Has-filter, Has-rest, Has-append_left, Has-append_cases, Has-push, Has-push_cases}
use Rattle.lemmas.proofs.Places.{Splits-at, slice_get-from_take}
use Rattle.nop_types.specs.Lines.{Line, Submit}
use Rattle.nop_types.specs.Lists.{Has}
use Rattle.nop_types.specs.Meaning.{Meaning}
use Rattle.nop_types.specs.declared.request.Request.{Request}

-- all pass, or none
filter_all : {A : Type 0} (p : A → Bool) (xs : List A) → ((x : A) → Has xs x → p x ≡ true) → filter p xs ≡ xs
filter_all p [] all = refl
filter_all p (x ∷ xs) all =
    let e = all x (0, refl) in rw e (ap (λ t. x ∷ t) (filter_all p xs (λ y h. all y (Has-rest y x xs h))))

filter_none : {A : Type 0} (p : A → Bool) (xs : List A) → ((x : A) → Has xs x → p x ≡ false) → filter p xs ≡ []
filter_none p [] none = refl
filter_none p (x ∷ xs) none =
    let e = none x (0, refl) in rw e (filter_none p xs (λ y h. none y (Has-rest y x xs h)))

not_true : (b : Bool) → (b ≡ true → ⊥) → b ≡ false
not_true true h = absurd (h refl)
not_true false h = refl

module _ {S : Type 0} (m : Meaning S) (part : List ℕ → List ℕ) (lines : List Line) where
  -- a request is of one part
  one_part : (x : Placed) (r : Request) → slice_get lines x.submit ≡ Some (Submit r) → (p q : List ℕ)
      → is_placed_of part lines p x ≡ true → is_placed_of part lines q x ≡ true → p ≡ q
  one_part x r s p q e f =
      let a : is_of part p r.op ≡ true = sym (ap (λ t. passes (is_own part lines p) t) s) ∙ e in
      let b : is_of part q r.op ≡ true = sym (ap (λ t. passes (is_own part lines q) t) s) ∙ f in
      sym ((bytes_eq-Decides (part r.op) p).0 a) ∙ (bytes_eq-Decides (part r.op) q).0 b

  pub nothing_joined : AreJoined m part lines [] []
  nothing_joined = record {
    known = λ x h. absurd cc;
    orders = λ p h. absurd cc;
  }

  module _ (parts : List (List ℕ)) (old : List Placed) (p : List ℕ) (new : List Placed) (are : AreJoined m part lines parts old)
      (order : IsPartOrder m part lines p new) (is_new : Has parts p → ⊥) where
    -- those joined before are of the parts before
    old_part : (q : List ℕ) → Has parts q → filter (is_placed_of part lines q) (old ++ new) ≡ filter (is_placed_of part lines q) old
    old_part q h =
        let none = filter_none (is_placed_of part lines q) new
        (λ x g. not_true (is_placed_of part lines q x)
        (λ e. let t = order.timely x g in
        is_new (subst (λ (z : List ℕ). Has parts z) (one_part x t.request t.submits q p e (order.own x g)) h))) in
        filter-append (is_placed_of part lines q) old new
        ∙ ap (λ (t : List Placed). filter (is_placed_of part lines q) old ++ t) none
        ∙ append-nil (filter (is_placed_of part lines q) old)

    new_part : filter (is_placed_of part lines p) (old ++ new) ≡ new
    new_part =
        let none = filter_none (is_placed_of part lines p) old
        (λ x g. not_true (is_placed_of part lines p x)
        (λ e. let k = are.known x g in
        let o = are.orders k.0 k.1 in
        let t = o.timely x (Has-filter (is_placed_of part lines k.0) x old g k.2) in
        is_new (subst (λ (z : List ℕ). Has parts z) (one_part x t.request t.submits k.0 p k.2 e) k.1))) in
        filter-append (is_placed_of part lines p) old new
        ∙ ap (λ (t : List Placed). t ++ filter (is_placed_of part lines p) new) none
        ∙ filter_all (is_placed_of part lines p) new order.own

    pub one_more : AreJoined m part lines (parts ++ p ∷ []) (old ++ new)
    one_more = record {
      known = λ x h. elim (Has-append_cases old new x h) [
        | inl g ↦ let k = are.known x g in (k.0, Has-append_left parts (p ∷ []) k.0 k.1, k.2)
        | inr g ↦ (p, Has-push parts p, order.own x g)
      ];
      orders = λ q h. elim (Has-push_cases parts p q h) [
        | inl g ↦ subst (λ (t : List Placed). IsPartOrder m part lines q t) (sym (old_part q g)) (are.orders q g)
        | inr e ↦ subst (λ (t : List ℕ). IsPartOrder m part lines t (filter (is_placed_of part lines t) (old ++ new))) e
            (subst (λ (t : List Placed). IsPartOrder m part lines p t) (sym new_part) order)
      ];
    }

  -- the same, along a list of parts
  pub one_more_at : (names : List (List ℕ)) (i : ℕ) (p : List ℕ) (old new : List Placed) → AreDistinct names
      → slice_get names i ≡ Some p → AreJoined m part lines (take i names) old → IsPartOrder m part lines p new
      → AreJoined m part lines (take (i + 1) names) (old ++ new)
  one_more_at names i p old new distinct at are order =
      let is_new : Has (take i names) p → ⊥ =
      (λ h.
      let a = slice_get-from_take i names h.0 p h.1 in
      let same = distinct h.0 i p a.1 at in
      let less = a.0 in omega (arith, same, less)) in
      let joined = one_more (take i names) old p new are order is_new in
      let s = Splits-at names i p at in
      rw (add-one i) (subst (λ (t : List (List ℕ)). AreJoined m part lines t (old ++ new)) (sym s.prefix) joined)
