-- Changes and their senders.
use Rattle.std.proofs.Common.{◌≡◌, ℕ, zero, suc, Bool, true, false, cond, List, [], ◌∷◌, ◌++◌, length, map, Some, refl}
use Rattle.std.proofs.Common.{sym, subst, ap, ◌∙◌, arith, inl, inr}
use Rattle.std.specs.Prelude.{◌==◌, ◌||◌, ◌⊎◌, ◌↔◌, slice_get}
use Rattle.std.proofs.lemmas.List.{map-append}
use Rattle.std.proofs.lemmas.Option.{none-some, same_Some}
use Rattle.nop_types.specs.declared.peer.Change.{Change}
use Rattle.nop_types.specs.Lists.{Has}
use Rattle.nop_types.specs.PlainChanges as plains
use Rattle.nop_types.specs.PlainChanges.{plain, sender_of}
use Rattle.lemmas.proofs.Members.{Has-push}
use Rattle.log_merge.specs.Merged.{HasDistinctSenders}
use Rattle.view_change.specs.Gathering.{IsOfSender, has_sender, with_change, change_sender}

-- ---- a change at the end

at_push : {C : Type 0} (cs : List C) (c d : C) (i : ℕ) → slice_get (cs ++ c ∷ []) i ≡ Some d
    → (slice_get cs i ≡ Some d) ⊎ ((i ≡ length cs) × (d ≡ c))
at_push [] c d zero e = inr (refl, sym (same_Some c d e))
at_push [] c d (suc i) e = absurd (none-some d e)
at_push (x ∷ cs) c d zero e = inl e
at_push (x ∷ cs) c d (suc i) e = later (at_push cs c d i e)
  where
    later : (slice_get cs i ≡ Some d) ⊎ ((i ≡ length cs) × (d ≡ c)) → (slice_get cs i ≡ Some d) ⊎ ((suc i ≡ length (x ∷ cs)) × (d ≡ c))
    later (inl f) = inl f
    later (inr f) = inr (omega (arith, f.0), f.1)

within_push : {C : Type 0} (cs : List C) (c d : C) (i : ℕ) → slice_get cs i ≡ Some d → slice_get (cs ++ c ∷ []) i ≡ Some d
within_push [] c d i e = absurd (none-some d e)
within_push (x ∷ cs) c d zero e = e
within_push (x ∷ cs) c d (suc i) e = within_push cs c d i e

-- ---- by the sender of a change

module _ {C : Type 0} (sent_by : C → ℕ) where
  behind : (x : C) (cs : List C) (q : ℕ) → IsOfSender sent_by cs q → IsOfSender sent_by (x ∷ cs) q
  behind x cs q found = (found.0, (suc found.1.0, found.1.1), found.2)

  found_at : (b : Bool) (x : C) (cs : List C) (q : ℕ) → (sent_by x == q) ≡ b → (b || has_sender sent_by cs q) ≡ true
      → (has_sender sent_by cs q ≡ true → IsOfSender sent_by cs q) → IsOfSender sent_by (x ∷ cs) q
  found_at true x cs q test e rest = (x, (zero, refl), grind (arith, test))
  found_at false x cs q test e rest = behind x cs q (rest e)

  has_found : (cs : List C) (q : ℕ) → has_sender sent_by cs q ≡ true → IsOfSender sent_by cs q
  has_found [] q e = absurd (false_true e)
    where
      false_true : false ≡ true → ⊥
      false_true f = cc
  has_found (x ∷ cs) q e = found_at (sent_by x == q) x cs q refl e (has_found cs q)

  not_first : (x : C) (cs : List C) (q : ℕ) → ((sent_by x == q) || has_sender sent_by cs q) ≡ false → sent_by x ≡ q → ⊥
  not_first x cs q e same = grind (arith, e, same)

  not_rest : (b : Bool) (cs : List C) (q : ℕ) → (b || has_sender sent_by cs q) ≡ false → has_sender sent_by cs q ≡ false
  not_rest true cs q e = absurd (true_false e)
    where
      true_false : true ≡ false → ⊥
      true_false f = cc
  not_rest false cs q e = e

  pub none_there : (cs : List C) (q : ℕ) → has_sender sent_by cs q ≡ false → (i : ℕ) (c : C) → slice_get cs i ≡ Some c
      → sent_by c ≡ q → ⊥
  none_there [] q e i c is same = none-some c is
  none_there (x ∷ cs) q e zero c is same = not_first x cs q e (ap sent_by (same_Some x c is) ∙ same)
  none_there (x ∷ cs) q e (suc i) c is same = none_there cs q (not_rest (sent_by x == q) cs q e) i c is same

  first_at : (b : Bool) (cs : List C) (c : C) → has_sender sent_by cs (sent_by c) ≡ b → IsOfSender sent_by cs (sent_by c)
      → cond b cs (cs ++ c ∷ []) ≡ cs
  first_at true cs c test there = refl
  first_at false cs c test there = absurd (none_there cs (sent_by c) test there.1.0 there.0 there.1.1 there.2)

  pub first_stays : (cs : List C) (c : C) → IsOfSender sent_by cs (sent_by c) → with_change sent_by cs c ≡ cs
  first_stays cs c there = first_at (has_sender sent_by cs (sent_by c)) cs c refl there

  members_at : (b : Bool) (cs : List C) (c d : C) → has_sender sent_by cs (sent_by c) ≡ b
      → (Has (cond b cs (cs ++ c ∷ [])) d ↔ (Has cs d ⊎ ((IsOfSender sent_by cs (sent_by c) → ⊥) × (d ≡ c))))
  members_at true cs c d test = (λ has. inl has, back)
    where
      back : Has cs d ⊎ ((IsOfSender sent_by cs (sent_by c) → ⊥) × (d ≡ c)) → Has cs d
      back (inl has) = has
      back (inr new) = absurd (new.0 (has_found cs (sent_by c) test))
  members_at false cs c d test = (λ has. forth has.0 (at_push cs c d has.0 has.1), back)
    where
      forth : (i : ℕ) → (slice_get cs i ≡ Some d) ⊎ ((i ≡ length cs) × (d ≡ c))
          → Has cs d ⊎ ((IsOfSender sent_by cs (sent_by c) → ⊥) × (d ≡ c))
      forth i (inl e) = inl (i, e)
      forth i (inr e) = inr (λ there. none_there cs (sent_by c) test there.1.0 there.0 there.1.1 there.2, e.1)

      back : Has cs d ⊎ ((IsOfSender sent_by cs (sent_by c) → ⊥) × (d ≡ c)) → Has (cs ++ c ∷ []) d
      back (inl has) = (has.0, within_push cs c d has.0 has.1)
      back (inr new) = subst (λ x. Has (cs ++ c ∷ []) x) (sym new.1) (Has-push cs c)

  pub members : (cs : List C) (c d : C)
      → (Has (with_change sent_by cs c) d ↔ (Has cs d ⊎ ((IsOfSender sent_by cs (sent_by c) → ⊥) × (d ≡ c))))
  members cs c d = members_at (has_sender sent_by cs (sent_by c)) cs c d refl

-- ---- distinct senders

push_plain : (cs : List plains.Change) (c : plains.Change) → HasDistinctSenders cs → has_sender sender_of cs c.sender ≡ false
    → HasDistinctSenders (cs ++ c ∷ [])
push_plain cs c distinct none i j a b e f same = both (at_push cs c a i e) (at_push cs c b j f)
  where
    both : (slice_get cs i ≡ Some a) ⊎ ((i ≡ length cs) × (a ≡ c)) → (slice_get cs j ≡ Some b) ⊎ ((j ≡ length cs) × (b ≡ c)) → i ≡ j
    both (inl p) (inl q) = distinct i j a b p q same
    both (inl p) (inr q) = absurd (none_there sender_of cs c.sender none i a p (same ∙ ap sender_of q.1))
    both (inr p) (inl q) = absurd (none_there sender_of cs c.sender none j b q (sym same ∙ ap sender_of p.1))
    both (inr p) (inr q) = p.0 ∙ sym q.0

same_senders : (cs : List Change) (q : ℕ) → has_sender sender_of (map plain cs) q ≡ has_sender change_sender cs q
same_senders [] q = refl
same_senders (c ∷ cs) q = ap (λ (b : Bool). (c.sender == q) || b) (same_senders cs q)

push_distinct : (cs : List Change) (c : Change) → HasDistinctSenders (map plain cs) → has_sender change_sender cs c.sender ≡ false
    → HasDistinctSenders (map plain (cs ++ c ∷ []))
push_distinct cs c distinct none =
    subst HasDistinctSenders (sym (map-append plain cs (c ∷ [])))
    (push_plain (map plain cs) (plain c) distinct (same_senders cs c.sender ∙ none))

distinct_at : (b : Bool) (cs : List Change) (c : Change) → has_sender change_sender cs c.sender ≡ b → HasDistinctSenders (map plain cs)
    → HasDistinctSenders (map plain (cond b cs (cs ++ c ∷ [])))
distinct_at true cs c test distinct = distinct
distinct_at false cs c test distinct = push_distinct cs c distinct test

pub stays_distinct : (cs : List Change) (c : Change) → HasDistinctSenders (map plain cs)
    → HasDistinctSenders (map plain (with_change change_sender cs c))
stays_distinct cs c distinct = distinct_at (has_sender change_sender cs c.sender) cs c refl distinct

-- a list with one more change, whose sender a look-up did not find
pub pushed_distinct : (xs ys : List Change) (c : Change) (b : Bool) → HasDistinctSenders (map plain xs)
    → b ≡ has_sender change_sender xs c.sender → b ≡ false → ys ≡ xs ++ c ∷ [] → HasDistinctSenders (map plain ys)
pushed_distinct xs ys c b distinct looked none pushed =
    subst (λ (cs : List Change). HasDistinctSenders (map plain cs)) (sym pushed) (push_distinct xs c distinct (sym looked ∙ none))
