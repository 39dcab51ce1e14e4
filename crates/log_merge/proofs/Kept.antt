-- The last normal view of greatest rank among changes, and the changes that are kept.
use Rattle.std.proofs.Common.{◌≡◌, Bool, true, false, cond, List, [], ◌∷◌, refl, sym, subst, arith, inl, inr}
use Rattle.std.specs.Prelude.{◌⊎◌}
use Rattle.std.proofs.lemmas.Bool.Decides.{nat_tests}
use Rattle.nop_types.specs.PlainChanges.{Change}
use Rattle.nop_types.specs.Lists.{Has}
use Rattle.nop_types.specs.Views.{outranks, is_view}
use Rattle.lemmas.proofs.Members.{Has-first, Has-rest, Has-none, Has-cases, Has-filter, Has-from_filter}
use Rattle.lemmas.proofs.Views.{is_view-true, is_view-same, RanksAtMost, outranks-true, outranks-false, RanksAtMost-trans, RanksAtMost-refl}
use Rattle.log_merge.specs.Starting.{greatest, kept}

-- some change has the greatest view
pub greatest_in : (c : Change) (cs : List Change) → (d : Change) × Has (c ∷ cs) d × (d.last_normal ≡ greatest (c ∷ cs))
greatest_in c [] = pick (outranks (greatest []) c.last_normal) refl
  where
    pick : (t : Bool) → outranks (greatest []) c.last_normal ≡ t
        → (d : Change) × Has (c ∷ []) d × (d.last_normal ≡ cond t (greatest []) c.last_normal)
    pick false e = (c, Has-first c c [] refl, refl)
    pick true e = absurd (grind (arith, nat_tests, e))
greatest_in c (b ∷ cs) = pick (outranks (greatest (b ∷ cs)) c.last_normal) (greatest_in b cs)
  where
    pick : (t : Bool) → ((d : Change) × Has (b ∷ cs) d × (d.last_normal ≡ greatest (b ∷ cs)))
        → (d : Change) × Has (c ∷ b ∷ cs) d × (d.last_normal ≡ cond t (greatest (b ∷ cs)) c.last_normal)
    pick true (d, h, e) = (d, Has-rest d c (b ∷ cs) h, e)
    pick false r = (c, Has-first c c (b ∷ cs) refl, refl)

-- and none has a greater one
pub greatest_most : (cs : List Change) (d : Change) → Has cs d → RanksAtMost d.last_normal (greatest cs)
greatest_most [] d h = absurd (Has-none d h)
greatest_most (c ∷ cs) d h = pick (outranks (greatest cs) c.last_normal) refl (Has-cases d c cs h) (λ g. greatest_most cs d g)
  where
    pick : (t : Bool) → outranks (greatest cs) c.last_normal ≡ t → (d ≡ c) ⊎ Has cs d
        → (Has cs d → RanksAtMost d.last_normal (greatest cs)) → RanksAtMost d.last_normal (cond t (greatest cs) c.last_normal)
    pick true e (inl g) rest =
        subst (λ (t : Change). RanksAtMost t.last_normal (greatest cs)) (sym g) (outranks-true (greatest cs) c.last_normal e)
    pick true e (inr g) rest = rest g
    pick false e (inl g) rest = subst (λ (t : Change). RanksAtMost t.last_normal c.last_normal) (sym g) (RanksAtMost-refl c.last_normal)
    pick false e (inr g) rest =
        RanksAtMost-trans d.last_normal (greatest cs) c.last_normal (rest g) (outranks-false (greatest cs) c.last_normal e)

pub kept_has : (cs : List Change) (c : Change) → Has cs c → c.last_normal ≡ greatest cs → Has (kept cs) c
kept_has cs c h e = Has-filter (λ (d : Change). is_view d.last_normal (greatest cs)) c cs h (is_view-same c.last_normal (greatest cs) e)

pub kept_from : (cs : List Change) (c : Change) → Has (kept cs) c → Has cs c × (c.last_normal ≡ greatest cs)
kept_from cs c h =
    let r = Has-from_filter (λ (d : Change). is_view d.last_normal (greatest cs)) c cs h in
    (r.0, is_view-true c.last_normal (greatest cs) r.1)
