-- The order and the rank of views.
use Rattle.std.proofs.Common.{◌≡◌, ℕ, zero, suc, ◌+◌, ◌<◌, ◌≤◌, Bool, true, false, refl, sym, ap, subst, arith, inl, inr}
use Rattle.std.specs.Prelude.{◌⊎◌}
use Rattle.std.proofs.lemmas.Bool.{cases_eq, cases_lt}
use Rattle.std.proofs.lemmas.Bool.Decides.{nat_tests}
use Rattle.nop_types.specs.declared.view.View.{View}
use Rattle.nop_types.specs.Views.{AtMost, Below, Comparable, outranks, is_view}

-- ---- equality

abbrev view_of : ℕ → ℕ → View
view_of l s = record { leader = l; session = s }

same_parts : (k l m n : ℕ) → k ≡ l → m ≡ n → view_of k m ≡ view_of l n
same_parts k l m n e g = cc

pub same_View : (a b : View) → a.leader ≡ b.leader → a.session ≡ b.session → a ≡ b
same_View a b l s = same_parts a.leader b.leader a.session b.session l s

pub cases_View : (a b : View) → (a ≡ b) ⊎ (a ≡ b → ⊥)
cases_View a b =
    elim (cases_eq a.leader b.leader) [
      | inl l ↦ elim (cases_eq a.session b.session) [
        | inl s ↦ inl (same_View a b l s)
        | inr s ↦ inr (λ e. s (ap (λ (t : View). t.session) e))
      ]
      | inr l ↦ inr (λ e. l (ap (λ (t : View). t.leader) e))
    ]

pub is_view-true : (a b : View) → is_view a b ≡ true → a ≡ b
is_view-true a b e =
    let l : a.leader ≡ b.leader = grind (arith, nat_tests, e) in
    let s : a.session ≡ b.session = grind (arith, nat_tests, e) in
    same_View a b l s

pub is_view-same : (a b : View) → a ≡ b → is_view a b ≡ true
is_view-same a b e =
    let l : a.leader ≡ b.leader = cc in
    let s : a.session ≡ b.session = cc in
    grind (arith, nat_tests, l, s)

pub is_view-apart : (a b : View) → (a ≡ b → ⊥) → is_view a b ≡ false
is_view-apart a b d = at (is_view a b) refl
  where
    at : (t : Bool) → is_view a b ≡ t → t ≡ false
    at true e = absurd (d (is_view-true a b e))
    at false e = refl

-- ---- order

pub AtMost-refl : (a : View) → AtMost a a
AtMost-refl a = record { leader = omega arith; session = omega arith }

pub AtMost-same : (a b : View) → a ≡ b → AtMost a b
AtMost-same a b e = subst (λ t. AtMost a t) e (AtMost-refl a)

pub AtMost-trans : (a b c : View) → AtMost a b → AtMost b c → AtMost a c
AtMost-trans a b c h g = record { leader = omega (arith, h.leader, g.leader); session = omega (arith, h.session, g.session) }

pub AtMost-antisym : (a b : View) → AtMost a b → AtMost b a → a ≡ b
AtMost-antisym a b h g =
    let l : a.leader ≡ b.leader = omega (arith, h.leader, g.leader) in
    let s : a.session ≡ b.session = omega (arith, h.session, g.session) in
    same_View a b l s

pub Below-then_at_most : (a b c : View) → Below a b → AtMost b c → Below a c
Below-then_at_most a b c h g = record {
  at_most = AtMost-trans a b c h.at_most g;
  apart = λ e. h.apart (AtMost-antisym a b h.at_most (subst (λ t. AtMost b t) (sym e) g));
}

pub Below-after_at_most : (a b c : View) → AtMost a b → Below b c → Below a c
Below-after_at_most a b c h g = record {
  at_most = AtMost-trans a b c h g.at_most;
  apart = λ e. g.apart (AtMost-antisym b c g.at_most (subst (λ t. AtMost t b) e h));
}

pub Below-trans : (a b c : View) → Below a b → Below b c → Below a c
Below-trans a b c h g = Below-then_at_most a b c h g.at_most

pub Below-not_back : (a b : View) → Below a b → AtMost b a → ⊥
Below-not_back a b h g = h.apart (AtMost-antisym a b h.at_most g)

-- what is below has a smaller sum
pub Below-sum : (a b : View) → Below a b → a.leader + a.session < b.leader + b.session
Below-sum a b h =
    elim (cases_lt (a.leader + a.session) (b.leader + b.session)) [
      | inl l ↦ l
      | inr g ↦ absurd
          (h.apart (same_View a b (omega (arith, g, h.at_most.leader, h.at_most.session))
          (omega (arith, g, h.at_most.leader, h.at_most.session))))
    ]

-- what follows at a view from each view below it holds at every view
pub Below-induction : (P : View → Type 0) → ((v : View) → ((u : View) → Below u v → P u) → P v) → (v : View) → P v
Below-induction P step v = upto (v.leader + v.session) v (omega arith)
  where
    upto : (n : ℕ) (w : View) → w.leader + w.session ≤ n → P w
    upto zero w le = step w (λ u h. absurd (omega (arith, Below-sum u w h, le)))
    upto (suc n) w le = step w (λ u h. upto n u (omega (arith, Below-sum u w h, le)))

-- ---- rank

-- the rank of a is at most that of b
pub record RanksAtMost (a b : View) : Type 0 where
  pub session : a.session ≤ b.session
  pub leader : a.session ≡ b.session → a.leader ≤ b.leader

pub outranks-true : (a b : View) → outranks a b ≡ true → RanksAtMost b a
outranks-true a b e = record { session = grind (arith, nat_tests, e); leader = λ s. grind (arith, nat_tests, e, s) }

pub outranks-false : (a b : View) → outranks a b ≡ false → RanksAtMost a b
outranks-false a b e = record { session = grind (arith, nat_tests, e); leader = λ s. grind (arith, nat_tests, e, s) }

pub RanksAtMost-trans : (a b c : View) → RanksAtMost a b → RanksAtMost b c → RanksAtMost a c
RanksAtMost-trans a b c h g = record {
  session = omega (arith, h.session, g.session);
  leader = λ s. omega (arith, s, h.session, g.session, h.leader, g.leader);
}

pub RanksAtMost-refl : (a : View) → RanksAtMost a a
RanksAtMost-refl a = record { session = omega arith; leader = λ s. omega arith }

pub outranks-from_ranks : (a b : View) → RanksAtMost a b → outranks a b ≡ false
outranks-from_ranks a b h =
    let s = h.session in
    let l = h.leader in
    grind (arith, nat_tests, s, l)

pub RanksAtMost-cases : (a b : View) → RanksAtMost a b ⊎ RanksAtMost b a
RanksAtMost-cases a b = at (outranks a b) refl
  where
    at : (t : Bool) → outranks a b ≡ t → RanksAtMost a b ⊎ RanksAtMost b a
    at true e = inr (outranks-true a b e)
    at false e = inl (outranks-false a b e)

-- of two comparable views the one of lower rank is below
pub AtMost-from_ranks : (a b : View) → Comparable a b → RanksAtMost a b → AtMost a b
AtMost-from_ranks a b (inl h) g = h
AtMost-from_ranks a b (inr h) g =
    let s : a.session ≡ b.session = omega (arith, h.session, g.session) in
    record { leader = g.leader s; session = g.session }

pub AtMost-not_outranked : (a b : View) → Comparable a b → outranks a b ≡ false → AtMost a b
AtMost-not_outranked a b h e = AtMost-from_ranks a b h (outranks-false a b e)

-- nothing outranks what it is at most
pub outranks-from_at_most : (a b : View) → AtMost a b → outranks a b ≡ false
outranks-from_at_most a b h =
    let l = h.leader in
    let s = h.session in
    grind (arith, nat_tests, l, s)

-- two views of one rank are one
pub same_View-from_ranks : (a b : View) → outranks a b ≡ false → outranks b a ≡ false → a ≡ b
same_View-from_ranks a b e g =
    let h = outranks-false a b e in
    let k = outranks-false b a g in
    let s : a.session ≡ b.session = omega (arith, h.session, k.session) in
    let m = h.leader s in
    let n = k.leader (sym s) in
    let l : a.leader ≡ b.leader = omega (arith, m, n) in
    same_View a b l s

-- for the attributes of functions
pub ruleset order_of_views = (AtMost-trans, AtMost-antisym, Below-trans, Below-sum)

pub ruleset rank_of_views = (same_View-from_ranks, outranks-from_at_most, AtMost-not_outranked)
