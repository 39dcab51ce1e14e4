-- What wins in a slot was told, and wins against all that was told.
use Rattle.std.proofs.Common.{◌≡◌, ℕ, zero, suc, ◌≤◌, Bool, true, false, cond, List, [], ◌∷◌, Option, Some, None, refl, sym, ap, ◌∙◌, arith}
use Rattle.std.proofs.Common.{inl, inr}
use Rattle.std.specs.Prelude.{◌⊎◌, nat_le, slice_get, option_map}
use Rattle.std.proofs.lemmas.Bool.Decides.{nat_tests}
use Rattle.nop_types.specs.declared.request.Entry.{Entry}
use Rattle.nop_types.specs.declared.request.Entry.TheVariants.{NoOp, Req}
use Rattle.nop_types.specs.PlainChanges.{Change}
use Rattle.nop_types.specs.Lists.{slot_of}
use Rattle.log_merge.specs.Merge.{Choice, choice_of, of_both, of_two, chosen, merge}
use Rattle.log_merge.specs.Merged.{HasInSlot}
use Rattle.log_merge.proofs.Slots.{slot_of-merge}

-- a wins against b: it is a NO-OP, or both are requests and its sender is not higher
abbrev pub WinsBy : Entry → Entry → ℕ → ℕ → Type 0
WinsBy NoOp y s t = Unit {0}
WinsBy (Req q) NoOp s t = ⊥
WinsBy (Req q) (Req r) s t = s ≤ t

abbrev Wins : Choice → Choice → Type 0
Wins a b = WinsBy a.entry b.entry a.sender b.sender

wins_same : (x : Entry) (s : ℕ) → WinsBy x x s s
wins_same NoOp s = tt
wins_same (Req q) s = omega arith

wins_on : (x y z : Entry) (r s t : ℕ) → WinsBy x y r s → WinsBy y z s t → WinsBy x z r t
wins_on NoOp y z r s t h g = tt
wins_on (Req o) NoOp z r s t h g = elim h [ ]
wins_on (Req o) (Req p) NoOp r s t h g = g
wins_on (Req o) (Req p) (Req q) r s t h g = omega (arith, h, g)

abbrev WinsBoth : Choice → Choice → Choice → Type 0
WinsBoth w a b = Wins w a × Wins w b

both_wins : (x y : Entry) (s t : ℕ) → let a : Choice =
    record { sender = s; entry = x } in let b : Choice = record { sender = t; entry = y } in WinsBoth (of_both x y a b) a b
both_wins NoOp y s t = (tt, tt)
both_wins (Req q) NoOp s t = (tt, tt)
both_wins (Req q) (Req r) s t = at (nat_le s t) refl
  where
    at : (b : Bool) → nat_le s t ≡ b
        → WinsBoth (cond b (record { sender = s; entry = Req q }) (record { sender = t; entry = Req r }))
        (record { sender = s; entry = Req q }) (record { sender = t; entry = Req r })
    at true e = (omega arith, grind (arith, nat_tests, e))
    at false e = (grind (arith, nat_tests, e), omega arith)

two_wins_left : (a : Choice) (o : Option Choice) (w : Choice) → of_two (Some a) o ≡ Some w → Wins w a
two_wins_left a None w e = let same : a ≡ w = cc in rw (← same) (wins_same a.entry a.sender)
two_wins_left a (Some b) w e =
    let same : of_both a.entry b.entry a b ≡ w = cc in rw (← same) (both_wins a.entry b.entry a.sender b.sender).0

two_wins_right : (o : Option Choice) (b : Choice) (w : Choice) → of_two o (Some b) ≡ Some w → Wins w b
two_wins_right None b w e = let same : b ≡ w = cc in rw (← same) (wins_same b.entry b.sender)
two_wins_right (Some a) b w e =
    let same : of_both a.entry b.entry a b ≡ w = cc in rw (← same) (both_wins a.entry b.entry a.sender b.sender).1

-- ---- what is chosen was told, and wins against all that was told

pub record IsChoice (cs : List Change) (k : ℕ) (t : Choice) : Type 0 where
  pub place : ℕ
  pub change : Change
  pub member : slice_get cs place ≡ Some change
  pub source : choice_of change.sender (slot_of change.log k) ≡ Some t

two_is : (a b : Option Choice) (t : Choice) → of_two a b ≡ Some t → (a ≡ Some t) ⊎ (b ≡ Some t)
two_is None b t e = inr e
two_is (Some a) None t e = inl e
two_is (Some a) (Some b) t e = at a.entry b.entry (let same : of_both a.entry b.entry a b ≡ t = cc in same)
  where
    at : (x y : Entry) → of_both x y a b ≡ t → (Some a ≡ Some t) ⊎ (Some b ≡ Some t)
    at NoOp y g = inl (ap (λ (u : Choice). Some u) g)
    at (Req q) NoOp g = inr (ap (λ (u : Choice). Some u) g)
    at (Req q) (Req r) g = lower (nat_le a.sender b.sender) g
      where
        lower : (c : Bool) → cond c a b ≡ t → (Some a ≡ Some t) ⊎ (Some b ≡ Some t)
        lower true f = inl (ap (λ (u : Choice). Some u) f)
        lower false f = inr (ap (λ (u : Choice). Some u) f)

chosen_is_choice : (cs : List Change) (k : ℕ) (t : Choice) → chosen cs k ≡ Some t → IsChoice cs k t
chosen_is_choice [] k t e = absurd cc
chosen_is_choice (c ∷ cs) k t e =
    elim (two_is (choice_of c.sender (slot_of c.log k)) (chosen cs k) t e) [
      | inl g ↦ record { place = 0; change = c; member = refl; source = g }
      | inr g ↦ let r = chosen_is_choice cs k t g in record { place = suc r.place; change = r.change; member = r.member; source = r.source }
    ]

two_none : (a b : Option Choice) → of_two a b ≡ None → (a ≡ None) × (b ≡ None)
two_none None b e = (refl, e)
two_none (Some a) None e = absurd cc
two_none (Some a) (Some b) e = absurd cc

no_choice : (cs : List Change) (k i : ℕ) (c : Change) → chosen cs k ≡ None → slice_get cs i ≡ Some c
    → choice_of c.sender (slot_of c.log k) ≡ None
no_choice [] k i c e g = absurd cc
no_choice (d ∷ cs) k zero c e g =
    let same : d ≡ c = cc in
    rw (← same) (two_none (choice_of d.sender (slot_of d.log k)) (chosen cs k) e).0
no_choice (d ∷ cs) k (suc i) c e g = no_choice cs k i c (two_none (choice_of d.sender (slot_of d.log k)) (chosen cs k) e).1 g

chosen_wins : (cs : List Change) (k i : ℕ) (c : Change) (w t : Choice) → slice_get cs i ≡ Some c → choice_of c.sender (slot_of c.log k) ≡ Some t
    → chosen cs k ≡ Some w → Wins w t
chosen_wins [] k i c w t g h e = absurd cc
chosen_wins (d ∷ cs) k zero c w t g h e =
    let same : d ≡ c = cc in
    let here : choice_of d.sender (slot_of d.log k) ≡ Some t = rw same h in
    two_wins_left t (chosen cs k) w (ap (λ (o : Option Choice). of_two o (chosen cs k)) (sym here) ∙ e)
chosen_wins (d ∷ cs) k (suc i) c w t g h e = on (chosen cs k) refl e (λ b is. chosen_wins cs k i c b t g h is)
  where
    on : (o : Option Choice) → chosen cs k ≡ o → of_two (choice_of d.sender (slot_of d.log k)) o ≡ Some w
        → ((b : Choice) → chosen cs k ≡ Some b → Wins b t) → Wins w t
    on None is f less = absurd (let none = no_choice cs k i c is g in cc)
    on (Some b) is f less =
        wins_on w.entry b.entry t.entry w.sender b.sender t.sender (two_wins_right (choice_of d.sender (slot_of d.log k)) b w f) (less b is)

-- ---- winners, by who has what in a slot

choice_is : (s : ℕ) (o : Option Entry) (t : Choice) → choice_of s o ≡ Some t → (o ≡ Some t.entry) × (s ≡ t.sender)
choice_is s None t e = absurd cc
choice_is s (Some x) t e =
    let same : record { sender = s; entry = x } ≡ t = cc in
    (ap (λ (u : Choice). Some u.entry) same, ap (λ (u : Choice). u.sender) same)

has_from : (cs : List Change) (k : ℕ) (t : Choice) → IsChoice cs k t → HasInSlot cs k t.sender t.entry
has_from cs k t h =
    let part = choice_is h.change.sender (slot_of h.change.log k) t h.source in
    record {
      log = h.change.log;
      source = record { change = h.change; member = (h.place, h.member); sender = part.1; log = refl };
      entry =
          part.0;
    }

has_to : (cs : List Change) (k s : ℕ) (x : Entry) → HasInSlot cs k s x → IsChoice cs k (record { sender = s; entry = x })
has_to cs k s x h = record {
  place = h.source.member.0;
  change = h.source.change;
  member = h.source.member.1;
  source = rw (h.source.log, h.entry, h.source.sender) refl;
}

-- what wins in a slot: nothing, and nobody has the slot, or what somebody has there, against all others
pub data Winner (cs : List Change) (k : ℕ) : Type 0 where
  Nobody : slot_of (merge cs) k ≡ None → ((s : ℕ) (x : Entry) → HasInSlot cs k s x → ⊥) → Winner cs k
  Somebody : (w : Choice) → slot_of (merge cs) k ≡ Some w.entry → HasInSlot cs k w.sender w.entry
      → ((s : ℕ) (x : Entry) → HasInSlot cs k s x → WinsBy w.entry x w.sender s) → Winner cs k

pub winner : (cs : List Change) (k : ℕ) → Winner cs k
winner cs k = at (chosen cs k) refl
  where
    at : (o : Option Choice) → chosen cs k ≡ o → Winner cs k
    at None e =
        Nobody (slot_of-merge cs k ∙ ap (option_map (λ t. t.entry)) e) (λ s x h.
        let g = has_to cs k s x h in
        let none = no_choice cs k g.place g.change e g.member in
        let some = g.source in
        absurd cc)
    at (Some w) e =
        Somebody w (slot_of-merge cs k ∙ ap (option_map (λ t. t.entry)) e) (has_from cs k w (chosen_is_choice cs k w e)) (λ s x h.
        let g = has_to cs k s x h in
        chosen_wins cs k g.place g.change w (record { sender = s; entry = x }) g.member g.source e)
