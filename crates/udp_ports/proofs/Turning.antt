-- A turn of each lane, one after the other.
use Rattle.std.proofs.Common.{◌≡◌, ℕ, ◌+◌, ◌<◌, ◌≤◌, Bool, true, cond, List, length, get_or, set, ap, sym, ◌∙◌, subst, arith, inl, inr}
use Rattle.std.proofs.Math.Numerals.{add-one}
use Rattle.std.proofs.lemmas.Bool.{cases_lt}
use Rattle.std.proofs.lemmas.List.{get_or_default, get_or-set_same, get_or-set_other, length-set}
use Rattle.resending.specs.Sending.{Outgoing, advanced, has_room, opening, resent}
use Rattle.udp_ports.specs.Turns.{AreTurns, IsTurn, all_resent, one_sent, sent}

-- one more goes
pub sent_more : (f g : Outgoing) (i : ℕ) → g ≡ sent i f → one_sent g ≡ sent (i + 1) f
sent_more f g i e = ap one_sent e ∙ ap (λ (n : ℕ). sent n f) (sym (add-one i))

-- one more goes, since the port has room for it
pub advanced_more : (f g new : Outgoing) (i : ℕ) → g ≡ sent i f → has_room g ≡ true → new ≡ advanced g → new ≡ sent (i + 1) f
advanced_more f g new i e room is = is ∙ sym (ap (λ (b : Bool). cond b (advanced g) g) room) ∙ sent_more f g i e

-- one more goes again
pub resent_more : (f g : Outgoing) (i : ℕ) → g ≡ all_resent i f → resent i g ≡ all_resent (i + 1) f
resent_more f g i e = ap (resent i) e ∙ ap (λ (n : ℕ). all_resent n f) (sym (add-one i))

-- the first i lanes had their turn
pub record AreTurning (now : ℕ) (first flows : List Outgoing) (i : ℕ) : Type 0 where
  pub long : length flows ≡ length first
  pub done : (j : ℕ) → j < i → IsTurn now (get_or first j opening) (get_or flows j opening)
  pub rest : (j : ℕ) → i ≤ j → get_or flows j opening ≡ get_or first j opening

pub turning_none : (now : ℕ) (first : List Outgoing) → AreTurning now first first 0
turning_none now first = record {
  long = λ i. length first;
  done = λ j lt. absurd (omega (arith, lt));
  rest = λ j le. λ i. get_or first j opening;
}

-- and one more
pub turning_more : (now : ℕ) (first flows : List Outgoing) (i : ℕ) (d new : Outgoing) → AreTurning now first flows i → i < length first
    → IsTurn now (get_or flows i d) new → AreTurning now first (set flows i new) (i + 1)
turning_more now first flows i d new r below_first turn =
    let lt : i < length flows = omega (arith, below_first, r.long) in
    let old : get_or flows i d ≡ get_or first i opening = get_or_default flows i d opening lt ∙ r.rest i (omega arith) in
    let here : IsTurn now (get_or first i opening) (get_or (set flows i new) i opening) =
    subst (λ (f : Outgoing). IsTurn now (get_or first i opening) f) (sym (get_or-set_same flows i new opening lt))
    (subst (λ (f : Outgoing). IsTurn now f new) old turn) in
    record {
      long = length-set flows i new ∙ r.long;
      done = λ j below.
          elim (cases_lt j i) [
            | inl less ↦
                subst (λ (f : Outgoing). IsTurn now (get_or first j opening) f)
                (sym (get_or-set_other flows i j new opening (λ same. omega (arith, same, less)))) (r.done j less)
            | inr more ↦
                let same : i ≡ j = omega (arith, more, below) in
                subst (λ (k : ℕ). IsTurn now (get_or first k opening) (get_or (set flows i new) k opening)) same here
          ];
      rest = λ j above. get_or-set_other flows i j new opening (λ same. omega (arith, same, above)) ∙ r.rest j (omega (arith, above));
    }

pub turning_ends : (now : ℕ) (first flows : List Outgoing) (i : ℕ) → AreTurning now first flows i → length first ≤ i
    → AreTurns now first flows
turning_ends now first flows i r le = (r.long, λ j lt. r.done j (omega (arith, lt, le)))
