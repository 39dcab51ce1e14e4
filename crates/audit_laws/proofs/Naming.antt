-- Names and the actors that they are.
use Rattle.std.proofs.Common.{◌≡◌, ℕ, Bool, true, false, Option, Some, None, refl, sym, ap, subst, ◌∙◌}
use Rattle.std.specs.Prelude.{nat_lt, option_map, if◌then◌else◌}
use Rattle.std.proofs.lemmas.Bool.{eqb-true, eq-eqb}
use Rattle.nop_types.specs.Configuration.{Configuration}
use Rattle.nop_types.specs.declared.output.Actor.{Actor}
use Rattle.nop_types.specs.declared.output.Actor.TheVariants.{Replica, Sequencer, Client, Controller, Observer}
use Rattle.trace_rows.specs.declared.row.Name.{Name}
use Rattle.trace_rows.specs.declared.row.Name.TheVariants as names
use Rattle.trace_rows.specs.declared.row.Number.{Number}
use Rattle.trace_rows.specs.declared.row.Number.TheVariants.{Is, Past}
use Rattle.trace_rows.specs.TracedRows.{name_as}
use Rattle.world.specs.Refusals.{is_actor}
use Rattle.audit_laws.specs.Names.{same_actor, actor_in, number_within}

pub same_actor-true : (a b : Actor) → same_actor a b ≡ true → a ≡ b
same_actor-true (Replica i) (Replica j) e = ap Replica (eqb-true i j e)
same_actor-true (Replica i) _ e = absurd cc
same_actor-true (Sequencer i) (Sequencer j) e = ap Sequencer (eqb-true i j e)
same_actor-true (Sequencer i) _ e = absurd cc
same_actor-true (Client i) (Client j) e = ap Client (eqb-true i j e)
same_actor-true (Client i) _ e = absurd cc
same_actor-true (Controller i) (Controller j) e = ap Controller (eqb-true i j e)
same_actor-true (Controller i) _ e = absurd cc
same_actor-true (Observer i) (Observer j) e = ap Observer (eqb-true i j e)
same_actor-true (Observer i) _ e = absurd cc

pub same_actor-refl : (a : Actor) → same_actor a a ≡ true
same_actor-refl (Replica i) = eq-eqb i i refl
same_actor-refl (Sequencer i) = eq-eqb i i refl
same_actor-refl (Client i) = eq-eqb i i refl
same_actor-refl (Controller i) = eq-eqb i i refl
same_actor-refl (Observer i) = eq-eqb i i refl

-- ---- numbers below a limit

pub within_is : (limit : ℕ) (n : Number) (i : ℕ) → number_within limit n ≡ Some i → (n ≡ Is i) × (nat_lt i limit ≡ true)
within_is limit Past i e = absurd cc
within_is limit (Is j) i e = on (nat_lt j limit) refl e
  where
    on : (t : Bool) → nat_lt j limit ≡ t → (if t then Some j else None) ≡ Some i → (Is j ≡ Is i) × (nat_lt i limit ≡ true)
    on true is f = let same : j ≡ i = cc in (ap Is same, ap (λ (k : ℕ). nat_lt k limit) (sym same) ∙ is)
    on false is f = absurd cc

-- ---- the name of an actor

-- an actor by its number
record Within (make : ℕ → Actor) (limit : ℕ) (n : Number) (a : Actor) : Type 0 where
  number : ℕ
  is : n ≡ Is number
  below : nat_lt number limit ≡ true
  actor : make number ≡ a

within_actor : (make : ℕ → Actor) (limit : ℕ) (n : Number) (a : Actor) → option_map make (number_within limit n) ≡ Some a
    → Within make limit n a
within_actor make limit n a e = on (number_within limit n) refl e
  where
    on : (o : Option ℕ) → number_within limit n ≡ o → option_map make o ≡ Some a → Within make limit n a
    on None is f = absurd cc
    on (Some i) is f =
        let w = within_is limit n i is in
        let same : make i ≡ a = cc in
        record { number = i; is = w.0; below = w.1; actor = same }

module _ (c : Configuration) where
  abbrev IsNamed : Name → Actor → Type 0
  IsNamed name a = (name ≡ name_as a) × (is_actor c a ≡ true)

  named : (name : Name) (a b : Actor) → a ≡ b → IsNamed name a → IsNamed name b
  named name a b same h = subst (IsNamed name) same h

  controller_is : (k : ℕ) (a : Actor) (t : Bool) → nat_lt k c.controllers ≡ t → (if t then Some (Controller k) else None) ≡ Some a
      → IsNamed (names.Controller k) a
  controller_is k a true is e = let same : Controller k ≡ a = cc in named (names.Controller k) (Controller k) a same (refl, is)
  controller_is k a false is e = absurd cc

  -- the actor of a configuration, by its name
  pub actor_in_is : (name : Name) (a : Actor) → actor_in c name ≡ Some a → IsNamed name a
  actor_in_is (names.Replica n) a e =
      let w = within_actor Replica c.replicas n a e in
      named (names.Replica n) (Replica w.number) a w.actor (ap names.Replica w.is, w.below)
  actor_in_is (names.Sequencer n) a e =
      let w = within_actor Sequencer c.sequencers n a e in
      named (names.Sequencer n) (Sequencer w.number) a w.actor (ap names.Sequencer w.is, w.below)
  actor_in_is (names.Client n) a e =
      let w = within_actor Client c.clients n a e in
      named (names.Client n) (Client w.number) a w.actor (ap names.Client w.is, w.below)
  actor_in_is (names.Controller k) a e = controller_is k a (nat_lt k c.controllers) refl e
  actor_in_is (names.Observer n) a e =
      let w = within_actor Observer c.observers n a e in
      named (names.Observer n) (Observer w.number) a w.actor (ap names.Observer w.is, w.below)

  pub actor_in_of : (a : Actor) → is_actor c a ≡ true → actor_in c (name_as a) ≡ Some a
  actor_in_of (Replica i) is = rw is refl
  actor_in_of (Sequencer i) is = rw is refl
  actor_in_of (Client i) is = rw is refl
  actor_in_of (Controller i) is = rw is refl
  actor_in_of (Observer i) is = rw is refl
