-- Other orders of the steps of actors.
use Rattle.std.specs.Prelude.{◌≡◌, ℕ, ⊤, List, [], ◌∷◌, ◌++◌, filter, Ok}
use Rattle.std.specs.List.{flat_map}
use Rattle.nop_types.specs.Configuration.{Configuration}
use Rattle.nop_types.specs.Lists.{Has}
use Rattle.nop_types.specs.Meaning.{Meaning}
use Rattle.nop_types.specs.declared.datagram.Datagram.{Datagram}
use Rattle.nop_types.specs.declared.output.Actor.{Actor}
use Rattle.oum_codec.specs.Reading.{reading}
use Rattle.schedule_text.specs.declared.event.Event.{Event}
use Rattle.trace_rows.specs.declared.row.Gave.{Gave}
use Rattle.trace_rows.specs.declared.row.Gave.TheVariants as gaves
use Rattle.trace_rows.specs.declared.row.Taken.{Taken}
use Rattle.trace_rows.specs.declared.row.Taken.TheVariants as takens
use Rattle.world.specs.WorldSteps.{Happened, opening}
use Rattle.audit_laws.specs.Audits.{Step, Follows}
use Rattle.audit_laws.specs.Names.{same_actor}

-- the steps of an actor, in their order
abbrev pub own : Actor → List Step → List Step
own a steps = filter (λ x. same_actor x.actor a) steps

-- the datagrams that a step sends
abbrev pub sent_by : Gave → List (List ℕ)
sent_by (gaves.Send to datagram) = datagram ∷ []
sent_by _ = []

abbrev pub sends_in : Step → List (List ℕ)
sends_in x = flat_map sent_by x.outputs

-- a packet that spells a datagram is among these
abbrev pub IsThere : List (List ℕ) → Taken → Type 0
IsThere sent (takens.Packet bytes) = (d : Datagram) → reading bytes ≡ Ok d → Has sent bytes
IsThere sent _ = ⊤

-- each packet that spells a datagram was sent by a step before it
abbrev pub IsCausal : List (List ℕ) → List Step → Type 0
IsCausal sent [] = ⊤
IsCausal sent (x ∷ xs) = IsThere sent x.taken × IsCausal (sent ++ sends_in x) xs

-- some run of these steps, in this order
pub record RunsSo {S : Type 0} (m : Meaning S) (c : Configuration) (steps : List Step) : Type 0 where
  pub events : List Event
  pub happened : Happened
  pub follows : Follows m (opening c) steps events happened

-- each order of a run's steps that keeps each actor's own, and delivers only what was sent, is a run; and each run delivers only that
abbrev pub OrdersRun : {S : Type 0} → Meaning S → Type 0
OrdersRun m = (c : Configuration) (xs ys : List Step) → RunsSo m c xs → ((a : Actor) → own a ys ≡ own a xs) → IsCausal [] ys
    → RunsSo m c ys

abbrev pub RunsAreCausal : {S : Type 0} → Meaning S → Type 0
RunsAreCausal m = (c : Configuration) (xs : List Step) → RunsSo m c xs → IsCausal [] xs
