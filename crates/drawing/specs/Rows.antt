-- What is kept of a run, and what is written of it.
use Rattle.std.specs.Prelude.{◌≡◌, ℕ, List, [], ◌∷◌, ◌++◌, Option, string_bytes}
use Rattle.std.specs.Io.KnownBytes.{Appends}
use Rattle.picture_arrows.specs.declared.flight.Flight.{Flight}
use Rattle.picture_arrows.specs.declared.flight.Leg.{Leg}
use Rattle.nop_types.specs.declared.output.Actor.{Actor}
use Rattle.picture.specs.Texts.{IsWhole}
use Rattle.picture.specs.declared.data.Row.{Row}
use Rattle.schedule_text.specs.EventText.{HasLine}
use Rattle.schedule_text.specs.declared.event.Event.{Event}
use Rattle.drawing.specs.Words.{shown_text}

-- one more row: of the event in this line, which is a step of this actor
pub record AddsRow (old new : List Row) (line : ℕ) (event : Event) (actor : Actor) : Type 0 where
  pub row : Row
  pub line_is : row.line ≡ line
  pub actor_is : row.actor ≡ actor
  pub words : HasLine event → string_bytes row.event ≡ shown_text event
  pub rows : new ≡ old ++ row ∷ []

-- one more datagram, which nobody took yet
pub record AddsFlight (old new : List Flight) (leg : Leg) : Type 0 where
  pub flight : Flight
  pub leg_is : flight.leg ≡ leg
  pub unreached : flight.reached.items ≡ []
  pub flights : new ≡ old ++ flight ∷ []

-- a whole picture was written
pub record Wrote (before now : Option (List ℕ)) : Type 0 where
  pub text : List ℕ
  pub whole : IsWhole text
  pub wrote : Appends before now text
