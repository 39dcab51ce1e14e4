-- What the actors of the code stand for.
use Rattle.std.specs.Prelude.{◌≡◌, List, length, map, Option, IfSome, IsTrue, Result, Ok}
use Rattle.std.specs.List.{list_all}
use Rattle.nop_types.specs.Lines.{Line}
use Rattle.nop_types.specs.declared.output.Actor.{Actor}
use Rattle.nop_types.specs.declared.output.Actor.TheVariants as actors
use Rattle.nop_types.specs.declared.output.Out.{Out}
use Rattle.world.specs.declared.actors.Actors.{Actors}
use Rattle.network.specs.declared.lines.Lines.{Lines}
use Rattle.network.specs.LineCounts.{Shows}
use Rattle.network.specs.Network.{Did, did_of, lines_by}
use Rattle.world.specs.Archive.{archived}
use Rattle.world.specs.SeatOutcomes.{seated_of}
use Rattle.world.specs.Untrimmed.{has_line}
use Rattle.world.specs.WorldSteps.{WorldState, Refusal, Happened}

abbrev pub world_of : {H U : Type 0} → Actors H U → WorldState
world_of a =
    record {
      config = a.config;
      replicas = map (seated_of (λ r. r.state)) a.replicas.items;
      others = record {
        sequencers = map (seated_of (λ s. s.state)) a.sequencers.items;
        clients = map (seated_of (λ c. c.state)) a.clients.items;
        controllers = map (seated_of (λ c. c.state)) a.controllers.items;
      };
      observers = map (seated_of (λ o. o.state)) a.observers.items;
      sent = a.network;
      archive = a.archive;
    }

-- the world with what moved out of logs, which only replicas have, in its archive
abbrev pub moved_out : Actor → Did → WorldState → WorldState
moved_out (actors.Replica i) did w = record w { archive = archived w.archive did }
moved_out _ did w = w

-- the event happened: this is the world after it, and the lines are these
pub record Happens (r : Result Happened Refusal) (new : WorldState) (lines : Lines) : Type 0 where
  pub are : List Line
  pub is : r ≡ Ok (record { world = new; lines = are })
  pub shown : Shows lines are

-- the event happened: this is the world after it, and this is what its actor gave, each output with its line
pub record Gives (r : Result Happened Refusal) (actor : Actor) (old new : WorldState) (given : Option (List Out)) : Type 0 where
  pub is : r ≡ Ok (record { world = new; lines = lines_by actor (length old.sent) (did_of given) })
  pub have_lines : IfSome given (λ os. IsTrue (list_all has_line os))
