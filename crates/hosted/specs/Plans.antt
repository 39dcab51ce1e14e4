-- Who is to run, by the text of a list of hosts and what the program is asked for.
use Rattle.std.specs.Prelude.{◌≡◌, ℕ, List, ◌++◌, Bool, true, false, ◌==◌, ◌&&◌, if◌then◌else◌, Option, Some, None, Result, Ok, Err, is_some, ⊤}
use Rattle.nop_types.specs.declared.output.Actor.{Actor}
use Rattle.nop_types.specs.declared.output.Actor.TheVariants as actors
use Rattle.host_list.specs.Lists.{address_with}
use Rattle.host_list.specs.Reading.{list_of}
use Rattle.host_list.specs.declared.list.HostList.{HostList}
use Rattle.host_list.specs.declared.rule.Refusal.{Refusal}
use Rattle.host_places.specs.Tables.{address_in}
use Rattle.command_line.specs.Commands.{command_of, texts_of}
use Rattle.command_line.specs.declared.command.Command.{Command}
use Rattle.command_line.specs.declared.command.Command.TheVariants.{Node, Sequencer, Controller, Client, Observer}
use Rattle.command_line.specs.declared.command.Site.{Site}
use Rattle.udp_node.specs.declared.address.Address.{Address}
use Rattle.hosted.specs.Actors.{named}
use Rattle.hosted.specs.Arguments.{Asked, own_words}
use Rattle.hosted.specs.declared.plans.Plan.{Plan}
use Rattle.hosted.specs.declared.unfit.Unfit.{Unfit}
use Rattle.hosted.specs.declared.unfit.Unfit.TheVariants as unfits

-- ---- an actor

abbrev pub if_listed : HostList → Option Actor → Option Actor
if_listed list None = None
if_listed list (Some actor) = if is_some (address_with list actor) then Some actor else None

-- the actor with this name, if the list has an address for it
abbrev pub listed : HostList → List ℕ → Option Actor
listed list name = if_listed list (named list.config name)

-- ---- a command

-- the base port, and how many replicas and sequencers there are
abbrev pub is_site : Address → Site → Bool
is_site at site =
    (site.base == at.base) && ((site.config.replicas == at.config.replicas) && (site.config.sequencers == at.config.sequencers))

-- the command runs this actor among these; a replica knows how many observers there are
abbrev pub is_own : Address → Actor → Command → Bool
is_own at (actors.Replica i) (Node id site) = (id == i) && (is_site at site && (site.config.observers == at.config.observers))
is_own at (actors.Sequencer i) (Sequencer id site) = (id == i) && is_site at site
is_own at (actors.Controller i) (Controller site id install) = (id == i) && is_site at site
is_own at (actors.Client i) (Client id site ops) = (id == i) && is_site at site
is_own at (actors.Observer i) (Observer id site) = (id == i) && is_site at site
is_own at actor command = false

-- the words ask for a command, and it runs the own actor of the address
abbrev pub runs_own : Address → Option Command → Bool
runs_own at None = false
runs_own at (Some command) = is_own at at.own command

-- ---- who is to run

-- by the words of its command, and then the user's
abbrev pub planned_at : Asked → Address → Result Address Unfit
planned_at asked at = if runs_own at (command_of (own_words at ++ asked.rest)) then Ok at else Err unfits.Usage

abbrev pub planned_of : Asked → HostList → Option Actor → Result Address Unfit
planned_of asked list None = Err unfits.Usage
planned_of asked list (Some actor) = planned_at asked (address_in list actor)

abbrev pub planned_in : Asked → Result HostList Refusal → Result Address Unfit
planned_in asked (Err refusal) = Err (unfits.List refusal)
planned_in asked (Ok list) = planned_of asked list (listed list asked.actor)

-- the actor that is asked for, if the list has it and its command is taken; else why nothing is run
abbrev pub planned : List ℕ → Asked → Result Address Unfit
planned text asked = planned_in asked (list_of text)

-- the actor that is to run, the list, and the words by which `commands` runs it
pub record IsPlan (text : List ℕ) (asked : Asked) (plan : Plan) : Type 0 where
  pub actor : planned text asked ≡ Ok plan.at
  pub list : list_of text ≡ Ok plan.list
  pub words : texts_of plan.words.items ≡ own_words plan.at ++ asked.rest
  pub own : runs_own plan.at (command_of (texts_of plan.words.items)) ≡ true

-- memory may run out; else it is as planned
abbrev pub PlanIs : List ℕ → Asked → Result Plan Unfit → Type 0
PlanIs text asked (Ok plan) = IsPlan text asked plan
PlanIs text asked (Err unfits.NoMemory) = ⊤
PlanIs text asked (Err unfit) = planned text asked ≡ Err unfit
