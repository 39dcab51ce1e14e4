-- What the commands of nodes run, and how each of them ends.
use Rattle.std.specs.Prelude.{◌≡◌, ◌⊎◌, ℕ, ◌<◌, List, [], ◌++◌, length, map, Bool, true, false, Option, Some, None, IsSome, ⊤}
use Rattle.std.specs.List.{flat_map, AllByRecursion}
use Rattle.std.specs.Io.KnownBytes.{Appends}
use Rattle.client_quorum.specs.Core as client
use Rattle.client_quorum.specs.Runs.{accept_count}
use Rattle.command_line.specs.declared.command.Command.{Command}
use Rattle.command_line.specs.declared.command.Command.TheVariants.{Gen, Node, Sequencer, Controller, Client, Observer, Read}
use Rattle.command_line.specs.declared.command.Site.{Site}
use Rattle.fresh_reads.specs.FreshReads as fresh
use Rattle.fresh_reads.specs.FreshReads.{fresh_count}
use Rattle.nop_types.specs.Meaning.{Meaning}
use Rattle.nop_types.specs.Given.{Given, Ticked}
use Rattle.nop_types.specs.Given as inputs
use Rattle.nop_types.specs.declared.input.Tick.TheVariants.{Install}
use Rattle.nop_types.specs.declared.output.Actor.{Actor}
use Rattle.nop_types.specs.declared.output.Actor.TheVariants as actors
use Rattle.nop_types.specs.declared.output.Out.{Out}
use Rattle.observer.specs.ObserverSteps as observer
use Rattle.one_box.specs.Showing.{LinkView}
use Rattle.replica_core.specs.ReplicaSteps as replica
use Rattle.sequencer.specs.SequencerSteps as sequencer
use Rattle.sequencer.specs.declared.state.SequencerState.{SequencerState}
use Rattle.session_control.specs.ControllerSteps as controller
use Rattle.session_control.specs.declared.state.ControllerState.{ControllerState}
use Rattle.trace_text.specs.Traces as traces
use Rattle.udp_node.specs.Effects.{Step, Stepping, effects_by, lines, step_effects}
use Rattle.udp_node.specs.NodeRun.{first_inputs}
use Rattle.udp_node.specs.declared.address.Address.{Address}
use Rattle.commands.specs.Ending.{GenEnds}
use Rattle.commands.specs.Nodes.{NodeTask, task_of, last_text, PortsView, NodeEnds}
use Rattle.commands.specs.declared.status.Status.{Status}
use Rattle.commands.specs.declared.status.Status.TheVariants as statuses

abbrev pub address_of : Site → Actor → Address
address_of site own = record { base = site.base; own = own; config = site.config }

abbrev pub never_done : {S : Type 0} → S → Bool
never_done s = false

abbrev pub replica_task : {S : Type 0} → Meaning S → ℕ → Site → NodeTask replica.Replica
replica_task m id site =
    task_of (replica.next m) never_done replica.timers (replica.opening site.config id)
    (address_of site (actors.Replica id)) (first_inputs None) site.turns false site.trace

abbrev pub sequencer_task : ℕ → Site → NodeTask SequencerState
sequencer_task id site =
    task_of sequencer.next never_done [] (sequencer.opening id)
    (address_of site (actors.Sequencer id)) (first_inputs None) site.turns false site.trace

abbrev pub install_order : Option ℕ → Option Given
install_order None = None
install_order (Some j) = Some (Ticked (Install j))

-- the install order comes before the first turn
abbrev pub controller_task : Site → ℕ → Option ℕ → NodeTask ControllerState
controller_task site number install =
    task_of controller.next never_done controller.timers (controller.opening site.config number)
    (address_of site (actors.Controller number)) (first_inputs (install_order install)) site.turns false site.trace

-- the client waits until its ops are accepted
abbrev pub client_task : ℕ → Site → List (List ℕ) → NodeTask client.Client
client_task id site ops =
    task_of client.next client.is_done client.timers (client.opening site.config id ops)
    (address_of site (actors.Client id)) (first_inputs None) site.turns true site.trace

abbrev pub observer_task : {S : Type 0} → Meaning S → ℕ → Site → NodeTask observer.Observer
observer_task m id site =
    task_of (observer.next m) never_done [] (observer.opening site.config id)
    (address_of site (actors.Observer id)) (first_inputs None) site.turns false site.trace

-- an observer is asked for the key before the first turn, and the client waits, and asks again, until it is answered at this position or
-- a higher one
abbrev pub read_task : ℕ → Site → (asked : ℕ) → (key : List ℕ) → (least : ℕ) → NodeTask fresh.FreshRead
read_task id site asked key least =
    task_of fresh.next fresh.is_done fresh.timers (fresh.opening site.config id asked key least)
    (address_of site (actors.Client id)) (first_inputs (Some (inputs.Read asked key))) site.turns true site.trace

-- how a command that runs a node ends; nothing is said here of others
abbrev pub CommandEnds : {S L : Type 0} → Meaning S → Option Command → LinkView L → PortsView L → Option (List ℕ) → Status
    → Option (List ℕ) → Option (List ℕ) → Type 0
CommandEnds m (Some (Node id site)) w p values s h i = NodeEnds (replica_task m id site) w p values s h i
CommandEnds m (Some (Sequencer id site)) w p values s h i = NodeEnds (sequencer_task id site) w p values s h i
CommandEnds m (Some (Controller site number install)) w p values s h i = NodeEnds (controller_task site number install) w p values s h i
CommandEnds m (Some (Client id site ops)) w p values s h i = NodeEnds (client_task id site ops) w p values s h i
CommandEnds m (Some (Observer id site)) w p values s h i = NodeEnds (observer_task m id site) w p values s h i
CommandEnds m (Some (Read id site asked key least)) w p values s h i = NodeEnds (read_task id site asked key least) w p values s h i
CommandEnds m _ w p values s h i = ⊤

-- ---- the answers of a client

-- what some steps gave
abbrev pub outs_of : List Step → List Out
outs_of steps = flat_map (λ (x : Step). x.outs) steps

-- a step that gave something has its lines in a trace
abbrev pub IsTold : Step → Type 0
IsTold x = (x.outs ≡ []) ⊎ IsSome (traces.taken x.given x.outs)

-- the lines of some steps were written, and then the last line
pub record Wrote (trace : Bool) (at : Address) (steps : List Step) (h i : Option (List ℕ)) : Type 0 where
  pub taken : ℕ
  pub lost : ℕ
  pub told : AllByRecursion IsTold steps
  pub line : Appends h i (lines (effects_by (step_effects trace at) (map Stepping steps)) ++ last_text trace taken lost)

-- among these lines are so many of acceptances
pub record WroteAccepts (trace : Bool) (at : Address) (count : ℕ) (h i : Option (List ℕ)) : Type 0 where
  pub steps : List Step
  pub accepts : accept_count (outs_of steps) ≡ count
  pub wrote : Wrote trace at steps h i

-- by its status: an accept line was written for each of its ops, or one lacks
abbrev pub AnswersOps : (trace : Bool) → Address → ℕ → Status → Option (List ℕ) → Option (List ℕ) → Type 0
AnswersOps trace at count statuses.Done h i = WroteAccepts trace at count h i
AnswersOps trace at count statuses.Unanswered h i = (fewer : ℕ) × (fewer < count) × WroteAccepts trace at fewer h i
AnswersOps trace at count _ h i = ⊤

-- among these lines are so many of answers whose position is not below the least
pub record WroteAnswers (trace : Bool) (at : Address) (least count : ℕ) (h i : Option (List ℕ)) : Type 0 where
  pub steps : List Step
  pub answers : fresh_count least (outs_of steps) ≡ count
  pub wrote : Wrote trace at steps h i

-- by its status: such an answer line was written, or none
abbrev pub AnswersReads : (trace : Bool) → Address → (least : ℕ) → Status → Option (List ℕ) → Option (List ℕ) → Type 0
AnswersReads trace at least statuses.Done h i = WroteAnswers trace at least 1 h i
AnswersReads trace at least statuses.Unanswered h i = WroteAnswers trace at least 0 h i
AnswersReads trace at least _ h i = ⊤

-- of a command that runs a client; nothing is said here of others
abbrev pub ClientAnswers : Option Command → Status → Option (List ℕ) → Option (List ℕ) → Type 0
ClientAnswers (Some (Client id site ops)) s h i = AnswersOps site.trace (address_of site (actors.Client id)) (length ops) s h i
ClientAnswers (Some (Read id site asked key least)) s h i = AnswersReads site.trace (address_of site (actors.Client id)) least s h i
ClientAnswers _ s h i = ⊤

-- whether a command runs a node
abbrev pub runs_node : Option Command → Bool
runs_node (Some (Node id site)) = true
runs_node (Some (Sequencer id site)) = true
runs_node (Some (Controller site number install)) = true
runs_node (Some (Client id site ops)) = true
runs_node (Some (Observer id site)) = true
runs_node (Some (Read id site asked key least)) = true
runs_node _ = false

-- whether it waits until its ops are accepted, or its read is answered
abbrev pub waits_for_answers : Option Command → Bool
waits_for_answers (Some (Client id site ops)) = true
waits_for_answers (Some (Read id site asked key least)) = true
waits_for_answers _ = false

-- ---- gen

-- how a command that draws a schedule ends; nothing is said here of others
abbrev pub DrawingEnds : {S : Type 0} → Meaning S → Option Command → Status → Option (List ℕ) → Option (List ℕ) → Type 0
DrawingEnds m (Some (Gen number count)) s h i = GenEnds m number count h i s
DrawingEnds m _ s h i = ⊤

-- whether a command draws a schedule
abbrev pub draws : Option Command → Bool
draws (Some (Gen number count)) = true
draws _ = false
