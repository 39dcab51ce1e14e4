-- How a command ends, by what is seen of its devices.
use Rattle.std.specs.Prelude.{◌≡◌, ℕ, ◌+◌, ◌++◌, List, [], ◌∷◌, length, true, Option, Some, IsSome}
use Rattle.command_line.specs.declared.command.Command.{Command}
use Rattle.command_line.specs.declared.command.Command.TheVariants.{Replay, Check, Audit}
use Rattle.nop_types.specs.Meaning.{Meaning}
use Rattle.one_box.specs.Boxing.{PollFailed}
use Rattle.one_box.specs.Showing.{LinkView}
use Rattle.outside.specs.Causes.{CountsWhere, Rose}
use Rattle.outside.specs.declared.sink.Sink as sink_trait
use Rattle.outside.specs.declared.source.Source as source_trait
use Rattle.commands.specs.Audits.{AuditsWithoutFault}
use Rattle.commands.specs.Checks.{ChecksWithoutFault}
use Rattle.commands.specs.Clusters.{ClusterCommandEnds, ClusterEndsWithoutFault, runs_cluster, uses_ports}
use Rattle.commands.specs.Ending.{EndsWithoutFault, GeneratesWithoutFault, RefusesWithoutFault}
use Rattle.commands.specs.Nodes.{EndsNodeWithoutFault, PortsView, ReadsTo}
use Rattle.commands.specs.Tasks.{ClientAnswers, CommandEnds, DrawingEnds, draws, runs_node, waits_for_answers}
use Rattle.commands.specs.declared.status.Status.{Status}
use Rattle.commands.specs.declared.status.Status.TheVariants as statuses

-- the bytes of a source or a sink before and after, and how many calls had failed
pub record BytesView : Type 0 where
  pub before : Option (List ℕ)
  pub after : Option (List ℕ)
  pub faults_before : ℕ
  pub faults_after : ℕ

-- what is seen of all devices: the values are those of the clock
pub record Devices (L : Type 0) : Type 0 where
  pub source : BytesView
  pub sink : BytesView
  pub ports : PortsView L
  pub links : LinkView L
  pub values : Option (List ℕ)

abbrev pub bytes_view : Option (List ℕ) → Option (List ℕ) → ℕ → ℕ → BytesView
bytes_view before after faults_before faults_after =
    record { before = before; after = after; faults_before = faults_before; faults_after = faults_after }

abbrev pub source_of : {S : Type 0} → source_trait.Ghosts S → S → S → BytesView
source_of s old new = bytes_view (s.left old) (s.left new) (s.fault_count old) (s.fault_count new)

abbrev pub sink_of : {K : Type 0} → sink_trait.Ghosts K → K → K → BytesView
sink_of k old new = bytes_view (k.held old) (k.held new) (k.fault_count old) (k.fault_count new)

abbrev pub devices : {L : Type 0} → BytesView → BytesView → PortsView L → LinkView L → Option (List ℕ) → Devices L
devices source sink ports links values =
    record { source = source; sink = sink; ports = ports; links = links; values = values }

-- what a command does over its devices
pub record Runs {S L : Type 0} (m : Meaning S) (c : Option Command) (d : Devices L) (s : Status) : Type 0 where
  pub drawing : DrawingEnds m c s d.sink.before d.sink.after
  pub node : CommandEnds m c d.links d.ports d.values s d.sink.before d.sink.after
  pub cluster : ClusterCommandEnds m c d.links d.ports d.values s d.sink.before d.sink.after
  -- over any link
  pub client : ClientAnswers c s d.sink.before d.sink.after
  pub back : uses_ports c ≡ true → d.ports.attached_after + length d.ports.before ≡ d.ports.attached_before + length d.ports.after
  pub attaches : ¬ (s ≡ statuses.LinkFault) → d.ports.faults_after ≡ d.ports.faults_before
  -- whatever the command is
  pub reads : ReadsTo d.source.faults_before d.source.faults_after s
  pub writes : CountsWhere d.sink.faults_before d.sink.faults_after (s ≡ statuses.WriteFault)

-- no call on it failed
abbrev pub Works : BytesView → Type 0
Works b = ¬ Rose b.faults_before b.faults_after

-- no attach failed
abbrev pub Attaches : {L : Type 0} → PortsView L → Type 0
Attaches p = ¬ Rose p.faults_before p.faults_after

-- where no call failed, no fault is told
pub record Completes {L : Type 0} (c : Option Command) (d : Devices L) (s : Status) : Type 0 where
  pub replay_complete : c ≡ Some Replay → Works d.source → Works d.sink → EndsWithoutFault s
  pub check_complete : c ≡ Some Check → Works d.source → Works d.sink → ChecksWithoutFault s
  pub audit_complete : c ≡ Some Audit → Works d.source → Works d.sink → AuditsWithoutFault s
  pub drawing_complete : draws c ≡ true → Works d.sink → GeneratesWithoutFault s
  pub usage_complete : ¬ IsSome c → Works d.sink → RefusesWithoutFault s
  -- where no poll of the link failed
  pub node_complete : runs_node c ≡ true → Attaches d.ports → Works d.sink
      → ((link : L) → d.ports.after ≡ d.ports.before ++ link ∷ [] → ¬ Rose 0 (d.links.faults link))
      → EndsNodeWithoutFault (waits_for_answers c) s
  -- where no poll of a link failed
  pub cluster_complete : runs_cluster c ≡ true → Attaches d.ports → Works d.sink → ¬ PollFailed d.links d.ports.before d.ports.after
      → ClusterEndsWithoutFault s

-- the same over devices that never fail
pub record CompletesAlways (c : Option Command) (s : Status) : Type 0 where
  pub replay_complete : c ≡ Some Replay → EndsWithoutFault s
  pub check_complete : c ≡ Some Check → ChecksWithoutFault s
  pub audit_complete : c ≡ Some Audit → AuditsWithoutFault s
  pub drawing_complete : draws c ≡ true → GeneratesWithoutFault s
  pub usage_complete : ¬ IsSome c → RefusesWithoutFault s
  pub node_complete : runs_node c ≡ true → EndsNodeWithoutFault (waits_for_answers c) s
  pub cluster_complete : runs_cluster c ≡ true → ClusterEndsWithoutFault s
