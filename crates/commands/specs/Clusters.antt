-- How a cluster in one process ends.
use Rattle.std.specs.Prelude.{◌≡◌, ℕ, List, Bool, true, false, ◌||◌, Option, Some, Result, Ok, Err, ◌⊎◌, ⊤}
use Rattle.std.specs.Io.KnownBytes.{Appends}
use Rattle.command_line.specs.declared.command.Command.{Command}
use Rattle.command_line.specs.declared.command.Command.TheVariants.{Cluster}
use Rattle.command_line.specs.declared.command.Site.{Site}
use Rattle.nop_types.specs.Meaning.{Meaning}
use Rattle.one_box.specs.Boxing.{EndsWith, PollFailed, Ran, Replays, text_of}
use Rattle.one_box.specs.Showing as boxed
use Rattle.one_box.specs.declared.boxed.Boxed.{Boxed}
use Rattle.one_box.specs.declared.errors.ClusterError.{ClusterError}
use Rattle.one_box.specs.declared.errors.ClusterError.TheVariants as errors
use Rattle.outside.specs.Causes.{Rose}
use Rattle.commands.specs.Nodes.{PortsView}
use Rattle.commands.specs.Tasks.{runs_node}
use Rattle.commands.specs.declared.status.Status.{Status}
use Rattle.commands.specs.declared.status.Status.TheVariants as statuses

module _ {S L : Type 0} (m : Meaning S) (site : Site) (ops : List (List ℕ)) (w : boxed.LinkView L) (p : PortsView L)
    (values : Option (List ℕ)) where
  -- the cluster was served with this result, over the ports before and after
  abbrev pub ServesAll : Result Boxed ClusterError → Option (List ℕ) → Option (List ℕ) → Type 0
  ServesAll result h i =
      EndsWith m w site.config ops site.base site.turns p.to_come values p.before p.after result h i

  -- what is written of a run that was taken to its end
  abbrev pub cluster_text : (boxed : Boxed) → Ran m w site.config ops site.base site.turns p.to_come values p.before p.after boxed → List ℕ
  cluster_text boxed r = text_of m w site.config ops site.base site.turns r.events r.happened boxed

  -- The run was taken to its end and written; all ops were accepted, or not. The schedule that was written has no bad line, and is read as
  -- the events of this run; what a replay writes for it is the transcript behind it.
  pub record ClusterFinished (done : Bool) (h i : Option (List ℕ)) : Type 0 where
    pub boxed : Boxed
    pub same_done : boxed.done ≡ done
    pub ran : Ran m w site.config ops site.base site.turns p.to_come values p.before p.after boxed
    pub wrote : Appends h i (cluster_text boxed ran)
    pub replays : Replays m site.config ran.events ran.happened boxed (cluster_text boxed ran)

  -- an attach failed, or the poll of a link that was given back
  pub record ClusterBroke (h i : Option (List ℕ)) : Type 0 where
    pub serves : ServesAll (Err errors.LinkFault) h i
    pub cause : Rose p.faults_before p.faults_after ⊎ PollFailed w p.before p.after

  -- by its status
  abbrev pub ClusterEnds : Status → Option (List ℕ) → Option (List ℕ) → Type 0
  ClusterEnds statuses.Done h i = ClusterFinished true h i
  ClusterEnds statuses.WriteFault h i = ServesAll (Err errors.WriteFault) h i
  ClusterEnds statuses.LinkFault h i = ClusterBroke h i
  ClusterEnds statuses.NoMemory h i = ServesAll (Err errors.NoMemory) h i
  ClusterEnds statuses.Unanswered h i = ClusterFinished false h i
  ClusterEnds _ h i = ⊥

-- how a command that runs a cluster ends; nothing is said here of others
abbrev pub ClusterCommandEnds : {S L : Type 0} → Meaning S → Option Command → boxed.LinkView L → PortsView L → Option (List ℕ)
    → Status → Option (List ℕ) → Option (List ℕ) → Type 0
ClusterCommandEnds m (Some (Cluster site ops)) w p values s h i = ClusterEnds m site ops w p values s h i
ClusterCommandEnds m _ w p values s h i = ⊤

-- whether a command runs a cluster
abbrev pub runs_cluster : Option Command → Bool
runs_cluster (Some (Cluster site ops)) = true
runs_cluster _ = false

-- whether a command uses ports and the clock
abbrev pub uses_ports : Option Command → Bool
uses_ports c = runs_node c || runs_cluster c

-- how a cluster ends where no device failed
abbrev pub ClusterEndsWithoutFault : Status → Type 0
ClusterEndsWithoutFault statuses.Done = ⊤
ClusterEndsWithoutFault statuses.NoMemory = ⊤
ClusterEndsWithoutFault statuses.Unanswered = ⊤
ClusterEndsWithoutFault _ = ⊥
