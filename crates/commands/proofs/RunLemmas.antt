-- How a command ends over its devices.
use Rattle.std.proofs.Common.{◌≡◌, ℕ, List, Bool, Option, Some, IsSome, refl, inl}
use Rattle.command_line.specs.declared.command.Command.{Command}
use Rattle.command_line.specs.declared.command.Command.TheVariants.{Replay, Check, Audit}
use Rattle.nop_types.specs.Meaning.{Meaning}
use Rattle.outside.proofs.Counts.{rose_where}
use Rattle.outside.specs.Causes.{Rose}
use Rattle.commands.specs.Audits.{AuditEnds, AuditsWithoutFault}
use Rattle.commands.specs.Checks.{CheckEnds, ChecksWithoutFault}
use Rattle.commands.specs.Ending.{ReplayEnds, EndsWithoutFault, UsageEnds, RefusesWithoutFault}
use Rattle.commands.specs.Nodes.{IsNodeStatus, ReadsTo}
use Rattle.commands.specs.Runs.{Devices, Runs, Works, Attaches, Completes, CompletesAlways}
use Rattle.commands.specs.declared.status.Status.{Status}
use Rattle.commands.specs.declared.status.Status.TheVariants as statuses
use Rattle.commands.proofs.ClusterLemmas.{cluster_ends_well, no_poll_failed, no_rise}
use Rattle.commands.proofs.CommandLemmas.{command_ends_well, draws_well}
use Rattle.commands.proofs.NodeLemmas.{rose_at}

-- nothing was read, and no fault of a read is told
pub reads_none : (n : ℕ) (s : Status) → (s ≡ statuses.ReadFault → ⊥) → ReadsTo n n s
reads_none n statuses.ReadFault never = absurd (never refl)
reads_none n statuses.WriteFault never = inl refl
reads_none n statuses.NoMemory never = inl refl
reads_none n _ never = refl

-- a node reads nothing
pub no_read : (n : ℕ) (waits : Bool) (s : Status) → IsNodeStatus waits s → ReadsTo n n s
no_read n waits s may = reads_none n s (λ is. let no : ⊥ = rw is at may in no)

module _ {S L : Type 0} (m : Meaning S) (d : Devices L) where
  replays_well : (s : Status) → ReplayEnds m d.source.before d.source.after d.sink.before d.sink.after s
      → ReadsTo d.source.faults_before d.source.faults_after s
      → (s ≡ statuses.WriteFault → Rose d.sink.faults_before d.sink.faults_after) → Works d.source → Works d.sink → EndsWithoutFault s
  replays_well statuses.Done ends read write source sink = tt
  replays_well statuses.Malformed ends read write source sink = tt
  replays_well statuses.ReadFault ends read write source sink = source (rose_at d.source.faults_before d.source.faults_after read)
  replays_well statuses.WriteFault ends read write source sink = sink (write refl)
  replays_well statuses.NoMemory ends read write source sink = tt
  replays_well _ ends read write source sink = ends

  checks_well : (s : Status) → CheckEnds m d.source.before d.source.after d.sink.before d.sink.after s
      → ReadsTo d.source.faults_before d.source.faults_after s
      → (s ≡ statuses.WriteFault → Rose d.sink.faults_before d.sink.faults_after) → Works d.source → Works d.sink → ChecksWithoutFault s
  checks_well statuses.Done ends read write source sink = tt
  checks_well statuses.ReadFault ends read write source sink = source (rose_at d.source.faults_before d.source.faults_after read)
  checks_well statuses.WriteFault ends read write source sink = sink (write refl)
  checks_well statuses.NoMemory ends read write source sink = tt
  checks_well statuses.Refuted ends read write source sink = tt
  checks_well _ ends read write source sink = ends

  audits_well : (s : Status) → AuditEnds m d.source.before d.source.after d.sink.before d.sink.after s
      → ReadsTo d.source.faults_before d.source.faults_after s
      → (s ≡ statuses.WriteFault → Rose d.sink.faults_before d.sink.faults_after) → Works d.source → Works d.sink → AuditsWithoutFault s
  audits_well statuses.Done ends read write source sink = tt
  audits_well statuses.ReadFault ends read write source sink = source (rose_at d.source.faults_before d.source.faults_after read)
  audits_well statuses.WriteFault ends read write source sink = sink (write refl)
  audits_well statuses.NoMemory ends read write source sink = tt
  audits_well statuses.Refuted ends read write source sink = tt
  audits_well _ ends read write source sink = ends

  refuses_well : (program : List ℕ) (s : Status) → UsageEnds program d.sink.before d.sink.after s
      → (s ≡ statuses.WriteFault → Rose d.sink.faults_before d.sink.faults_after) → Works d.sink → RefusesWithoutFault s
  refuses_well program statuses.Usage ends write sink = tt
  refuses_well program statuses.WriteFault ends write sink = sink (write refl)
  refuses_well program statuses.NoMemory ends write sink = tt
  refuses_well program _ ends write sink = ends

  pub completes : (c : Option Command) (s : Status) (program : List ℕ)
      → (c ≡ Some Replay → ReplayEnds m d.source.before d.source.after d.sink.before d.sink.after s)
      → (c ≡ Some Check → CheckEnds m d.source.before d.source.after d.sink.before d.sink.after s)
      → (c ≡ Some Audit → AuditEnds m d.source.before d.source.after d.sink.before d.sink.after s)
      → (¬ IsSome c → UsageEnds program d.sink.before d.sink.after s) → Runs m c d s → Completes c d s
  completes c s program replay check audit usage r = record {
    replay_complete = λ is source sink. replays_well s (replay is) r.reads (write r) source sink;
    check_complete = λ is source sink. checks_well s (check is) r.reads (write r) source sink;
    audit_complete = λ is source sink. audits_well s (audit is) r.reads (write r) source sink;
    drawing_complete = λ is sink. draws_well m c s d.sink.before d.sink.after d.sink.faults_before d.sink.faults_after is r.drawing
        (write r) sink;
    usage_complete = λ is sink. refuses_well program s (usage is) (write r) sink;
    node_complete = λ is ports sink polls. command_ends_well m d.links d.ports d.values c s d.sink.before d.sink.after
        d.sink.faults_before d.sink.faults_after is r.node ports (write r) sink polls;
    cluster_complete = λ is ports sink polls. cluster_ends_well m d.links d.ports d.values c s d.sink.before d.sink.after
        d.sink.faults_before d.sink.faults_after is r.cluster ports (write r) sink polls;
  }
    where
      write : Runs m c d s → s ≡ statuses.WriteFault → Rose d.sink.faults_before d.sink.faults_after
      write runs is = rose_where d.sink.faults_before d.sink.faults_after (s ≡ statuses.WriteFault) runs.writes is

  pub completes_always : (c : Option Command) (s : Status) → Works d.source → Works d.sink → Attaches d.ports
      → ((link : L) → d.links.faults link ≡ 0) → Completes c d s → CompletesAlways c s
  completes_always c s source sink ports none r = record {
    replay_complete = λ is. r.replay_complete is source sink;
    check_complete = λ is. r.check_complete is source sink;
    audit_complete = λ is. r.audit_complete is source sink;
    drawing_complete = λ is. r.drawing_complete is sink;
    usage_complete = λ is. r.usage_complete is sink;
    node_complete = λ is. r.node_complete is ports sink (λ link back rose. no_rise (rw (none link) at rose));
    cluster_complete = λ is. r.cluster_complete is ports sink (no_poll_failed m d.links d.ports d.values none);
  }
