-- How a command that runs a node ends.
use Rattle.std.specs.Prelude.{◌≡◌, ℕ, ◌≤◌, ◌+◌, min, List, [], ◌∷◌, ◌++◌, length, Bool, true, false, decimal, codes, Option, Some, None, option_map, ◌⊎◌, ⊤}
use Rattle.std.specs.Io.KnownBytes.{Appends}
use Rattle.nop_types.specs.Given.{Given}
use Rattle.nop_types.specs.declared.input.Tick.{Tick}
use Rattle.nop_types.specs.declared.output.Out.{Out}
use Rattle.one_box.specs.Showing.{LinkView, links_of}
use Rattle.outside.specs.Causes.{CountsWhere, Rose, next_count, StaysOrRises}
use Rattle.outside.specs.Ports.{next_link}
use Rattle.outside.specs.declared.link.PollAnswer.{PollAnswer}
use Rattle.outside.specs.declared.clock.Clock as clock_trait
use Rattle.outside.specs.declared.link.Link as link_trait
use Rattle.outside.specs.declared.ports.Ports as ports_trait
use Rattle.outside.specs.declared.sink.Sink as sink_trait
use Rattle.udp_node.specs.declared.address.Address.{Address}
use Rattle.udp_node.specs.Effects.{Effect, Line, effects_by, lines, step_effects, Done, Stopped, StoppedInLine}
use Rattle.udp_node.specs.Folding.{folded, taking, AllOutside}
use Rattle.udp_node.specs.NodeRun.{NodeRun, run_after, Broke}
use Rattle.udp_node.specs.Ports.{port_of}
use Rattle.udp_node.specs.Sends.{LinkSide, side, last_count}
use Rattle.commands.specs.declared.status.Status.{Status}
use Rattle.commands.specs.declared.status.Status.TheVariants as statuses

-- ---- the last line

abbrev pub served_line : ℕ → ℕ → List ℕ
served_line turns lost = codes "served " ++ decimal turns ++ codes " lost " ++ decimal lost ++ 10 ∷ []

-- a trace has none
abbrev pub last_text : (trace : Bool) → ℕ → ℕ → List ℕ
last_text true turns lost = []
last_text false turns lost = served_line turns lost

-- after a poll that failed nothing more is written
abbrev pub last_effects : (trace broken : Bool) → ℕ → ℕ → List Effect
last_effects trace true turns lost = []
last_effects trace false turns lost = Line (last_text trace turns lost) ∷ []

-- what a run does outside, and the last line
abbrev pub all_effects : (trace : Bool) → Address → NodeRun → ℕ → List Effect
all_effects trace at r lost = effects_by (step_effects trace at) r.acts ++ last_effects trace r.broken r.turns lost

-- ---- statuses

-- a node that waits for its core to be done ends unanswered where it is not
abbrev pub end_status : Bool → Bool → Status
end_status true true = statuses.Done
end_status true false = statuses.Unanswered
end_status false done = statuses.Done

-- the statuses of a node
abbrev pub IsNodeStatus : Bool → Status → Type 0
IsNodeStatus waits statuses.Done = ⊤
IsNodeStatus waits statuses.WriteFault = ⊤
IsNodeStatus waits statuses.LinkFault = ⊤
IsNodeStatus waits statuses.NoMemory = ⊤
IsNodeStatus waits statuses.Unanswered = waits ≡ true
IsNodeStatus waits _ = ⊥

-- those without a fault of a device
abbrev pub EndsNodeWithoutFault : Bool → Status → Type 0
EndsNodeWithoutFault waits statuses.Done = ⊤
EndsNodeWithoutFault waits statuses.NoMemory = ⊤
EndsNodeWithoutFault waits statuses.Unanswered = waits ≡ true
EndsNodeWithoutFault waits _ = ⊥

-- A count of failed reads: where the status is a fault of a read it rose by one, and else no read failed. But after a failed read
-- something is written: what fails there is told in its place.
abbrev pub ReadsTo : ℕ → ℕ → Status → Type 0
ReadsTo before now statuses.ReadFault = now ≡ next_count before
ReadsTo before now statuses.WriteFault = StaysOrRises before now
ReadsTo before now statuses.NoMemory = StaysOrRises before now
ReadsTo before now _ = now ≡ before

-- the statuses where no link was attached
abbrev pub IsUnattachedStatus : Status → Type 0
IsUnattachedStatus statuses.LinkFault = ⊤
IsUnattachedStatus statuses.NoMemory = ⊤
IsUnattachedStatus _ = ⊥

-- ---- a run and its last line

-- the run was taken to its end, and its line was written
pub record Finished (trace : Bool) (at : Address) (waits : Bool) (r : NodeRun) (s : Status) (a b : LinkSide) (h i : Option (List ℕ)) : Type 0 where
  pub lost : ℕ
  pub works : r.broken ≡ false
  pub ends : s ≡ end_status waits r.done
  pub effects : Done (all_effects trace at r lost) a (record b { lost = lost }) h i

-- by its status
abbrev pub RunEnds : (trace : Bool) → Address → (waits : Bool) → NodeRun → Status → LinkSide → LinkSide → Option (List ℕ)
    → Option (List ℕ) → Type 0
RunEnds trace at waits r statuses.Done a b h i = Finished trace at waits r statuses.Done a b h i
RunEnds trace at waits r statuses.WriteFault a b h i =
    (lost : ℕ) × StoppedInLine (all_effects trace at r lost) a (record b { lost = lost }) h i
RunEnds trace at waits r statuses.LinkFault a b h i = (lost : ℕ) × Broke (step_effects trace at) r a (record b { lost = lost }) h i
RunEnds trace at waits r statuses.NoMemory a b h i = (lost : ℕ) × Stopped (all_effects trace at r lost) a (record b { lost = lost }) h i
RunEnds trace at waits r statuses.Unanswered a b h i = Finished trace at waits r statuses.Unanswered a b h i
RunEnds trace at waits r _ a b h i = ⊥

-- ---- what a node runs from

-- its core's step table and opening, its address, the inputs before the first turn, the most turns, whether it waits for its core to be
-- done, and whether it writes a trace
pub record NodeTask (S : Type 0) : Type 0 where
  pub next : S → Given → S × List Out
  pub is_done : S → Bool
  pub timers : List (Tick × ℕ)
  pub opening : S
  pub at : Address
  pub first : List Given
  pub turns : ℕ
  pub waits : Bool
  pub trace : Bool

abbrev pub task_of : {S : Type 0} → (S → Given → S × List Out) → (S → Bool) → List (Tick × ℕ) → S → Address → List Given → ℕ
    → (waits trace : Bool) → NodeTask S
task_of next is_done timers opening at first turns waits trace = record {
  next = next;
  is_done = is_done;
  timers = timers;
  opening = opening;
  at = at;
  first = first;
  turns = turns;
  waits = waits;
  trace = trace;
}

abbrev pub run_of : {S : Type 0} → NodeTask S → List PollAnswer → List ℕ → NodeRun
run_of k answers values = run_after k.next k.is_done k.first k.timers k.turns k.opening answers values

-- where link and clock are observable, it is the run over it
abbrev pub RunObserved : {S : Type 0} → NodeTask S → Option (List PollAnswer) → Option (List ℕ) → Status
    → LinkSide → LinkSide → Option (List ℕ) → Option (List ℕ) → Type 0
RunObserved k None values s a b h i = ⊤
RunObserved k (Some answers) None s a b h i = ⊤
RunObserved k (Some answers) (Some values) s a b h i = RunEnds k.trace k.at k.waits (run_of k answers values) s a b h i

-- ---- the last line over any link and clock

-- The core took the first inputs and then some packets and ticks, the lines of its steps were written, and then the last line. That
-- says no more turns than there were, and all of them where a client is unanswered, and no more losses than the link counted in the run, unless its count
-- stands at the end of 64 bits. The status tells whether the core is done.
pub record LastLine {S : Type 0} (k : NodeTask S) (losses losses_now : ℕ) (s : Status) (h i : Option (List ℕ)) : Type 0 where
  pub inputs : List Given
  pub outside : AllOutside inputs
  pub taken : ℕ
  pub lost : ℕ
  pub most : taken ≤ k.turns
  pub all : s ≡ statuses.Unanswered → taken ≡ k.turns
  pub counted : min (losses + lost) last_count ≤ losses_now
  pub ends : s ≡ end_status k.waits (k.is_done (folded k.next k.opening (k.first ++ inputs)).0)
  pub line : Appends h i (lines (effects_by (step_effects k.trace k.at) (taking k.next k.opening (k.first ++ inputs)))
      ++ last_text k.trace taken lost)

-- by its status
abbrev pub EndsInLine : {S : Type 0} → NodeTask S → ℕ → ℕ → Status → Option (List ℕ) → Option (List ℕ) → Type 0
EndsInLine k losses losses_now statuses.Done h i = LastLine k losses losses_now statuses.Done h i
EndsInLine k losses losses_now statuses.Unanswered h i = LastLine k losses losses_now statuses.Unanswered h i
EndsInLine k losses losses_now _ h i = ⊤

-- ---- over ports

-- ports before and after: the polls to come, the links that were given back, the failed attaches, and those that did not fail
pub record PortsView (L : Type 0) : Type 0 where
  pub to_come : Option (List (List PollAnswer))
  pub before : List L
  pub after : List L
  pub faults_before : ℕ
  pub faults_after : ℕ
  pub attached_before : ℕ
  pub attached_after : ℕ

abbrev pub ports_view : {L : Type 0} → Option (List (List PollAnswer)) → List L → List L → ℕ → ℕ → ℕ → ℕ → PortsView L
ports_view to_come before after faults_before faults_after attached_before attached_after = record {
  to_come = to_come;
  before = before;
  after = after;
  faults_before = faults_before;
  faults_after = faults_after;
  attached_before = attached_before;
  attached_after = attached_after;
}

-- what is seen of ports
abbrev pub ports_of : {P L : Type 0} → ports_trait.Ghosts P L → P → P → PortsView L
ports_of p old new =
    ports_view (p.to_come old) (p.detached old) (p.detached new) (p.fault_count old) (p.fault_count new) (p.attached old) (p.attached new)

-- no link was attached, and nothing was written
pub record Unattached {L : Type 0} (p : PortsView L) (s : Status) (h i : Option (List ℕ)) : Type 0 where
  pub given_back : p.after ≡ p.before
  pub status : IsUnattachedStatus s
  pub cause : s ≡ statuses.LinkFault → Rose p.faults_before p.faults_after
  pub written : i ≡ h

-- the node ran over a link at its own port, which the ports hold at the end
pub record Attached {S L : Type 0} (k : NodeTask S) (w : LinkView L) (p : PortsView L) (values : Option (List ℕ)) (s : Status)
    (h i : Option (List ℕ)) : Type 0 where
  pub link : L
  pub given_back : p.after ≡ p.before ++ link ∷ []
  pub port : w.port link ≡ port_of k.at.base k.at.own
  pub status : IsNodeStatus k.waits s
  pub cause : s ≡ statuses.LinkFault → Rose 0 (w.faults link)
  pub last : EndsInLine k 0 (w.losses link) s h i
  pub run : RunObserved k (option_map next_link p.to_come) values s (side (Some []) 0 0) (side (w.trace link) 0 (w.losses link)) h i

abbrev pub NodeEnds : {S L : Type 0} → NodeTask S → LinkView L → PortsView L → Option (List ℕ) → Status → Option (List ℕ) → Option (List ℕ)
    → Type 0
NodeEnds k w p values s h i = Unattached p s h i ⊎ Attached k w p values s h i

-- A command that runs a node over its ports, its clock and its sink: how it ends, and with which status. Each link is given back. An
-- attach that fails is told by LinkFault; WriteFault comes where a write failed, and a write that fails is told by nothing else.
pub record NodeEndsOver {S P L T K : Type 0} (link : link_trait.Ghosts L) (ports : ports_trait.Ghosts P L) (clock : clock_trait.Ghosts T)
    (sink : sink_trait.Ghosts K) (k : NodeTask S) (old new : P) (time : T) (before now : K) (s : Status) : Type 0 where
  pub ends : NodeEnds k (links_of link) (ports_of ports old new) (clock.values time) s (sink.held before) (sink.held now)
  pub status : IsNodeStatus k.waits s
  pub back : ports.attached new + length (ports.detached old) ≡ ports.attached old + length (ports.detached new)
  pub attaches : ¬ (s ≡ statuses.LinkFault) → ports.fault_count new ≡ ports.fault_count old
  pub writes : CountsWhere (sink.fault_count before) (sink.fault_count now) (s ≡ statuses.WriteFault)
