-- How a cluster in one process ends.
use Rattle.std.specs.Prelude.{◌≡◌, ◌≤◌, ◌+◌, ◌*◌, ◌++◌, ◌==◌, ◌⊎◌, ℕ, List, length, map, sum, count_by, true, false, ⊤, Option, Some, None, Result, Ok, Err}
use Rattle.std.specs.Io.KnownBytes.{Appends}
use Rattle.nop_types.specs.Configuration.{Configuration}
use Rattle.nop_types.specs.Meaning.{Meaning}
use Rattle.nop_types.specs.declared.limits.TheConstants.{MAX_LINES}
use Rattle.outside.specs.Causes.{Rose}
use Rattle.outside.specs.Prefixes.{AppendsPrefix}
use Rattle.outside.specs.declared.errors.DeviceError.{DeviceError}
use Rattle.outside.specs.declared.errors.DeviceError.TheVariants.{Failed}
use Rattle.outside.specs.declared.errors.DeviceError.TheVariants as devices
use Rattle.outside.specs.declared.link.PollAnswer.{PollAnswer}
use Rattle.replay.specs.Output.{output}
use Rattle.printed_runs.specs.Printing.{IsReadAs, printed}
use Rattle.safety.specs.Safe.{SafelyPassed}
use Rattle.schedule_text.specs.declared.event.Event.{Event}
use Rattle.transcript_text.specs.Transcript.{lines_text}
use Rattle.udp_node.specs.Effects.{WrotePrefix}
use Rattle.network.specs.LineCounts.{is_accept}
use Rattle.world.specs.WorldSteps.{Happened, run}
use Rattle.one_box.specs.declared.boxed.Boxed.{Boxed}
use Rattle.one_box.specs.declared.errors.ClusterError.{ClusterError}
use Rattle.one_box.specs.declared.errors.ClusterError.TheVariants.{LinkFault, WriteFault, NoMemory}
use Rattle.one_box.specs.declared.node.BoxActor as code_node
use Rattle.one_box.specs.declared.serving.Taken.{Taken}
use Rattle.one_box.specs.Actors.{actors_of}
use Rattle.one_box.specs.Attaching.{place_for, lost_by}
use Rattle.one_box.specs.ClusterRun.{Course, ClusterRun, all_accepted, cluster_run}
use Rattle.one_box.specs.Counting.{most_of_turn}
use Rattle.one_box.specs.Running.{IsRunIf}
use Rattle.one_box.specs.Showing.{LinkView, AllShow, AllLostFit, HasFault, IsLedTo, place_of}
use Rattle.one_box.specs.Text.{cluster_text, served_line}

-- a port that has no link and a poll that failed are told alike
abbrev pub error_of : DeviceError → ClusterError
error_of Failed = LinkFault
error_of devices.NoMemory = NoMemory

-- ---- writing

-- the text was written and the run told, or a front of the text was written
abbrev pub WritesRun : List ℕ → Boxed → Result Boxed ClusterError → Option (List ℕ) → Option (List ℕ) → Type 0
WritesRun text boxed (Ok given) before now = (given ≡ boxed) × Appends before now text
WritesRun text boxed (Err LinkFault) before now = ⊥
WritesRun text boxed (Err WriteFault) before now = AppendsPrefix before now text
WritesRun text boxed (Err NoMemory) before now = WrotePrefix text before now

-- The schedule that was written has no bad line, and is read as the run of these events. So what was written is the schedule, what a replay
-- writes for it, and the last line.
pub record Replays {S : Type 0} (m : Meaning S) (c : Configuration) (es : List Event) (h : Happened) (boxed : Boxed) (written : List ℕ)
    : Type 0 where
  pub read : IsReadAs m 1 c es h (printed 1 c es)
  pub parts : written ≡ printed 1 c es ++ ((output m true (printed 1 c es)).text ++ served_line boxed.turns boxed.lost boxed.stray)

-- ---- the run

-- where the ports and the clock are observable, there is no run over it
abbrev pub IsNoRun : {S : Type 0} → Meaning S → Configuration → List (List ℕ) → ℕ → ℕ → Option (List (List PollAnswer))
    → Option (List ℕ) → Type 0
IsNoRun m c ops base turns None values = ⊤
IsNoRun m c ops base turns (Some polls) None = ⊤
IsNoRun m c ops base turns (Some polls) (Some values) = cluster_run m c ops base turns values polls ≡ None

module _ {S L : Type 0} (m : Meaning S) (v : LinkView L) (c : Configuration) (ops : List (List ℕ)) (base turns : ℕ) where
  -- where the ports and the clock are observable, it is the run over it
  abbrev pub IsObservedRun : Option (List (List PollAnswer)) → Option (List ℕ) → Taken → Course → List (code_node.BoxActor L) → Type 0
  IsObservedRun None values taken course xs = ⊤
  IsObservedRun (Some polls) None taken course xs = ⊤
  IsObservedRun (Some polls) (Some values) taken course xs = IsRunIf v (cluster_run m c ops base turns values polls) taken course xs

  -- the turns were taken: the events lead to the course, and each actor has a link at its port
  pub record RanTurns (polls : Option (List (List PollAnswer))) (values : Option (List ℕ)) (given_back given_back_now : List L)
      (taken : Taken) (course : Course) (xs : List (code_node.BoxActor L)) : Type 0 where
    pub observed : IsObservedRun polls values taken course xs
    pub led : IsLedTo m c course
    pub done : taken.done ≡ all_accepted ops course
    pub spent : taken.done ≡ false → taken.turns ≡ turns
    pub lost : AllLostFit v xs
    pub places : map (place_of v) xs ≡ map (place_for base c) (actors_of c)
    pub given : given_back_now ≡ given_back

  -- a poll failed
  pub record BreaksOff (polls : Option (List (List PollAnswer))) (values : Option (List ℕ)) (given_back given_back_now : List L)
      (xs : List (code_node.BoxActor L)) : Type 0 where
    pub given : given_back_now ≡ given_back
    pub fault : HasFault v xs
    pub none : IsNoRun m c ops base turns polls values

  -- or a port had no link
  abbrev pub RunsOr : Option (List (List PollAnswer)) → Option (List ℕ) → ℕ → ℕ → List L → List L → Result Taken DeviceError → Course
      → List (code_node.BoxActor L) → Type 0
  RunsOr polls values faults faults_now given_back given_back_now (Ok taken) course xs =
      RanTurns polls values given_back given_back_now taken course xs
  RunsOr polls values faults faults_now given_back given_back_now (Err Failed) course xs =
      Rose faults faults_now ⊎ BreaksOff polls values given_back given_back_now xs
  RunsOr polls values faults faults_now given_back given_back_now (Err devices.NoMemory) course xs = ⊤

  -- it is the run over these values and answers: its events, turns and counts are told, and each link sent what its actor sent
  pub record Reports (values : List ℕ) (polls : List (List PollAnswer)) (es : List Event) (boxed : Boxed) (xs : List (code_node.BoxActor L))
      : Type 0 where
    pub whole : ClusterRun
    pub is : cluster_run m c ops base turns values polls ≡ Some whole
    pub kept : whole.course.events ≡ es
    pub taken : whole.turns ≡ boxed.turns
    pub strays : whole.course.stray ≡ boxed.stray
    pub ends : whole.done ≡ boxed.done
    pub links : AllShow v whole.nodes xs

  abbrev pub ReportsOf : Option (List (List PollAnswer)) → Option (List ℕ) → List Event → Boxed → List (code_node.BoxActor L) → Type 0
  ReportsOf None values events boxed xs = ⊤
  ReportsOf (Some polls) None events boxed xs = ⊤
  ReportsOf (Some polls) (Some values) events boxed xs = Reports values polls events boxed xs

  -- The events that were kept are not refused, and what they lead to is safe; there are no more of them than so many turns may have. Each
  -- actor had a link at its port, which was given back, and the failed sends of all links are told: no more than the links counted, whatever
  -- they tell.
  pub record Ran (polls : Option (List (List PollAnswer))) (values : Option (List ℕ)) (given_back given_back_now : List L) (boxed : Boxed)
      : Type 0 where
    pub events : List Event
    pub happened : Happened
    pub led : run m c events ≡ Ok happened
    pub safely : SafelyPassed m c events happened
    pub done : boxed.done ≡ (count_by is_accept happened.lines == length ops)
    pub spent : boxed.done ≡ false → boxed.turns ≡ turns
    pub few : length events ≤ turns * most_of_turn
    pub nodes : List (code_node.BoxActor L)
    pub back : given_back_now ≡ given_back ++ map (λ x. x.link) nodes
    pub places : map (place_of v) nodes ≡ map (place_for base c) (actors_of c)
    pub lost : boxed.lost ≡ lost_by nodes
    pub most : boxed.lost ≤ sum (map (λ x. v.losses x.link) nodes)
    pub tells : ReportsOf polls values events boxed nodes

  -- what is written: the schedule of these events, its transcript, and the last line
  abbrev pub text_of : List Event → Happened → Boxed → List ℕ
  text_of events happened boxed =
      cluster_text c events (lines_text happened.lines) happened.world boxed.turns boxed.lost boxed.stray

  -- the same where the schedule has no more lines than one may have
  abbrev pub ReplaysWithin : List Event → Happened → Boxed → Type 0
  ReplaysWithin events happened boxed =
      1 + length events ≤ MAX_LINES → Replays m c events happened boxed (text_of events happened boxed)

  -- by how the call ended: with a run whose text was written, which replays, or a front of it, or before anything was written
  abbrev pub EndsWith : Option (List (List PollAnswer)) → Option (List ℕ) → List L → List L → Result Boxed ClusterError
      → Option (List ℕ) → Option (List ℕ) → Type 0
  EndsWith polls values given_back given_back_now (Ok boxed) before now =
      (r : Ran polls values given_back given_back_now boxed) × Appends before now (text_of r.events r.happened boxed)
      × ReplaysWithin r.events r.happened boxed
  EndsWith polls values given_back given_back_now (Err LinkFault) before now = now ≡ before
  EndsWith polls values given_back given_back_now (Err WriteFault) before now =
      (boxed : Boxed) × (r : Ran polls values given_back given_back_now boxed) × AppendsPrefix before now (text_of r.events r.happened boxed)
  EndsWith polls values given_back given_back_now (Err NoMemory) before now =
      (now ≡ before) ⊎ ((boxed : Boxed) × (r : Ran polls values given_back given_back_now boxed)
      × WrotePrefix (text_of r.events r.happened boxed) before now)

-- the poll of a link failed, which was given back
pub record PollFailed {L : Type 0} (v : LinkView L) (given_back given_back_now : List L) : Type 0 where
  pub nodes : List (code_node.BoxActor L)
  pub back : given_back_now ≡ given_back ++ map (λ x. x.link) nodes
  pub fault : HasFault v nodes
