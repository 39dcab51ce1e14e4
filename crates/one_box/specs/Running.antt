-- How the turns of a cluster end.
use Rattle.std.specs.Prelude.{◌≡◌, ℕ, ◌+◌, ◌-◌, List, false, ⊤, Option, Some, None, Result, Ok, Err, option_map}
use Rattle.nop_types.specs.Meaning.{Meaning}
use Rattle.outside.specs.declared.errors.DeviceError.{DeviceError}
use Rattle.outside.specs.declared.errors.DeviceError.TheVariants.{Failed, NoMemory}
use Rattle.one_box.specs.declared.node.BoxActor as code_node
use Rattle.one_box.specs.declared.serving.Taken.{Taken}
use Rattle.one_box.specs.ClusterRun.{Course, BoxActor, ClusterRun, all_accepted, turns_from}
use Rattle.one_box.specs.Showing.{LinkView, AllShow, AllLostFit, GoesOn, HasFault}

-- so many turns before a run
abbrev pub after_turns : ℕ → ClusterRun → ClusterRun
after_turns k r = record r { turns = k + r.turns }

module _ {L : Type 0} (v : LinkView L) where
  -- the run of the definition
  pub record IsRun (r : ClusterRun) (taken : Taken) (c : Course) (xs : List (code_node.BoxActor L)) : Type 0 where
    pub course : r.course ≡ c
    pub nodes : AllShow v r.nodes xs
    pub turns : r.turns ≡ taken.turns
    pub done : r.done ≡ taken.done

  abbrev pub IsRunIf : Option ClusterRun → Taken → Course → List (code_node.BoxActor L) → Type 0
  IsRunIf None taken c xs = ⊥
  IsRunIf (Some r) taken c xs = IsRun r taken c xs

  -- the call ended as this run does: where a poll failed there is none
  abbrev pub EndsAs : Option ClusterRun → Result Taken DeviceError → Course → List (code_node.BoxActor L) → Type 0
  EndsAs run (Ok taken) c xs = IsRunIf run taken c xs
  EndsAs run (Err Failed) c xs = run ≡ None
  EndsAs run (Err NoMemory) c xs = ⊤

  -- where the clock and each link are observable, it is the run over it
  abbrev pub RunsObserved : {S : Type 0} → Meaning S → List (List ℕ) → ℕ → ℕ → Option (List ℕ) → Result Taken DeviceError → Course
      → List (code_node.BoxActor L) → Course → List (code_node.BoxActor L) → Type 0
  RunsObserved m ops turns now None result c xs d ys = ⊤
  RunsObserved m ops turns now (Some values) result c xs d ys =
      (ns : List BoxActor) → AllShow v ns xs → EndsAs (turns_from m ops turns c ns now values) result d ys

  -- so many turns were taken, and all ops were accepted or no turn is left
  pub record Completes {S : Type 0} (m : Meaning S) (ops : List (List ℕ)) (turns : ℕ) (taken : Taken) (c : Course) (xs : List (code_node.BoxActor L)) (d : Course)
      (ys : List (code_node.BoxActor L)) : Type 0 where
    pub done : taken.done ≡ all_accepted ops d
    pub spent : taken.done ≡ false → taken.turns ≡ turns
    pub goes : GoesOn m c d
    pub lost : AllLostFit v xs → AllLostFit v ys

  abbrev pub Runs : {S : Type 0} → Meaning S → List (List ℕ) → ℕ → Result Taken DeviceError → Course → List (code_node.BoxActor L)
      → Course → List (code_node.BoxActor L) → Type 0
  Runs m ops turns (Ok taken) c xs d ys = Completes m ops turns taken c xs d ys
  Runs m ops turns (Err Failed) c xs d ys = HasFault v ys
  Runs m ops turns (Err NoMemory) c xs d ys = ⊤

  -- the whole run is the run from here, after so many turns
  pub record GoingFrom {S : Type 0} (m : Meaning S) (ops : List (List ℕ)) (turns now : ℕ) (values : List ℕ) (c : Course) (ns : List BoxActor)
      (left taken time : ℕ) (observed : Option (List ℕ)) (d : Course) (xs : List (code_node.BoxActor L)) : Type 0 where
    pub later : List ℕ
    pub tells : observed ≡ Some later
    pub nodes : List BoxActor
    pub shown : AllShow v nodes xs
    pub is : turns_from m ops turns c ns now values ≡ option_map (after_turns taken) (turns_from m ops left d nodes time later)

  abbrev pub Going : {S : Type 0} → Meaning S → List (List ℕ) → ℕ → ℕ → Option (List ℕ) → Course → List (code_node.BoxActor L) → ℕ → ℕ
      → Option (List ℕ) → Course → List (code_node.BoxActor L) → Type 0
  Going m ops turns now None c xs taken time observed d ys = ⊤
  Going m ops turns now (Some values) c xs taken time observed d ys =
      (ns : List BoxActor) → AllShow v ns xs → GoingFrom m ops turns now values c ns (turns - taken) taken time observed d ys
