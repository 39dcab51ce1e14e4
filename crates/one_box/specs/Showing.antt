-- What the values of the code stand for.
use Rattle.std.specs.Prelude.{◌≡◌, ◌≤◌, ℕ, min, List, [], ◌∷◌, slice_get, count_by, ◌⊎◌, ⊤, Option, Some, None, Result, Ok, Err}
use Rattle.std.specs.List.{All}
use Rattle.nop_types.specs.Configuration.{Configuration}
use Rattle.nop_types.specs.Lines.{Line}
use Rattle.nop_types.specs.Meaning.{Meaning}
use Rattle.outside.specs.Causes.{Rose}
use Rattle.outside.specs.declared.errors.DeviceError.{DeviceError}
use Rattle.outside.specs.declared.errors.DeviceError.TheVariants.{Failed, NoMemory}
use Rattle.outside.specs.declared.link.PollAnswer.{PollAnswer}
use Rattle.outside.specs.declared.link.LinkCall.{LinkCall}
use Rattle.outside.specs.declared.link.Link as link_trait
use Rattle.schedule_text.specs.declared.event.Event.{Event}
use Rattle.schedule_text.specs.declared.event.Event.TheVariants.{Junk}
use Rattle.schedule_text.specs.EventText.{HasLine}
use Rattle.schedule_text.specs.Fits.{EventsFit}
use Rattle.transcript_text.specs.Transcript.{lines_text}
use Rattle.udp_node.specs.declared.address.Address.{Address}
use Rattle.udp_node.specs.Sends.{Sends, side, last_count}
use Rattle.network.specs.LineCounts.{is_accept}
use Rattle.world.specs.WorldSteps.{Happened, Refusal, step, run}
use Rattle.world.specs.declared.step_error.StepError.{StepError}
use Rattle.world.specs.declared.step_error.StepError.TheVariants as steps
use Rattle.one_box.specs.declared.course.Course as code_course
use Rattle.one_box.specs.declared.node.BoxActor as code_node
use Rattle.one_box.specs.ClusterRun.{Course, BoxActor, kept}

abbrev pub course_of : {H U : Type 0} → code_course.Course H U → Course
course_of c = record {
  world = c.world.state;
  events = c.events.items;
  text = c.text.items;
  accepts = c.accepts;
  stray = c.stray;
}

-- ---- the world

-- the events that were kept led to this world, and these are their lines
pub record IsLedTo {S : Type 0} (m : Meaning S) (config : Configuration) (c : Course) : Type 0 where
  pub lines : List Line
  pub is : run m config c.events ≡ Ok (record { world = c.world; lines = lines })
  pub fit : EventsFit c.events
  pub spelled : All HasLine c.events
  pub text : c.text ≡ lines_text lines
  pub accepts : c.accepts ≡ count_by is_accept lines

-- it is no junk
abbrev pub IsNoJunk : Event → Type 0
IsNoJunk (Junk actor bytes) = ⊥
IsNoJunk _ = ⊤

-- the world refused an event
abbrev pub IsRefusal : StepError → Type 0
IsRefusal (steps.NoSuchDatagram index sent) = ⊤
IsRefusal steps.NoSuchActor = ⊤
IsRefusal steps.Forged = ⊤
IsRefusal steps.NoMemory = ⊥

-- the event happened, and was kept
pub record Happens {S : Type 0} (m : Meaning S) (e : Event) (c d : Course) : Type 0 where
  pub happened : Happened
  pub is : step m c.world e ≡ Ok happened
  pub keeps : d ≡ kept c e happened

-- it was refused, and changed nothing
pub record Refuses {S : Type 0} (m : Meaning S) (e : Event) (c d : Course) : Type 0 where
  pub refusal : Refusal
  pub is : step m c.world e ≡ Err refusal
  pub same : d ≡ c

abbrev pub Steps : {S : Type 0} → Meaning S → Event → Course → Course → Type 0
Steps m e c d = Happens m e c d ⊎ Refuses m e c d

-- where it was so before, it is so now
abbrev pub GoesOn : {S : Type 0} → Meaning S → Course → Course → Type 0
GoesOn m c d = (config : Configuration) → IsLedTo m config c → IsLedTo m config d

-- ---- an actor and its link

-- what is seen of a link
pub record LinkView (L : Type 0) : Type 0 where
  pub answers : L → Option (List PollAnswer)
  pub port : L → ℕ
  pub trace : L → Option (List LinkCall)
  pub losses : L → ℕ
  pub faults : L → ℕ

abbrev pub link_view : {L : Type 0} → (L → Option (List PollAnswer)) → (L → ℕ) → (L → Option (List LinkCall)) → (L → ℕ) → (L → ℕ)
    → LinkView L
link_view answers port trace losses faults =
    record { answers = answers; port = port; trace = trace; losses = losses; faults = faults }

abbrev pub links_of : {L : Type 0} → link_trait.Ghosts L → LinkView L
links_of l = link_view l.answers l.own_port l.trace l.loss_count l.fault_count

module _ {L : Type 0} (v : LinkView L) where
  -- the link is observable, and took the calls of the actor, but for the sends that failed
  pub record Shows (n : BoxActor) (x : code_node.BoxActor L) : Type 0 where
    pub at : x.at ≡ n.at
    pub next_op : x.next_op ≡ n.next_op
    pub timers : x.timers.items ≡ n.timers
    pub answers : v.answers x.link ≡ Some n.answers
    pub sends : Sends n.trace (side (Some []) 0 0) (side (v.trace x.link) x.lost (v.losses x.link))

  -- what was counted as lost, the link counted too
  abbrev pub LostFits : code_node.BoxActor L → Type 0
  LostFits x = min x.lost last_count ≤ v.losses x.link

  abbrev pub AllLostFit : List (code_node.BoxActor L) → Type 0
  AllLostFit [] = ⊤
  AllLostFit (x ∷ xs) = LostFits x × AllLostFit xs

  -- the course and the actor of the definition
  pub record Reaches (p : Course × BoxActor) (c : Course) (x : code_node.BoxActor L) : Type 0 where
    pub course : p.0 ≡ c
    pub node : Shows p.1 x

  -- the call did this, where the link is observable
  abbrev pub Does : (Course → BoxActor → Course × BoxActor) → Course → code_node.BoxActor L → Course → code_node.BoxActor L → Type 0
  Does f c x d y = (n : BoxActor) → Shows n x → Reaches (f c n) d y

  abbrev pub ReachesIf : Option (Course × BoxActor) → Course → code_node.BoxActor L → Type 0
  ReachesIf None c x = ⊥
  ReachesIf (Some p) c x = Reaches p c x

  -- and what is led to by events still is, and what is lost is counted
  pub record Acts {S : Type 0} (m : Meaning S) (f : Course → BoxActor → Course × BoxActor) (c : Course) (x : code_node.BoxActor L) (d : Course)
      (y : code_node.BoxActor L) : Type 0 where
    pub does : Does f c x d y
    pub goes : GoesOn m c d
    pub lost : LostFits x → LostFits y

  -- the same of a call that polls
  pub record Served {S : Type 0} (m : Meaning S) (f : Course → BoxActor → Option (Course × BoxActor)) (c : Course) (x : code_node.BoxActor L)
      (d : Course) (y : code_node.BoxActor L) : Type 0 where
    pub does : (n : BoxActor) → Shows n x → ReachesIf (f c n) d y
    pub goes : GoesOn m c d
    pub lost : LostFits x → LostFits y

  -- the poll failed: there is no run
  pub record Broken (f : Course → BoxActor → Option (Course × BoxActor)) (c : Course) (x y : code_node.BoxActor L) : Type 0 where
    pub none : (n : BoxActor) → Shows n x → f c n ≡ None
    pub rose : Rose 0 (v.faults y.link)

  abbrev pub Serves : {S : Type 0} → Meaning S → (Course → BoxActor → Option (Course × BoxActor)) → Result (Unit {0}) DeviceError → Course
      → code_node.BoxActor L → Course → code_node.BoxActor L → Type 0
  Serves m f (Ok r) c x d y = Served m f c x d y
  Serves m f (Err Failed) c x d y = Broken f c x y
  Serves m f (Err NoMemory) c x d y = ⊤

  -- where an actor is, and the port of its link
  abbrev pub place_of : code_node.BoxActor L → Address × ℕ
  place_of x = (x.at, v.port x.link)

  -- the actors in order
  abbrev pub AllShow : List BoxActor → List (code_node.BoxActor L) → Type 0
  AllShow [] [] = ⊤
  AllShow [] (x ∷ xs) = ⊥
  AllShow (n ∷ ns) [] = ⊥
  AllShow (n ∷ ns) (x ∷ xs) = Shows n x × AllShow ns xs

  pub record AllReach (q : Course × List BoxActor) (c : Course) (xs : List (code_node.BoxActor L)) : Type 0 where
    pub course : q.0 ≡ c
    pub nodes : AllShow q.1 xs

  abbrev pub AllReachIf : Option (Course × List BoxActor) → Course → List (code_node.BoxActor L) → Type 0
  AllReachIf None c xs = ⊥
  AllReachIf (Some q) c xs = AllReach q c xs

  -- the poll of a link failed
  pub record HasFault (xs : List (code_node.BoxActor L)) : Type 0 where
    pub place : ℕ
    pub node : code_node.BoxActor L
    pub there : slice_get xs place ≡ Some node
    pub rose : Rose 0 (v.faults node.link)

  -- a turn of all actors did this, where each link is observable
  pub record AllServed {S : Type 0} (m : Meaning S) (f : Course → List BoxActor → Option (Course × List BoxActor)) (c : Course)
      (xs : List (code_node.BoxActor L)) (d : Course) (ys : List (code_node.BoxActor L)) : Type 0 where
    pub does : (ns : List BoxActor) → AllShow ns xs → AllReachIf (f c ns) d ys
    pub goes : GoesOn m c d
    pub lost : AllLostFit xs → AllLostFit ys

  -- a poll failed: there is no run
  pub record SomeBroken (f : Course → List BoxActor → Option (Course × List BoxActor)) (c : Course)
      (xs ys : List (code_node.BoxActor L)) : Type 0 where
    pub none : (ns : List BoxActor) → AllShow ns xs → f c ns ≡ None
    pub fault : HasFault ys

  abbrev pub Turns : {S : Type 0} → Meaning S → (Course → List BoxActor → Option (Course × List BoxActor)) → Result (Unit {0}) DeviceError
      → Course → List (code_node.BoxActor L) → Course → List (code_node.BoxActor L) → Type 0
  Turns m f (Ok r) c xs d ys = AllServed m f c xs d ys
  Turns m f (Err Failed) c xs d ys = SomeBroken f c xs ys
  Turns m f (Err NoMemory) c xs d ys = ⊤
