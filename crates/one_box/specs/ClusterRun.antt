-- The run of a cluster in one process, over what its clock and its links tell.
use Rattle.std.specs.Prelude.{ℕ, zero, suc, ◌+◌, ◌==◌, max, nat_le, List, [], ◌∷◌, ◌++◌, length, map, drop, count_by, Bool, true, false}
use Rattle.std.specs.Prelude.{Option, Some, None, Result, Ok, Err, option_map, slice_get}
use Rattle.std.specs.List.{flat_map}
use Rattle.std.specs.Option.{option_and_then}
use Rattle.nop_types.specs.Configuration.{Configuration}
use Rattle.nop_types.specs.Meaning.{Meaning}
use Rattle.nop_types.specs.declared.input.Tick.{Tick}
use Rattle.nop_types.specs.declared.input.Tick.TheVariants as ticks
use Rattle.nop_types.specs.declared.output.Actor.{Actor}
use Rattle.nop_types.specs.declared.output.Actor.TheVariants as actors
use Rattle.outside.specs.Clocks.{next_value, later_values}
use Rattle.outside.specs.Links.{next_poll}
use Rattle.outside.specs.Causes.{next_count}
use Rattle.outside.specs.Ports.{next_link}
use Rattle.outside.specs.declared.link.LinkCall.{LinkCall}
use Rattle.outside.specs.declared.link.LinkCall.TheVariants.{Polled}
use Rattle.outside.specs.declared.link.PollAnswer.{PollAnswer}
use Rattle.outside.specs.declared.link.PollAnswer.TheVariants.{Received, Nothing, Failure}
use Rattle.schedule_text.specs.declared.event.Event.{Event}
use Rattle.schedule_text.specs.declared.event.Event.TheVariants as events
use Rattle.transcript_text.specs.Transcript.{lines_text}
use Rattle.udp_node.specs.declared.address.Address.{Address}
use Rattle.udp_node.specs.declared.firing.Timer.{Timer}
use Rattle.udp_node.specs.Ports.{datagrams_to}
use Rattle.udp_node.specs.Timing.{armed, rearmed}
use Rattle.network.specs.Finding.{first_index}
use Rattle.network.specs.LineCounts.{is_accept}
use Rattle.world.specs.Lookups.{timers_of, takes_op}
use Rattle.network.specs.Network.{Sent}
use Rattle.world.specs.WorldSteps.{WorldState, Happened, Refusal, step, opening}
use Rattle.one_box.specs.Actors.{actors_of, first_op}

-- what all actors did: the world, the events that were kept, the text of their lines, how many ops were accepted, and how many
-- datagrams came that nobody had sent
pub record Course : Type 0 where
  pub world : WorldState
  pub events : List Event
  pub text : List ℕ
  pub accepts : ℕ
  pub stray : ℕ

-- an actor: where it is, its timers, the number of its next op, what the polls of its link answer, and the calls on its link
pub record BoxActor : Type 0 where
  pub at : Address
  pub timers : List Timer
  pub next_op : ℕ
  pub answers : List PollAnswer
  pub trace : List LinkCall

-- how a run ended: the turns taken, and whether all ops were accepted
pub record ClusterRun : Type 0 where
  pub course : Course
  pub nodes : List BoxActor
  pub turns : ℕ
  pub done : Bool

-- ---- one event

-- the datagrams of an actor to the ports of their destinations, in order
abbrev pub posts : Address → List Sent → List LinkCall
posts at sent = flat_map (λ s. datagrams_to at s.dest s.bytes) sent

-- it is kept, and so is what it did; an event that is refused would do nothing
abbrev pub kept : Course → Event → Happened → Course
kept c e h = record c {
  world = h.world;
  events = c.events ++ e ∷ [];
  text = c.text ++ lines_text h.lines;
  accepts = c.accepts + count_by is_accept h.lines;
}

abbrev pub kept_if : Course → BoxActor → Event → Result Happened Refusal → Course × BoxActor
kept_if c n e (Err refusal) = (c, n)
kept_if c n e (Ok h) = (kept c e h, record n { trace = n.trace ++ posts n.at (drop (length c.world.sent) h.world.sent) })

-- all ops were accepted
abbrev pub all_accepted : List (List ℕ) → Course → Bool
all_accepted ops c = c.accepts == length ops

-- one turn more before a run
abbrev pub one_more : ClusterRun → ClusterRun
one_more r = record r { turns = 1 + r.turns }

-- the run ends after a turn where all ops are accepted
abbrev pub ends_or : Bool → Course × List BoxActor → Option ClusterRun → Option ClusterRun
ends_or true p rest = Some (record { course = p.0; nodes = p.1; turns = 1; done = true })
ends_or false p rest = option_map one_more rest

module _ {S : Type 0} (m : Meaning S) where
  unfoldable pub take : Course → BoxActor → Event → Course × BoxActor
  take c n e = kept_if c n e (step m c.world e)

  -- a client that takes an op is given its next one; of C clients each has every C-th op
  unfoldable pub submit_next : Bool → ℕ → Option (List ℕ) → Course → BoxActor → Course × BoxActor
  submit_next true client (Some op) c n = take c (record n { next_op = n.next_op + c.world.config.clients }) (events.Submit client op)
  submit_next true client None c n = (c, n)
  submit_next false client op c n = (c, n)

  -- ---- the poll

  -- a datagram that equals one that was sent is delivered; another is dropped
  unfoldable pub deliver : Option ℕ → Course → BoxActor → Course × BoxActor
  deliver (Some index) c n = take c n (events.Deliver index n.at.own)
  deliver None c n = (record c { stray = next_count c.stray }, n)

  -- None where the poll failed
  unfoldable pub polled : PollAnswer → Course → BoxActor → Option (Course × BoxActor)
  polled (Received datagram) c n = Some (deliver (first_index datagram c.world.sent) c n)
  polled Nothing c n = Some (c, n)
  polled Failure c n = None

  -- the timers that were due are due again a period later; the link was polled
  abbrev pub after_poll : ℕ → BoxActor → BoxActor
  after_poll now n =
      record n { timers = map (rearmed now) n.timers; answers = drop 1 n.answers; trace = n.trace ++ Polled ∷ [] }

  unfoldable pub poll : ℕ → Course → BoxActor → Option (Course × BoxActor)
  poll now c n = polled (next_poll n.answers) c (after_poll now n)

module _ {S : Type 0} (m : Meaning S) (ops : List (List ℕ)) where
  -- ---- timers

  unfoldable pub next_of : Actor → Course → BoxActor → Course × BoxActor
  next_of (actors.Client i) c n = submit_next m (takes_op c.world i) i (slice_get ops n.next_op) c n
  next_of _ c n = (c, n)

  -- the tick Next gives a client its next op, Install comes by no timer, and each other tick is an event
  unfoldable pub on_tick : Course → BoxActor → Tick → Course × BoxActor
  on_tick c n ticks.Next = next_of n.at.own c n
  on_tick c n (ticks.Install j) = (c, n)
  on_tick c n tick = take m c n (events.Tick n.at.own tick)

  unfoldable pub fire_if : Bool → Course → BoxActor → Tick → Course × BoxActor
  fire_if true c n tick = on_tick c n tick
  fire_if false c n tick = (c, n)

  -- the timers that are due, in order
  unfoldable pub fire_due : ℕ → List Timer → Course → BoxActor → Course × BoxActor
  fire_due now [] c n = (c, n)
  fire_due now (t ∷ ts) c n =
      fire_due now ts (fire_if (nat_le t.due now) c n t.tick).0 (fire_if (nat_le t.due now) c n t.tick).1

  -- ---- turns

  -- an actor's timers that are due, and then one poll
  unfoldable pub node_turn : ℕ → Course → BoxActor → Option (Course × BoxActor)
  node_turn now c n = poll m now (fire_due now n.timers c n).0 (fire_due now n.timers c n).1

  -- one actor after the other, up to a poll that fails
  unfoldable pub turn : ℕ → Course → List BoxActor → Option (Course × List BoxActor)
  turn now c [] = Some (c, [])
  turn now c (n ∷ ns) =
      option_and_then
      (λ (p : Course × BoxActor). option_map (λ (q : Course × List BoxActor). (q.0, p.1 ∷ q.1)) (turn now p.0 ns))
      (node_turn now c n)

  -- at most this number of turns, of which the first is now; None where a poll failed
  unfoldable pub turns_from : ℕ → Course → List BoxActor → ℕ → List ℕ → Option ClusterRun
  turns_from zero c ns now values = Some (record { course = c; nodes = ns; turns = 0; done = all_accepted ops c })
  turns_from (suc k) c ns now values =
      option_and_then
      (λ (p : Course × List BoxActor). ends_or (all_accepted ops p.0) p
      (turns_from k p.0 p.1 (max now (next_value values)) (later_values values)))
      (turn now c ns)

-- ---- the opening

abbrev pub opening_course : Configuration → Course
opening_course c = record { world = opening c; events = []; text = []; accepts = 0; stray = 0 }

-- the timers are first due a period after now
abbrev pub opening_node : ℕ → Configuration → ℕ → Actor → List PollAnswer → BoxActor
opening_node base c now actor answers = record {
  at = record { base = base; own = actor; config = c };
  timers = map (armed now) (timers_of (opening c) actor);
  next_op = first_op actor;
  answers = answers;
  trace = [];
}

-- the links in order, and after the last one links without datagrams
abbrev pub opening_nodes : ℕ → Configuration → ℕ → List Actor → List (List PollAnswer) → List BoxActor
opening_nodes base c now [] polls = []
opening_nodes base c now (a ∷ rest) polls = opening_node base c now a (next_link polls) ∷ opening_nodes base c now rest (drop 1 polls)

-- the run over these values of the clock and these answers of the links, None where a poll failed
unfoldable pub cluster_run : {S : Type 0} → Meaning S → Configuration → List (List ℕ) → ℕ → ℕ → List ℕ → List (List PollAnswer)
    → Option ClusterRun
cluster_run m c ops base turns values polls =
    turns_from m ops turns (opening_course c) (opening_nodes base c (next_value values) (actors_of c) polls)
    (next_value values) (later_values values)
