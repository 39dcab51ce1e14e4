-- What holds of each whole world that events lead to, and of the protocol's configuration that shows it.
use Rattle.std.specs.Prelude.{◌≡◌, ◌++◌, ◌<◌, ◌^◌, ⊤, ℕ, List, Some, slice_get}
use Rattle.nop_types.specs.Configuration.{Configuration}
use Rattle.nop_types.specs.Lines.{Line}
use Rattle.nop_types.specs.Logs.{Whole}
use Rattle.nop_types.specs.Meaning.{Meaning}
use Rattle.client_reads.specs.ReadSteps as reads
use Rattle.session_control.specs.ControllerSteps as controller
use Rattle.oum_receiver.specs.Receiving.{IsSound}
use Rattle.replica_state.specs.Within.{IsIn}
use Rattle.protocol.specs.Conf.{Conf, opening}
use Rattle.protocol.specs.Moves.{MayAddLines}
use Rattle.protocol.specs.Runs.{Move, run, MayAll}
use Rattle.world.specs.Others.{Kind, Clients, Controllers, State, seats}
use Rattle.world.specs.Seats.{Seated}
use Rattle.refinement.specs.Ranges.{ClientFits}
use Rattle.whole_world.specs.Whole.{WholeReplica, WholeWorld}
use Rattle.whole_world.specs.Passed.{Passed, noted}
use Rattle.whole_world.specs.Safe.{Leads}
use Rattle.whole_world.specs.Shows.{Carries, MessagesSay, ShowsActors, peers_of}

-- ---- ranges

-- a replica has its number, its state is in its ranges with a whole log, and message numbers are left
pub record ReplicaFits (i : ℕ) (r : WholeReplica) : Type 0 where
  pub number : r.state.number ≡ i
  pub range : r.messages < 2 ^ 64
  pub within : IsIn Whole r.state
  pub receiver : IsSound r.state.receiver

abbrev pub OtherFits : (k : Kind) → State k → Type 0
OtherFits Clients s = ClientFits s.requests × reads.IsWithin s.reads
OtherFits Controllers s = controller.IsWithin s
OtherFits _ s = ⊤

pub record InRanges (w : WholeWorld) : Type 0 where
  pub replicas : (i : ℕ) (q : Seated WholeReplica) → slice_get w.replicas i ≡ Some q → ReplicaFits i q.state
  pub others : (k : Kind) (i : ℕ) (q : Seated (State k)) → slice_get (seats k w.others) i ≡ Some q → OtherFits k q.state

-- ---- all of it

-- the configuration stands for the world, but for lines and past
pub record Stands (f : ℕ) (config : Configuration) (w : WholeWorld) (c : Conf) : Type 0 where
  pub same : w.config ≡ config
  pub actors : ShowsActors f w c
  pub carries : Carries w.sent c
  pub tells : MessagesSay (peers_of w.letters) c.said
  pub ranges : InRanges w

pub record At {S : Type 0} (m : Meaning S) (f : ℕ) (config : Configuration) (p : Passed) (c : Conf) : Type 0 where
  pub ran : Leads m f (opening config) c
  pub stands : Stands f config p.world c
  pub lines : p.world.lines ≡ c.lines
  pub past : p.past ≡ c.past

-- moves lead on to what shows the later world
pub record Later {S : Type 0} (m : Meaning S) (f : ℕ) (config : Configuration) (c : Conf) (q : Passed) : Type 0 where
  pub moves : List Move
  pub may : MayAll m f c moves
  pub at : At m f config q (run m f c moves)

-- ---- one step of an actor

-- moves lead to what stands for the world after an event; the event's lines are what was said, and others that neither submit nor accept
pub record Goes {S : Type 0} (m : Meaning S) (f : ℕ) (config : Configuration) (p : Passed) (c : Conf) (v : WholeWorld) : Type 0 where
  pub moves : List Move
  pub may : MayAll m f c moves
  pub stands : Stands f config v (run m f c moves)
  pub said : List Line
  pub others : List Line
  pub lines : (run m f c moves).lines ≡ c.lines ++ said
  pub are : v.lines ≡ p.world.lines ++ (said ++ others)
  pub tells : MayAddLines others
  pub past : noted f p.past 0 p.world.replicas v.replicas ≡ (run m f c moves).past
