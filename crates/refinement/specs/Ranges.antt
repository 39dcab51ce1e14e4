-- All that is sent is in its ranges.
use Rattle.std.specs.Prelude.{◌≤◌, ◌<◌, ◌^◌, ⊤, ℕ, List, length}
use Rattle.std.specs.List.{AllByRecursion}
use Rattle.nop_types.specs.declared.limits.TheConstants.{MAX_OP_BYTES}
use Rattle.nop_types.specs.Given.{Given, Submit}
use Rattle.nop_types.specs.Lists.{Has}
use Rattle.nop_types.specs.Meaning.{Meaning}
use Rattle.nop_types.specs.Ranges.{RequestFits, StampedFits, ReplyFits, InstallFits, DatagramFits}
use Rattle.nop_types.specs.Sessions.{home}
use Rattle.nop_types.specs.declared.request.Request.{Request}
use Rattle.nop_types.specs.declared.datagram.Stamped.{Stamped}
use Rattle.nop_types.specs.declared.datagram.Reply.{Reply}
use Rattle.nop_types.specs.declared.datagram.Datagram.{Datagram}
use Rattle.client_quorum.specs.declared.state.ClientState.{ClientState}
use Rattle.client_quorum.specs.ClientSteps as client
use Rattle.replica_state.specs.declared.state.ReplicaState.{ReplicaState}
use Rattle.replica_state.specs.Sends.{Effect, SendingFits}
use Rattle.sequencer.specs.Runs.{stamp_in}
use Rattle.sequencer.specs.SequencerSteps as sequencer
use Rattle.session_control.specs.declared.state.ControllerState.{ControllerState}
use Rattle.session_control.specs.ControllerSteps as controller
use Rattle.protocol.specs.Conf.{Conf, Install}
use Rattle.protocol.specs.Invariant.{Inv}
use Rattle.protocol.specs.Runs.{run}
use Rattle.refinement.specs.Clients.{with_client}
use Rattle.refinement.specs.Controllers.{given_out, with_controller}
use Rattle.refinement.specs.Datagrams.{WasSent, IsWhole, MayCome}
use Rattle.refinement.specs.Replicas.{ReplicaReaches}
use Rattle.refinement.specs.Sequencers.{with_sequencer}

-- all requests, stamped packets, replies and sessions that were ever sent
pub record AllFit (c : Conf) : Type 0 where
  pub requests : (r : Request) → Has c.requests r → RequestFits r
  pub stamps : (p : Stamped) → Has c.stamps p → StampedFits p
  pub replies : (p : Reply) → Has c.replies p → ReplyFits p
  pub installs : (x : Install) → Has c.installs x → InstallFits (home x.session) x.sequencer x.session

-- so each whole datagram that was sent is in its ranges
abbrev pub DatagramsFit : Type 0
DatagramsFit = (c : Conf) (d : Datagram) → AllFit c → IsWhole d → WasSent c d → DatagramFits d

-- ---- a client, whose number has 32 bits and whose ops have at most the greatest length

pub record ClientFits (s : ClientState) : Type 0 where
  pub number : s.number < 2 ^ 32
  pub waiting : (op : List ℕ) → Has s.waiting op → length op ≤ MAX_OP_BYTES

-- an op that is submitted, likewise
abbrev pub GivenFits : Given → Type 0
GivenFits (Submit op) = length op ≤ MAX_OP_BYTES
GivenFits _ = ⊤

abbrev pub ClientsStayInRanges : Type 0
ClientsStayInRanges = (c : Conf) (k : ℕ) (i : Given) → AllFit c → ClientFits (c.clients k) → GivenFits i
    → AllFit (with_client c k (client.next (c.clients k) i)) × ClientFits (client.next (c.clients k) i).0

-- ---- the other actors

abbrev pub SequencersStayInRanges : {S : Type 0} → Meaning S → Type 0
SequencersStayInRanges m = (f : ℕ) (c : Conf) (j : ℕ) (i : Given) → Inv m f c → AllFit c → MayCome c i
    → AllFit (with_sequencer c j (sequencer.next (c.sequencers j) i).0 (stamp_in (c.sequencers j) i))

abbrev pub ControllersStayInRanges : Type 0
ControllersStayInRanges = (c : Conf) (k : ℕ) (s : ControllerState) (i : Given) → AllFit c → controller.IsWithin s → MayCome c i
    → AllFit (with_controller c k (controller.next s i).0 (given_out s (controller.next s i).0))
    × controller.IsWithin (controller.next s i).0

-- a replica that sends what is in its ranges
abbrev pub ReplicasStayInRanges : {S : Type 0} → Meaning S → Type 0
ReplicasStayInRanges m = (f : ℕ) (c : Conf) (r : ℕ) (s : ReplicaState) (e : Effect) → AllFit c → AllByRecursion SendingFits e.1
    → (one : ReplicaReaches m f c r s e) → AllFit (run m f c one.moves)
