-- The actors, what was sent, and the past beside them.
use Rattle.std.specs.Prelude.{◌⊎◌, ◌≡◌, ◌+◌, ◌*◌, ℕ, Bool, true, List, [], ◌++◌}
use Rattle.lemmas.specs.Functions.{put}
use Rattle.nop_types.specs.Configuration.{Configuration}
use Rattle.nop_types.specs.declared.view.View.{View}
use Rattle.nop_types.specs.declared.request.Request.{Request}
use Rattle.nop_types.specs.declared.datagram.Stamped.{Stamped}
use Rattle.nop_types.specs.declared.datagram.Reply.{Reply}
use Rattle.nop_types.specs.Lines.{Line, Submit}
use Rattle.nop_types.specs.Lists.{Has}
use Rattle.nop_types.specs.Sessions.{opening_session}
use Rattle.nop_types.specs.Views.{leader_of}
use Rattle.client_quorum.specs.declared.state.ClientState.{ClientState}
use Rattle.client_quorum.specs.ClientSteps as client
use Rattle.sequencer.specs.declared.state.SequencerState.{SequencerState}
use Rattle.sequencer.specs.SequencerSteps as sequencer
use Rattle.started_views.specs.Past.{Past, first_past, note}
use Rattle.started_views.specs.Quorums.{Others}
use Rattle.protocol.specs.LocalState.{LocalState, fresh, standing}
use Rattle.protocol.specs.Said.{Said, Word, GapRep, says}

-- a controller: the last session that it gave out, to which sequencer, and whether that confirmed it
pub record Control : Type 0 where
  pub session : ℕ
  pub current : ℕ
  pub confirmed : Bool

-- a session was given to a sequencer
pub record Install : Type 0 where
  pub sequencer : ℕ
  pub session : ℕ

-- each list has all that was ever sent, the newest first; the lines have the oldest first
pub record Conf : Type 0 where
  pub replicas : ℕ → LocalState
  pub sequencers : ℕ → SequencerState
  pub clients : ℕ → ClientState
  pub controllers : ℕ → Control
  pub requests : List Request
  pub stamps : List Stamped
  pub replies : List Reply
  pub installs : List Install
  pub said : List Said
  pub lines : List Line
  pub past : Past

-- the last normal view of each replica
abbrev pub last_normals : Conf → ℕ → View
last_normals c r = (c.replicas r).last_normal

-- the actors in their opening states, nothing sent, and nothing past
abbrev pub opening : Configuration → Conf
opening config =
    record {
      replicas = fresh config.replicas;
      sequencers = sequencer.opening;
      clients = λ k. client.opening config k [];
      controllers = λ k. record { session = opening_session k; current = 0; confirmed = true };
      requests = [];
      stamps = [];
      replies = [];
      installs = [];
      said = [];
      lines = [];
      past = first_past;
    }

-- ---- changes

-- what a move makes of a replica, and what it sends
pub record Effect : Type 0 where
  pub state : LocalState
  pub said : List Said
  pub replies : List Reply

abbrev pub after : ℕ → Conf → ℕ → Effect → Conf
after f c r e =
    record c {
      replicas = put c.replicas r e.state;
      said = e.said ++ c.said;
      replies = e.replies ++ c.replies;
      past = note f c.past r (standing (c.replicas r)) (standing e.state);
    }

-- ---- words

-- the replica q said a word in the view w
abbrev pub DidSay : List Said → ℕ → View → Word → Type 0
DidSay said q w x = Has said (says q w x)

-- f replicas beside the leader of w answered the NO-OP in the slot k
abbrev pub Settled : ℕ → List Said → View → ℕ → Type 0
Settled f said w k = Others f (leader_of w (2 * f + 1)) (λ q. DidSay said q w (GapRep k))

-- a line submits the request
abbrev pub WasSubmitted : List Line → Request → Type 0
WasSubmitted lines r = Has lines (Submit r)

-- a session belongs to one sequencer: session 1 to the sequencer 0
abbrev pub Owns : List Install → ℕ → ℕ → Type 0
Owns installs j session = ((j ≡ 0) × (session ≡ 1)) ⊎ Has installs (record { sequencer = j; session = session })

-- to whichever
abbrev pub HasOwner : List Install → ℕ → Type 0
HasOwner installs session = (j : ℕ) × Owns installs j session
