-- How the protocol shows a whole world: its actors, all that was sent, the lines and the past.
use Rattle.std.specs.Prelude.{◌≡◌, ◌+◌, ◌*◌, ◌<◌, ℕ, List, length, map, Some, Ok, IsTrue, slice_get}
use Rattle.nop_types.specs.Configuration.{is_configuration}
use Rattle.nop_types.specs.Lists.{Has}
use Rattle.nop_types.specs.Sessions.{home}
use Rattle.nop_types.specs.declared.datagram.Datagram.{Datagram}
use Rattle.nop_types.specs.declared.datagram.Datagram.TheVariants as datagrams
use Rattle.nop_types.specs.declared.datagram.Reply.{Reply}
use Rattle.nop_types.specs.declared.datagram.Stamped.{Stamped}
use Rattle.nop_types.specs.declared.request.Request.{Request}
use Rattle.nop_types.specs.Logs.{Whole}
use Rattle.nop_types.specs.Ranges.{PeerIsIn}
use Rattle.nop_types.specs.declared.peer.Peer.{Peer}
use Rattle.oum_codec.specs.Reading.{reading}
use Rattle.oum_codec.specs.Spelling.{Spells}
use Rattle.protocol.specs.Conf.{Conf, Install}
use Rattle.protocol.specs.Said.{Said}
use Rattle.network.specs.Network.{Sent}
use Rattle.world.specs.Others.{Kind, Sequencers, Clients, Controllers, State, seats, count}
use Rattle.world.specs.Seats.{Seated}
use Rattle.network_laws.specs.Network.{IsDatagram}
use Rattle.refinement.specs.Controllers.{control_of}
use Rattle.refinement.specs.Datagrams.{WasSent}
use Rattle.replica_state.specs.State.{PointsMeet}
use Rattle.refinement.specs.Projection.{local_state_of, said_of}
use Rattle.whole_world.specs.Whole.{WholeReplica, WholeWorld, Letter}
use Rattle.whole_world.specs.Passed.{Passed}

-- the datagrams have this one, with each field in its range
pub record IsThere (sent : List Sent) (d : Datagram) : Type 0 where
  pub datagram : Sent
  pub has : Has sent datagram
  pub spells : Spells d datagram.bytes

-- the messages of the letters
abbrev pub peers_of : List Letter → List Peer
peers_of letters = map (λ x. x.peer) letters

-- a message that says this was sent
pub record MessageSays (peers : List Peer) (x : Said) : Type 0 where
  pub peer : Peer
  pub has : Has peers peer
  pub says : said_of peer ≡ x

-- what was said is what was sent, with whole logs in their ranges
pub record MessagesSay (peers : List Peer) (said : List Said) : Type 0 where
  pub fits : (p : Peer) → Has peers p → PeerIsIn Whole p
  pub all : (p : Peer) → Has peers p → Has said (said_of p)
  pub only : (x : Said) → Has said x → MessageSays peers x

-- each datagram that was sent is in its ranges and says what was sent, and nothing else was
pub record Carries (sent : List Sent) (c : Conf) : Type 0 where
  pub spelled : (s : Sent) → Has sent s → IsDatagram s.bytes
  pub only : (s : Sent) (d : Datagram) → Has sent s → reading s.bytes ≡ Ok d → WasSent c d
  pub requests : (r : Request) → Has c.requests r → IsThere sent (datagrams.Request r)
  pub stamps : (p : Stamped) → Has c.stamps p → IsThere sent (datagrams.Stamped p)
  pub replies : (y : Reply) → Has c.replies y → IsThere sent (datagrams.Reply y)
  pub installs : (x : Install) → Has c.installs x → IsThere sent (datagrams.Install (home x.session) x.sequencer x.session)

-- the configuration shows this state of the actor of a kind with this number, of a client its requests; a controller has its number
abbrev pub IsShown : (k : Kind) → Conf → ℕ → State k → Type 0
IsShown Sequencers c i s = c.sequencers i ≡ s
IsShown Clients c i s = c.clients i ≡ s.requests
IsShown Controllers c i s = (c.controllers i ≡ control_of s) × (s.number ≡ i)

-- each actor of the world has the state that is shown, and each replica tells its log with its sync point; each session that was
-- given out is of a controller that is there
pub record ShowsActors (f : ℕ) (w : WholeWorld) (c : Conf) : Type 0 where
  pub is_configuration : IsTrue (is_configuration w.config)
  pub config : w.config.replicas ≡ 2 * f + 1
  pub replica_count : length w.replicas ≡ w.config.replicas
  pub other_count : (k : Kind) → length (seats k w.others) ≡ count k w.config
  pub replicas : (i : ℕ) (p : Seated WholeReplica) → slice_get w.replicas i ≡ Some p → c.replicas i ≡ local_state_of p.state.state
  pub points : (i : ℕ) (p : Seated WholeReplica) → slice_get w.replicas i ≡ Some p → PointsMeet p.state.state
  pub others : (k : Kind) (i : ℕ) (p : Seated (State k)) → slice_get (seats k w.others) i ≡ Some p → IsShown k c i p.state
  pub givers : (x : Install) → Has c.installs x → home x.session < w.config.controllers

-- actors, datagrams and letters are shown, and lines and past are the same
pub record Shows (f : ℕ) (p : Passed) (c : Conf) : Type 0 where
  pub actors : ShowsActors f p.world c
  pub carries : Carries p.world.sent c
  pub tells : MessagesSay (peers_of p.world.letters) c.said
  pub lines : p.world.lines ≡ c.lines
  pub past : p.past ≡ c.past
