-- Datagrams that pass between actors, and what they are in the protocol.
use Rattle.std.specs.Prelude.{◌≡◌, ◌⊎◌, ⊤, ℕ, List, Ok}
use Rattle.nop_types.specs.Given.{Given, Packet}
use Rattle.nop_types.specs.Lists.{Has}
use Rattle.nop_types.specs.Ranges.{DatagramFits, InstallFits, PingFits, ReadFits, AnswerFits}
use Rattle.nop_types.specs.Sessions.{home}
use Rattle.nop_types.specs.declared.datagram.Datagram.{Datagram}
use Rattle.nop_types.specs.declared.datagram.Datagram.TheVariants as datagrams
use Rattle.nop_types.specs.declared.output.Dest.{Dest}
use Rattle.nop_types.specs.declared.output.Out.{Out}
use Rattle.nop_types.specs.declared.output.Out.TheVariants.{Send}
use Rattle.oum_codec.specs.Reading.{reading}
use Rattle.oum_codec.specs.Spelling.{spelling}
use Rattle.protocol.specs.Conf.{Conf}

-- the session was given out for the sequencer, by the controller whose own it is
pub record WasGivenOut (c : Conf) (controller sequencer session : ℕ) : Type 0 where
  pub given : Has c.installs (record { sequencer = sequencer; session = session })
  pub own : home session ≡ controller

-- What the protocol knows of a datagram that was sent. It knows no pings, no answers to a controller and no reads with their
-- answers, so of them it is known only that they are in their ranges; and a fragment is a part of a message, of which it is said
-- elsewhere that it was told.
abbrev pub WasSent : Conf → Datagram → Type 0
WasSent c (datagrams.Request r) = Has c.requests r
WasSent c (datagrams.Stamped p) = Has c.stamps p
WasSent c (datagrams.Reply p) = Has c.replies p
WasSent c (datagrams.Install controller sequencer session) = WasGivenOut c controller sequencer session
WasSent c (datagrams.Installed controller sequencer session) = InstallFits controller sequencer session
WasSent c (datagrams.Ping controller sequencer round) = PingFits controller sequencer round
WasSent c (datagrams.Pong controller sequencer round) = PingFits controller sequencer round
WasSent c (datagrams.Fragment p) = ⊤
WasSent c (datagrams.Read r) = ReadFits r
WasSent c (datagrams.Answer a) = AnswerFits a

-- a datagram that is no part of a message
abbrev pub IsWhole : Datagram → Type 0
IsWhole (datagrams.Fragment p) = ⊥
IsWhole _ = ⊤

-- what is read of bytes was sent, and is in its ranges
pub record Arrived (c : Conf) (d : Datagram) : Type 0 where
  pub sent : WasSent c d
  pub fits : DatagramFits d

-- an input that may come to a client, a sequencer or a controller
abbrev pub MayCome : Conf → Given → Type 0
MayCome c (Packet bytes) = (d : Datagram) → reading bytes ≡ Ok d → Arrived c d
MayCome c _ = ⊤

-- ---- what is sent

-- the bytes are those of a whole datagram that was sent
pub record Carries (c : Conf) (bytes : List ℕ) : Type 0 where
  pub datagram : Datagram
  pub whole : IsWhole datagram
  pub sent : WasSent c datagram
  pub spelled : bytes ≡ spelling datagram

abbrev pub AllCarry : Conf → List Out → Type 0
AllCarry c xs = (dest : Dest) (bytes : List ℕ) → Has xs (Send dest bytes) → Carries c bytes

-- some output sends the datagram
abbrev pub Sends : List Out → Datagram → Type 0
Sends xs d = (dest : Dest) × Has xs (Send dest (spelling d))

-- what was sent in d, and was not in c, these outputs send
abbrev pub OnlySends : Conf → Conf → List Out → Type 0
OnlySends c d xs = (x : Datagram) → WasSent d x → WasSent c x ⊎ Sends xs x
