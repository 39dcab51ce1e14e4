-- The step table of the sequencer.
use Rattle.std.specs.Prelude.{ℕ, ◌+◌, ◌^◌, ◌<◌, ◌≤◌, List, [], ◌∷◌, Bool, true, false, cond, Option, Some, None, Result, Ok, nat_lt}
use Rattle.std.specs.Prelude.{◌==◌, ◌&&◌, if◌then◌else◌}
use Rattle.nop_types.specs.declared.limits.TheConstants.{NUMBER_END, MAX_SEQUENCERS}
use Rattle.nop_types.specs.Given.{Given, Packet}
use Rattle.nop_types.specs.declared.output.Out.{Out}
use Rattle.nop_types.specs.declared.output.Out.TheVariants.{Send}
use Rattle.nop_types.specs.declared.output.Dest.TheVariants.{Replicas, One}
use Rattle.nop_types.specs.declared.output.Actor.TheVariants.{Controller}
use Rattle.nop_types.specs.declared.request.Request.{Request}
use Rattle.nop_types.specs.declared.datagram.Stamped.{Stamped}
use Rattle.nop_types.specs.declared.datagram.Datagram.{Datagram}
use Rattle.nop_types.specs.declared.datagram.Datagram.TheVariants as datagrams
use Rattle.oum_codec.specs.declared.bad.Bad.{Bad}
use Rattle.oum_codec.specs.Reading.{reading}
use Rattle.oum_codec.specs.Spelling.{spelling}
use Rattle.sequencer.specs.declared.state.SequencerState.{SequencerState}

-- within the limits
pub record IsWithin (s : SequencerState) : Type 0 where
  pub number : s.number < MAX_SEQUENCERS
  pub session : s.session < 2 ^ 64
  pub low : 1 ≤ s.next
  pub high : s.next ≤ NUMBER_END

-- sequencer 0 opens in session 1, the others without a session
abbrev pub opening : ℕ → SequencerState
opening number = record { number = number; session = if number == 0 then 1 else 0; next = 1 }

-- ---- a request comes

-- it has a session, and a number is left
abbrev pub can_stamp : SequencerState → Bool
can_stamp s = nat_lt 0 s.session && nat_lt s.next NUMBER_END

abbrev pub stamped : SequencerState → Request → Stamped
stamped s r = record { session = s.session; number = s.next; request = r }

-- the packet that a request becomes
abbrev pub stamped_by : SequencerState → Request → Option Stamped
stamped_by s r = cond (can_stamp s) (Some (stamped s r)) None

abbrev pub after_stamp : SequencerState → SequencerState
after_stamp s = cond (can_stamp s) (record s { next = s.next + 1 }) s

-- a packet is sent to all replicas
abbrev pub send_packet : Option Stamped → List Out
send_packet (Some p) = Send Replicas (spelling (datagrams.Stamped p)) ∷ []
send_packet None = []

abbrev pub stamp : SequencerState → Request → SequencerState × List Out
stamp s r = (after_stamp s, send_packet (stamped_by s r))

-- ---- a session is installed

-- a newer session begins at number 1, and its own one goes on
abbrev pub in_session : SequencerState → ℕ → SequencerState
in_session s session = cond (nat_lt s.session session) (record s { session = session; next = 1 }) s

-- a datagram is sent to a controller
abbrev pub to_controller : ℕ → Datagram → List Out
to_controller k d = Send (One (Controller k)) (spelling d) ∷ []

-- the controller is told the session that this sequencer has then, which may be a later one
abbrev pub installed_in : SequencerState → ℕ → SequencerState × List Out
installed_in s k = (s, to_controller k (datagrams.Installed k s.number s.session))

abbrev pub install_if : Bool → SequencerState → ℕ → ℕ → SequencerState × List Out
install_if true s k session = installed_in (in_session s session) k
install_if false s k session = (s, [])

abbrev pub install : SequencerState → ℕ → ℕ → ℕ → SequencerState × List Out
install s k sequencer session = install_if (sequencer == s.number) s k session

-- ---- a controller asks whether it is there

abbrev pub ping_if : Bool → SequencerState → ℕ → ℕ → SequencerState × List Out
ping_if true s k round = (s, to_controller k (datagrams.Pong k s.number round))
ping_if false s k round = (s, [])

abbrev pub ping : SequencerState → ℕ → ℕ → ℕ → SequencerState × List Out
ping s k sequencer round = ping_if (sequencer == s.number) s k round

-- ---- all rows

abbrev pub on_datagram : SequencerState → Result Datagram Bad → SequencerState × List Out
on_datagram s (Ok (datagrams.Request r)) = stamp s r
on_datagram s (Ok (datagrams.Install controller sequencer session)) = install s controller sequencer session
on_datagram s (Ok (datagrams.Ping controller sequencer round)) = ping s controller sequencer round
on_datagram s _ = (s, [])

unfoldable pub next : SequencerState → Given → SequencerState × List Out
next s (Packet bytes) = on_datagram s (reading bytes)
next s _ = (s, [])
