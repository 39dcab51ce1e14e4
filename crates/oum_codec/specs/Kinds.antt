-- The kinds of datagrams, the fourth byte of each.
use Rattle.std.specs.Prelude.{◌≡◌, ℕ, Option, Some, Result, Ok, Err, ⊤}
use Rattle.nop_types.specs.declared.datagram.Datagram.{Datagram}
use Rattle.nop_types.specs.declared.datagram.Datagram.TheVariants as datagrams
use Rattle.nop_types.specs.declared.kinds.TheConstants as kinds
use Rattle.oum_codec.specs.declared.bad.Bad.{Bad}

abbrev pub kind_of : Datagram → ℕ
kind_of (datagrams.Request r) = kinds.REQUEST
kind_of (datagrams.Stamped s) = kinds.STAMPED
kind_of (datagrams.Reply r) = kinds.REPLY
kind_of (datagrams.Install controller sequencer session) = kinds.INSTALL
kind_of (datagrams.Installed controller sequencer session) = kinds.INSTALLED
kind_of (datagrams.Ping controller sequencer round) = kinds.PING
kind_of (datagrams.Pong controller sequencer round) = kinds.PONG
kind_of (datagrams.Fragment f) = kinds.FRAGMENT
kind_of (datagrams.Read r) = kinds.READ
kind_of (datagrams.Answer a) = kinds.ANSWER

-- what was read, if anything, is of this kind
abbrev pub IsOfKind : Option ℕ → Result Datagram Bad → Type 0
IsOfKind kind (Ok d) = kind ≡ Some (kind_of d)
IsOfKind kind (Err e) = ⊤
