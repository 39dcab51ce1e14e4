-- What a datagram is for, and what shows at the actor that sent it.
use Rattle.std.specs.Prelude.{◌≡◌, Option, None, Some, codes, string_bytes}
use Rattle.nop_types.specs.declared.datagram.Datagram.{Datagram}
use Rattle.nop_types.specs.declared.datagram.Datagram.TheVariants as datagrams
use Rattle.picture.specs.declared.data.Mark.{Mark}
use Rattle.picture.specs.declared.data.Mark.TheVariants as marks
use Rattle.picture.specs.declared.data.Note.{Note}
use Rattle.picture.specs.declared.data.Purpose.{Purpose}
use Rattle.picture.specs.declared.data.Purpose.TheVariants as purposes
use Rattle.picture_labels.specs.declared.datagrams.Label.{Label}

abbrev pub purpose_of : Datagram → Purpose
purpose_of (datagrams.Request request) = purposes.Request
purpose_of (datagrams.Stamped stamped) = purposes.Request
purpose_of (datagrams.Read read) = purposes.Request
purpose_of (datagrams.Reply reply) = purposes.Reply
purpose_of (datagrams.Answer answer) = purposes.Reply
purpose_of (datagrams.Fragment fragment) = purposes.Peer
purpose_of _ = purposes.Session

-- a stamp, or a session that is ordered or confirmed
abbrev pub mark_of : Datagram → Option Mark
mark_of (datagrams.Stamped stamped) = Some marks.Stamped
mark_of (datagrams.Install controller sequencer session) = Some marks.Session
mark_of (datagrams.Installed controller sequencer session) = Some marks.Session
mark_of _ = None

abbrev pub mark_shown : Option Note → Option Mark
mark_shown (Some note) = Some note.mark
mark_shown None = None

-- the bytes spell no datagram
abbrev pub IsNoDatagram : Label → Type 0
IsNoDatagram l = (string_bytes l.text ≡ codes "no datagram") × (l.purpose ≡ purposes.Peer) × (l.note ≡ None)
