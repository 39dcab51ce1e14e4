-- Messages whose log is borrowed.
use Rattle.std.specs.Prelude.{ℕ}
use Rattle.nop_types.specs.BorrowedLogs.{log_of}
use Rattle.nop_types.specs.Logs.{Log}
use Rattle.nop_types.specs.declared.view.View.{View}
use Rattle.nop_types.specs.declared.peer.Peer.{Peer}
use Rattle.nop_types.specs.declared.peer.Body.{Body}
use Rattle.nop_types.specs.declared.peer.Body.TheVariants as bodies
use Rattle.peer_codec.specs.declared.log_body.LogBody.{LogBody}
use Rattle.peer_codec.specs.declared.log_body.LogBody.TheVariants as borrowed

abbrev pub log_in : LogBody → Log
log_in (borrowed.ViewChange last_normal next log) = log_of log
log_in (borrowed.StartView next log) = log_of log
log_in (borrowed.SyncPrepare log) = log_of log

-- the body that has the log for its own
abbrev pub with_log : LogBody → Body
with_log (borrowed.ViewChange last_normal next log) = bodies.ViewChange last_normal next (log_of log)
with_log (borrowed.StartView next log) = bodies.StartView next (log_of log)
with_log (borrowed.SyncPrepare log) = bodies.SyncPrepare (log_of log)

abbrev pub log_message : ℕ → View → LogBody → Peer
log_message sender view body = record { sender = sender; view = view; body = with_log body }
