-- How a watch ended, and what is told of it.
use Rattle.std.specs.Prelude.{◌≡◌, ℕ, List, Bool, true, false, codes, Option, Result, Ok, Err}
use Rattle.std.specs.Io.KnownBytes.{Appends}
use Rattle.watching.specs.declared.running.WatchError.{WatchError}
use Rattle.watching.specs.declared.running.WatchError.TheVariants as watches
use Rattle.service_tool.specs.Telling.{told_line}
use Rattle.service_tool.specs.declared.status.Status.{Status}
use Rattle.service_tool.specs.declared.status.Status.TheVariants as statuses

-- the status for each error of a watch
abbrev pub watch_status : WatchError → Status
watch_status watches.PortFault = statuses.LinkFault
watch_status watches.LinkFault = statuses.LinkFault
watch_status watches.WriteFault = statuses.WriteFault
watch_status watches.NoMemory = statuses.NoMemory

-- and what is told of it
abbrev pub watch_text : WatchError → List ℕ
watch_text watches.PortFault = codes "the observer's port is in use: take another one by --observer"
watch_text watches.LinkFault = codes "the link failed"
watch_text watches.WriteFault = codes "a write failed"
watch_text watches.NoMemory = codes "memory ran out"

-- what is told where no state was shown
abbrev pub unseen_text : List ℕ
unseen_text = codes "no leader told anything. Is the service up, and does it know of this observer?"

-- a state was shown, or why there is none is told
abbrev pub TellsWatch : List ℕ → Result Bool WatchError → Option (List ℕ) → Option (List ℕ) → Status → Type 0
TellsWatch program (Ok true) err now_err status = (status ≡ statuses.Done) × (now_err ≡ err)
TellsWatch program (Ok false) err now_err status =
    (status ≡ statuses.Unanswered) × Appends err now_err (told_line program unseen_text)
TellsWatch program (Err e) err now_err status =
    (status ≡ watch_status e) × Appends err now_err (told_line program (watch_text e))
