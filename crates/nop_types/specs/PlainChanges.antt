-- Changes whose logs are lists of entries, as the protocol tells them.
use Rattle.std.specs.Prelude.{ℕ, List}
use Rattle.nop_types.specs.declared.view.View.{View}
use Rattle.nop_types.specs.declared.request.Entry.{Entry}
use Rattle.nop_types.specs.declared.peer.Change as code
use Rattle.nop_types.specs.Logs.{Keeping, Whole, above}

-- what a replica had when it entered a view
pub record Change : Type 0 where
  pub sender : ℕ
  pub last_normal : View
  pub next : ℕ
  pub sync_point : ℕ
  pub log : List Entry

abbrev pub sender_of : Change → ℕ
sender_of c = c.sender

-- with the entries that its log keeps above a slot
abbrev pub plain_above : Keeping → ℕ → code.Change → Change
plain_above k n c =
    record { sender = c.sender; last_normal = c.last_normal; next = c.next; sync_point = c.log.sync_point; log = above k c.log n }

-- with all entries of its whole log
abbrev pub plain : code.Change → Change
plain c = plain_above Whole 0 c
