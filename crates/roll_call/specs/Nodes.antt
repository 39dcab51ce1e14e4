-- A node, and how it stands.
use Rattle.std.specs.Prelude.{ℕ, ◌-◌, Bool, true, false, not, cond, nat_lt, ◌==◌, Option, Some, None}
use Rattle.std.specs.Option.{option_or}
use Rattle.roll_call.specs.declared.node.Asked.{Asked}
use Rattle.roll_call.specs.declared.node.Node.{Node}
use Rattle.roll_call.specs.declared.node.Standing.{Standing}
use Rattle.roll_call.specs.declared.node.TheConstants.{SILENT_MILLIS}

-- it was not asked yet
abbrev pub unasked : Node → Asked
unasked node = record { node = node; answered = None; standing = None }

-- an answer came from this port
abbrev pub marked : (port now : ℕ) → Asked → Asked
marked port now a = cond (a.node.port == port) (record a { answered = Some now }) a

-- it answered of late
abbrev pub answers : Option ℕ → ℕ → Bool
answers None now = false
answers (Some at) now = nat_lt (now - at) SILENT_MILLIS

abbrev pub same : Bool → Bool → Bool
same true b = b
same false b = not b

abbrev pub stands : Option Standing → Bool → Bool
stands None b = false
stands (Some s) b = same s.answers b

-- how it stands now, where that is otherwise than before
abbrev pub news_of : ℕ → Asked → Option Standing
news_of now a =
    cond (stands a.standing (answers a.answered now)) None (Some (record { answers = answers a.answered now; since = now }))

abbrev pub judged : ℕ → Asked → Asked
judged now a = record a { standing = option_or (news_of now a) a.standing }
