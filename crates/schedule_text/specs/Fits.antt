-- The ranges of events, which their types keep.
use Rattle.std.specs.Prelude.{◌≤◌, ⊤, length, List, [], ◌∷◌}
use Rattle.nop_types.specs.declared.limits.TheConstants.{MAX_KEY_BYTES, MAX_OP_BYTES}
use Rattle.schedule_text.specs.declared.event.Event.{Event}
use Rattle.schedule_text.specs.declared.event.Event.TheVariants.{Submit, Read}

-- an op that is submitted has at most 640 bytes, a key that is read 1 to 64
abbrev pub EventFits : Event → Type 0
EventFits (Submit client op) = length op ≤ MAX_OP_BYTES
EventFits (Read client observer key) = (1 ≤ length key) × (length key ≤ MAX_KEY_BYTES)
EventFits _ = ⊤

abbrev pub EventsFit : List Event → Type 0
EventsFit [] = ⊤
EventsFit (e ∷ es) = EventFits e × EventsFit es
