-- The ticks of a schedule.
use Rattle.std.specs.Prelude.{ℕ, List, Bool, true, false, Option, Some, None, codes, if◌then◌else◌}
use Rattle.nop_types.specs.declared.input.Tick.{Tick}
use Rattle.nop_types.specs.declared.input.Tick.TheVariants.{Suspect, Watch, Resend, Sync, Retry, Probe}
use Rattle.nop_types.specs.declared.output.Actor.{Actor}
use Rattle.nop_types.specs.declared.output.Actor.TheVariants.{Replica, Client, Controller}
use Rattle.line_fields.specs.Fields.{is_text}

-- the tick that the field names
unfoldable pub tick_named : List ℕ → Option Tick
tick_named field =
    if is_text (codes "suspect") field then Some Suspect
    else if is_text (codes "watch") field then Some Watch
    else if is_text (codes "resend") field then Some Resend
    else if is_text (codes "sync") field then Some Sync
    else if is_text (codes "retry") field then Some Retry
    else if is_text (codes "probe") field then Some Probe
    else None

-- whether a schedule may give the actor this tick
abbrev pub takes_tick : Actor → Tick → Bool
takes_tick (Replica i) Suspect = true
takes_tick (Replica i) Watch = true
takes_tick (Replica i) Resend = true
takes_tick (Replica i) Sync = true
takes_tick (Client i) Retry = true
takes_tick (Controller i) Probe = true
takes_tick (Controller i) Resend = true
takes_tick actor tick = false
