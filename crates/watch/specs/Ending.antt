-- How the program ends, and what it has written then.
use Rattle.std.specs.Prelude.{◌≡◌, ℕ, List, [], ◌∷◌, ◌++◌, Bool, codes, Option, Some, None, Result, Ok, Err}
use Rattle.std.specs.Io.KnownBytes.{Appends}
use Rattle.outside.specs.Prefixes.{AppendsPrefix}
use Rattle.outside.specs.declared.errors.DeviceError.{DeviceError}
use Rattle.outside.specs.declared.link.PollAnswer.{PollAnswer}
use Rattle.roll_call.specs.Rolls.{Rolled}
use Rattle.roll_call.specs.Rolls as rolls
use Rattle.watching.specs.Statuses.{status_of}
use Rattle.watching.specs.Turns.{WatchedBy}
use Rattle.watching.specs.Watching.{opening}
use Rattle.watching.specs.declared.running.WatchError.{WatchError}
use Rattle.watching.specs.declared.status.Status.{Status}
use Rattle.watching.specs.declared.status.Status.TheVariants.{Usage}
use Rattle.watch.specs.declared.call.Call.{Call}

unfoldable pub usage_line : List ℕ
usage_line = codes "usage: watch (PORT REPLICAS | LIST) OBSERVER [--once | --redraw] [--turns TURNS]" ++ 10 ∷ []

-- no node is asked
abbrev pub nobody : Rolled
nobody = rolls.opening (record { digest = 0; number = 0 }) []

module _ (answers : Option (List PollAnswer)) (values : Option (List ℕ)) (before now : Option (List ℕ)) where
  -- the watch was made, and this is the status of its end
  pub record EndsWatch (c : Call) (status : Status) : Type 0 where
    pub ended : Result Bool WatchError
    pub watched : WatchedBy c.asked.once c.asked.turns (opening c.asked.redraws c.at.config.replicas nobody) answers values before now ended
    pub is : status ≡ status_of ended

  -- the usage line was written; or a write failed in it
  abbrev pub Ends : Option Call → Result Status DeviceError → Type 0
  Ends (Some c) (Ok status) = EndsWatch c status
  Ends (Some c) (Err e) = ⊥
  Ends None (Ok status) = (status ≡ Usage) × Appends before now usage_line
  Ends None (Err e) = AppendsPrefix before now usage_line
