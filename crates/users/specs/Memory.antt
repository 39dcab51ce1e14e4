-- What users in memory hold.
use Rattle.std.specs.Prelude.{ℕ, List, ⊤}
use Rattle.users.specs.Events.{IsShort}
use Rattle.users.specs.declared.event.UserAnswer.{UserAnswer}
use Rattle.users.specs.declared.event.UserAnswer.TheVariants.{Came}
use Rattle.users.specs.declared.event.UserCall.{UserCall}

-- what the calls to come answer, how many failed, and what was done
pub record UsersMemory : Type 0 where
  pub to_come : List UserAnswer
  pub faults : ℕ
  pub trace : List UserCall

abbrev pub MayCome : UserAnswer → Type 0
MayCome (Came event) = IsShort event
MayCome _ = ⊤
