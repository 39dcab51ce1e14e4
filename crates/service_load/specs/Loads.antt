-- A load: the ops of a pattern, again and again, through the cores of a desk, and how many of them are answered.
use Rattle.std.specs.Prelude.{◌≡◌, ℕ, zero, suc, ◌+◌, ◌%◌, ◌≤◌, ◌<◌, List, [], ◌∷◌, ◌++◌, length, Option, Some, None, Result, Ok, Err, ⊤, slice_get}
use Rattle.std.specs.Option.{unwrap_or}
use Rattle.nop_types.specs.Configuration.{Configuration}
use Rattle.nop_types.specs.declared.output.Out.{Out}
use Rattle.nop_types.specs.declared.output.Out.TheVariants.{Accepted}
use Rattle.desk.specs.Desks.{Event, opening}
use Rattle.desk.specs.Runs.{after, gave, ops_of}
use Rattle.desk.specs.declared.desk_state.DeskState.{DeskState}
use Rattle.desk.specs.declared.submitter.Labelled.{Labelled}
use Rattle.service_load.specs.declared.load.Load.{Load}
use Rattle.service_load.specs.declared.report.Report.{Report}

-- ---- a pattern

abbrev pub op_at : List (List ℕ) → ℕ → List ℕ
op_at ops place = unwrap_or (slice_get ops (place % length ops)) []

-- so many ops of a pattern, in order
abbrev pub first_ops : List (List ℕ) → ℕ → List (List ℕ)
first_ops ops zero = []
first_ops ops (suc n) = first_ops ops n ++ op_at ops n ∷ []

-- ---- what is answered

-- how many tickets an output answers
abbrev pub answers : Option ℕ → Out → ℕ
answers (Some ticket) (Accepted client id result) = 1
answers (Some ticket) _ = 0
answers None _ = 0

abbrev pub answer_count : List Labelled → ℕ
answer_count [] = 0
answer_count (g ∷ told) = answers g.ticket g.out + answer_count told

-- ---- a load

-- so many ops of a pattern, by clients of a service whose numbers are one above the other
pub record Plan : Type 0 where
  pub config : Configuration
  pub first : ℕ
  pub clients : ℕ
  pub ops : List (List ℕ)
  pub count : ℕ

-- Over some events a desk took the first ops of the pattern, so many, each once and no others, and gave so many answers.
pub record HasRun (plan : Plan) (desk : DeskState) (count : ℕ) : Type 0 where
  pub events : List Event
  pub is : desk ≡ after (opening plan.config plan.first plan.clients) events
  pub took : ops_of events ≡ first_ops plan.ops desk.taken
  pub answered : count ≡ answer_count (gave (opening plan.config plan.first plan.clients) events)

pub record IsLoad (plan : Plan) (l : Load) : Type 0 where
  pub ops : l.pattern ≡ plan.ops
  pub count : l.count ≡ plan.count
  pub run : HasRun plan l.desk.state (length l.tally.times.items)
  pub within : l.desk.state.taken ≤ plan.count

-- it is the same load, further on
abbrev pub Follows : Load → Load → Type 0
Follows old new = (plan : Plan) → IsLoad plan old → IsLoad plan new

-- unless an error ended it
abbrev pub Keeps : {T E : Type 0} → Load → Load → Result T E → Type 0
Keeps old new (Ok t) = Follows old new
Keeps old new (Err e) = ⊤

-- ---- its report

-- the first ops of the pattern, so many and at most those of the plan, were submitted, and so many were answered
pub record Reports (plan : Plan) (r : Report) : Type 0 where
  pub desk : DeskState
  pub run : HasRun plan desk r.answered
  pub submitted : r.submitted ≡ desk.taken
  pub within : r.submitted ≤ plan.count
  pub times : length r.times.items ≡ r.answered
