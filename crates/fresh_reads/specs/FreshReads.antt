-- A client that asks an observer for a key, and asks again while the answers are behind a position.
use Rattle.std.specs.Prelude.{ℕ, ◌+◌, List, [], ◌∷◌, ◌++◌, Bool, true, false, cond, not, nat_le, ◌&&◌, ◌||◌}
use Rattle.std.specs.List.{list_any}
use Rattle.nop_types.specs.Configuration.{Configuration}
use Rattle.nop_types.specs.Given.{Given, Ticked, Read}
use Rattle.nop_types.specs.declared.input.Tick.{Tick}
use Rattle.nop_types.specs.declared.input.Tick.TheVariants as ticks
use Rattle.nop_types.specs.declared.output.Out.{Out}
use Rattle.nop_types.specs.declared.output.Out.TheVariants.{Answered}
use Rattle.client_quorum.specs.Core as client
use Rattle.client_quorum.specs.Core.{Client}

-- whether an answer came whose position is not below the least
pub record FreshRead : Type 0 where
  pub client : Client
  pub observer : ℕ
  pub key : List ℕ
  pub least : ℕ
  pub reached : Bool

abbrev pub opening : Configuration → (number observer : ℕ) → (key : List ℕ) → (least : ℕ) → FreshRead
opening config number observer key least =
    record { client = client.opening config number []; observer = observer; key = key; least = least; reached = false }

-- an answer whose position is not below the least
abbrev pub is_fresh : ℕ → Out → Bool
is_fresh least (Answered client id observer position result) = nat_le least position
is_fresh least _ = false

-- nothing is under way, and no answer was fresh
abbrev pub asks_again : FreshRead → Bool
asks_again s = client.is_done s.client && not s.reached

-- then the tick Retry asks for the key again
abbrev pub turned : Bool → (observer : ℕ) → (key : List ℕ) → Given → Given
turned true observer key (Ticked ticks.Retry) = Read observer key
turned _ observer key x = x

abbrev pub took : FreshRead → Client × List Out → FreshRead × List Out
took s y = (record s { client = y.0; reached = s.reached || list_any (λ o. is_fresh s.least o) y.1 }, y.1)

abbrev pub next : FreshRead → Given → FreshRead × List Out
next s x = took s (client.next s.client (turned (asks_again s) s.observer s.key x))

-- with their periods in milliseconds
abbrev pub timers : List (Tick × ℕ)
timers = client.timers

-- an answer was fresh
abbrev pub is_done : FreshRead → Bool
is_done s = s.reached

-- ---- runs

-- the state after some inputs
abbrev pub after : FreshRead → List Given → FreshRead
after s [] = s
after s (x ∷ xs) = after (next s x).0 xs

-- what they give, in order
abbrev pub gave : FreshRead → List Given → List Out
gave s [] = []
gave s (x ∷ xs) = (next s x).1 ++ gave (next s x).0 xs

-- how many answers are fresh
abbrev pub fresh_count : ℕ → List Out → ℕ
fresh_count least [] = 0
fresh_count least (o ∷ outs) = cond (is_fresh least o) (1 + fresh_count least outs) (fresh_count least outs)
