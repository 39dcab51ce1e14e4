-- The core of a client: what it knows of its requests and of its reads, and what a step makes of that.
use Rattle.std.specs.Prelude.{ℕ, ⊤, List, [], ◌∷◌, ◌++◌, Bool, ◌&&◌}
use Rattle.nop_types.specs.Configuration.{Configuration}
use Rattle.nop_types.specs.Given.{Given, Read}
use Rattle.nop_types.specs.declared.input.Tick.{Tick}
use Rattle.nop_types.specs.declared.output.Out.{Out}
use Rattle.client_reads.specs.ReadSteps as reads
use Rattle.client_reads.specs.declared.state.Reads.{Reads}
use Rattle.client_quorum.specs.ClientSteps as requests
use Rattle.client_quorum.specs.declared.state.ClientState.{ClientState}

pub record Client : Type 0 where
  pub requests : ClientState
  pub reads : Reads

abbrev pub opening : Configuration → ℕ → List (List ℕ) → Client
opening config number ops = record { requests = requests.opening config number ops; reads = reads.opening number }

-- its requests take the step, and then its reads
abbrev pub next : Client → Given → Client × List Out
next c x = (
  record { requests = (requests.next c.requests x).0; reads = (reads.next c.reads x).0 },
  (requests.next c.requests x).1 ++ (reads.next c.reads x).1,
)

-- with their periods in milliseconds
abbrev pub timers : List (Tick × ℕ)
timers = requests.timers

abbrev pub is_done : Client → Bool
is_done c = requests.is_done c.requests && reads.is_done c.reads

-- ---- runs

-- the state after some inputs
abbrev pub after : Client → List Given → Client
after c [] = c
after c (x ∷ xs) = after (next c x).0 xs

-- what they give, in order
abbrev pub gave : Client → List Given → List Out
gave c [] = []
gave c (x ∷ xs) = (next c x).1 ++ gave (next c x).0 xs

-- no key is asked for
abbrev pub IsNoRead : Given → Type 0
IsNoRead (Read observer key) = ⊥
IsNoRead _ = ⊤

abbrev pub HasNoRead : List Given → Type 0
HasNoRead [] = ⊤
HasNoRead (x ∷ xs) = IsNoRead x × HasNoRead xs
