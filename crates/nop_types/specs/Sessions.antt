-- Sessions of several controllers: an epoch and a count in it. Controller j gives out those whose epoch is j modulo 4.
use Rattle.std.specs.Prelude.{ℕ, zero, suc, ◌+◌, ◌*◌, ◌/◌, ◌%◌, ◌^◌}
use Rattle.nop_types.specs.declared.limits.TheConstants.{EPOCH_STEP}

abbrev pub epoch : ℕ → ℕ
epoch session = session / 2 ^ 32

abbrev pub count : ℕ → ℕ
count session = session % 2 ^ 32

abbrev pub session_of : (epoch count : ℕ) → ℕ
session_of e c = e * 2 ^ 32 + c

-- the controller that gives out a session
abbrev pub home : ℕ → ℕ
home session = epoch session % EPOCH_STEP

-- controller 0 opens with session 1, the one that sequencer 0 opens in; each other one with the first number of its first epoch
abbrev pub opening_session : ℕ → ℕ
opening_session zero = 1
opening_session (suc k) = session_of (suc k) 0
