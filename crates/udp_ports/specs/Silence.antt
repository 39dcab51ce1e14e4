-- When nothing came, and nothing is wrong.
use Rattle.std.specs.Prelude.{Bool, true, false}
use Rattle.std.specs.declared.io.ErrorKind.{ErrorKind}
use Rattle.std.specs.declared.io.ErrorKind.TheVariants.{WouldBlock, TimedOut, Interrupted}

-- a receive would have to wait, has waited, or was interrupted by a signal
abbrev pub is_silence : ErrorKind → Bool
is_silence WouldBlock = true
is_silence TimedOut = true
is_silence Interrupted = true
is_silence kind = false
