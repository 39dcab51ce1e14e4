-- What is missed of one datagram more.
use Rattle.std.proofs.Common.{◌≡◌, ℕ, ◌+◌, ◌<◌, List, [], ◌∷◌, ◌++◌, length, get_or, take, arith}
use Rattle.std.proofs.lemmas.Grind.{common_steps}
use Rattle.nop_types.specs.declared.output.Actor.{Actor}
use Rattle.picture_arrows.specs.declared.flight.Flight.{Flight}
use Rattle.picture_arrows.specs.declared.missed.Crash.{Crash}
use Rattle.picture_arrows.specs.Missed.{missed_at, missed_from}

missed_behind : (actors : List Actor) (crashes : List Crash) (k : ℕ) (fs : List Flight) (f : Flight)
    → missed_from actors crashes k (fs ++ f ∷ []) ≡ missed_from actors crashes k fs ++ missed_at actors crashes (k + length fs) f
missed_behind actors crashes k [] f = grind (arith, common_steps)
missed_behind actors crashes k (g ∷ fs) f = grind (arith, common_steps, missed_behind actors crashes (k + 1) fs f)

pub missed_from_more : (actors : List Actor) (crashes : List Crash) (fs : List Flight) (i : ℕ) (f : Flight)
    → i < length fs → f ≡ get_or fs i f
    → missed_from actors crashes 0 (take (i + 1) fs) ≡ missed_from actors crashes 0 (take i fs) ++ missed_at actors crashes i f
missed_from_more actors crashes fs i f h e = grind (arith, common_steps, missed_behind actors crashes 0 (take i fs) f)
