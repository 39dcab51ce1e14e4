-- What the user is told where nothing is run, and with what status the program ends then.
use Rattle.std.specs.Prelude.{◌≡◌, ℕ, List, [], ◌∷◌, ◌++◌, Option, codes}
use Rattle.std.specs.Io.KnownBytes.{Appends}
use Rattle.commands.specs.declared.status.Status.{Status}
use Rattle.commands.specs.declared.status.Status.TheVariants as statuses
use Rattle.host_list.specs.declared.rule.Refusal.{Refusal}
use Rattle.outside.specs.Prefixes.{AppendsPrefix}
use Rattle.host_places.specs.Refusals.{refusal_line}
use Rattle.hosted.specs.declared.unfit.Unfit.{Unfit}
use Rattle.hosted.specs.declared.unfit.Unfit.TheVariants as unfits

-- by the name of the program
unfoldable pub usage_line : List ℕ → List ℕ
usage_line program = codes "usage: " ++ (program ++ (codes " LIST [--marks FOLDER] ACTOR [OPTION..] [OP..]" ++ 10 ∷ []))

-- the line was written, and the status is 2; or only a front of it, where a write failed or memory ran out
abbrev pub Tells : List ℕ → Option (List ℕ) → Option (List ℕ) → Status → Type 0
Tells line before now statuses.Usage = Appends before now line
Tells line before now statuses.WriteFault = AppendsPrefix before now line
Tells line before now statuses.NoMemory = AppendsPrefix before now line
Tells line before now _ = ⊥

-- how the program ends where nothing is run: it tells the usage line, or the refusal of the list
abbrev pub Ends : List ℕ → Unfit → Option (List ℕ) → Option (List ℕ) → Status → Type 0
Ends program unfits.Usage before now status = Tells (usage_line program) before now status
Ends program (unfits.List refusal) before now status = Tells (refusal_line refusal) before now status
Ends program unfits.NoMemory before now status = status ≡ statuses.NoMemory
