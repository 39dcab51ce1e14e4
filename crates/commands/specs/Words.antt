-- The words that the program takes, and what it answers to all others.
use Rattle.std.specs.Prelude.{ℕ, List, [], ◌∷◌, ◌++◌, String, Option, Some, IsSome, codes, Bool, true, false}
use Rattle.command_line.specs.Commands.{command_of, texts_of}
use Rattle.command_line.specs.declared.command.Command.{Command}
use Rattle.command_line.specs.declared.command.Command.TheVariants.{Replay, Check, Audit}

-- the command that the words ask for
abbrev pub asked : {Z : Type 0} → List (String Z) → Option Command
asked words = command_of (texts_of words)

-- they ask for one
abbrev pub Taken : {Z : Type 0} → List (String Z) → Type 0
Taken words = IsSome (asked words)

-- whether a command reads the source
abbrev pub reads : Option Command → Bool
reads (Some Replay) = true
reads (Some Check) = true
reads (Some Audit) = true
reads _ = false

-- by the name of the program
unfoldable pub usage_line : List ℕ → List ℕ
usage_line program =
    codes "usage: " ++ (program
    ++ (codes " replay | gen | node | sequencer | controller | client | cluster | check | observer | read | audit" ++ 10 ∷ []))
