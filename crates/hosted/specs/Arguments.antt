-- What the program's words ask for, and the words by which `commands` runs an actor of a list of hosts.
use Rattle.std.specs.Prelude.{ℕ, List, [], ◌∷◌, ◌++◌, codes, if◌then◌else◌, Option, Some, None, option_map}
use Rattle.std.specs.Str.{bytes_eq}
use Rattle.std.specs.Fmt.{decimal}
use Rattle.nop_types.specs.declared.output.Actor.{Actor}
use Rattle.nop_types.specs.declared.output.Actor.TheVariants.{Replica}
use Rattle.udp_node.specs.declared.address.Address.{Address}
use Rattle.command_line.specs.Commands.{texts_of}
use Rattle.hosted.specs.Actors.{command_name, number_of}
use Rattle.hosted.specs.declared.arguments.Task.{Task}

-- ---- what is asked for

-- the file of a list, the folder of marks, the name of an actor, and the words behind it
pub record Asked : Type 0 where
  pub list : List ℕ
  pub marks : Option (List ℕ)
  pub actor : List ℕ
  pub rest : List (List ℕ)

abbrev pub without_marks : List ℕ → List ℕ → List (List ℕ) → Asked
without_marks list actor rest = record { list = list; marks = None; actor = actor; rest = rest }

-- behind the list and a second word: where that is --marks, a folder and an actor
abbrev pub asked_behind : List ℕ → List ℕ → List (List ℕ) → Asked
asked_behind list word (folder ∷ actor ∷ rest) =
    if bytes_eq word (codes "--marks") then record { list = list; marks = Some folder; actor = actor; rest = rest }
    else without_marks list word (folder ∷ actor ∷ rest)
asked_behind list word rest = without_marks list word rest

-- the first word is the program's name; None of fewer than three
abbrev pub asked_by : List (List ℕ) → Option Asked
asked_by (program ∷ list ∷ word ∷ rest) = Some (asked_behind list word rest)
asked_by words = None

-- the same as a task has it
abbrev pub asked_of : Task → Asked
asked_of task =
    record { list = task.list.now; marks = option_map (λ m. m.now) task.marks; actor = task.actor.now; rest = texts_of task.rest.now }

-- ---- the words of commands

-- an option with a number
abbrev pub option_words : List ℕ → ℕ → List (List ℕ)
option_words name n = name ∷ decimal n ∷ []

-- a replica is told how many observers there are
abbrev pub observer_words : Actor → ℕ → List (List ℕ)
observer_words (Replica i) observers = option_words (codes "--observers") observers
observer_words actor observers = []

-- the command of an actor, behind a program's name, and what the list says of the actor and of its cluster
abbrev pub own_words : Address → List (List ℕ)
own_words at =
    ((((codes "hosted" ∷ command_name at.own ∷ [])
    ++ option_words (codes "--id") (number_of at.own))
    ++ option_words (codes "--base") at.base)
    ++ option_words (codes "--replicas") at.config.replicas)
    ++ option_words (codes "--sequencers") at.config.sequencers
    ++ observer_words at.own at.config.observers
