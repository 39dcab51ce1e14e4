-- What the words of a command line ask for.
use Rattle.std.specs.Prelude.{ℕ, ◌+◌, List, [], ◌∷◌, length, drop, Bool, true, false, Option, Some, None, Result, Ok, Err, codes, is_none, ◌&&◌, ◌||◌}
use Rattle.std.specs.Prelude.{if◌then◌else◌}
use Rattle.nop_types.specs.declared.limits.TheConstants.{MAX_CLIENTS}
use Rattle.line_fields.specs.Fields.{is_text}
use Rattle.site_words.specs.Services.{number_in}
use Rattle.service_words.specs.Directions.{direction_of}
use Rattle.service_words.specs.declared.direction.Direction.{Direction}
use Rattle.service_tool.specs.Options.{◌>>=◌, opening, options_in}
use Rattle.service_tool.specs.declared.asked.Asked.{Asked}
use Rattle.service_tool.specs.declared.asked.Command.{Command}
use Rattle.service_tool.specs.declared.asked.Command.TheVariants.{Help, Version, Execute, Repl, Status, Load, Turn, Lines}
use Rattle.service_tool.specs.declared.options.Options.{Options}
use Rattle.service_tool.specs.declared.reason.Fault.{Fault}
use Rattle.service_tool.specs.declared.reason.Reason.TheVariants.{NoCommand, NoId, NoLoad, BadClients, BadOp, BadOps, ExtraWord}

-- words and bytes are turned into one another
abbrev pub is_turned : List ℕ → Bool
is_turned word = is_text (codes "op") word || (is_text (codes "text") word || is_text (codes "result") word)

-- a command and the option `--help`
abbrev pub ends_in_help : List (List ℕ) → Bool
ends_in_help (word ∷ last ∷ []) = is_text (codes "--help") last
ends_in_help words = false

-- a command that is one word
abbrev pub one_word : ℕ → List (List ℕ) → Command → Result Command Fault
one_word at (word ∷ more ∷ words) command = Err (record { reason = ExtraWord; at = at + 1 })
one_word at words command = Ok command

-- so many ops through so many clients
abbrev pub load_with : ℕ → Option ℕ → Option ℕ → Result Command Fault
load_with at None ops = Err (record { reason = BadClients; at = at + 1 })
load_with at (Some clients) None = Err (record { reason = BadOps; at = at + 2 })
load_with at (Some clients) (Some ops) = Ok (Load clients ops)

abbrev pub load_of : ℕ → List ℕ → List ℕ → Result Command Fault
load_of at clients ops = load_with at (number_in 1 MAX_CLIENTS clients) (number_in 1 1000000000 ops)

abbrev pub load_command : ℕ → List (List ℕ) → Result Command Fault
load_command at (word ∷ clients ∷ ops ∷ []) = load_of at clients ops
load_command at (word ∷ clients ∷ ops ∷ more ∷ words) = Err (record { reason = ExtraWord; at = at + 3 })
load_command at words = Err (record { reason = NoLoad; at = at })

-- lines in words, or in hexadecimal, by the words behind the command with this index
abbrev pub lines_by : ℕ → Option Direction → Result Command Fault
lines_by at (Some way) = Ok (Lines way)
lines_by at None = Err (record { reason = ExtraWord; at = at })

abbrev pub lines_command : ℕ → List (List ℕ) → Result Command Fault
lines_command at more = lines_by (at + length more) (direction_of more)

abbrev pub op_command : ℕ → Option (List ℕ) → Result Command Fault
op_command at (Some op) = Ok (Execute op)
op_command at None = Err (record { reason = BadOp; at = at })

-- the command of words, the first of which has this index, by the ops of a service
abbrev pub command_of : (List (List ℕ) → Option (List ℕ)) → ℕ → List (List ℕ) → Result Command Fault
command_of op_of at [] = Err (record { reason = NoCommand; at = at })
command_of op_of at (word ∷ words) =
    if is_text (codes "repl") word then one_word at (word ∷ words) Repl
    else if is_text (codes "status") word then one_word at (word ∷ words) Status
    else if is_text (codes "load") word then load_command at (word ∷ words)
    else if is_text (codes "words") word then lines_command at words
    else if is_turned word then Ok (Turn at)
    else op_command at (op_of (word ∷ words))

-- ops are submitted by a client, whose number is given
abbrev pub submits : Command → Bool
submits (Execute op) = true
submits Repl = true
submits (Load clients ops) = true
submits _ = false

abbrev pub needs_id : Options → ℕ → Command → Result Asked Fault
needs_id o count c =
    if submits c && is_none o.id then Err (record { reason = NoId; at = count }) else Ok (record { options = o; command = c })

abbrev pub asked_by : (List (List ℕ) → Option (List ℕ)) → Options → ℕ → ℕ → List (List ℕ) → Result Asked Fault
asked_by op_of o at count words =
    if o.version then Ok (record { options = o; command = Version })
    else if o.help || ends_in_help words then Ok (record { options = o; command = Help at })
    else command_of op_of at words >>= needs_id o count

-- what the words ask for, or the word that is at fault
abbrev pub asked_of : (List (List ℕ) → Option (List ℕ)) → List (List ℕ) → Result Asked Fault
asked_of op_of words = options_in opening 0 words >>= λ p. asked_by op_of p.0 p.1 (length words) (drop p.1 words)
