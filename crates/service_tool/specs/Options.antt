-- What the options before a command say.
use Rattle.std.specs.Prelude.{ℕ, ◌+◌, ◌-◌, List, [], ◌∷◌, Bool, true, false, Option, Some, None, Result, Ok, Err, codes, ◌==◌, ◌&&◌, ◌||◌}
use Rattle.std.specs.Prelude.{if◌then◌else◌}
use Rattle.nop_types.specs.declared.limits.TheConstants.{MAX_OBSERVERS, MAX_SEQUENCERS}
use Rattle.line_fields.specs.Fields.{is_text}
use Rattle.site_words.specs.Services.{number_in}
use Rattle.service_tool.specs.declared.options.Options.{Options}
use Rattle.service_tool.specs.declared.reason.Fault.{Fault}
use Rattle.service_tool.specs.declared.reason.Reason.{Reason}
use Rattle.service_tool.specs.declared.reason.Reason.TheVariants.{UnknownOption, NoValue, BadBase, BadReplicas, BadSequencers}
use Rattle.service_tool.specs.declared.reason.Reason.TheVariants.{BadId, BadObserver, BadTurns}
pub use Rattle.nop_types.specs.Results.{◌>>=◌}

-- without options
abbrev pub opening : Options
opening = record {
  base = 41000;
  replicas = 3;
  sequencers = 2;
  hosts = None;
  id = None;
  observer = 0;
  turns = 10000;
  slot = false;
  help = false;
  version = false;
}

-- an option without a value
abbrev pub is_flag : List ℕ → Bool
is_flag word = is_text (codes "--slot") word || (is_text (codes "--help") word || is_text (codes "--version") word)

-- two hyphens begin an option
abbrev pub is_option : List ℕ → Bool
is_option [] = false
is_option (a ∷ []) = false
is_option (a ∷ b ∷ rest) = a == 45 && b == 45

abbrev pub with_flag : Options → List ℕ → Options
with_flag o word =
    if is_text (codes "--slot") word then record o { slot = true }
    else if is_text (codes "--help") word then record o { help = true }
    else record o { version = true }

abbrev pub has_replicas : ℕ → Bool
has_replicas n = n == 1 || (n == 3 || (n == 5 || n == 7))

-- ---- a value, or why it is wrong

abbrev pub base_in : Options → Option ℕ → Result Options Reason
base_in o None = Err BadBase
base_in o (Some n) = Ok (record o { base = n })

abbrev pub replicas_in : Options → Option ℕ → Result Options Reason
replicas_in o None = Err BadReplicas
replicas_in o (Some n) = if has_replicas n then Ok (record o { replicas = n }) else Err BadReplicas

abbrev pub sequencers_in : Options → Option ℕ → Result Options Reason
sequencers_in o None = Err BadSequencers
sequencers_in o (Some n) = Ok (record o { sequencers = n })

abbrev pub id_in : Options → Option ℕ → Result Options Reason
id_in o None = Err BadId
id_in o (Some n) = Ok (record o { id = Some n })

abbrev pub turns_in : Options → Option ℕ → Result Options Reason
turns_in o None = Err BadTurns
turns_in o (Some n) = Ok (record o { turns = n })

abbrev pub observer_in : Options → Option ℕ → Result Options Reason
observer_in o None = Err BadObserver
observer_in o (Some n) = Ok (record o { observer = n })

-- where the service is
abbrev pub with_site : Options → List ℕ → List ℕ → Result Options Reason
with_site o word value =
    if is_text (codes "--base") word then base_in o (number_in 1024 65000 value)
    else if is_text (codes "--replicas") word then replicas_in o (number_in 1 7 value)
    else if is_text (codes "--sequencers") word then sequencers_in o (number_in 1 MAX_SEQUENCERS value)
    else Err UnknownOption

-- who calls it, or looks at it
abbrev pub with_number : Options → List ℕ → List ℕ → Result Options Reason
with_number o word value =
    if is_text (codes "--id") word then id_in o (number_in 0 4294967295 value)
    else if is_text (codes "--turns") word then turns_in o (number_in 1 18446744073709551615 value)
    else if is_text (codes "--observer") word then observer_in o (number_in 0 (MAX_OBSERVERS - 1) value)
    else with_site o word value

-- an option that is none is at fault itself, else its value is
abbrev pub fault_at : ℕ → Result Options Reason → Result Options Fault
fault_at at (Ok o) = Ok o
fault_at at (Err UnknownOption) = Err (record { reason = UnknownOption; at = at })
fault_at at (Err reason) = Err (record { reason = reason; at = at + 1 })

-- with the option at this index, and its value
abbrev pub with_value : Options → ℕ → List ℕ → List ℕ → Result Options Fault
with_value o at word value =
    if is_text (codes "--hosts") word then Ok (record o { hosts = Some (at + 1) }) else fault_at at (with_number o word value)

-- ---- words

-- the last word, which has this index
abbrev pub last_word : Options → ℕ → List ℕ → Result (Options × ℕ) Fault
last_word o at word =
    if is_flag word then Ok (with_flag o word, at + 1)
    else if is_option word then Err (record { reason = NoValue; at = at })
    else Ok (o, at)

-- the options at the front of words, the first of which has this index; and the index of the first word that is none
abbrev pub options_in : Options → ℕ → List (List ℕ) → Result (Options × ℕ) Fault
options_in o at [] = Ok (o, at)
options_in o at (word ∷ []) = last_word o at word
options_in o at (word ∷ value ∷ words) =
    if is_flag word then options_in (with_flag o word) (at + 1) (value ∷ words)
    else if is_option word then with_value o at word value >>= (λ p. options_in p (at + 2) words)
    else Ok (o, at)
