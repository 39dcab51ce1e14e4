-- The watch that arguments name.
use Rattle.std.specs.Prelude.{ℕ, List, [], ◌∷◌, Bool, false, not, is_some, Option, Some, None, nat_le, ◌&&◌, if◌then◌else◌}
use Rattle.nop_types.specs.Configuration.{Configuration, is_configuration}
use Rattle.nop_types.specs.declared.limits.TheConstants.{MAX_CONTROLLERS, MAX_OBSERVERS}
use Rattle.nop_types.specs.declared.output.Actor.{Actor}
use Rattle.nop_types.specs.declared.output.Actor.TheVariants.{Observer}
use Rattle.line_fields.specs.Fields.{actor_of, number_below, number_of}
use Rattle.udp_node.specs.declared.address.Address.{Address}
use Rattle.watching.specs.Asked.{asked_of}
use Rattle.watching.specs.Lines.{◌>>=◌}
use Rattle.watch.specs.declared.call.Call.{Call}

-- the number, if it is in the range
abbrev pub in_range : ℕ → ℕ → ℕ → Option ℕ
in_range least most n = if nat_le least n && nat_le n most then Some n else None

abbrev pub number_in : ℕ → ℕ → List ℕ → Option ℕ
number_in least most word = do
  n ← number_of word
  in_range least most n

abbrev pub configuration_if : Configuration → Option Configuration
configuration_if c = if is_configuration c then Some c else None

-- so many replicas, with all observers
abbrev pub config_of : List ℕ → Option Configuration
config_of replicas = do
  n ← number_below 256 replicas
  configuration_if (record { replicas = n; sequencers = 1; clients = 1; controllers = MAX_CONTROLLERS; observers = MAX_OBSERVERS })

abbrev pub at_observer : ℕ → Configuration → Option Actor → Option Address
at_observer base config (Some (Observer i)) = Some (record { base = base; own = Observer i; config = config })
at_observer base config actor = None

abbrev pub place_of : List ℕ → List ℕ → List ℕ → Option Address
place_of port replicas observer = do
  base ← number_in 1024 65000 port
  config ← config_of replicas
  at_observer base config (actor_of config observer)

-- the file of a list of hosts: behind it no number stands
abbrev pub names_a_list : List (List ℕ) → Bool
names_a_list (list ∷ word ∷ words) = not (is_some (number_of word))
names_a_list words = false

-- a port, a number of replicas, an observer, and what is asked
abbrev pub call_of : List (List ℕ) → Option Call
call_of (port ∷ replicas ∷ observer ∷ words) = do
  at ← place_of port replicas observer
  asked ← asked_of words
  Some (record { at = at; asked = asked })
call_of words = None
