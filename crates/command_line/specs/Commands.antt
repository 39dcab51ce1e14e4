-- The command that the words ask for.
use Rattle.std.specs.Prelude.{◌≡◌, ℕ, ◌-◌, ◌^◌, ◌<◌, ◌≤◌, ⊤, List, [], ◌∷◌, ◌++◌, Bool, true, false, Option, Some, None, Result, ◌&&◌}
use Rattle.std.specs.Prelude.{Ok, Err, length, map, codes, nat_lt, nat_le, option_map, if◌then◌else◌, String, IsTrue}
use Rattle.std.specs.Borrow.{Bor}
use Rattle.std.specs.Str.{bytes_eq}
use Rattle.std.specs.String.{string_bytes}
use Rattle.clap.specs.Words.{Kinds, Row, Text, all_of, fault_of, first_of, subcommand_of}
use Rattle.clap.specs.declared.error.kind.ErrorKind.{ErrorKind}
use Rattle.hex.specs.Hex.{decode_of}
use Rattle.hex.specs.declared.error.FromHexError.{FromHexError}
use Rattle.nop_types.specs.Configuration.{Configuration, is_configuration}
use Rattle.nop_types.specs.Headers.{gives}
use Rattle.nop_types.specs.declared.limits.TheConstants.{MAX_KEY_BYTES, MAX_OP_BYTES, MAX_SEQUENCERS, MAX_CONTROLLERS, MAX_OBSERVERS}
use Rattle.command_line.specs.Numbers.{number_of}
use Rattle.command_line.specs.Program.{program_app}
use Rattle.command_line.specs.declared.command.Command.{Command}
use Rattle.command_line.specs.declared.command.Command.TheVariants.{Replay, Gen, Node, Sequencer, Controller, Client, Cluster, Check, Audit}
use Rattle.command_line.specs.declared.command.Command.TheVariants.{Observer, Read}
use Rattle.command_line.specs.declared.command.Site.{Site}
use Rattle.command_line.specs.declared.options.TheConstants.{MAX_CLUSTER_TURNS}

-- ---- values

-- a number that may be left out
abbrev pub number_or : Option ℕ → ℕ → ℕ → Option Text → Option ℕ
number_or default least most None = default
number_or default least most (Some text) = number_of least most text

-- the number that an option has
abbrev pub value_of : List Row → Text → Option ℕ → ℕ → ℕ → Option ℕ
value_of rows name default least most = number_or default least most (first_of name rows)

-- left out, or a number of 8 bits
abbrev pub choice_of : Option Text → Option (Option ℕ)
choice_of None = Some None
choice_of (Some text) = option_map Some (number_of 0 255 text)

-- a flag that stands among the words
abbrev pub is_set : Option Text → Bool
is_set None = false
is_set (Some text) = bytes_eq text (codes "true")

abbrev pub flag_of : List Row → Text → Bool
flag_of rows name = is_set (first_of name rows)

-- ---- where a node is

abbrev pub config_of : (replicas sequencers clients controllers observers : ℕ) → Configuration
config_of r s c k o = record { replicas = r; sequencers = s; clients = c; controllers = k; observers = o }

abbrev pub site_if : Bool → Configuration → ℕ → ℕ → Bool → Option Site
site_if true config base turns trace = Some (record { config = config; base = base; turns = turns; trace = trace })
site_if false config base turns trace = None

abbrev pub site_by : Option ℕ → Option ℕ → Option ℕ → ℕ → ℕ → Option ℕ → Option ℕ → Bool → Option Site
site_by None sequencers clients k o base turns trace = None
site_by (Some r) None clients k o base turns trace = None
site_by (Some r) (Some s) None k o base turns trace = None
site_by (Some r) (Some s) (Some c) k o None turns trace = None
site_by (Some r) (Some s) (Some c) k o (Some b) None trace = None
site_by (Some r) (Some s) (Some c) k o (Some b) (Some t) trace =
    site_if (is_configuration (config_of r s c k o)) (config_of r s c k o) b t trace

abbrev pub last_turns : ℕ
last_turns = 2 ^ 64 - 1

-- of a node with so many observers; its configuration has one client, since no core reads that number, and the most controllers, of
-- which any may run
abbrev pub site_of : (observers : ℕ) → List Row → Option Site
site_of observers rows =
    site_by (value_of rows (codes "replicas") None 0 255) (value_of rows (codes "sequencers") None 0 255) (Some 1)
    MAX_CONTROLLERS observers (value_of rows (codes "base") (Some 41000) 1024 65000)
    (value_of rows (codes "turns") (Some last_turns) 1 last_turns) (flag_of rows (codes "trace"))

abbrev pub replica_site_by : Option ℕ → List Row → Option Site
replica_site_by None rows = None
replica_site_by (Some observers) rows = site_of observers rows

-- of a replica, which is told how many observers there are
abbrev pub replica_site_of : List Row → Option Site
replica_site_of rows = replica_site_by (value_of rows (codes "observers") (Some 0) 0 255) rows

-- of a cluster, which has one controller, no observers, and no trace
abbrev pub cluster_site_of : List Row → Option Site
cluster_site_of rows =
    site_by (value_of rows (codes "replicas") None 0 255) (value_of rows (codes "sequencers") None 0 255)
    (value_of rows (codes "clients") None 0 255) 1 0 (value_of rows (codes "base") (Some 41000) 1024 65000)
    (value_of rows (codes "turns") (Some MAX_CLUSTER_TURNS) 1 MAX_CLUSTER_TURNS) false

-- ---- ops

abbrev pub short_op : Result (List ℕ) FromHexError → Option (List ℕ)
short_op (Ok bytes) = if nat_le (length bytes) MAX_OP_BYTES then Some bytes else None
short_op (Err e) = None

-- an op in hexadecimal
abbrev pub op_of : Text → Option (List ℕ)
op_of text = short_op (decode_of text)

abbrev pub with_op : List (List ℕ) → Option (List ℕ) → Option (List (List ℕ))
with_op ops None = None
with_op ops (Some op) = Some (ops ++ op ∷ [])

abbrev pub ops_on : Option (List (List ℕ)) → List Text → Option (List (List ℕ))
ops_on ops [] = ops
ops_on None (text ∷ texts) = None
ops_on (Some ops) (text ∷ texts) = ops_on (with_op ops (op_of text)) texts

-- the texts behind references
abbrev pub texts_in : Option (Bor (List (Bor Text))) → Option (List Text)
texts_in = option_map (λ s. map (λ t. t.now) s.now)

-- each text as an op
abbrev pub ops_of : Option (List Text) → Option (List (List ℕ))
ops_of None = None
ops_of (Some texts) = ops_on (Some []) texts

-- ---- a key

abbrev pub short_key : Result (List ℕ) FromHexError → Option (List ℕ)
short_key (Ok bytes) = if nat_le 1 (length bytes) && nat_le (length bytes) MAX_KEY_BYTES then Some bytes else None
short_key (Err e) = None

-- a key in hexadecimal
abbrev pub key_of : Text → Option (List ℕ)
key_of text = short_key (decode_of text)

-- the text behind a reference
abbrev pub text_in : Option (Bor Text) → Option Text
text_in = option_map (λ t. t.now)

abbrev pub key_in : Option Text → Option (List ℕ)
key_in None = None
key_in (Some text) = key_of text

-- ---- commands

abbrev pub gen_by : Option ℕ → Option ℕ → Option Command
gen_by None count = None
gen_by (Some number) None = None
gen_by (Some number) (Some count) = Some (Gen number count)

abbrev pub node_by : Option ℕ → Option Site → Option Command
node_by None site = None
node_by (Some id) None = None
node_by (Some id) (Some site) = if nat_lt id site.config.replicas then Some (Node id site) else None

abbrev pub sequencer_by : Option ℕ → Option Site → Option Command
sequencer_by None site = None
sequencer_by (Some id) None = None
sequencer_by (Some id) (Some site) = if nat_lt id site.config.sequencers then Some (Sequencer id site) else None

abbrev pub install_by : Site → ℕ → Option ℕ → Option Command
install_by site id None = Some (Controller site id None)
install_by site id (Some j) = if nat_lt j site.config.sequencers then Some (Controller site id (Some j)) else None

abbrev pub controller_by : Option Site → Option ℕ → Option (Option ℕ) → Option Command
controller_by None id install = None
controller_by (Some site) None install = None
controller_by (Some site) (Some id) None = None
controller_by (Some site) (Some id) (Some install) = if nat_lt id site.config.controllers then install_by site id install else None

abbrev pub client_by : Option ℕ → Option Site → Option (List (List ℕ)) → Option Command
client_by None site ops = None
client_by (Some id) None ops = None
client_by (Some id) (Some site) None = None
client_by (Some id) (Some site) (Some ops) = Some (Client id site ops)

abbrev pub cluster_by : Option Site → Option (List (List ℕ)) → Option Command
cluster_by None ops = None
cluster_by (Some site) None = None
cluster_by (Some site) (Some ops) = Some (Cluster site ops)

abbrev pub observer_by : Option ℕ → Option Site → Option Command
observer_by None site = None
observer_by (Some id) None = None
observer_by (Some id) (Some site) = if nat_lt id site.config.observers then Some (Observer id site) else None

abbrev pub asking_by : ℕ → Site → (observer least : ℕ) → Option (List ℕ) → Option Command
asking_by id site observer least None = None
asking_by id site observer least (Some key) = Some (Read id site observer key least)

abbrev pub read_by : Option ℕ → Option Site → (observer least : Option ℕ) → Option (List ℕ) → Option Command
read_by None site observer least key = None
read_by (Some id) None observer least key = None
read_by (Some id) (Some site) None least key = None
read_by (Some id) (Some site) (Some observer) None key = None
read_by (Some id) (Some site) (Some observer) (Some least) key =
    if nat_lt observer site.config.observers then asking_by id site observer least key else None

-- a number of 64 bits, and a count from 1 to 100,000
abbrev pub gen_in : List Row → Option Command
gen_in rows = gen_by (value_of rows (codes "number") None 0 (2 ^ 64 - 1)) (value_of rows (codes "count") None 1 100000)

abbrev pub node_in : List Row → Option Command
node_in rows = node_by (value_of rows (codes "id") None 0 255) (replica_site_of rows)

abbrev pub sequencer_in : List Row → Option Command
sequencer_in rows = sequencer_by (value_of rows (codes "id") None 0 255) (site_of 0 rows)

abbrev pub controller_in : List Row → Option Command
controller_in rows = controller_by (site_of 0 rows) (value_of rows (codes "id") None 0 255) (choice_of (first_of (codes "install") rows))

abbrev pub client_in : List Row → Option Command
client_in rows = client_by (value_of rows (codes "id") None 0 (2 ^ 32 - 1)) (site_of 0 rows) (ops_of (all_of (codes "ops") rows))

abbrev pub cluster_in : List Row → Option Command
cluster_in rows = cluster_by (cluster_site_of rows) (ops_of (all_of (codes "ops") rows))

-- an observer, and a client that asks one, know of the most observers
abbrev pub observer_in : List Row → Option Command
observer_in rows = observer_by (value_of rows (codes "id") None 0 255) (site_of MAX_OBSERVERS rows)

abbrev pub read_in : List Row → Option Command
read_in rows =
    read_by (value_of rows (codes "id") None 0 (2 ^ 32 - 1)) (site_of MAX_OBSERVERS rows) (value_of rows (codes "observer") None 0 255)
    (value_of rows (codes "position") (Some 0) 0 (2 ^ 32 - 1)) (key_in (first_of (codes "key") rows))

abbrev pub served_by : Text → List Row → Option Command
served_by name rows =
    if bytes_eq name (codes "sequencer") then sequencer_in rows
    else if bytes_eq name (codes "controller") then controller_in rows
    else if bytes_eq name (codes "client") then client_in rows
    else if bytes_eq name (codes "cluster") then cluster_in rows
    else if bytes_eq name (codes "observer") then observer_in rows
    else if bytes_eq name (codes "read") then read_in rows
    else None

-- by the name of a subcommand and its matches
abbrev pub command_by : Text → List Row → Option Command
command_by name rows =
    if bytes_eq name (codes "replay") then Some Replay
    else if bytes_eq name (codes "check") then Some Check
    else if bytes_eq name (codes "audit") then Some Audit
    else if bytes_eq name (codes "gen") then gen_in rows
    else if bytes_eq name (codes "node") then node_in rows
    else served_by name rows

abbrev pub command_from : Option (Text × List Row) → Option Command
command_from None = None
command_from (Some found) = command_by found.0 found.1

-- what clap finds wrong with the words
unfoldable pub faults_of : List Text → Kinds
faults_of texts = fault_of program_app texts

-- the subcommand that clap finds in them, with its matches
unfoldable pub subcommand_in : List Text → Option (Text × List Row)
subcommand_in texts = subcommand_of program_app texts

abbrev pub command_if : Kinds → Option (Text × List Row) → Option Command
command_if [] found = command_from found
command_if (k ∷ ks) found = None

-- clap refuses the words
pub record IsRefused (texts : List Text) : Type 0 where
  pub first : ErrorKind
  pub others : Kinds
  pub faults : faults_of texts ≡ first ∷ others

-- clap takes the words, and finds this subcommand
pub record HasFound (texts : List Text) (found : Option (Text × List Row)) : Type 0 where
  pub faultless : faults_of texts ≡ []
  pub is : found ≡ subcommand_in texts

-- the command of words that have matches and whose numbers are in their ranges
abbrev pub command_of : List Text → Option Command
command_of texts = command_if (faults_of texts) (subcommand_in texts)

-- its numbers are in their ranges
abbrev pub IsFit : Command → Type 0
IsFit (Gen number count) = (1 ≤ count) × (count ≤ 100000)
IsFit (Node id site) = id < site.config.replicas
IsFit (Sequencer id site) = id < MAX_SEQUENCERS
IsFit (Controller site id install) = id < MAX_CONTROLLERS
IsFit (Cluster site ops) = IsTrue (gives 1 site.config) × (site.turns ≤ MAX_CLUSTER_TURNS)
IsFit (Observer id site) = id < MAX_OBSERVERS
IsFit (Read id site observer key least) = observer < MAX_OBSERVERS
IsFit _ = ⊤

abbrev pub texts_of : {Z : Type 0} → List (String Z) → List Text
texts_of words = map string_bytes words
