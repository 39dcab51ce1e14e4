-- The program's command line, as clap takes it.
use Rattle.std.specs.Prelude.{Bool, true, false, Some, codes}
use Rattle.clap.specs.Words.{App, Rule, Text, new_app, new_rule, with_rule, with_subcommand}
use Rattle.clap.specs.declared.builder.action.ArgAction.TheVariants.{SetTrue}

-- an option with a value
abbrev pub option_rule : Text → Bool → Rule
option_rule name required = record (new_rule name) { long = Some name; required = required }

-- an option without a value: its text is `true` where it stands among the words, and else `false`
abbrev pub flag_rule : Text → Rule
flag_rule name = record (new_rule name) { long = Some name; action = Some SetTrue }

-- a value without a name
abbrev pub value_rule : Text → Rule
value_rule name = record (new_rule name) { required = true }

-- from 1 to 64 ops as the last words
abbrev pub ops_rule : Rule
ops_rule = record (new_rule (codes "ops")) { required = true; range = Some (record { start_inclusive = 1; end_inclusive = 64 }) }

unfoldable pub gen_app : App
gen_app = with_rule (with_rule (new_app (codes "gen")) (value_rule (codes "number"))) (value_rule (codes "count"))

-- what each node and a cluster is told
unfoldable pub site_app : Text → App
site_app name =
    with_rule (with_rule (with_rule (with_rule (new_app name)
    (option_rule (codes "replicas") true))
    (option_rule (codes "sequencers") true))
    (option_rule (codes "base") false))
    (option_rule (codes "turns") false)

-- what each node is told
unfoldable pub member_app : Text → App
member_app name = with_rule (with_rule (site_app name) (option_rule (codes "id") true)) (flag_rule (codes "trace"))

unfoldable pub node_app : App
node_app = with_rule (member_app (codes "node")) (option_rule (codes "observers") false)

unfoldable pub controller_app : App
controller_app = with_rule (member_app (codes "controller")) (option_rule (codes "install") false)

unfoldable pub client_app : App
client_app = with_rule (member_app (codes "client")) ops_rule

unfoldable pub cluster_app : App
cluster_app = with_rule (with_rule (site_app (codes "cluster")) (option_rule (codes "clients") true)) ops_rule

unfoldable pub read_app : App
read_app =
    with_rule (with_rule (with_rule (member_app (codes "read"))
    (option_rule (codes "observer") true))
    (option_rule (codes "position") false))
    (value_rule (codes "key"))

-- the program with its subcommands, one after another
unfoldable pub with_replay : App
with_replay = with_subcommand (new_app (codes "nopaxos")) (new_app (codes "replay")).top

unfoldable pub with_gen : App
with_gen = with_subcommand with_replay gen_app.top

unfoldable pub with_node : App
with_node = with_subcommand with_gen node_app.top

unfoldable pub with_sequencer : App
with_sequencer = with_subcommand with_node (member_app (codes "sequencer")).top

unfoldable pub with_controller : App
with_controller = with_subcommand with_sequencer controller_app.top

unfoldable pub with_client : App
with_client = with_subcommand with_controller client_app.top

unfoldable pub with_cluster : App
with_cluster = with_subcommand with_client cluster_app.top

unfoldable pub with_check : App
with_check = with_subcommand with_cluster (new_app (codes "check")).top

unfoldable pub with_observer : App
with_observer = with_subcommand with_check (member_app (codes "observer")).top

unfoldable pub with_read : App
with_read = with_subcommand with_observer read_app.top

unfoldable pub program_app : App
program_app = with_subcommand with_read (new_app (codes "audit")).top
