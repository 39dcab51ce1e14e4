use Rattle.command_line.specs.Program.{program_app, with_replay, with_gen, with_node, with_sequencer, with_controller, with_client, with_cluster}
use Rattle.command_line.specs.Program.{with_check, with_observer, with_read, gen_app, site_app, member_app, node_app, controller_app, client_app}
use Rattle.command_line.specs.Program.{cluster_app, read_app}
use Rattle.command_line.proofs.program.program.Goals as goal

pub returns : goal.returns
unfolding program_app with_replay with_gen with_node with_sequencer with_controller with_client with_cluster with_check with_observer with_read
    gen_app site_app member_app node_app controller_app client_app cluster_app read_app
returns c = c.with_rows.ensures
