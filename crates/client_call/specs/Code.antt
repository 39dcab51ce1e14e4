-- The code of what a client knows of its requests, by which a proof tells its values apart.
use Rattle.std.specs.Coded.{Coded}
use Rattle.client_quorum.specs.declared.state.ClientState.{ClientState}
use Rattle.client_quorum.specs.contracts.state.ClientState as state

abbrev pub requests_code : Coded ClientState
requests_code = state.the_row.coded
