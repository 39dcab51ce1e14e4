-- The code of what a client keeps of its reads, by which a proof tells its values apart.
use Rattle.std.specs.Coded.{Coded}
use Rattle.client_reads.specs.declared.state.Reads.{Reads}
use Rattle.client_reads.specs.contracts.state.Reads as state

abbrev pub reads_code : Coded Reads
reads_code = state.the_row.coded
