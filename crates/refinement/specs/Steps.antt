-- When moves of the protocol do what a step of a client, a sequencer or a controller does.
use Rattle.std.specs.Prelude.{◌≡◌, ℕ, List, ◌++◌}
use Rattle.nop_types.specs.Meaning.{Meaning}
use Rattle.nop_types.specs.declared.output.Out.{Out}
use Rattle.protocol.specs.Conf.{Conf}
use Rattle.protocol.specs.Runs.{Move, run, MayAll}
use Rattle.refinement.specs.Datagrams.{AllCarry, OnlySends}
use Rattle.refinement.specs.Lines.{lines_in, SaysFirst}

-- some moves lead from c to d, where nothing else was sent or said than by these outputs
pub record LeadsTo {S : Type 0} (m : Meaning S) (f : ℕ) (c d : Conf) (outs : List Out) : Type 0 where
  pub moves : List Move
  pub may : MayAll m f c moves
  pub ends : run m f c moves ≡ d
  pub sends : AllCarry d outs
  pub only : OnlySends c d outs
  pub lines : d.lines ≡ c.lines ++ lines_in outs
  pub first : SaysFirst outs
