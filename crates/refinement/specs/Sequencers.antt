-- What each row of a sequencer's step table is in the protocol.
use Rattle.std.specs.Prelude.{ℕ, List, ◌++◌}
use Rattle.lemmas.specs.Functions.{put}
use Rattle.nop_types.specs.Given.{Given}
use Rattle.nop_types.specs.Lists.{Has}
use Rattle.nop_types.specs.Meaning.{Meaning}
use Rattle.nop_types.specs.Ranges.{SessionFits}
use Rattle.nop_types.specs.declared.output.Out.{Out}
use Rattle.nop_types.specs.declared.datagram.Stamped.{Stamped}
use Rattle.sequencer.specs.declared.state.SequencerState.{SequencerState}
use Rattle.sequencer.specs.SequencerSteps.{next}
use Rattle.sequencer.specs.Runs.{stamp_in}
use Rattle.protocol.specs.Conf.{Conf, Install}
use Rattle.protocol.specs.Invariant.{Inv}
use Rattle.refinement.specs.Datagrams.{MayCome}
use Rattle.refinement.specs.Steps.{LeadsTo}

-- the sequencer j has this state, and these packets are stamped; all else is as it was
abbrev pub with_sequencer : Conf → ℕ → SequencerState → List Stamped → Conf
with_sequencer c j s stamps = record c { sequencers = put c.sequencers j s; stamps = stamps ++ c.stamps }

abbrev pub SequencerReaches : {S : Type 0} → Meaning S → ℕ → Conf → ℕ → List Stamped → SequencerState × List Out → Type 0
SequencerReaches m f c j stamps e = LeadsTo m f c (with_sequencer c j e.0 stamps) e.1

-- each session that was given out is in its range
abbrev pub SessionsFit : Conf → Type 0
SessionsFit c = (x : Install) → Has c.installs x → SessionFits x.session

-- whatever may come to a sequencer
abbrev pub SequencersReach : {S : Type 0} → Meaning S → Type 0
SequencersReach m = (f : ℕ) (c : Conf) (j : ℕ) (i : Given) → Inv m f c → SessionsFit c → MayCome c i
    → SequencerReaches m f c j (stamp_in (c.sequencers j) i) (next (c.sequencers j) i)
