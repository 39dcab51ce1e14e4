-- Whatever link and clock tell, what a sink held stays.
use Rattle.std.proofs.Common.{ℕ, List, [], ◌++◌, Option, Result, Ok, Err}
use Rattle.std.proofs.KnownBytes.{Appends-trans}
use Rattle.nop_types.specs.Given.{Given}
use Rattle.nop_types.specs.declared.output.Out.{Out}
use Rattle.outside.specs.declared.errors.DeviceError.{DeviceError}
use Rattle.outside.specs.declared.errors.DeviceError.TheVariants as writes
use Rattle.outside.specs.declared.link.PollAnswer.{PollAnswer}
use Rattle.udp_node.specs.declared.errors.ServeError.{ServeError}
use Rattle.udp_node.specs.declared.errors.ServeError.TheVariants.{LinkFault, WriteFault, NoMemory}
use Rattle.udp_node.specs.declared.firing.Timer.{Timer}
use Rattle.udp_node.specs.Effects.{Effect, Step, Done, Stopped, Stops, lines, WroteText}
use Rattle.udp_node.specs.Folding.{Runs}
use Rattle.udp_node.specs.Sends.{LinkSide}
use Rattle.udp_node.specs.Turns.{TurnEnds}
use Rattle.udp_node.proofs.EffectLemmas.{Appends_none}

pub wrote_nothing : (h : Option (List ℕ)) → WroteText h h
wrote_nothing h = ([], Appends_none h)

pub wrote_then : (h i j : Option (List ℕ)) → WroteText h i → WroteText i j → WroteText h j
wrote_then h i j one two = (one.0 ++ two.0, Appends-trans h i j one.0 two.0 one.1 two.1)

done_wrote : (es : List Effect) (a b : LinkSide) (h i : Option (List ℕ)) → Done es a b h i → WroteText h i
done_wrote es a b h i one = (lines es, one.lines)

stopped_wrote : (es : List Effect) (a b : LinkSide) (h i : Option (List ℕ)) → Stopped es a b h i → WroteText h i
stopped_wrote es a b h i one = (_, one.lines)

stops_wrote : (es : List Effect) (e : DeviceError) (a b : LinkSide) (h i : Option (List ℕ)) → Stops es e a b h i → WroteText h i
stops_wrote es writes.Failed a b h i one = stopped_wrote es a b h i one.stopped
stops_wrote es writes.NoMemory a b h i one = stopped_wrote es a b h i one

module _ {S T : Type 0} (next : S → Given → S × List Out) (asks : Step → List Effect) (s t : S) (a b : LinkSide) (h i : Option (List ℕ)) where
  pub runs_wrote : (inputs : List Given) (result : Result T DeviceError) → Runs next asks s t inputs result a b h i → WroteText h i
  runs_wrote inputs (Ok r) runs = done_wrote _ a b h i runs.done
  runs_wrote inputs (Err e) runs = stops_wrote _ e a b h i runs

  pub turn_wrote : (now : ℕ) (ts us : List Timer) (o later : Option (List PollAnswer)) (result : Result T ServeError)
      → TurnEnds next asks s t now ts us o later result a b h i → WroteText h i
  turn_wrote now ts us o later (Ok r) turn = done_wrote _ a b h i turn.done
  turn_wrote now ts us o later (Err LinkFault) turn = done_wrote _ a b h i turn.done
  turn_wrote now ts us o later (Err WriteFault) turn = stopped_wrote _ a b h i turn.stopped.stopped
  turn_wrote now ts us o later (Err NoMemory) turn = stopped_wrote _ a b h i turn.stopped
