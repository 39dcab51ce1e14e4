-- How a command ends.
use Rattle.std.proofs.Common.{◌≡◌, ℕ, List, [], ◌∷◌, ◌++◌, true, Option, Some, None, refl, inl, rules}
use Rattle.nop_types.specs.Meaning.{Meaning}
use Rattle.one_box.specs.Showing.{LinkView}
use Rattle.outside.specs.Causes.{Rose}
use Rattle.outside.specs.Prefixes.{AppendsPrefix}
use Rattle.replay.specs.Outcome.{WrotePrefix}
use Rattle.replay.specs.Output.{output}
use Rattle.replay.specs.Generated.{drawn_summary}
use Rattle.replay.proofs.Prefixes.{prefix_nil}
use Rattle.replay.proofs.Summaries.{summary_some}
use Rattle.replay.proofs.Texts.{output_some}
use Rattle.udp_node.proofs.EffectLemmas.{Appends_none}
use Rattle.command_line.specs.declared.command.Command.{Command}
use Rattle.command_line.specs.declared.command.Command.TheVariants.{Gen, Node, Sequencer, Controller, Client, Observer, Read}
use Rattle.commands.specs.Nodes.{PortsView, EndsNodeWithoutFault, NodeTask, NodeEnds}
use Rattle.commands.specs.Ending.{GeneratesWithoutFault}
use Rattle.commands.specs.Words.{usage_line}
use Rattle.commands.specs.Tasks.{
  CommandEnds,
  DrawingEnds,
  draws,
  runs_node,
  waits_for_answers,
  replica_task,
  sequencer_task,
  controller_task,
  client_task,
  observer_task,
  read_task,
}
use Rattle.commands.specs.declared.status.Status.{Status}
use Rattle.commands.specs.declared.status.Status.TheVariants as statuses
use Rattle.commands.proofs.NodeLemmas.{ends_well}

module _ {S L : Type 0} (m : Meaning S) (w : LinkView L) (p : PortsView L) (values : Option (List ℕ)) where
  pub command_ends_well : (c : Option Command) (s : Status) (h i : Option (List ℕ)) (x y : ℕ) → runs_node c ≡ true
      → CommandEnds m c w p values s h i → ¬ Rose p.faults_before p.faults_after
      → (s ≡ statuses.WriteFault → Rose x y) → ¬ Rose x y
      → ((link : L) → p.after ≡ p.before ++ link ∷ [] → ¬ Rose 0 (w.faults link)) → EndsNodeWithoutFault (waits_for_answers c) s
  command_ends_well (Some (Node id site)) s h i x y runs ends ports write sink polls =
      ends_well (replica_task m id site) w p values h i s x y ends ports write sink polls
  command_ends_well (Some (Sequencer id site)) s h i x y runs ends ports write sink polls =
      ends_well (sequencer_task id site) w p values h i s x y ends ports write sink polls
  command_ends_well (Some (Controller site number install)) s h i x y runs ends ports write sink polls =
      ends_well (controller_task site number install) w p values h i s x y ends ports write sink polls
  command_ends_well (Some (Client id site ops)) s h i x y runs ends ports write sink polls =
      ends_well (client_task id site ops) w p values h i s x y ends ports write sink polls
  command_ends_well (Some (Observer id site)) s h i x y runs ends ports write sink polls =
      ends_well (observer_task m id site) w p values h i s x y ends ports write sink polls
  command_ends_well (Some (Read id site asked key least)) s h i x y runs ends ports write sink polls =
      ends_well (read_task id site asked key least) w p values h i s x y ends ports write sink polls
  command_ends_well _ s h i x y runs ends ports write sink polls = absurd cc

  nowhere : {T : Type 0} (k : NodeTask T) (h : Option (List ℕ)) → p.after ≡ p.before → NodeEnds k w p values statuses.NoMemory h h
  nowhere k h same = inl (record { given_back = same; status = tt; cause = λ is. cc; written = refl })

  -- memory ran out before anything was done
  pub not_begun : (c : Option Command) (h : Option (List ℕ)) → p.after ≡ p.before → CommandEnds m c w p values statuses.NoMemory h h
  not_begun (Some (Node id site)) h same = nowhere (replica_task m id site) h same
  not_begun (Some (Sequencer id site)) h same = nowhere (sequencer_task id site) h same
  not_begun (Some (Controller site number install)) h same = nowhere (controller_task site number install) h same
  not_begun (Some (Client id site ops)) h same = nowhere (client_task id site ops) h same
  not_begun (Some (Observer id site)) h same = nowhere (observer_task m id site) h same
  not_begun (Some (Read id site asked key least)) h same = nowhere (read_task id site asked key least) h same
  not_begun _ h same = tt

  -- a command that does not run a node
  pub no_node : (c : Option Command) (s : Status) (h i : Option (List ℕ)) → c ≡ None → CommandEnds m c w p values s h i
  no_node c s h i is = rw is tt

-- ---- nothing was written

pub no_prefix : {S : Type 0} (m : Meaning S) (bytes h : Option (List ℕ)) → WrotePrefix m bytes h h
no_prefix m None h = tt
no_prefix m (Some bytes) h = prefix_nil h (output m true bytes).text (output_some m bytes)

pub no_usage : (program : List ℕ) (h : Option (List ℕ)) → AppendsPrefix h h (usage_line program)
unfolding usage_line
no_usage program h = record { count = 0; below = search rules; appended = Appends_none h }

pub no_drawing : {S : Type 0} (m : Meaning S) (c : Option Command) (h : Option (List ℕ)) → DrawingEnds m c statuses.NoMemory h h
no_drawing m (Some (Gen number count)) h = prefix_nil h (drawn_summary m number count) (summary_some m number count)
no_drawing m _ h = tt

-- a command that draws a schedule ends well where no write failed
pub draws_well : {S : Type 0} (m : Meaning S) (c : Option Command) (s : Status) (h i : Option (List ℕ)) (x y : ℕ) → draws c ≡ true
    → DrawingEnds m c s h i → (s ≡ statuses.WriteFault → Rose x y) → ¬ Rose x y → GeneratesWithoutFault s
draws_well m (Some (Gen number count)) statuses.Done h i x y is ends write sink = tt
draws_well m (Some (Gen number count)) statuses.WriteFault h i x y is ends write sink = sink (write refl)
draws_well m (Some (Gen number count)) statuses.NoMemory h i x y is ends write sink = tt
draws_well m (Some (Gen number count)) _ h i x y is ends write sink = ends
draws_well m _ s h i x y is ends write sink = absurd cc
