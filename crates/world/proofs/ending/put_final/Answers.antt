use Rattle.std.proofs.Common.{rules, ◌∙◌}
use Rattle.nop_types.specs.Lists.{IsPrefixOf}
use Rattle.lemmas.proofs.Prefixes.{IsPrefixOf-trans}
use Rattle.world.specs.StateLines.{observers_text, replicas_text}
use Rattle.world.proofs.ending.put_final.Goals as goal

pub returns-in_err-observer_lines-clause-err : goal.returns-in_err-observer_lines-clause-err
returns-in_err-observer_lines-clause-err g c =
    let all : IsPrefixOf c.args.to.now.items c.observer_lines.new.to.items = (
      replicas_text c.args.world.now.state.archive 0 c.args.world.now.state.replicas,
      c.in_err-observer_lines.ensures.err ∙ c.in_ok-replica_lines.ensures.ok,
    ) in
    search rules

pub returns-in_err-history_lines-clause-err : goal.returns-in_err-history_lines-clause-err
returns-in_err-history_lines-clause-err g c =
    let before : IsPrefixOf c.args.to.now.items c.replica_lines.new.to.items =
    (replicas_text c.args.world.now.state.archive 0 c.args.world.now.state.replicas, c.in_ok-replica_lines.ensures.ok) in
    let more : IsPrefixOf c.replica_lines.new.to.items c.observer_lines.new.to.items =
    (observers_text 0 c.args.world.now.state.observers, c.in_ok-observer_lines.ensures.ok) in
    let all : IsPrefixOf c.args.to.now.items c.history_lines.new.to.items =
    IsPrefixOf-trans _ _ _ (IsPrefixOf-trans _ _ _ before more) c.in_err-history_lines.ensures.err in
    search rules
