use Rattle.std.proofs.Common.{sym, ◌∙◌}
use Rattle.joined_orders.proofs.SplitLemmas.{noted_names}
use Rattle.joined_orders.proofs.split.Split.take.Goals as goal

pub returns-clause-names : goal.returns-clause-names
returns-clause-names c =
    c.in_ok-number.ensures.names
    ∙ sym (noted_names c.number.new.self.parts.items c.note.new.parts.items c.in_ok-number.number c.args.place c.in_ok-note.ensures)
