use Rattle.std.proofs.Common.{sym, ◌∙◌}
use Rattle.joined_orders.proofs.NameLemmas.{name-there, name-new}
use Rattle.joined_orders.proofs.names.Names.number.Goals as goal

pub returns-clause-there : goal.returns-clause-there
returns-clause-there c =
    let s = c.in_ok-insert_full.ensures.stored in
    name-there c.insert_full.new.self.keys c.in_ok-insert_full.field-0.0 c.args.part s.0 s.1 s.2

pub returns-clause-was_new : goal.returns-clause-was_new
returns-clause-was_new c is_new = name-new c.args.self.now.names.keys c.args.part (sym c.in_ok-insert_full.ensures.added ∙ is_new)
