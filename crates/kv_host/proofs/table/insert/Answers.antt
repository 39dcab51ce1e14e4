use Rattle.std.proofs.Common.{Some, ap, sym, ◌∙◌}
use Rattle.std.specs.Option.{option_flatten}
use Rattle.kv_host.proofs.TableLemmas.{get-places, places-updated}
use Rattle.kv_host.proofs.table.insert.Goals as goal

pub returns-in-Ok-clause-former : goal.returns-in-Ok-clause-former
returns-in-Ok-clause-former c =
    c.flatten.ensures ∙ ap option_flatten (c.in-Ok.ensures.old ∙ sym (get-places c.args.map.now c.args.key.items))

pub returns-in-Ok-clause-ok : goal.returns-in-Ok-clause-ok
returns-in-Ok-clause-ok c =
    places-updated c.args.map.now c.insert.new.self c.args.key.items (Some c.args.value) c.in-Ok.ensures.updates
