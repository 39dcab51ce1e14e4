use Rattle.std.proofs.Common.{Some, ap, sym, ◌∙◌}
use Rattle.kv_host.proofs.TableLemmas.{get-place, places-with_value_at}
use Rattle.kv_host.proofs.table.replace.Goals as goal

pub returns-clause-former : goal.returns-clause-former
returns-clause-former c =
    let place = c.pair_mut-place in
    get-place c.args.map.now c.args.index place.result.0.now place.result.1.now place.ensures.value place.ensures.unique
    ∙ ap Some (sym c.replace.ensures.value)

pub returns-clause-after : goal.returns-clause-after
returns-clause-after c =
    let place = c.pair_mut-place in
    rw (c.replace.ensures.after)
    (places-with_value_at c.args.map.now c.args.index place.result.0.now place.result.1.now place.ensures.value place.ensures.unique
    c.args.value)
