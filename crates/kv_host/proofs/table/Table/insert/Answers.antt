use Rattle.std.proofs.Common.{Some, sym, ◌∙◌, arith}
use Rattle.kv_host.specs.Places.{plain, places}
use Rattle.kv_host.proofs.PlacesLemmas.{get-values_of, count_of-written}
use Rattle.kv_host.proofs.TableLemmas.{count_of-small}
use Rattle.kv_host.proofs.table.Table.insert.Goals as goal

pub recount-self-inside-requires : goal.recount-self-inside-requires
recount-self-inside-requires c =
    let old = plain c.self.inside.places.entries in
    let wrote = c.in_ok-former.ensures in
    let count = count_of-written old (plain c.insert.new.map.entries) c.args.key.items c.in_ok-former.former (Some c.args.value)
    (get-values_of (places old) c.args.key.items ∙ sym wrote.former) wrote.ok in
    let small = count_of-small c.insert.new.map in
    rw (c.self.invariant, c.is_some.ensures, count) (omega (arith, small, c.len-places.ensures.small))

pub invariant_of-self-2 : goal.invariant_of-self-2
invariant_of-self-2 c =
    let old = plain c.self.inside.places.entries in
    let wrote = c.in_ok-former.ensures in
    let count = count_of-written old (plain c.insert.new.map.entries) c.args.key.items c.in_ok-former.former (Some c.args.value)
    (get-values_of (places old) c.args.key.items ∙ sym wrote.former) wrote.ok in
    c.recount-self-inside.ensures ∙ rw (c.self.invariant, c.is_some.ensures) count
