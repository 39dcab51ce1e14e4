use Rattle.std.proofs.Common.{◌∙◌, arith}
use Rattle.kv_host.specs.Places.{plain, places, key_of}
use Rattle.kv_host.proofs.PlacesLemmas.{value_from_place, count_of-written}
use Rattle.kv_host.proofs.TableLemmas.{count_of-small}
use Rattle.kv_host.proofs.table.Table.replace.Goals as goal

pub recount-self-inside-requires : goal.recount-self-inside-requires
recount-self-inside-requires c =
    let old = plain c.self.inside.places.entries in
    let wrote = c.replace-former in
    let count = count_of-written old (plain wrote.new.map.entries) (key_of old c.args.index) wrote.result c.args.value
    (value_from_place (places old) (key_of old c.args.index) wrote.result wrote.ensures.former) wrote.ensures.after in
    let small = count_of-small wrote.new.map in
    rw (c.self.invariant, c.is_some.ensures, c.is_some-has.ensures, count) (omega (arith, small, c.len-places.ensures.small))

pub invariant_of-self : goal.invariant_of-self
invariant_of-self c =
    let old = plain c.self.inside.places.entries in
    let wrote = c.replace-former in
    let count = count_of-written old (plain wrote.new.map.entries) (key_of old c.args.index) wrote.result c.args.value
    (value_from_place (places old) (key_of old c.args.index) wrote.result wrote.ensures.former) wrote.ensures.after in
    c.recount-self-inside.ensures ∙ rw (c.self.invariant, c.is_some.ensures, c.is_some-has.ensures) count
