use Rattle.std.proofs.Common.{sym, ◌∙◌}
use Rattle.std.proofs.lemmas.Option.{slice_get_within}
use Rattle.kv_host.specs.Places.{plain, places}
use Rattle.kv_host.proofs.PlacesLemmas.{value_from_place, value_without_place}
use Rattle.kv_host.proofs.TableLemmas.{get-places, key_of-found, within-plain}
use Rattle.kv_host.proofs.table.Table.look_up.Goals as goal

pub returns-in-Some-clause-place : goal.returns-in-Some-clause-place
returns-in-Some-clause-place c =
    let found = c.in-Some.ensures in
    let map = c.self.inside.places in
    rw (sym c.self.view_is) (
      within-plain map c.in-Some.index (slice_get_within map.entries c.in-Some.index _ found.entry),
      key_of-found map c.in-Some.index c.in-Some._key.now c.in-Some.value.now found.entry c.args.key.now (sym found.key),
    )

pub returns-in-Some-clause-value : goal.returns-in-Some-clause-value
returns-in-Some-clause-value c =
    let found = c.in-Some.ensures in
    let map = c.self.inside.places in
    rw (sym c.self.view_is)
    (c.as_ref.ensures.value
    ∙ sym (value_from_place (places (plain map.entries)) c.args.key.now c.in-Some.value.now
    (get-places map c.args.key.now ∙ sym found.value)))

pub returns-in-None-clause-place : goal.returns-in-None-clause-place
returns-in-None-clause-place c =
    rw (sym c.self.view_is) (get-places c.self.inside.places c.args.key.now ∙ sym c.in-None.ensures.value)

pub returns-in-None-clause-value : goal.returns-in-None-clause-value
returns-in-None-clause-value c =
    let map = c.self.inside.places in
    rw (sym c.self.view_is)
    (sym (value_without_place (places (plain map.entries)) c.args.key.now (get-places map c.args.key.now ∙ sym c.in-None.ensures.value)))
