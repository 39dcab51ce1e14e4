use Rattle.std.proofs.Common.{◌≡◌, length, refl, ap, sym, ◌∙◌}
use Rattle.std.specs.FinMap as finite
use Rattle.std.specs.Map.Iter.{deref_pair}
use Rattle.std.proofs.lemmas.List.{length-map}
use Rattle.kv_host.specs.Places.{places, values_of}
use Rattle.kv_host.proofs.saved.save.Goals as goal

pub returns : goal.returns
returns c =
    let kv = values_of (places c.args.table.now) in
    let rows = c.in_ok-rows.rows.items in
    let count : length rows ≡ finite.len kv =
    sym (length-map rows deref_pair) ∙ ap length c.in_ok-rows.ensures ∙ sym (finite.len-entries kv) in
    c.from_vec.ensures ∙ c.in_ok-put_rows.ensures
    ∙ rw (c.deref-2.ensures.value, c.in_ok-bytes.ensures.items, count, c.in_ok-rows.ensures) refl
