use Rattle.std.proofs.Common.{◌≡◌, [], ◌++◌, map, ap, sym, subst, ◌∙◌}
use Rattle.std.specs.Map.Iter.{deref_pair}
use Rattle.std.proofs.lemmas.List.{append-nil}
use Rattle.std.proofs.lemmas.Map.Iter.{rest_all}
use Rattle.kv_host.specs.Places.{plain, present, places, values_of, IsListOf}
use Rattle.kv_host.proofs.RowLemmas.{listed}
use Rattle.kv_host.proofs.table.Table.rows.Goals as goal

pub returns : goal.returns
returns c =
    let rows = map deref_pair c.loop-key.rows.items in
    let none : c.loop-key.key-iterator ≡ [] =
    rest_all deref_pair c.loop-key.key-iterator c.next.new.self c.next.result c.in-None.is c.next.ensures.steps in
    let all : rows ≡ present c.args.self.now =
    sym (append-nil rows) ∙ ap (λ es. rows ++ present (plain es)) (sym none) ∙ c.loop-key.invariant in
    subst (λ es. IsListOf (values_of (places c.args.self.now)) es) (sym all)
    (subst (λ ps. IsListOf (values_of (places ps)) (present ps)) c.self.view_is
    (listed c.self.inside.places.entries c.iter-key-items.ensures.unique))
