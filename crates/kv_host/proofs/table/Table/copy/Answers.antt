use Rattle.std.proofs.Common.{ap, sym, ◌∙◌, rules}
use Rattle.std.specs.List.{each_same}
use Rattle.kv_host.specs.Places.{count_of}
use Rattle.kv_host.proofs.TableLemmas.{plain-clone}
use Rattle.kv_host.proofs.table.Table.copy.Goals as goal

pub invariant_of-result : goal.invariant_of-result
invariant_of-result c =
    c.self.invariant
    ∙ sym (ap count_of
    (plain-clone _ _ (λ k l h. each_same k.items l.items h.0) (λ v w h. search rules) c.self.inside.places c.in_ok-clone.field-0
    c.in_ok-clone.ensures.cases))

pub returns : goal.returns
returns c =
    plain-clone _ _ (λ k l h. each_same k.items l.items h.0) (λ v w h. search rules) c.self.inside.places c.in_ok-clone.field-0
    c.in_ok-clone.ensures.cases ∙ c.self.view_is
