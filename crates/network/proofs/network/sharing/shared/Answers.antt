use Rattle.std.proofs.Common.{sym, ◌∙◌}
use Rattle.std.proofs.lemmas.Slice.Eq.{bytes_eq-Decides}
use Rattle.network.specs.Marks.{rest_len}
use Rattle.network.proofs.MarkLemmas.{mark_fits, shared_is}
use Rattle.network.proofs.network.sharing.shared.Goals as goal

pub returns-then-eq-clause-is : goal.returns-then-eq-clause-is
returns-then-eq-clause-is c =
    let mark = c.mark_at-mark.result in
    shared_is c.args.bytes.now c.args.wanted.now mark.rest (rest_len mark)
    ((mark_fits _ c.args.marks.now _ mark c.requires c.mark_at-mark.ensures).rest_within)
    (sym c.rest_of.ensures ∙ (bytes_eq-Decides c.rest_of.result.now c.args.wanted.now).0 (sym c.eq.ensures ∙ c.if-eq.true))
