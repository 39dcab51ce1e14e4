-- Tables worked by hand.
use Rattle.std.proofs.Common.{◌≡◌, ℕ, [], sym, ◌∙◌}
use Rattle.std.specs.FinMap as finite
use Rattle.std.specs.FinMap.Entries.{put}
use Rattle.std.specs.Ordering.{nat_cmp}
use Rattle.std.proofs.lemmas.Cmp.{nat_cmp_total}
use Rattle.std.proofs.lemmas.List.{nil_from_length}
use Rattle.nop_types.specs.Tables.{Account, Table}

pub entries-empty : finite.entries (finite.empty {X = Account} {R = nat_cmp}) ≡ []
entries-empty =
    nil_from_length (finite.entries (finite.empty {X = Account} {R = nat_cmp}))
    (sym (finite.len-entries (finite.empty {X = Account} {R = nat_cmp})) ∙ finite.len-empty nat_cmp Account)

pub entries-insert : (t : Table) (client : ℕ) (a : Account) → finite.entries (finite.insert t client a) ≡ put nat_cmp client a (finite.entries t)
entries-insert t client a = finite.entries-insert nat_cmp_total t client a
