use Rattle.std.proofs.Common.{◌<◌, ℕ, List, length, get_or, sym, ap, subst, ◌∙◌}
use Rattle.joined_orders.proofs.SelectLemmas.{below, members_own}
use Rattle.joined_orders.proofs.part_order.claims_of.Goals as goal
use Rattle.joined_orders.specs.Owning.{is_own, members_at}
use Rattle.pairs.specs.Said.{said_by}

pub claims_at-requires : goal.claims_at-requires
claims_at-requires g c =
    let claims = c.args.claims.now in
    let own = is_own g.P.Parted.part (said_by claims) c.args.part.now.name.now in
    subst (λ (t : List ℕ). (k d : ℕ) → k < length t → get_or t k d < length claims) (sym c.as_slice.ensures.value)
    (below claims own c.args.part.now.places.items c.requires)

pub returns : goal.returns
returns g c =
    let claims = c.args.claims.now in
    let own = is_own g.P.Parted.part (said_by claims) c.args.part.now.name.now in
    c.in_ok-own.ensures
    ∙ ap (λ (t : List ℕ). members_at (said_by claims) t) c.as_slice.ensures.value
    ∙ members_own claims own c.args.part.now.places.items c.requires
