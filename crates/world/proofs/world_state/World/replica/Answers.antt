use Rattle.std.proofs.Common.{◌≡◌, ◌<◌, ℕ, length, ap, subst, ◌∙◌}
use Rattle.std.specs.Prelude.{IsSome, map, option_map, slice_get}
use Rattle.world.specs.SeatOutcomes.{seated_of}
use Rattle.world.proofs.world_state.World.replica.Goals as goal

pub returns-clause-some : goal.returns-clause-some
returns-clause-some g c =
    let count : length c.deref.result.now ≡ c.args.self.now.state.config.replicas =
    ap length c.deref.ensures.value ∙ c.self.invariant.0 ∙ ap (λ w. w.state.config.replicas) c.self.view_is in
    subst (λ (n : ℕ). (IsSome c.core_at.result → c.args.i < n) × (c.args.i < n → IsSome c.core_at.result)) count c.core_at.ensures.some

pub returns-clause-state : goal.returns-clause-state
returns-clause-state g c =
    c.core_at.ensures.state
    ∙ ap (λ seats. option_map (λ p. p.state) (slice_get (map (seated_of (λ r. r.state)) seats) c.args.i)) c.deref.ensures.value
    ∙ ap (λ w. option_map (λ p. p.state) (slice_get w.state.replicas c.args.i)) c.self.view_is
