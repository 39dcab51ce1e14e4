use Rattle.std.proofs.Common.{refl, sym, subst, inr}
use Rattle.std.specs.Prelude.{ℕ, List}
use Rattle.joined_orders.proofs.split.Split.number.Goals as goal
use Rattle.nop_types.specs.Lists.{Has}

pub returns-in_ok-push-clause-parts : goal.returns-in_ok-push-clause-parts
returns-in_ok-push-clause-parts c =
    inr (
      λ h. c.in_ok-number.ensures.was_new c.if-is_new.true (subst (λ (t : List (List ℕ)). Has t c.args.name.now) (sym c.requires) h),
      record { name = c.args.name; places = c.new.result },
      refl,
      c.new.ensures.items,
      c.in_ok-push.ensures.items,
    )
