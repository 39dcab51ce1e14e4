use Rattle.std.proofs.Common.{rules, ◌≡◌, ◌∙◌, ◌++◌, ◌∷◌, [], ap, ℕ}
use Rattle.nop_types.specs.declared.output.Actor.TheVariants.{Client}
use Rattle.one_box.proofs.AttachingLemmas.{numbered_more}
use Rattle.one_box.proofs.attaching.add_clients.Goals as goal

pub loop-i-preserved : goal.loop-i-preserved
loop-i-preserved c =
    let same : c.from.result ≡ c.loop-i.i = search rules in
    numbered_more Client c.args.actors.now.items c.loop-i.actors.items c.push.new.self.items c.loop-i.i c.loop-i.invariant
    (c.in_ok-push.ensures.items ∙ ap (λ (n : ℕ). c.loop-i.actors.items ++ Client n ∷ []) same)
