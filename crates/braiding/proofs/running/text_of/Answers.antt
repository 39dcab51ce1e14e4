use Rattle.std.proofs.Common.{◌∙◌, ◌++◌, ◌∷◌, [], ℕ, List, ap}
use Rattle.std.proofs.lemmas.List.{take_all}
use Rattle.braiding.specs.Ending.{written}
use Rattle.braiding.specs.Orders.{texts_of}
use Rattle.braiding.proofs.Orders.{place_within, text_more}
use Rattle.braiding.proofs.running.text_of.Goals as goal

pub text_at-requires : goal.text_at-requires
text_at-requires c = place_within c.args.lines.now c.args.order.now c.loop-place.place-index c.requires c.loop-place-test.true

pub loop-place-preserved : goal.loop-place-preserved
loop-place-preserved c =
    let l = c.loop-place in
    let lines = texts_of c.args.lines.now in
    c.in_ok-push.ensures.items
    ∙ ap (λ (t : List ℕ). t ++ 10 ∷ []) (c.in_ok-extend_from_slice.ensures.items ∙ ap (λ (t : List ℕ). t ++ c.text_at.result.now) l.invariant)
    ∙ text_more lines c.args.order.now l.place-index c.text_at.result.now c.loop-place-test.true c.text_at.ensures

pub returns : goal.returns
returns c =
    let l = c.loop-place in
    l.invariant ∙ ap (written (texts_of c.args.lines.now)) (take_all l.place-index c.args.order.now c.loop-place-test.false)
