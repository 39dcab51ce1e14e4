use Rattle.std.proofs.Common.{◌∙◌, ap, arith, sym}
use Rattle.std.proofs.lemmas.Bool.{ltb-true}
use Rattle.braiding.specs.Orders.{node_in, texts_of}
use Rattle.braiding.proofs.Latest.{some_is, step_follows}
use Rattle.braiding.proofs.checking.Marks.follows.Goals as goal

pub returns-in-Some-clause-follows : goal.returns-in-Some-clause-follows
returns-in-Some-clause-follows c =
    λ lower.
    let old = c.in_ok-before.ensures.old in
    step_follows (texts_of c.args.lines.now) c.args.self.now _ c.args.place c.in_ok-name.name
    (sym c.starts.ensures ∙ c.if-not-starts.false)
    (c.in_ok-name.ensures.items ∙ c.node_in.ensures ∙ ap node_in c.text_at.ensures)
    c.in_ok-before.ensures.updates.0
    (λ k is.
    let it = some_is k c.in-Some.before (sym is ∙ sym old ∙ c.in-Some.is) in
    let below = ltb-true _ _ lower in
    omega (arith, it, below))

pub returns-in-None-clause-follows : goal.returns-in-None-clause-follows
returns-in-None-clause-follows c =
    λ yes.
    let old = c.in_ok-before.ensures.old in
    step_follows (texts_of c.args.lines.now) c.args.self.now _ c.args.place c.in_ok-name.name
    (sym c.starts.ensures ∙ c.if-not-starts.false)
    (c.in_ok-name.ensures.items ∙ c.node_in.ensures ∙ ap node_in c.text_at.ensures)
    c.in_ok-before.ensures.updates.0
    (λ k is.
    let none = sym is ∙ sym old ∙ c.in-None.is in
    absurd cc)
