use Rattle.std.proofs.Common.{List, length, sym, ap, ◌∙◌}
use Rattle.std.specs.List.{sum_by}
use Rattle.std.proofs.lemmas.List.{take_all}
use Rattle.nop_types.specs.declared.checkpoint.Answered.{Answered}
use Rattle.peer_codec.specs.Spelling.{answered_bytes}
use Rattle.peer_codec.proofs.SpelledLengths.{kept_len}
use Rattle.peer_codec.proofs.lengths.kept_len.Goals as goal

pub returns-clause-exact : goal.returns-clause-exact
returns-clause-exact c =
    c.loop-answered.invariant.exact
    ∙ ap (λ (kept : List Answered). sum_by (λ a. length (answered_bytes a)) kept)
    (take_all c.loop-answered.answered-index c.args.kept.now c.loop-answered-test.false)
    ∙ sym (kept_len c.args.kept.now)
