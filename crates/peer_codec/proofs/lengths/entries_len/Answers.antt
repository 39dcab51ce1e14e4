use Rattle.std.proofs.Common.{◌+◌, List, length, sym, ap, ◌∙◌}
use Rattle.std.specs.List.{sum_by}
use Rattle.std.proofs.lemmas.List.{take_all}
use Rattle.nop_types.specs.declared.request.Entry.{Entry}
use Rattle.peer_codec.specs.Spelling.{entry_bytes}
use Rattle.peer_codec.proofs.SpelledLengths.{entries_len}
use Rattle.peer_codec.proofs.lengths.entries_len.Goals as goal

pub returns-clause-exact : goal.returns-clause-exact
returns-clause-exact c =
    c.loop-entry.invariant.exact
    ∙ ap (λ (entries : List Entry). 4 + sum_by (λ e. length (entry_bytes e)) entries)
    (take_all c.loop-entry.entry-index c.args.entries.now c.loop-entry-test.false)
    ∙ sym (entries_len c.args.entries.now)
