use Rattle.std.proofs.Common.{◌+◌, List, length, sym, ap, ◌∙◌}
use Rattle.std.specs.List.{sum_by}
use Rattle.std.proofs.lemmas.List.{take_all}
use Rattle.nop_types.specs.Checkpoints.{saved_account}
use Rattle.nop_types.specs.declared.checkpoint.SavedClient.{SavedClient}
use Rattle.peer_codec.specs.Spelling.{account_bytes}
use Rattle.peer_codec.proofs.SpelledLengths.{accounts_len}
use Rattle.peer_codec.proofs.lengths.accounts_len.Goals as goal

pub returns-clause-exact : goal.returns-clause-exact
returns-clause-exact c =
    c.loop-saved.invariant.exact
    ∙ ap (λ (clients : List SavedClient). 4 + sum_by (λ c. length (account_bytes (saved_account c))) clients)
    (take_all c.loop-saved.saved-index c.args.clients.now c.loop-saved-test.false)
    ∙ sym (accounts_len c.args.clients.now)
