use Rattle.std.proofs.Common.{List, ℕ, arith, ap}
use Rattle.std.specs.Prelude.{length}
use Rattle.nop_types.specs.Tables.{Account}
use Rattle.peer_codec.specs.Spelling.{accounts_bytes}
use Rattle.peer_codec.proofs.Accounts.{clients_keep_few, clients_short}
use Rattle.peer_codec.proofs.SpelledLengths.{checkpoint_len}
use Rattle.peer_codec.proofs.lengths.checkpoint_len.Goals as goal

pub accounts_len-requires-clause-few_kept : goal.accounts_len-requires-clause-few_kept
accounts_len-requires-clause-few_kept c =
    clients_keep_few c.args.checkpoint.now c.clients.result.now c.clients.ensures.fits c.clients.ensures.clients

pub accounts_len-requires-clause-short : goal.accounts_len-requires-clause-short
accounts_len-requires-clause-short c =
    clients_short c.args.checkpoint.now c.clients.result.now c.clients.ensures.fits c.clients.ensures.clients

pub returns-clause-exact : goal.returns-clause-exact
returns-clause-exact c =
    omega (
      arith,
      checkpoint_len c.args.checkpoint.now,
      c.accounts_len.ensures.exact,
      ap (λ (es : List (ℕ × Account)). length (accounts_bytes es)) c.clients.ensures.clients,
      ap length c.as_slice.ensures,
      ap length c.host.ensures.host,
    )
