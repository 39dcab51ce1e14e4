use Rattle.peer_codec.proofs.Accounts.{clients_keep_few, clients_short}
use Rattle.peer_codec.proofs.write.put_checkpoint.Goals as goal

pub put_accounts-requires-clause-few_kept : goal.put_accounts-requires-clause-few_kept
put_accounts-requires-clause-few_kept c =
    clients_keep_few c.args.checkpoint.now c.clients.result.now c.clients.ensures.fits c.clients.ensures.clients

pub put_accounts-requires-clause-short : goal.put_accounts-requires-clause-short
put_accounts-requires-clause-short c =
    clients_short c.args.checkpoint.now c.clients.result.now c.clients.ensures.fits c.clients.ensures.clients
