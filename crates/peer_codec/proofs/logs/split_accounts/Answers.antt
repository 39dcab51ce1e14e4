use Rattle.std.proofs.Common.{◌+◌, ap, ◌∙◌}
use Rattle.std.specs.Prelude.{map}
use Rattle.std.proofs.Common.{arith}
use Rattle.std.proofs.lemmas.List.{length_push}
use Rattle.std.proofs.lemmas.Result.{err_from_is_err_and}
use Rattle.nop_types.specs.Checkpoints.{saved_account}
use Rattle.peer_codec.specs.Logs.{accounts_at}
use Rattle.peer_codec.proofs.Accounts.{accounts_take}
use Rattle.peer_codec.proofs.Loop.{accounts_go_on, accounts_end, accounts_done}
use Rattle.peer_codec.proofs.logs.split_accounts.Goals as goal

pub returns-in_err-saved-clause-exact : goal.returns-in_err-saved-clause-exact
returns-in_err-saved-clause-exact c =
    let p = err_from_is_err_and c.from_residual-in_err-saved.result c.from_residual-in_err-saved.ensures.1 in
    let fails = accounts_end c.in_err-saved.field-0.0 (map saved_account c.loop.clients.items) c.args.count c.loop.counter c.loop.least
    c.loop.rest.now (accounts_at c.args.count 0 c.args.bytes.now) c.loop-test.true c.in_err-saved.ensures c.loop.invariant.so_far in
    rw (p.1, p.2) fails

pub loop-preserved : goal.loop-preserved
loop-preserved c = record {
  so_far =
      rw c.in_ok-push.ensures.items (accounts_go_on c.loop.clients.items c.args.count c.loop.counter c.loop.least c.from-least.result c.loop.rest.now
      c.in_ok-saved.saved c.in_ok-saved.after.now (accounts_at c.args.count 0 c.args.bytes.now) c.loop-test.true c.in_ok-saved.ensures
      c.from-least.ensures c.loop.invariant.so_far);
  len = rw c.in_ok-push.ensures.items (length_push c.loop.clients.items c.in_ok-saved.saved ∙ ap (λ n. n + 1) c.loop.invariant.len);
}

pub returns-clause-exact : goal.returns-clause-exact
returns-clause-exact c =
    accounts_done (map saved_account c.loop.clients.items) c.args.count c.loop.counter c.loop.least c.loop.rest.now
    (accounts_at c.args.count 0 c.args.bytes.now) c.loop-test.false c.loop.invariant.so_far

pub returns-clause-saved : goal.returns-clause-saved
returns-clause-saved c =
    let read = accounts_done (map saved_account c.loop.clients.items) c.args.count c.loop.counter c.loop.least c.loop.rest.now
    (accounts_at c.args.count 0 c.args.bytes.now) c.loop-test.false c.loop.invariant.so_far in
    let taken = accounts_take c.args.count 0 c.args.bytes.now (map saved_account c.loop.clients.items, c.loop.rest.now)
    (λ i. omega (arith, c.type_inv.bytes i)) read in
    taken.saved
