use Rattle.std.proofs.Common.{◌+◌, ap, ◌∙◌}
use Rattle.std.proofs.lemmas.List.{length_push}
use Rattle.std.proofs.lemmas.Result.{err_from_is_err_and}
use Rattle.peer_codec.specs.Logs.{entries_at}
use Rattle.peer_codec.proofs.Loop.{entries_go_on, entries_end, entries_done}
use Rattle.peer_codec.proofs.logs.split_entries.Goals as goal

pub returns-in_err-entry : goal.returns-in_err-entry
returns-in_err-entry c =
    let p = err_from_is_err_and c.from_residual-in_err-entry.result c.from_residual-in_err-entry.ensures.1 in
    let fails = entries_end c.in_err-entry.field-0.0 c.loop.entries.items c.args.count c.loop.counter c.loop.rest.now
    (entries_at c.args.count c.args.bytes.now) c.loop-test.true c.in_err-entry.ensures c.loop.invariant.so_far in
    rw (p.1, p.2) (record { exact = fails; len = tt })

pub loop-preserved : goal.loop-preserved
loop-preserved c = record {
  so_far =
      rw c.in_ok-push.ensures.items (entries_go_on c.loop.entries.items c.args.count c.loop.counter c.loop.rest.now c.in_ok-entry.entry c.in_ok-entry.after.now
      (entries_at c.args.count c.args.bytes.now) c.loop-test.true c.in_ok-entry.ensures c.loop.invariant.so_far);
  len = rw c.in_ok-push.ensures.items (length_push c.loop.entries.items c.in_ok-entry.entry ∙ ap (λ n. n + 1) c.loop.invariant.len);
}

pub returns-clause-exact : goal.returns-clause-exact
returns-clause-exact c =
    entries_done c.loop.entries.items c.args.count c.loop.counter c.loop.rest.now (entries_at c.args.count c.args.bytes.now) c.loop-test.false
    c.loop.invariant.so_far
