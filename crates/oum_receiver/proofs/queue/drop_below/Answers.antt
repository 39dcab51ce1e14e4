use Rattle.std.proofs.Common.{sym, ◌∙◌}
use Rattle.oum_receiver.proofs.Entries.{drop_popped}
use Rattle.oum_receiver.proofs.queue.drop_below.Goals as goal

pub returns : goal.returns
returns c = sym (c.starts_below.ensures.none_below c.loop-requests-test.false) ∙ c.loop-requests.invariant

pub loop-requests-preserved-in-loop-requests : goal.loop-requests-preserved-in-loop-requests
loop-requests-preserved-in-loop-requests c =
    drop_popped c.args.next c.loop-requests.requests.entries c.pop_first.new.self.entries c.pop_first.result
    (sym c.starts_below.ensures.value ∙ c.loop-requests-test.true) c.pop_first.ensures.variant.1 c.pop_first.ensures.removal
    ∙ c.loop-requests.invariant
