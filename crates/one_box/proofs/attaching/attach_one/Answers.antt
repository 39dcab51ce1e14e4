use Rattle.std.proofs.Common.{refl, ◌∙◌, ap, arith, length}
use Rattle.outside.proofs.Counts.{counts_after, counts_none}
use Rattle.one_box.proofs.AttachingLemmas.{given_back}
use Rattle.one_box.proofs.attaching.attach_one.Goals as goal

pub returns-in-Ok-push-clause-attaches : goal.returns-in-Ok-push-clause-attaches
returns-in-Ok-push-clause-attaches g c = record {
  one = record {
    node = record { at = c.args.at; timers = c.args.timers; next_op = c.first_op-next_op.result; link = c.in-Ok.link; lost = 0 };
    added = c.in-Ok-push.ensures.items;
    fresh = record {
      at = refl;
      timers = refl;
      next_op = c.first_op-next_op.ensures;
      lost = refl;
      port = c.in-Ok.ensures.port ∙ c.port_of-port.ensures.port;
      losses = c.in-Ok.ensures.losses;
    };
    content = c.in-Ok.ensures.content;
  };
  attached = c.in-Ok.ensures.attached;
  room = c.in-Ok.ensures.room;
  given = c.in-Ok.ensures.detached;
}

pub returns-in-Err-push-clause-attaches : goal.returns-in-Err-push-clause-attaches
returns-in-Err-push-clause-attaches g c = record {
  same = c.in-Err-push.ensures.items;
  balance = given_back (g.P.Ports.attached c.args.ports.now) (g.P.Ports.attached c.attach.new.self)
      (g.P.Ports.attached c.detach_one.new.ports) (g.P.Ports.detached c.args.ports.now) (g.P.Ports.detached c.attach.new.self)
      (g.P.Ports.detached c.detach_one.new.ports) _ c.in-Ok.ensures.attached c.in-Ok.ensures.detached c.detach_one.ensures.attached
      c.detach_one.ensures.detached;
}

pub returns-in-Err-push-clause-count : goal.returns-in-Err-push-clause-count
returns-in-Err-push-clause-count g c = counts_none _ _ _ (c.detach_one.ensures.faults ∙ c.in-Ok.ensures.count) (λ failed. cc)

pub returns-in-Err-clause-attaches : goal.returns-in-Err-clause-attaches
returns-in-Err-clause-attaches g c = record {
  same = refl;
  balance = omega (arith, c.in-Err.ensures.err, ap length c.attach.ensures.detached);
}

pub returns-in-Err-clause-count : goal.returns-in-Err-clause-count
returns-in-Err-clause-count g c = counts_after _ _ _ c.in-Err.ensures.later c.in-Err.ensures.count
