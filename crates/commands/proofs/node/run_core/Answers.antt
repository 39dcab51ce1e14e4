use Rattle.std.proofs.Common.{rules, refl, ap, arith, length, length-append}
use Rattle.outside.proofs.Counts.{counts_none, rose_where}
use Rattle.commands.proofs.NodeLemmas.{attached_ends, unattached_ends, rose_at}
use Rattle.commands.proofs.node.run_core.Goals as goal

pub returns-in-Ok : goal.returns-in-Ok
returns-in-Ok g c = record {
  ends = attached_ends _ _ _ _ _ _ _ c.run_link-status.new.link _ _ _ _ _ (search rules) (search rules) c.run_link-status.ensures.status
      (rose_where _ _ _ c.run_link-status.ensures.polls) c.run_link-status.ensures.last
      c.in-Ok.ensures.faults c.in-Ok.ensures.losses c.in-Ok.ensures.content c.run_link-status.ensures.run;
  status = c.run_link-status.ensures.status;
  back =
      let given = ap length c.detach.ensures.detached in
      let held = simp length-append at given in
      let before = ap length c.attach.ensures.detached in
      omega (arith, held, before, c.in-Ok.ensures.attached, c.detach.ensures.attached);
  attaches = search rules;
  writes = c.run_link-status.ensures.writes;
}

pub returns-in-Err-Failed : goal.returns-in-Err-Failed
returns-in-Err-Failed g c = record {
  ends = unattached_ends _ _ _ _ _ _ c.attach.ensures.detached tt (λ is. rose_at (g.P.Ports.fault_count c.args.ports.now) (g.P.Ports.fault_count c.attach.new.self)
      (rw c.in-Err-Failed.field-0-is at c.in-Err-Failed.ensures.count));
  status = tt;
  back = search rules;
  attaches = λ other. absurd (other refl);
  writes = counts_none _ _ _ refl (λ is. cc);
}

pub returns-in-Err-NoMemory : goal.returns-in-Err-NoMemory
returns-in-Err-NoMemory g c = record {
  ends = unattached_ends _ _ _ _ _ _ c.attach.ensures.detached tt (λ is. cc);
  status = tt;
  back = search rules;
  attaches = λ other. rw c.in-Err-NoMemory.field-0-is at c.in-Err-NoMemory.ensures.count;
  writes = counts_none _ _ _ refl (λ is. cc);
}
