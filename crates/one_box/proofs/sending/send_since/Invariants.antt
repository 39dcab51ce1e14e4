use Rattle.std.proofs.Common.{◌≡◌}
use Rattle.std.specs.Prelude.{slice_range}
use Rattle.outside.specs.Observed.{Stays}
use Rattle.udp_node.specs.Sends.{Sends, side}
use Rattle.one_box.specs.ClusterRun.{posts}
use Rattle.one_box.proofs.sending.send_since.Given as goal

abbrev pub invariant-loop-i : goal.invariant-loop-i
invariant-loop-i g l = record {
  sends : Sends (posts l.at (slice_range l.world.state.sent l.count l.i))
      (side (g.L.Link.trace l.fn.link) l.fn.lost (g.L.Link.loss_count l.fn.link))
      (side (g.L.Link.trace l.link) l.lost (g.L.Link.loss_count l.link));
  answers : Stays (g.L.Link.answers l.fn.link) (g.L.Link.answers l.link);
  faults : g.L.Link.fault_count l.link ≡ g.L.Link.fault_count l.fn.link;
  port : g.L.Link.own_port l.link ≡ g.L.Link.own_port l.fn.link;
}
