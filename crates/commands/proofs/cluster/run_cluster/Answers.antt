use Rattle.std.proofs.Common.{◌∙◌, true, false, Err, rules}
use Rattle.one_box.specs.declared.errors.ClusterError.TheVariants as errors
use Rattle.one_box.specs.Showing.{links_of}
use Rattle.commands.specs.Nodes.{ports_of}
use Rattle.commands.proofs.ClusterLemmas.{finishes, serves_same}
use Rattle.commands.proofs.cluster.run_cluster.Goals as goal

pub returns-then-boxed-clause-ends : goal.returns-then-boxed-clause-ends
returns-then-boxed-clause-ends g c =
    finishes g.H.Host.meaning
    (links_of g.P.L.Link) (ports_of g.P.Ports c.args.ports.now c.serve_all.new.ports)
    (g.T.Clock.values c.args.clock.now) c.args.site.now c.deref.result.now c.args.ops (c.deref.ensures.value ∙ c.into_vec-ops.ensures)
    c.in-Ok.boxed true (g.K.Sink.held c.args.sink.now) (g.K.Sink.held c.serve_all.new.sink) c.requires.turns (search rules)
    c.in-Ok.ensures.ends

pub returns-in-Ok-clause-ends : goal.returns-in-Ok-clause-ends
returns-in-Ok-clause-ends g c =
    finishes g.H.Host.meaning
    (links_of g.P.L.Link) (ports_of g.P.Ports c.args.ports.now c.serve_all.new.ports)
    (g.T.Clock.values c.args.clock.now) c.args.site.now c.deref.result.now c.args.ops (c.deref.ensures.value ∙ c.into_vec-ops.ensures)
    c.in-Ok.boxed false (g.K.Sink.held c.args.sink.now) (g.K.Sink.held c.serve_all.new.sink) c.requires.turns (search rules)
    c.in-Ok.ensures.ends

pub returns-in-Err-WriteFault-clause-ends : goal.returns-in-Err-WriteFault-clause-ends
returns-in-Err-WriteFault-clause-ends g c =
    serves_same g.H.Host.meaning
    (links_of g.P.L.Link) (ports_of g.P.Ports c.args.ports.now c.serve_all.new.ports)
    (g.T.Clock.values c.args.clock.now) c.args.site.now c.deref.result.now c.args.ops (c.deref.ensures.value ∙ c.into_vec-ops.ensures)
    (Err errors.WriteFault) (g.K.Sink.held c.args.sink.now) (g.K.Sink.held c.serve_all.new.sink) (rw c.in-Err-WriteFault.field-0-is at
    c.in-Err-WriteFault.ensures.ends)

pub returns-clause-ends : goal.returns-clause-ends
returns-clause-ends g c =
    serves_same g.H.Host.meaning
    (links_of g.P.L.Link) (ports_of g.P.Ports c.args.ports.now c.serve_all.new.ports)
    (g.T.Clock.values c.args.clock.now) c.args.site.now c.deref.result.now c.args.ops (c.deref.ensures.value ∙ c.into_vec-ops.ensures)
    (Err errors.NoMemory) (g.K.Sink.held c.args.sink.now) (g.K.Sink.held c.serve_all.new.sink) (rw c.in-Err-NoMemory.field-0-is at
    c.in-Err-NoMemory.ensures.ends)
