use Rattle.std.proofs.Common.{Some, true}
use Rattle.command_line.specs.declared.command.Command.TheVariants.{Client, Read}
use Rattle.commands.proofs.AnswerLemmas.{client_answers}
use Rattle.commands.proofs.RunLemmas.{no_read}
use Rattle.one_box.specs.Showing.{links_of}
use Rattle.commands.specs.Nodes.{ports_of}
use Rattle.commands.proofs.running.carry_out.Goals as goal

pub returns-in-Client-clause-ends : goal.returns-in-Client-clause-ends
returns-in-Client-clause-ends g c =
    rw c.in-Client.is (record {
      drawing = tt;
      node = c.run_client.ensures.ends;
      cluster = tt;
      client = client_answers g.H.Host.meaning (links_of g.P.L.Link) (ports_of g.P.Ports c.args.ports.now c.run_client.new.ports)
          (g.C.Clock.values c.args.clock.now) (Some (Client c.in-Client.id c.in-Client.site c.in-Client.ops)) c.run_client.result
          (g.K.Sink.held c.args.sink.now) (g.K.Sink.held c.run_client.new.sink) c.run_client.ensures.ends;
      back = λ is. c.run_client.ensures.back;
      attaches = c.run_client.ensures.attaches;
      reads = no_read (g.S.Source.fault_count c.args.source.now) true c.run_client.result c.run_client.ensures.status;
      writes = c.run_client.ensures.writes;
    })

pub returns-in-Read-clause-ends : goal.returns-in-Read-clause-ends
returns-in-Read-clause-ends g c =
    rw c.in-Read.is (record {
      drawing = tt;
      node = c.run_read.ensures.ends;
      cluster = tt;
      client = client_answers g.H.Host.meaning (links_of g.P.L.Link) (ports_of g.P.Ports c.args.ports.now c.run_read.new.ports)
          (g.C.Clock.values c.args.clock.now)
          (Some (Read c.in-Read.id c.in-Read.site c.in-Read.observer c.in-Read.key c.in-Read.least)) c.run_read.result
          (g.K.Sink.held c.args.sink.now) (g.K.Sink.held c.run_read.new.sink) c.run_read.ensures.ends;
      back = λ is. c.run_read.ensures.back;
      attaches = c.run_read.ensures.attaches;
      reads = no_read (g.S.Source.fault_count c.args.source.now) true c.run_read.result c.run_read.ensures.status;
      writes = c.run_read.ensures.writes;
    })
