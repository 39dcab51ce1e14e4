use Rattle.std.proofs.Common.{refl}
use Rattle.drawing.proofs.recorder.Recorder.put_sent.Goals as goal

pub returns-clause-flight : goal.returns-clause-flight
returns-clause-flight c = λ kept. record {
  flight = record {
    leg = record { purpose = c.args.label.purpose; from = c.args.turn.actor; sent = c.args.turn.row; dest = c.args.dest };
    text = c.args.label.text;
    brief = c.args.label.brief;
    reached = c.new.result;
  };
  leg_is = refl;
  unreached = c.new.ensures.items;
  flights = c.push_flight.ensures.flight kept;
}
