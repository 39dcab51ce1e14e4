use Rattle.linearize.proofs.answering.in_lines.Goals as goal
use Rattle.linearize.specs.Answering.{IsInOrder}

pub line_at-line-requires : goal.line_at-line-requires
line_at-line-requires c = rw c.in-Nothing.is at c.requires

pub returns-in-Order : goal.returns-in-Order
returns-in-Order c =
    let is : IsInOrder c.args.claims c.in-Order.places c.in_order.result = record {
      ok = c.in_order.ensures.ok;
      room = c.in_order.ensures.room;
      bytes = c.in_order.ensures.bytes;
      err = c.in_order.ensures.err;
    } in
    rw c.in-Order.is is
