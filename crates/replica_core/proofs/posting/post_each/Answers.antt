use Rattle.std.proofs.Common.{◌++◌, List, append-nil, sym, ap, ◌∙◌, arith, rules}
use Rattle.nop_types.specs.declared.output.Out.{Out}
use Rattle.replica_state.specs.declared.sending.Sending.{Sending}
use Rattle.replica_core.proofs.Posted.{posted_none, posted_more, parts_more, count_more, room_for_next}
use Rattle.replica_core.proofs.posting.post_each.Goals as goal

pub loop-sending-init : goal.loop-sending-init
loop-sending-init c = record {
  number = omega arith;
  out = sym (ap (λ (outs : List Out). c.args.out.now ++ outs) (posted_none c.args.messages) ∙ append-nil c.args.out.now);
  left = search rules;
}

pub post_one-requires-clause-room : goal.post_one-requires-clause-room
post_one-requires-clause-room c =
    let at = c.loop-sending in
    room_for_next _ c.args.messages at.number at.yielded c.next.new.self.rest.items c.args.sends.items c.in-Some.sending
    (sym (ap (λ (rest : List Sending). at.yielded ++ rest) c.in-Some.ensures.steps.0) ∙ at.invariant.left) at.invariant.number
    c.requires.room

pub loop-sending-preserved : goal.loop-sending-preserved
loop-sending-preserved c =
    let at = c.loop-sending in
    let x = c.in-Some.sending in
    record {
      number = c.in_ok-number.ensures.number ∙ count_more c.args.messages at.number at.yielded x at.invariant.number;
      out =
          posted_more c.args.out.now at.out c.post_one.new.out c.args.messages at.number at.yielded x at.invariant.number
          at.invariant.out c.in_ok-number.ensures.ok;
      left = parts_more at.yielded x c.next.new.self.rest.items ∙ sym (ap (λ (rest : List Sending). at.yielded ++ rest)
          c.in-Some.ensures.steps.0) ∙ at.invariant.left;
    }
