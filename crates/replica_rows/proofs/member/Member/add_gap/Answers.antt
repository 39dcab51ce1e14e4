use Rattle.std.proofs.Common.{◌∙◌, ap, arith}
use Rattle.nop_types.specs.declared.request.Entry.TheVariants.{NoOp}
use Rattle.nop_types.specs.Logs.{Trimmed, length_of}
use Rattle.replica_rows.proofs.Fields.{length-appended}
use Rattle.replica_rows.proofs.Rows.{add_gap_sends}
use Rattle.replica_rows.proofs.Running.{on_ok}
use Rattle.replica_rows.proofs.member.Member.add_gap.Goals as goal

pub to_leader-requires-clause-fits : goal.to_leader-requires-clause-fits
to_leader-requires-clause-fits g c =
    let longer = ap (λ t. length_of Trimmed t.log) c.in_ok-append.ensures.state in
    let one = length-appended Trimmed c.args.self.now.state.log NoOp in
    record { low = omega (arith, longer, one, c.len-slot.ensures.len); high = omega arith }

pub returns : goal.returns
returns g c =
    let s = c.args.self.now.state in
    let state = c.in_ok-append.ensures.state in
    on_ok c.to_leader.result _ _
    (λ does. record {
      runs = does.runs;
      state = does.state ∙ state;
      sends =
          add_gap_sends s c.append.new.self.state c.len-slot.result c.args.self.now.sends c.append.new.self.sends
          _ state c.len-slot.ensures.len c.append.ensures.sends does.sends;
    })
    c.to_leader.ensures.does
