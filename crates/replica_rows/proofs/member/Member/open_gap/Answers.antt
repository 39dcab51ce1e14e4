use Rattle.std.proofs.Common.{◌∙◌, ap, arith}
use Rattle.nop_types.specs.declared.request.Entry.TheVariants.{NoOp}
use Rattle.nop_types.specs.Logs.{Trimmed, length_of}
use Rattle.replica_state.specs.Moves.{open_gap}
use Rattle.replica_rows.proofs.Fields.{length-appended}
use Rattle.replica_rows.proofs.Rows.{open_gap_sends}
use Rattle.replica_rows.proofs.Running.{on_ok, open_gap_runs}
use Rattle.replica_rows.proofs.member.Member.open_gap.Goals as goal

pub to_all-requires-clause-runs : goal.to_all-requires-clause-runs
to_all-requires-clause-runs g c =
    open_gap_runs g.H.Host c.args.self.now.state _ _ c.in_ok-put_gap.ensures.ok c.requires.runs c.requires.room

pub to_all-requires-clause-fits : goal.to_all-requires-clause-fits
to_all-requires-clause-fits g c =
    let longer = ap (λ t. length_of Trimmed t.log) c.in_ok-put_gap.ensures.ok in
    let one = length-appended Trimmed c.args.self.now.state.log NoOp in
    record { low = omega (arith, longer, one, c.len-slot.ensures.len); high = omega arith }

pub returns : goal.returns
unfolding open_gap
returns g c =
    let s = c.args.self.now.state in
    let state = c.in_ok-put_gap.ensures.ok in
    on_ok c.to_all.result _ _
    (λ does. record {
      runs = does.runs;
      state = does.state ∙ state;
      sends =
          open_gap_sends s c.put_gap.new.self c.len-slot.result c.args.self.now.sends _ state c.len-slot.ensures.len does.sends;
    })
    c.to_all.ensures.does
