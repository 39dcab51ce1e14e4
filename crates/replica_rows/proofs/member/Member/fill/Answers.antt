use Rattle.std.proofs.Common.{◌∙◌, ap, arith}
use Rattle.nop_types.specs.declared.request.Entry.TheVariants.{Req}
use Rattle.nop_types.specs.Logs.{Trimmed, length_of}
use Rattle.executor.specs.Running.{reached}
use Rattle.executor.proofs.PrefixLemmas.{reached_within}
use Rattle.replica_rows.proofs.Fields.{length-appended}
use Rattle.replica_rows.proofs.Rows.{fill_sends}
use Rattle.replica_rows.proofs.Running.{on_ok_both}
use Rattle.replica_rows.proofs.member.Member.fill.Goals as goal

pub reply_at-requires-clause-there : goal.reply_at-requires-clause-there
reply_at-requires-clause-there g c = omega (arith, c.len-slot.ensures.len)

pub reply_at-requires-clause-ahead : goal.reply_at-requires-clause-ahead
reply_at-requires-clause-ahead g c =
    let s = c.args.self.now.state in
    let executed =
    reached_within g.H.Host.state g.H.Host.meaning g.H.Host.undo_of s.log c.args.self.now.executor c.requires.runs.run in
    let run = ap (λ e. reached e) c.append.ensures.executor in
    let longer = ap (λ t. length_of Trimmed t.log) c.in_ok-append.ensures.state in
    let one = length-appended Trimmed s.log (Req c.args.request) in
    omega (arith, executed, run, longer, one, c.len-slot.ensures.len)

pub returns : goal.returns
returns g c =
    on_ok_both c.reply_at.result _ _ _
    (λ runs sent. record {
      runs = runs;
      state = c.reply_at.ensures.state ∙ c.in_ok-append.ensures.state;
      sends =
          fill_sends g.H.Host.meaning c.args.self.now.state c.append.new.self.state c.len-slot.result c.args.request c.args.self.now.sends
          c.append.new.self.sends _ c.in_ok-append.ensures.state c.len-slot.ensures.len c.append.ensures.sends sent;
    })
    c.reply_at.ensures.runs c.reply_at.ensures.sends
