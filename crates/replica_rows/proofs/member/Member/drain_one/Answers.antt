use Rattle.std.proofs.Common.{sym, ap, ◌∙◌, arith}
use Rattle.nop_types.specs.declared.request.Entry.TheVariants.{Req}
use Rattle.nop_types.specs.Logs.{Trimmed, length_of}
use Rattle.executor.proofs.PrefixLemmas.{reached_within}
use Rattle.replica_state.specs.State.{has_room, may_append}
use Rattle.replica_rows.proofs.Fields.{length-appended}
use Rattle.replica_rows.proofs.Draining.{took, took_none, took_goes_on, opens_goes_on, stops_before, stops_at_none, stops_and_asks, has_slot}
use Rattle.replica_rows.proofs.Running.{unmoved_runs, logged_runs, may_open, ask_runs}
use Rattle.replica_rows.proofs.member.Member.drain_one.Goals as goal

pub returns-then-not-drains-clause-taken : goal.returns-then-not-drains-clause-taken
returns-then-not-drains-clause-taken g c =
    stops_before g.H.Host.meaning c.args.self.now.state c.args.self.now.sends (sym c.drains.ensures ∙ c.if-not-drains.true)

pub reply_at-requires-clause-runs : goal.reply_at-requires-clause-runs
reply_at-requires-clause-runs g c =
    let front = took c.args.self.now.state c.take_front.new.state _ c.if-branch.true c.in_ok-take_front.ensures in
    logged_runs g.H.Host c.args.self.now.state _ _ front.request front.state c.requires.runs front.fits
    (sym c.drains.ensures ∙ c.if-not-drains.false) front.more

pub reply_at-requires-clause-there : goal.reply_at-requires-clause-there
reply_at-requires-clause-there g c = omega (arith, c.len-slot.ensures.len)

pub reply_at-requires-clause-ahead : goal.reply_at-requires-clause-ahead
reply_at-requires-clause-ahead g c =
    let s = c.args.self.now.state in
    let front = took s c.take_front.new.state _ c.if-branch.true c.in_ok-take_front.ensures in
    let executed =
    reached_within g.H.Host.state g.H.Host.meaning g.H.Host.undo_of s.log c.args.self.now.executor c.requires.runs.run in
    let longer = ap (λ t. length_of Trimmed t.log) front.state in
    let one = length-appended Trimmed s.log (Req front.request) in
    omega (arith, executed, longer, one, c.len-slot.ensures.len)

pub returns-then-branch-clause-taken : goal.returns-then-branch-clause-taken
returns-then-branch-clause-taken g c =
    let front = took c.args.self.now.state c.take_front.new.state _ c.if-branch.true c.in_ok-take_front.ensures in
    took_goes_on g.H.Host.meaning c.args.self.now.state c.take_front.new.state _ _ _ _
    (sym c.drains.ensures ∙ c.if-not-drains.false) front c.reply_at.ensures.state c.len-slot.ensures.len c.in_ok-reply_at.ensures.sends

pub returns-then-not-has_drop-clause-runs : goal.returns-then-not-has_drop-clause-runs
returns-then-not-has_drop-clause-runs g c =
    let none = took_none c.args.self.now.state c.take_front.new.state _ c.if-branch.false c.in_ok-take_front.ensures in
    unmoved_runs g.H.Host c.args.self.now.state _ _ none.state c.requires.runs

pub returns-then-not-has_drop-clause-taken : goal.returns-then-not-has_drop-clause-taken
returns-then-not-has_drop-clause-taken g c =
    let none = took_none c.args.self.now.state c.take_front.new.state _ c.if-branch.false c.in_ok-take_front.ensures in
    stops_at_none g.H.Host.meaning c.args.self.now.state c.take_front.new.state c.has_drop.result c.args.self.now.sends
    (sym c.drains.ensures ∙ c.if-not-drains.false) none c.has_drop.ensures.drop.1 c.if-not-has_drop.true

pub open_gap-requires-clause-runs : goal.open_gap-requires-clause-runs
open_gap-requires-clause-runs g c =
    let none = took_none c.args.self.now.state c.take_front.new.state _ c.if-branch.false c.in_ok-take_front.ensures in
    unmoved_runs g.H.Host c.args.self.now.state _ _ none.state c.requires.runs

pub open_gap-requires-clause-room : goal.open_gap-requires-clause-room
open_gap-requires-clause-room g c =
    let s = c.args.self.now.state in
    let none = took_none s c.take_front.new.state _ c.if-branch.false c.in_ok-take_front.ensures in
    let more = c.has_drop.ensures.more c.if-not-has_drop.false in
    let next = ap (λ t. t.receiver.next) none.state in
    ap (λ t. may_append Trimmed t) none.state
    ∙ may_open Trimmed s c.requires.runs.within (sym c.drains.ensures ∙ c.if-not-drains.false) (omega (arith, more, next))

pub returns-then-leads-clause-taken : goal.returns-then-leads-clause-taken
returns-then-leads-clause-taken g c =
    let none = took_none c.args.self.now.state c.take_front.new.state _ c.if-branch.false c.in_ok-take_front.ensures in
    let drop = c.has_drop.ensures.drop.0 c.if-not-has_drop.false in
    opens_goes_on g.H.Host.meaning c.args.self.now.state c.take_front.new.state _ _ _
    (sym c.drains.ensures ∙ c.if-not-drains.false) none drop
    (sym c.leads.ensures ∙ c.if-leads.true) c.in_ok-open_gap.ensures.state c.in_ok-open_gap.ensures.sends

pub ask-requires-clause-within : goal.ask-requires-clause-within
ask-requires-clause-within g c =
    let none = took_none c.args.self.now.state c.take_front.new.state _ c.if-branch.false c.in_ok-take_front.ensures in
    (unmoved_runs g.H.Host c.args.self.now.state c.take_front.new.state c.args.self.now.executor none.state c.requires.runs).within

pub ask-requires-clause-room : goal.ask-requires-clause-room
ask-requires-clause-room g c =
    let s = c.args.self.now.state in
    let none = took_none s c.take_front.new.state _ c.if-branch.false c.in_ok-take_front.ensures in
    ap (λ t. has_room Trimmed t) none.state ∙ has_slot Trimmed s (sym c.drains.ensures ∙ c.if-not-drains.false)

pub returns-clause-runs : goal.returns-clause-runs
returns-clause-runs g c =
    let none = took_none c.args.self.now.state c.take_front.new.state _ c.if-branch.false c.in_ok-take_front.ensures in
    ask_runs g.H.Host c.take_front.new.state _ _ c.in_ok-ask.ensures.state
    (unmoved_runs g.H.Host c.args.self.now.state c.take_front.new.state c.args.self.now.executor none.state c.requires.runs)

pub returns-clause-taken : goal.returns-clause-taken
returns-clause-taken g c =
    let none = took_none c.args.self.now.state c.take_front.new.state _ c.if-branch.false c.in_ok-take_front.ensures in
    let drop = c.has_drop.ensures.drop.0 c.if-not-has_drop.false in
    stops_and_asks g.H.Host.meaning c.args.self.now.state c.take_front.new.state _ _ _
    (sym c.drains.ensures ∙ c.if-not-drains.false) none drop
    (sym c.leads.ensures ∙ c.if-leads.false) c.in_ok-ask.ensures.state c.in_ok-ask.ensures.sends
