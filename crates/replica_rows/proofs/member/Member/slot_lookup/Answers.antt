use Rattle.std.proofs.Common.{ap, sym, subst, ◌∙◌}
use Rattle.nop_types.specs.declared.peer.Body.TheVariants as bodies
use Rattle.nop_types.specs.Logs.{Trimmed}
use Rattle.nop_types.specs.Ranges.{RequestFits}
use Rattle.replica_log.specs.Answer.{Below, Found, GapAgain, Begin, given}
use Rattle.replica_state.specs.Moves.{send_synced}
use Rattle.replica_state.specs.Sends.{to_replica}
use Rattle.replica_rows.specs.Rows.{begin_gap, slot_lookup}
use Rattle.replica_rows.proofs.Branches.{looks_up}
use Rattle.replica_rows.proofs.Replying.{found_fits, begins_in_room}
use Rattle.replica_rows.proofs.Running.{on_ok, does_as}
use Rattle.replica_rows.proofs.member.Member.slot_lookup.Goals as goal

pub returns-in-Below : goal.returns-in-Below
returns-in-Below g c =
    let m = g.H.Host.meaning in
    let s = c.args.self.now.state in
    on_ok c.send_synced.result _ _
    (does_as g.H.Host c.args.self.now _ (λ t. send_synced Trimmed t c.args.sender) (slot_lookup m Trimmed c.args.sender c.args.slot)
    (looks_up m Trimmed s Below c.waits-waits.result c.args.sender c.args.slot (ap given (sym c.in-Below.is) ∙ c.answer.ensures)
    c.waits-waits.ensures))
    c.send_synced.ensures

pub returns-in_ok-request-in-Found : goal.returns-in_ok-request-in-Found
returns-in_ok-request-in-Found g c =
    let m = g.H.Host.meaning in
    let s = c.args.self.now.state in
    on_ok c.to_replica.result _ _
    (does_as g.H.Host c.args.self.now _ (λ t. (t, to_replica t c.args.sender (bodies.Found c.args.slot c.in_ok-request-in-Found.request)))
    (slot_lookup m Trimmed c.args.sender c.args.slot)
    (ap (λ r. (s, to_replica s c.args.sender (bodies.Found c.args.slot r))) c.in_ok-request-in-Found.ensures
    ∙ looks_up m Trimmed s (Found c.in-Found.request.now) c.waits-waits.result c.args.sender c.args.slot
    (ap given (sym c.in-Found.is) ∙ c.answer.ensures) c.waits-waits.ensures))
    c.to_replica.ensures.does

pub returns-in-GapAgain : goal.returns-in-GapAgain
returns-in-GapAgain g c =
    let m = g.H.Host.meaning in
    let s = c.args.self.now.state in
    on_ok c.to_replica-in-GapAgain.result _ _
    (does_as g.H.Host c.args.self.now _ (λ t. (t, to_replica t c.args.sender (bodies.GapCommit c.args.slot)))
    (slot_lookup m Trimmed c.args.sender c.args.slot)
    (looks_up m Trimmed s GapAgain c.waits-waits.result c.args.sender c.args.slot (ap given (sym c.in-GapAgain.is) ∙ c.answer.ensures)
    c.waits-waits.ensures))
    c.to_replica-in-GapAgain.ensures.does

pub returns-in-Begin : goal.returns-in-Begin
returns-in-Begin g c =
    let m = g.H.Host.meaning in
    let s = c.args.self.now.state in
    on_ok c.begin_gap.result _ _
    (does_as g.H.Host c.args.self.now _ (begin_gap m Trimmed) (slot_lookup m Trimmed c.args.sender c.args.slot)
    (looks_up m Trimmed s Begin c.waits-waits.result c.args.sender c.args.slot (ap given (sym c.in-Begin.is) ∙ c.answer.ensures)
    c.waits-waits.ensures))
    c.begin_gap.ensures

pub to_replica-requires-clause-fits : goal.to_replica-requires-clause-fits
to_replica-requires-clause-fits g c =
    let found = ap given (sym c.in-Found.is) ∙ c.answer.ensures in
    let fits = found_fits c.args.self.now.state.log c.waits-waits.result c.args.slot c.in-Found.request.now c.requires.runs.within.log found in
    record { place = c.requires.fits; request = subst RequestFits (sym c.in_ok-request-in-Found.ensures) fits }

pub begin_gap-requires-clause-room : goal.begin_gap-requires-clause-room
begin_gap-requires-clause-room g c =
    begins_in_room c.args.self.now.state.log c.waits-waits.result c.args.slot (ap given (sym c.in-Begin.is) ∙ c.answer.ensures)
