use Rattle.std.proofs.Common.{◌≤◌, ◌∙◌, ◌++◌, List, append-nil, ap, arith, length, subst, sym}
use Rattle.std.proofs.lemmas.List.{take_all}
use Rattle.std.specs.List.{All, flat_map}
use Rattle.schedule_text.specs.declared.event.Event.{Event}
use Rattle.printed_runs.specs.Printing.{event_line}
use Rattle.one_box.specs.Text.{IsReadBack}
use Rattle.one_box.proofs.TextLemmas.{one_put, one_read_back}
use Rattle.one_box.proofs.writing.put_events.Goals as goal

pub loop-event-init : goal.loop-event-init
loop-event-init c = (sym (append-nil c.args.to.now.items), λ k d lt. absurd (omega (arith, lt)))

pub loop-event-preserved : goal.loop-event-preserved
loop-event-preserved c = (
  one_put c.args.events.now c.loop-event.event-index c.event-item.result c.loop-event-test.true c.event-item.is c.args.to.now.items
      c.loop-event.to.items c.event_line.new.to.items c.loop-event.invariant.0 c.in_ok-event_line.ensures.ok,
  one_read_back c.args.events.now c.loop-event.event-index c.event-item.result c.loop-event-test.true c.event-item.is
      c.loop-event.invariant.1 c.in_ok-event_line.ensures.means,
)

pub returns-clause-ok : goal.returns-clause-ok
returns-clause-ok c =
    let past : length c.args.events.now ≤ c.loop-event.event-index = omega (arith, c.loop-event-test.false) in
    c.loop-event.invariant.0
    ∙ ap (λ (es : List Event). c.args.to.now.items ++ flat_map event_line es) (take_all c.loop-event.event-index c.args.events.now past)

pub returns-clause-means : goal.returns-clause-means
returns-clause-means c =
    let past : length c.args.events.now ≤ c.loop-event.event-index = omega (arith, c.loop-event-test.false) in
    subst (All IsReadBack) (take_all c.loop-event.event-index c.args.events.now past) c.loop-event.invariant.1
