use Rattle.std.proofs.Common.{◌≡◌, ◌≤◌, ℕ, List, refl, ◌∙◌, ap, rules}
use Rattle.std.specs.Prelude.{IsSome}
use Rattle.std.proofs.lemmas.Result.{err_from_is_err_and}
use Rattle.nop_types.specs.declared.limits.TheConstants.{MAX_LINES}
use Rattle.nop_types.specs.declared.header.Header.{Header}
use Rattle.schedule_text.specs.Reading.{Reading, form_of}
use Rattle.transcript_text.specs.Transcript.{transcript_line}
use Rattle.replay.specs.Progress.{begins, GoesOn}
use Rattle.nop_types.specs.Checkpoints.{KeepsTo}
use Rattle.replay.proofs.Beginning.{opened, unopened, text_first, counts_from_one}
use Rattle.replay.proofs.Causes.{stop_reads, starved_reads}
use Rattle.replay.proofs.Decided.{may_begin}
use Rattle.replay.proofs.Progressing.{starved_ends}
use Rattle.replay.proofs.Safely.{done_is_safe, failed_is_safe}
use Rattle.replay.proofs.replayed.replay_from.Goals as goal

pub returns-in-Err-clause-ends : goal.returns-in-Err-clause-ends
returns-in-Err-clause-ends g c =
    let m = g.H.Host.meaning in
    let left = g.S.Source.left in
    let held = g.K.Sink.held in
    let takes = rw c.new-reader.ensures at c.in-Err.ensures.takes in
    let closed = c.in-Err.ensures.closed ∙ ap (λ (r : Reading). r.header) c.new-reader.ensures in
    let stops = rw c.new-pending.ensures.items at c.stop.ensures.stops in
    unopened m (left c.args.source.now) (left c.open.new.source) (held c.args.sink.now) (held c.stop.new.sink) c.open.new.reader c.in-Err.e
    c.stop.result takes closed c.in-Err.ensures.none_left stops

pub open-requires : goal.open-requires
open-requires g c =
    let left = g.S.Source.left in
    let held = g.K.Sink.held in
    let is : g.start ≡ begins (left c.args.source.now) (held c.args.sink.now) = search (rules, c.requires) in
    let written = may_begin g.H.Host.meaning g.start (left c.args.source.now) (held c.args.sink.now) c.new-reader.result is in
    search (rules, written)

pub take_events-requires : goal.take_events-requires
take_events-requires g c =
    let m = g.H.Host.meaning in
    let left = g.S.Source.left in
    let held = g.K.Sink.held in
    let header : Header = record { form = form_of c.open.new.reader.header; config = c.in-Ok.config } in
    let is : g.start ≡ begins (left c.args.source.now) (held c.args.sink.now) = search (rules, c.requires) in
    let takes = rw c.new-reader.ensures at c.in-Ok.ensures.takes in
    let line : List ℕ = transcript_line header.form header.config in
    let text : c.begin.new.pending.items ≡ line =
    text_first _ _ line c.new-pending.ensures.items (rw (← c.form.ensures) c.in_ok-world.ensures.line) in
    let going : GoesOn m g.start (left c.open.new.source) (held c.args.sink.now) c.begin.new.pending.items c.open.new.reader
    c.in_ok-world.world.state =
    rw (is, text, c.in_ok-world.ensures.world)
    (record {
      header = header;
      going = opened m (left c.args.source.now) (left c.open.new.source) (held c.args.sink.now)
          c.open.new.reader header takes c.in-Ok.ensures.config;
    }) in
    let some : IsSome c.open.new.reader.header = rw c.in-Ok.ensures.config refl in
    let first : 1 ≤ c.open.new.reader.line = counts_from_one _ c.in-Ok.ensures.line.0 in
    let last : c.open.new.reader.line ≤ MAX_LINES = c.in-Ok.ensures.line.1 in
    search (rules, going, some, first, last)

pub returns-clause-ends : goal.returns-clause-ends
returns-clause-ends g c =
    let is : g.start ≡ begins (g.S.Source.left c.args.source.now) (g.K.Sink.held c.args.sink.now) = search (rules, c.requires) in
    rw is at c.take_events.ensures.ends

pub returns-clause-safe : goal.returns-clause-safe
returns-clause-safe g c =
    let m = g.H.Host.meaning in
    let left = g.S.Source.left in
    let held = g.K.Sink.held in
    let keeps : KeepsTo m g.H.Host.is_sound = search (g.met.H.Host) in
    let is : g.start ≡ begins (left c.args.source.now) (held c.args.sink.now) = search (rules, c.requires) in
    done_is_safe m g.H.Host.is_sound keeps (left c.args.source.now) (left c.take_events.new.source) (held c.args.sink.now) (held c.take_events.new.sink)
    c.take_events.result (rw is at c.take_events.ensures.ends)

pub returns-clause-reads : goal.returns-clause-reads
returns-clause-reads g c = rw (c.in-Ok.ensures.count.others (λ is. cc)) at c.take_events.ensures.reads

pub returns-in-Err-clause-reads : goal.returns-in-Err-clause-reads
returns-in-Err-clause-reads g c = stop_reads _ _ _ c.in-Err.e c.stop.result _ _ _ c.stop.ensures.stops refl c.in-Err.ensures.count

pub returns-in_err-world-clause-ends : goal.returns-in_err-world-clause-ends
returns-in_err-world-clause-ends g c =
    let p = err_from_is_err_and c.from_residual.result c.from_residual.ensures.1 in
    starved_ends g.H.Host.meaning (g.S.Source.left c.args.source.now) (g.S.Source.left c.open.new.source) (g.K.Sink.held c.args.sink.now)
    c.from_residual.result p.0 p.1 p.2

pub returns-in_err-world-clause-safe : goal.returns-in_err-world-clause-safe
returns-in_err-world-clause-safe g c =
    let p = err_from_is_err_and c.from_residual.result c.from_residual.ensures.1 in
    failed_is_safe g.H.Host.meaning (g.S.Source.left c.args.source.now) c.from_residual.result p.0 p.1

pub returns-in_err-world-clause-reads : goal.returns-in_err-world-clause-reads
returns-in_err-world-clause-reads g c =
    let p = err_from_is_err_and c.from_residual.result c.from_residual.ensures.1 in
    starved_reads _ _ c.from_residual.result p.0 p.1 p.2 (c.in-Ok.ensures.count.others (λ is. cc))
