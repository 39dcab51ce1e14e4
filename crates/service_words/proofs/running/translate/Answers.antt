use Rattle.std.proofs.Common.{◌∙◌, refl}
use Rattle.std.proofs.lemmas.Result.{err_from_is_err_and}
use Rattle.service_words.specs.Lines.{texts, translated}
use Rattle.service_words.proofs.Readings.{all_put, line_put, no_line_came, not_put, reads_nothing, reads_on}
use Rattle.service_words.proofs.running.translate.Goals as goal

pub loop-lines-init : goal.loop-lines-init
loop-lines-init g c =
    let f = translated (texts g.T.OpText.op_of g.T.OpText.words_of g.T.OpText.result_words g.R.ResultText.result_of) c.args.direction in
    record {
      reads = rw c.new-lines.ensures (reads_nothing f (g.S.Source.left c.args.source.now) (g.K.Sink.held c.args.sink.now));
      reads_count = refl {a = g.S.Source.fault_count c.args.source.now};
      writes_count = refl {a = g.K.Sink.fault_count c.args.sink.now};
    }

pub returns-in_err-first-clause-ends : goal.returns-in_err-first-clause-ends
returns-in_err-first-clause-ends g c =
    let f = translated (texts g.T.OpText.op_of g.T.OpText.words_of g.T.OpText.result_words g.R.ResultText.result_of) c.args.direction in
    let left = g.S.Source.left in
    let held = g.K.Sink.held in
    let l = c.loop-lines in
    let now = c.next.new.lines in
    let reads = reads_on f (left c.args.source.now) (left l.source) (left c.next.new.source) (held c.args.sink.now) (held l.sink) l.lines now
    l.invariant.reads c.in_err-first.ensures.takes in
    let p = err_from_is_err_and c.from_residual.result c.from_residual.ensures.1 in
    rw (p.1, p.2) (no_line_came f (left c.args.source.now) (left c.next.new.source) (held c.args.sink.now) (held l.sink) now
    c.in_err-first.field-0.0 reads c.in_err-first.ensures.err)

pub returns-in_default-clause-ends : goal.returns-in_default-clause-ends
returns-in_default-clause-ends g c =
    let f = translated (texts g.T.OpText.op_of g.T.OpText.words_of g.T.OpText.result_words g.R.ResultText.result_of) c.args.direction in
    let left = g.S.Source.left in
    let held = g.K.Sink.held in
    let l = c.loop-lines in
    let now = c.next.new.lines in
    let reads = reads_on f (left c.args.source.now) (left l.source) (left c.next.new.source) (held c.args.sink.now) (held l.sink) l.lines now
    l.invariant.reads c.in_ok-first.ensures.takes in
    all_put f (left c.args.source.now) (left c.next.new.source) (held c.args.sink.now) (held l.sink) now reads
    (rw c.in_default.is at c.in_ok-first.ensures.first)

pub loop-lines-preserved : goal.loop-lines-preserved
loop-lines-preserved g c =
    let f = translated (texts g.T.OpText.op_of g.T.OpText.words_of g.T.OpText.result_words g.R.ResultText.result_of) c.args.direction in
    let left = g.S.Source.left in
    let held = g.K.Sink.held in
    let l = c.loop-lines in
    let now = c.next.new.lines in
    let reads = reads_on f (left c.args.source.now) (left l.source) (left c.next.new.source) (held c.args.sink.now) (held l.sink) l.lines now
    l.invariant.reads c.in_ok-first.ensures.takes in
    record {
      reads = line_put f (left c.args.source.now) (left c.next.new.source) (held c.args.sink.now) (held l.sink) (held c.put_next.new.sink) now
          c.put_next.new.lines c.in-Some.first reads (rw c.in-Some.is at c.in_ok-first.ensures.first) c.in_ok-put_next.ensures.advances
          c.in_ok-put_next.ensures.puts;
      reads_count = c.in_ok-first.ensures.count.others (λ is. cc) ∙ l.invariant.reads_count;
      writes_count = c.in_ok-put_next.ensures.count.others (λ is. cc) ∙ l.invariant.writes_count;
    }

pub returns-in_err-put_next-clause-ends : goal.returns-in_err-put_next-clause-ends
returns-in_err-put_next-clause-ends g c =
    let f = translated (texts g.T.OpText.op_of g.T.OpText.words_of g.T.OpText.result_words g.R.ResultText.result_of) c.args.direction in
    let left = g.S.Source.left in
    let held = g.K.Sink.held in
    let l = c.loop-lines in
    let now = c.next.new.lines in
    let reads = reads_on f (left c.args.source.now) (left l.source) (left c.next.new.source) (held c.args.sink.now) (held l.sink) l.lines now
    l.invariant.reads c.in_ok-first.ensures.takes in
    let p = err_from_is_err_and c.from_residual-in_err-put_next.result c.from_residual-in_err-put_next.ensures.1 in
    rw (p.1, p.2) (not_put f (left c.args.source.now) (left c.next.new.source) (held c.args.sink.now) (held l.sink) (held c.put_next.new.sink) now
    c.in-Some.first c.in_err-put_next.field-0.0 reads (rw c.in-Some.is at c.in_ok-first.ensures.first) c.in_err-put_next.ensures.puts)
