use Rattle.std.proofs.Common.{◌≡◌, ◌∙◌, false, refl, sym, ap}
use Rattle.line_reader.specs.Deciding.{IsUndecided}
use Rattle.line_reader.specs.Reading.{Reading}
use Rattle.line_reader.proofs.Takings.{stays, then_takes, needs_a_read}
use Rattle.line_reader.proofs.line_reader.LineReader.read_line.Goals as goal

pub loop-self-init : goal.loop-self-init
loop-self-init g c = record {
  takes = stays c.args.self.now (g.S.Source.left c.args.source.now);
  unread = λ needs. (refl, refl);
  count = refl {a = g.S.Source.fault_count c.args.source.now};
}

pub loop-self-preserved : goal.loop-self-preserved
loop-self-preserved g c =
    let left = g.S.Source.left in
    let kept = c.loop-self.invariant in
    let inside = c.self.inside in
    let going : c.loop-self.self.ended ≡ false = ap (λ (r : Reading). r.ended) (sym c.self.view_is) ∙ c.if-self.false in
    let undecided : IsUndecided inside.most inside.line inside.ended inside.buffer.items =
    rw c.in_default.is at c.self.invariant.first in
    record {
      takes = then_takes c.args.self.now c.loop-self.self c.read_piece.new.self (left c.args.source.now)
          (left c.loop-self.source) (left c.read_piece.new.source) going kept.takes c.in_ok-read_piece.ensures.takes;
      unread = λ needs.
          let stayed = kept.unread needs in
          absurd (needs_a_read c.loop-self.self (rw (← c.self.view_is) undecided) going (rw (stayed.1) needs));
      count = c.in_ok-read_piece.ensures.count.others (λ is. cc) ∙ kept.count;
    }

pub returns-in_err-read_piece-clause-takes : goal.returns-in_err-read_piece-clause-takes
returns-in_err-read_piece-clause-takes g c =
    let left = g.S.Source.left in
    let going : c.loop-self.self.ended ≡ false = ap (λ (r : Reading). r.ended) (sym c.self.view_is) ∙ c.if-self.false in
    then_takes c.args.self.now c.loop-self.self c.read_piece.new.self (left c.args.source.now)
    (left c.loop-self.source) (left c.read_piece.new.source) going c.loop-self.invariant.takes
    c.in_err-read_piece.ensures.takes
