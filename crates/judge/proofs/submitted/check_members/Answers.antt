use Rattle.std.proofs.Common.{ℕ, sym, refl, ◌∙◌, ◌<◌, ap, Bool, Some, length, subst, add-one, arith}
use Rattle.std.proofs.lemmas.Option.{slice_get_read}
use Rattle.transcript_reader.specs.Claims.{line_of, lines_of}
use Rattle.judge.specs.Marks.{Marks}
use Rattle.judge.proofs.LineLemmas.{length-mapped}
use Rattle.judge.proofs.MarkLemmas.{next_marked, all_submitted, first_unsubmitted}
use Rattle.judge.proofs.submitted.check_members.Goals as goal

pub returns-then-not-index-clause-err : goal.returns-then-not-index-clause-err
returns-then-not-index-clause-err c =
    let lines = lines_of c.args.claims.now in
    let marks = c.in_ok-marks.marks.items in
    let i = c.loop-i.i in
    let m : Marks lines c.args.history.now (length lines) marks =
    subst (λ (n : ℕ). Marks lines c.args.history.now n marks) (sym (length-mapped line_of c.args.claims.now)) c.in_ok-marks.ensures in
    let within : i < length marks = omega (arith, c.loop-i-test.true, c.len-i-end.ensures, c.in_ok-marks.marks.ok.0) in
    let read = slice_get_read marks _ i c.index.result.now refl within c.index.ensures in
    first_unsubmitted lines c.args.history.now marks m i c.loop-i.invariant (read ∙ ap (λ (b : Bool). Some b) c.if-not-index.true)

pub loop-i-preserved : goal.loop-i-preserved
loop-i-preserved c =
    let marks = c.in_ok-marks.marks.items in
    let i = c.loop-i.i in
    let within : i < length marks = omega (arith, c.loop-i-test.true, c.len-i-end.ensures, c.in_ok-marks.marks.ok.0) in
    let read = slice_get_read marks _ i c.index.result.now refl within c.index.ensures in
    rw (add-one i) (next_marked marks i c.loop-i.invariant (read ∙ ap (λ (b : Bool). Some b) c.if-not-index.false))

pub returns-clause-ok : goal.returns-clause-ok
returns-clause-ok c =
    let lines = lines_of c.args.claims.now in
    let marks = c.in_ok-marks.marks.items in
    let m : Marks lines c.args.history.now (length lines) marks =
    subst (λ (n : ℕ). Marks lines c.args.history.now n marks) (sym (length-mapped line_of c.args.claims.now)) c.in_ok-marks.ensures in
    all_submitted lines c.args.history.now marks m c.loop-i.i
    (omega (arith, c.loop-i-test.false, c.len-i-end.ensures, c.in_ok-marks.marks.ok.0)) c.loop-i.invariant
