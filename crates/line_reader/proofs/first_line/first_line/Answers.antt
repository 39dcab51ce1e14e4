use Rattle.std.proofs.Common.{◌≡◌, ◌∙◌, length, arith, refl, sym}
use Rattle.std.proofs.lemmas.Bool.{false≢true}
use Rattle.std.proofs.lemmas.Bool.Decides.{nat_tests}
use Rattle.std.proofs.lemmas.List.{nil_from_length}
use Rattle.line_reader.specs.Deciding.{HasNoEnd, reach}
use Rattle.line_reader.proofs.Firsts.{undecided_empty, past_last, by_end, by_length, by_last, undecided}
use Rattle.line_reader.proofs.first_line.first_line.Goals as goal

pub returns-then-is_empty : goal.returns-then-is_empty
returns-then-is_empty c =
    let none : length c.args.bytes.now ≡ 0 = grind (arith, nat_tests, c.if-is_empty.ensures) in
    rw (nil_from_length c.args.bytes.now none) (undecided_empty c.args.most c.args.before c.args.ended)

pub returns-then-before-most : goal.returns-then-before-most
returns-then-before-most c =
    past_last c.args.most c.args.before c.args.ended c.args.bytes.now (omega arith) (grind (arith, nat_tests, c.if-is_empty.ensures))

pub returns-in-Some : goal.returns-in-Some
returns-in-Some c = by_end c.args.most c.args.before c.args.ended c.args.bytes.now c.if-before-most.false c.in-Some.len c.in-Some.ensures

pub returns-then-bytes-gt-MAX_LINE_BYTES : goal.returns-then-bytes-gt-MAX_LINE_BYTES
returns-then-bytes-gt-MAX_LINE_BYTES c =
    let bytes = c.args.bytes.now in
    let none : HasNoEnd (reach bytes) bytes = c.in_default.ensures in
    let long = c.if-bytes-gt-MAX_LINE_BYTES.true in
    by_length c.args.most c.args.before c.args.ended bytes c.if-before-most.false 4097 refl (λ k below. none k (omega arith)) (omega arith)

pub returns-then-ended : goal.returns-then-ended
returns-then-ended c =
    let bytes = c.args.bytes.now in
    let none : HasNoEnd (reach bytes) bytes = c.in_default.ensures in
    let short = c.if-bytes-gt-MAX_LINE_BYTES.false in
    by_last c.args.most c.args.before c.args.ended bytes c.if-before-most.false
    (λ k below. none k (omega arith)) short (length bytes) refl (grind (arith, nat_tests, c.if-is_empty.ensures)) c.if-ended.true

pub returns : goal.returns
returns c =
    let bytes = c.args.bytes.now in
    let none : HasNoEnd (reach bytes) bytes = c.in_default.ensures in
    let short = c.if-bytes-gt-MAX_LINE_BYTES.false in
    undecided c.args.most c.args.before c.args.ended bytes c.if-before-most.false
    (λ k below. none k (omega arith)) short (λ ended. absurd (false≢true (sym c.if-ended.false ∙ ended)))
