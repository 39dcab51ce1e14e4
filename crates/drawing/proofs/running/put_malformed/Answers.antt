use Rattle.std.proofs.Common.{ℕ, ◌++◌, Option, Some, codes, decimal, sym, subst}
use Rattle.picture.specs.Texts.{Grows}
use Rattle.picture.proofs.TextLemmas.{grows_twice}
use Rattle.transcript_text.specs.Transcript.{sent_text}
use Rattle.drawing.specs.Errors.{complaint_text}
use Rattle.drawing.specs.declared.error.DrawError.TheVariants.{Malformed}
use Rattle.drawing.proofs.running.put_malformed.Goals as goal

pub returns-in-Some : goal.returns-in-Some
returns-in-Some c =
    subst (λ (o : Option (ℕ × ℕ)). Grows c.args.to.now c.put_index.new.to (complaint_text (Malformed c.args.line c.args.rule o)))
    (sym c.in-Some.is)
    (grows_twice c.args.to.now c.put_line.new.to c.put_index.new.to
    (codes "error line " ++ decimal c.args.line ++ codes " rule " ++ decimal c.args.rule) (sent_text (Some c.in-Some.index_sent))
    c.put_line.ensures c.put_index.ensures)
