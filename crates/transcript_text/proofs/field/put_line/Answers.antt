use Rattle.std.proofs.Common.{rules}
use Rattle.nop_types.specs.Lists.{IsPrefixOf}
use Rattle.lemmas.proofs.Prefixes.{IsPrefixOf-trans}
use Rattle.transcript_text.proofs.field.put_line.Goals as goal

pub returns-in_err-put_fields-clause-err : goal.returns-in_err-put_fields-clause-err
returns-in_err-put_fields-clause-err c =
    let before : IsPrefixOf c.args.to.now.items c.put_word.new.to.items = (c.args.word.now, c.in_ok-put_word.ensures.ok) in
    let all : IsPrefixOf c.args.to.now.items c.put_fields.new.to.items = IsPrefixOf-trans _ _ _ before c.in_err-put_fields.ensures.err in
    search rules
