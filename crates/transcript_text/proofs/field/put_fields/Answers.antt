use Rattle.std.proofs.Common.{rules, take, flat_map}
use Rattle.nop_types.specs.Lists.{IsPrefixOf}
use Rattle.lemmas.proofs.Prefixes.{IsPrefixOf-trans}
use Rattle.transcript_text.specs.LineText.{after_space, field_texts}
use Rattle.transcript_text.proofs.field.put_fields.Goals as goal

pub returns-in_err-put_spaced-clause-err : goal.returns-in_err-put_spaced-clause-err
returns-in_err-put_spaced-clause-err c =
    let before : IsPrefixOf c.args.to.now.items c.loop-field.to.items =
    (flat_map after_space (field_texts (take c.loop-field.field-index c.args.fields.now)), c.loop-field.invariant) in
    let all : IsPrefixOf c.args.to.now.items c.put_spaced.new.to.items = IsPrefixOf-trans _ _ _ before c.in_err-put_spaced.ensures.err in
    search rules
