use Rattle.std.proofs.Common.{refl, ap, ◌∙◌}
use Rattle.std.specs.Option.{option_copied}
use Rattle.line_fields.specs.Split.{other_fields}
use Rattle.line_fields.proofs.SplitLemmas.{fields_are_some}
use Rattle.schedule_text.proofs.split.no_field.Goals as goal

pub returns-in-Some : goal.returns-in-Some
returns-in-Some c =
    let some = fields_are_some c.in-Some.field-0.now in
    (refl, some.0, some.1, ap (λ rest. other_fields (option_copied rest)) c.in-Some.is ∙ some.2)

pub returns-in-None : goal.returns-in-None
returns-in-None c = ap (λ rest. other_fields (option_copied rest)) c.in-None.is
