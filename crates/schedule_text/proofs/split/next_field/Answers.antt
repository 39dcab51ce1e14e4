use Rattle.std.proofs.Common.{refl, ap, ◌∙◌}
use Rattle.std.specs.Option.{option_copied}
use Rattle.line_fields.specs.Split.{other_fields}
use Rattle.schedule_text.proofs.split.next_field.Goals as goal

pub returns-in-Some : goal.returns-in-Some
returns-in-Some c = ap (λ rest. other_fields (option_copied rest)) c.in-Some.is ∙ c.cut.ensures

pub returns-in-None : goal.returns-in-None
returns-in-None c = (refl, ap (λ rest. other_fields (option_copied rest)) c.in-None.is)
