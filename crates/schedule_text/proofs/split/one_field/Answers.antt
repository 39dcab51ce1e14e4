use Rattle.std.proofs.Common.{ap}
use Rattle.std.specs.Option.{option_copied}
use Rattle.line_fields.specs.Split.{other_fields}
use Rattle.schedule_text.proofs.SplitLemmas.{more_than_one}
use Rattle.schedule_text.proofs.split.one_field.Goals as goal

pub returns-in_default-Some : goal.returns-in_default-Some
returns-in_default-Some c =
    rw c.in-Some.is (more_than_one c.in-Some.rest.now c.cut.result.0.now c.in_default-Some.field-0-1.now _
    (ap (λ rest. other_fields (option_copied rest)) c.in_default-Some.is-1) c.cut.ensures)
