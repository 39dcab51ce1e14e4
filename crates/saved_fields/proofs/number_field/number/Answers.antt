use Rattle.std.proofs.Common.{◌∙◌, arith}
use Rattle.saved_fields.proofs.FieldLemmas.{number_at-bytes}
use Rattle.saved_fields.proofs.number_field.number.Goals as goal

pub returns : goal.returns
returns c = c.eight.ensures ∙ number_at-bytes c.args.bytes.now (λ i. omega (arith, c.type_inv.bytes i))
