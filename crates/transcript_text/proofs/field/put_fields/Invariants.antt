use Rattle.std.proofs.Common.{◌≡◌, ◌++◌, take, flat_map}
use Rattle.transcript_text.specs.LineText.{after_space, field_texts}
use Rattle.transcript_text.proofs.field.put_fields.Given as goal

abbrev pub invariant-loop-field : goal.invariant-loop-field
invariant-loop-field l = l.to.items ≡ l.fn.to.items ++ flat_map after_space (field_texts (take l.field-index l.fields))
