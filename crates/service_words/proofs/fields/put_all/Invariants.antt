use Rattle.std.proofs.Common.{◌≡◌, ◌++◌, take}
use Rattle.service_words.proofs.fields.put_all.Given as goal

abbrev pub invariant-loop-field : goal.invariant-loop-field
invariant-loop-field l = l.to ≡ l.fn.to ++ take l.field-index l.fields
