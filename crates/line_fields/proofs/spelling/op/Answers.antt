use Rattle.std.proofs.Common.{◌∙◌, sym, ap, arith, length}
use Rattle.line_fields.proofs.HexLengths.{bytes_short}
use Rattle.line_fields.proofs.spelling.op.Goals as goal

pub from_vec-requires : goal.from_vec-requires
from_vec-requires c =
    let short = bytes_short c.args.field.now c.in-Some.bytes (sym c.in_ok-bytes.ensures ∙ c.in-Some.is) in
    omega (arith, ap length c.into_vec.ensures, short, c.requires)
