use Rattle.std.proofs.Common.{◌≡◌, length, drop, refl, arith}
use Rattle.std.specs.Prelude.{sum_by}
use Rattle.fragments.specs.Parts.{bytes_of}
use Rattle.fragments.proofs.Held.{split_held}
use Rattle.fragments.proofs.unfinished.Unfinished.held.Goals as goal

pub returns : goal.returns
returns c =
    let u = c.self.inside in
    let len = u.prefix.ok in
    let behind : c.bytes_in.result ≡ sum_by (λ part. length (bytes_of part)) (drop u.filled u.later.items) =
    rw (c.bytes_in.ensures, c.split_at.ensures.back, c.deref.ensures.value) refl in
    let both = split_held u.prefix.items u.filled u.later.items c.self.invariant.size in
    rw (← c.self.view_is) (omega (arith, len, c.len.ensures, behind, both))

pub overflow_add-result : goal.overflow_add-result
overflow_add-result c = omega (arith, returns c, c.requires)
