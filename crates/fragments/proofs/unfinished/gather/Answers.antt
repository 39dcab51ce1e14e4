use Rattle.std.proofs.Common.{◌≡◌, ◌<◌, ◌++◌, Some, None, length, get_or, sym, ◌∙◌, arith}
use Rattle.std.proofs.lemmas.List.{get_or_read, length-append, length-set}
use Rattle.nop_types.specs.declared.limits.TheConstants.{FRAGMENT_BYTES}
use Rattle.fragments.proofs.Prefixes.{gather_step}
use Rattle.fragments.proofs.unfinished.gather.Goals as goal

pub loop-at-preserved : goal.loop-at-preserved
loop-at-preserved c =
    let p = c.in-Some.bytes in
    let prefix = c.loop-at.prefix.items in
    let later = c.loop-at.later.items in
    let lt : c.loop-at.at < length later = omega arith in
    let here : get_or later c.loop-at.at None ≡ Some p =
    sym (get_or_read later c.loop-at.at c.index.result.now lt c.index.ensures None) ∙ c.in-Some.is in
    let len : length p ≡ FRAGMENT_BYTES = rw (← c.as_slice.ensures) c.if-as_slice-eq-FRAGMENT_BYTES.true in
    let made : c.extend_from_slice.new.self.items ≡ prefix ++ p =
    grind (arith, c.extend_from_slice.ensures.items, c.is_err.ensures.value, c.if-is_err.false, c.as_slice-in-Some.ensures) in
    rw made (record {
      same = gather_step prefix p c.loop-at.at later c.loop-at.invariant.size len lt here ∙ c.loop-at.invariant.same;
      size = omega (arith, length-append prefix p, c.loop-at.invariant.size, len);
      within = omega (arith, length-set later c.loop-at.at None);
    })
