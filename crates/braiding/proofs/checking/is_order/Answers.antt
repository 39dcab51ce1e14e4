use Rattle.std.proofs.Common.{ℕ, get_or, subst, sym, take}
use Rattle.std.proofs.lemmas.List.{take_more}
use Rattle.braiding.specs.Checks.{AreMarked}
use Rattle.braiding.specs.Orders.{Fits, texts_of}
use Rattle.braiding.proofs.Orders.{one_more}
use Rattle.braiding.proofs.checking.is_order.Goals as goal

pub loop-place-preserved : goal.loop-place-preserved
loop-place-preserved c =
    let l = c.loop-place in
    let i = l.place-index in
    let order = c.args.order.now in
    let lines = texts_of c.args.lines.now in
    let fits = c.in_ok-fits.ensures in
    let yes = c.if-not-branch.false in
    record {
      seen = c.fits.ensures.seen;
      marked = subst (AreMarked lines c.fits.new.self) (sym (take_more order i 0 c.loop-place-test.true))
          (fits.marked yes (take i order) l.invariant.marked);
      fits = one_more (λ (k : ℕ). Fits lines (take k order) (get_or order k 0)) i l.invariant.fits (fits.fits yes (take i order) l.invariant.marked);
    }
