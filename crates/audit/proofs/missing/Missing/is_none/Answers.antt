use Rattle.std.proofs.Common.{◌∙◌, Some, refl, sym, ap}
use Rattle.audit.proofs.Missings.{none_if, of_some}
use Rattle.audit.proofs.missing.Missing.is_none.Goals as goal

pub returns-in-Some : goal.returns-in-Some
returns-in-Some c = λ a ls are.
    let outs = c.as_slice.result.now in
    let m = c.args.self.now in
    none_if a outs m.came ls _ refl (of_some a m.gave outs m.came ls (c.in-Some.is ∙ ap Some (sym c.as_slice.ensures)) are)
