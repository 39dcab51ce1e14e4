use Rattle.std.proofs.Common.{ℕ, List}
use Rattle.fronts.specs.Parts.{is_of}
use Rattle.fronts.proofs.Parts.{part_is_legal}
use Rattle.fronts.proofs.part_laws.parts_are_legal.Goals as goal
use Rattle.nop_types.specs.Lists.{Has}

pub returns : goal.returns
returns g c lines parts p own history has are legal =
    let part = g.P.Parted.part in
    part_is_legal g.P.Service.Host.meaning (λ (op : List ℕ). Has parts (part op)) (is_of part p) (λ s t. g.P.Parted.is_same parts p (g.met.P.Parted.seen s) (g.met.P.Parted.seen t))
    (g.met.P.Parted.are_parts parts p has.few has.distinct) lines own are has.all history legal
