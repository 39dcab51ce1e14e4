use Rattle.std.proofs.Common.{ℕ, List, refl}
use Rattle.std.proofs.lemmas.Slice.Eq.{bytes_eq-Decides}
use Rattle.fronts.specs.Parts.{is_of}
use Rattle.fronts.proofs.Parts.{whole_is_legal}
use Rattle.fronts.proofs.part_laws.the_whole_is_legal.Goals as goal
use Rattle.nop_types.specs.Lists.{Has}
use Rattle.nop_types.specs.declared.request.Request.{Request}

pub returns : goal.returns
returns g c lines parts own history time has are once accepted later known legal timed =
    let part = g.P.Parted.part in
    whole_is_legal g.P.Service.Host.meaning (λ (op : List ℕ). Has parts (part op)) (is_of part) (λ p s t. g.P.Parted.is_same parts p (g.met.P.Parted.seen s) (g.met.P.Parted.seen t))
    (λ (p : List ℕ). g.met.P.Parted.are_parts parts p has.few has.distinct) lines own (Has parts) are has.all (λ (r : Request). part r.op)
    has.all (λ (r : Request). (bytes_eq-Decides (part r.op) (part r.op)).1 refl) once accepted later history known legal time timed
