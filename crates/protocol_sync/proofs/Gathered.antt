-- What a view starts with begins with what is synchronised of each change.
use Rattle.std.proofs.Common.{◌≡◌, ℕ, List, [], ◌∷◌, ◌++◌, length, take, refl, sym, ap, subst, ◌∙◌, arith}
use Rattle.std.proofs.lemmas.List.{length-take-le}
use Rattle.nop_types.specs.declared.request.Entry.{Entry}
use Rattle.nop_types.specs.declared.view.View.{View}
use Rattle.nop_types.specs.Lists.{IsPrefixOf}
use Rattle.nop_types.specs.Meaning.{Meaning}
use Rattle.nop_types.specs.Views.{Below}
use Rattle.log_merge.specs.Starting.{start_of}
use Rattle.started_views.specs.Past.{Entered}
use Rattle.started_views.specs.Settled.{Certificate}
use Rattle.started_views.proofs.Keeping.{certificate_synchronised}
use Rattle.protocol.specs.Conf.{last_normals}
use Rattle.protocol.specs.Invariant.{Gathers}
use Rattle.protocol.specs.LocalState.{LocalState}
use Rattle.protocol.proofs.Grounding.{grounds_of}
use Rattle.protocol_sync.specs.Gathered.{StartsBeginWithSynced, StartsReachTheirPoints}
use Rattle.protocol_sync.proofs.Agreeing.{fixed_from}
use Rattle.protocol_sync.proofs.SentLogs.{point_within}

take-of_front : {A : Type 0} (xs ys : List A) → take (length xs) (xs ++ ys) ≡ xs
take-of_front [] ys = refl
take-of_front (x ∷ xs) ys = ap (λ (t : List _). x ∷ t) (take-of_front xs ys)

pub starts_begin_with_synced : {S : Type 0} (m : Meaning S) → StartsBeginWithSynced m
starts_begin_with_synced m f c r g inv sync within may x has =
    let p : LocalState = c.replicas r in
    let z : ℕ = x.sync_point in
    let start : List Entry = (start_of g.view g.changes).log in
    let e : Entered = record { last_normal = x.last_normal; next = x.next; sync_point = x.sync_point; log = x.log } in
    let was : Gathers f c.past r p.view p.status g = (inv.own r within).changes.gathers g may.gathers in
    let certificate : Certificate f c.past g.view g.changes =
    subst (λ (w : View). Certificate f c.past w g.changes) (sym was.view)
    (record { enough = omega (arith, may.enough, was.count); once = was.once; within = was.within; entries = was.entries }) in
    let below : Below x.last_normal g.view =
    subst (Below x.last_normal) (sym was.view) (inv.entries x.sender p.view e (was.entries x has)).order in
    let good = sync.points.entries x.sender p.view e (was.entries x has) in
    let begins : IsPrefixOf (take z x.log) start =
    certificate_synchronised f c.stamps (last_normals c) c.past (grounds_of m f c inv) x.last_normal g.view g.changes good.agrees.lead
    x.log z good.agrees.leads good.agrees.same (fixed_from f c sync x.last_normal z good.anchored) certificate below in
    let len : length (take z x.log) ≡ z = length-take-le z x.log good.agrees.same.left in
    record {
      within = good.agrees.same.left;
      begins = begins;
      same = ap (λ (n : ℕ). take n start) (sym len) ∙ ap (take (length (take z x.log))) begins.1 ∙ take-of_front (take z x.log) begins.0;
    }

pub starts_reach_their_points : {S : Type 0} (m : Meaning S) → StartsReachTheirPoints m
starts_reach_their_points m f c r g inv sync within may = point_within m f c r inv sync within g may
