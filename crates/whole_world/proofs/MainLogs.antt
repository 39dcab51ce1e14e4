-- The log from which the history is read is that of the leader of the greatest last normal view.
use Rattle.std.proofs.Common.{◌≡◌, ℕ, zero, suc, ◌+◌, ◌*◌, ◌<◌, Bool, true, false, Some, refl, sym, ap, subst, ◌∙◌, arith, inl, inr}
use Rattle.std.proofs.Common.{length, List, [], ◌∷◌, map}
use Rattle.std.specs.Prelude.{◌⊎◌, slice_get, if◌then◌else◌}
use Rattle.std.proofs.lemmas.Option.{slice_get_within}
use Rattle.nop_types.specs.declared.view.View.{View}
use Rattle.nop_types.specs.declared.request.Entry.{Entry}
use Rattle.nop_types.specs.Lists.{Has}
use Rattle.nop_types.specs.Views.{outranks, leader_of}
use Rattle.nop_types.specs.Meaning.{Meaning}
use Rattle.lemmas.proofs.Members.{Has-none, Has-first, Has-rest, Has-cases}
use Rattle.lemmas.proofs.Places.{slice_get-some}
use Rattle.lemmas.proofs.Views.{RanksAtMost, RanksAtMost-refl, RanksAtMost-trans, outranks-true, outranks-false, outranks-from_ranks}
use Rattle.started_views.specs.Past.{HadLog}
use Rattle.started_views.proofs.Quorums.{leader_within}
use Rattle.protocol.specs.Conf.{Conf, last_normals}
use Rattle.protocol.specs.Invariant.{Inv}
use Rattle.protocol.specs.LocalState.{LocalState}
use Rattle.protocol_sync.specs.Laws.{IsMainLog}
use Rattle.world.specs.Seats.{Seated}
use Rattle.world.specs.WorldSteps.{greatest_view, greatest_of}
use Rattle.whole_world.specs.Whole.{WholeReplica, WholeWorld, main_view, log_of, main_log}
use Rattle.whole_world.specs.Shows.{ShowsActors}
use Rattle.whole_world.proofs.Mapped.{slice_get-into_map, slice_get-from_map}

-- the greatest of a first view and others is one of them, and none outranks it
pub record Greatest (v : View) (ws : List View) (g : View) : Type 0 where
  pub is : (g ≡ v) ⊎ Has ws g
  pub first : RanksAtMost v g
  pub rest : (w : View) → Has ws w → RanksAtMost w g

greatest_by : (v w : View) (ws : List View) → ((u : View) → Greatest u ws (greatest_view u ws)) → (b : Bool) → outranks w v ≡ b
    → Greatest v (w ∷ ws) (greatest_view (if b then w else v) ws)
greatest_by v w ws others true e =
    let g = others w in
    record {
      is = elim g.is [ inl s ↦ inr (Has-first _ w ws s) | inr i ↦ inr (Has-rest _ w ws i) ];
      first = RanksAtMost-trans v w (greatest_view w ws) (outranks-true w v e) g.first;
      rest = λ u i. elim (Has-cases u w ws i)
          [ inl s ↦ subst (λ (x : View). RanksAtMost x (greatest_view w ws)) (sym s) g.first | inr j ↦ g.rest u j ];
    }
greatest_by v w ws others false e =
    let g = others v in
    record {
      is = elim g.is [ inl s ↦ inl s | inr i ↦ inr (Has-rest _ w ws i) ];
      first = g.first;
      rest = λ u i. elim (Has-cases u w ws i) [
        | inl s ↦ subst (λ (x : View). RanksAtMost x (greatest_view v ws)) (sym s)
            (RanksAtMost-trans w v (greatest_view v ws) (outranks-false w v e) g.first)
        | inr j ↦ g.rest u j
      ];
    }

greatest_is : (v : View) (ws : List View) → Greatest v ws (greatest_view v ws)
greatest_is v [] = record { is = inl refl; first = RanksAtMost-refl v; rest = λ w i. absurd (Has-none w i) }
greatest_is v (w ∷ ws) = greatest_by v w ws (λ u. greatest_is u ws) (outranks w v) refl

abbrev view_of : Seated WholeReplica → View
view_of p = p.state.state.last_normal

-- the last normal view of one of the replicas, which none outranks
pub record GreatestOf (ps : List (Seated WholeReplica)) (g : View) : Type 0 where
  pub place : ℕ
  pub seat : Seated WholeReplica
  pub there : slice_get ps place ≡ Some seat
  pub is : view_of seat ≡ g
  pub most : (i : ℕ) (p : Seated WholeReplica) → slice_get ps i ≡ Some p → RanksAtMost (view_of p) g

greatest_of_is : (ps : List (Seated WholeReplica)) → 0 < length ps → GreatestOf ps (greatest_of (map view_of ps))
greatest_of_is [] l = absurd (omega (arith, l))
greatest_of_is (p ∷ ps) l =
    let g = greatest_is (view_of p) (map view_of ps) in
    elim g.is [
      | inl s ↦ record { place = 0; seat = p; there = refl; is = sym s; most = most g }
      | inr i ↦ (let q = slice_get-from_map view_of ps i.0 (greatest_view (view_of p) (map view_of ps)) i.1 in
          record { place = suc i.0; seat = q.from; there = q.there; is = q.is; most = most g })
    ]
  where
    most : Greatest (view_of p) (map view_of ps) (greatest_view (view_of p) (map view_of ps)) → (i : ℕ) (q : Seated WholeReplica)
        → slice_get (p ∷ ps) i ≡ Some q → RanksAtMost (view_of q) (greatest_view (view_of p) (map view_of ps))
    most g zero q e = let s : p ≡ q = cc in
        subst (λ (x : Seated WholeReplica). RanksAtMost (view_of x) (greatest_view (view_of p) (map view_of ps))) s g.first
    most g (suc i) q e = g.rest (view_of q) (i, slice_get-into_map view_of ps i q e)

module _ {S : Type 0} (m : Meaning S) (f : ℕ) (w : WholeWorld) (c : Conf) (inv : Inv m f c) (shown : ShowsActors f w c) where
  count : length w.replicas ≡ 2 * f + 1
  count = shown.replica_count ∙ shown.config

  found : GreatestOf w.replicas (main_view w)
  found = greatest_of_is w.replicas (omega (arith, count))

  abbrev leader : ℕ
  leader = leader_of (main_view w) (2 * f + 1)

  within : leader < 2 * f + 1
  within = leader_within f (main_view w)

  -- the leader's seat
  its_seat : (p : Seated WholeReplica) × (slice_get w.replicas leader ≡ Some p)
  its_seat = slice_get-some w.replicas leader (omega (arith, within, count))

  log_is : main_log w ≡ (c.replicas leader).log
  log_is =
      ap (λ (n : ℕ). log_of (slice_get w.replicas (leader_of (main_view w) n))) shown.config
      ∙ ap log_of its_seat.1
      ∙ ap (λ (s : LocalState). s.log) (sym (shown.replicas leader its_seat.0 its_seat.1))

  pub is_main_log : IsMainLog f c (main_view w) (main_log w)
  is_main_log = record {
    held = (
      found.place,
      omega (arith, slice_get_within w.replicas found.place found.seat found.there, count),
      ap (λ (s : LocalState). s.last_normal) (shown.replicas found.place found.seat found.there) ∙ found.is,
    );
    greatest = λ r l.
        let p = slice_get-some w.replicas r (omega (arith, l, count)) in
        outranks-from_ranks (last_normals c r) (main_view w)
        (subst (λ (s : LocalState). RanksAtMost s.last_normal (main_view w)) (sym (shown.replicas r p.0 p.1)) (found.most r p.0 p.1));
    current = subst (λ (t : List Entry). HadLog c.past leader (last_normals c leader) t) (sym log_is) (inv.current leader within);
  }
