-- Sync points that are sent: in a log that is sent again, and in what a view starts with.
use Rattle.std.proofs.Common.{◌≡◌, ℕ, ◌+◌, ◌*◌, ◌<◌, ◌≤◌, refl, sym, ap, subst, arith, inl, inr, length, List, [], ◌∷◌}
use Rattle.std.specs.Prelude.{max}
use Rattle.std.proofs.lemmas.Bool.{cases_lt}
use Rattle.nop_types.specs.PlainChanges as plain
use Rattle.nop_types.specs.declared.replica_state.Phase.{Phase}
use Rattle.nop_types.specs.declared.replica_state.Phase.TheVariants.{Normal, Change}
use Rattle.nop_types.specs.declared.request.Entry.{Entry}
use Rattle.nop_types.specs.declared.view.View.{View}
use Rattle.nop_types.specs.Lists.{Has}
use Rattle.nop_types.specs.Meaning.{Meaning}
use Rattle.nop_types.specs.Views.{AtMost}
use Rattle.lemmas.proofs.Members.{Has-first, Has-rest, Has-none, Has-cases}
use Rattle.lemmas.proofs.Views.{AtMost-refl}
use Rattle.log_merge.specs.Merge.{longest}
use Rattle.log_merge.specs.Starting.{greatest_point, kept, start_of, start_point}
use Rattle.log_merge.proofs.Merged.{length-merge}
use Rattle.started_views.specs.Past.{HadLog}
use Rattle.log_merge.proofs.Kept.{kept_from}
use Rattle.started_views.proofs.Logs.{same_refl}
use Rattle.protocol.specs.Conf.{Conf}
use Rattle.protocol.specs.Invariant.{Inv, Gathers}
use Rattle.protocol.specs.LocalState.{LocalState, PlainGathering}
use Rattle.protocol.specs.Moves.{MayOpenView, SaysOwnPoint, open_view}
use Rattle.protocol.specs.Runs.{Say, OpenView, Acts, happens}
use Rattle.protocol.specs.Said.{Word, StartView, SyncPrepare}
use Rattle.protocol.proofs.Growing.{Kept}
use Rattle.protocol_sync.specs.Synced.{GoodLog, GoodPoint, Anchored, Agrees, Sync}
use Rattle.protocol_sync.proofs.Lasting.{anchored_lasts}
use Rattle.protocol_sync.proofs.Saying.{SaysGoodLog, now}

longest_has : (cs : List plain.Change) (x : plain.Change) → Has cs x → length x.log ≤ longest cs
longest_has [] x h = absurd (Has-none x h)
longest_has (y ∷ cs) x h = elim (Has-cases x y cs h) [
  | inl e ↦ (let same : length x.log ≡ length y.log = ap (λ (t : plain.Change). length t.log) e in omega (arith, same))
  | inr i ↦ (let rest = longest_has cs x i in omega (arith, rest))
]

-- the greatest sync point is one of those of the changes, or 0
greatest_within : (cs : List plain.Change) (n : ℕ) → ((x : plain.Change) → Has cs x → x.sync_point ≤ n) → greatest_point cs ≤ n
greatest_within [] n h = omega arith
greatest_within (x ∷ cs) n h = omega (arith, h x (Has-first x x cs refl), greatest_within cs n (λ y i. h y (Has-rest y x cs i)))

greatest_anchored : (f : ℕ) (d : Conf) (v : View) (cs : List plain.Change) → ((x : plain.Change) → Has cs x → Anchored f d v x.sync_point)
    → Anchored f d v (greatest_point cs)
greatest_anchored f d v [] h = inl refl
greatest_anchored f d v (x ∷ cs) h =
    let rest = greatest_anchored f d v cs (λ y i. h y (Has-rest y x cs i)) in
    elim (cases_lt x.sync_point (greatest_point cs)) [
      | inl low ↦
          let is : greatest_point cs ≡ max x.sync_point (greatest_point cs) = omega (arith, low) in subst (Anchored f d v) is rest
      | inr high ↦
          let is : x.sync_point ≡ max x.sync_point (greatest_point cs) = omega (arith, high) in
          subst (Anchored f d v) is (h x (Has-first x x cs refl))
    ]

module _ {S : Type 0} (m : Meaning S) (f : ℕ) (c : Conf) (r : ℕ) (inv : Inv m f c) (sync : Sync f c) (within : r < 2 * f + 1) where
  abbrev p : LocalState
  p = c.replicas r

  normal_at_most : AtMost p.last_normal p.view
  normal_at_most = at p.status refl
    where
      at : (t : Phase) → p.status ≡ t → AtMost p.last_normal p.view
      at Normal e = subst (AtMost p.last_normal) ((inv.own r within).place.normal e) (AtMost-refl p.last_normal)
      at Change e = ((inv.own r within).place.change e).at_most

  module _ (x : Word) (made : Kept m f c (happens m f c (Acts r (Say x)))) where
    abbrev d : Conf
    d = happens m f c (Acts r (Say x))

    own_is_good : (z : ℕ) (l : List Entry) → (z ≡ p.sync.sync_point) × (z ≤ length l) → GoodLog f d p.view z l
    own_is_good z l t = record {
      within = t.1;
      anchored = subst (Anchored f d p.view) (sym t.0)
          (anchored_lasts m f c d inv made.1 p.last_normal p.view p.sync.sync_point normal_at_most (sync.own r within).anchored);
    }

    tells : (y : Word) → SaysOwnPoint p y → SaysGoodLog f d p.view y
    tells (StartView n z l) t = own_is_good z l t
    tells (SyncPrepare z l) t = own_is_good z l t
    tells _ t = tt

    -- a log that is sent again is sent with the own sync point
    pub say_is_good : SaysOwnPoint p x → SaysGoodLog f d p.view x
    say_is_good = tells x

  module _ (g : PlainGathering) (may : MayOpenView p g) where
    abbrev log : List Entry
    log = (start_of g.view g.changes).log

    was : Gathers f c.past r p.view p.status g
    was = (inv.own r within).changes.gathers g may.gathers

    -- each change that is kept has a good sync point
    good : (x : plain.Change) → Has (kept g.changes) x
        → GoodPoint f c (record { last_normal = x.last_normal; next = x.next; sync_point = x.sync_point; log = x.log })
    good x i = sync.points.entries x.sender p.view _ (was.entries x (kept_from g.changes x i).0)

    pub point_within : start_point g.changes ≤ length log
    point_within = greatest_within (kept g.changes) (length log) (λ x i.
        omega (arith, (good x i).agrees.same.left, longest_has (kept g.changes) x i, length-merge (kept g.changes)))

    module _ (made : Kept m f c (happens m f c (Acts r (OpenView g)))) where
      abbrev e : Conf
      e = happens m f c (Acts r (OpenView g))

      -- so the start may be told with the greatest one
      pub start_is_good : GoodLog f e p.view (start_point g.changes) log
      start_is_good = record {
        within = point_within;
        anchored = greatest_anchored f e p.view (kept g.changes) (λ x i.
            let order = (inv.entries x.sender p.view _ (was.entries x (kept_from g.changes x i).0)).order in
            anchored_lasts m f c e inv made.1 x.last_normal p.view x.sync_point order.at_most (good x i).anchored);
      }

      -- which is the leader's log there
      pub start_agrees : Agrees f e p.view log (start_point g.changes)
      start_agrees = record {
        lead = log;
        leads = subst (λ (i : ℕ). HadLog e.past i p.view log) was.leads (now m f c r (open_view m p g) inv sync within made);
        same = same_refl (start_point g.changes) log start_is_good.within;
      }
