-- Where a replica stands in its view.
use Rattle.std.proofs.Common.{◌≡◌, ℕ, ◌+◌, ◌*◌, ◌<◌, true, false, refl, sym, ap, subst, ◌∙◌, List}
use Rattle.nop_types.specs.declared.view.View.{View}
use Rattle.nop_types.specs.declared.request.Entry.{Entry}
use Rattle.nop_types.specs.Meaning.{Meaning}
use Rattle.nop_types.specs.Views.{leader_of, AtMost, Below}
use Rattle.started_views.specs.Past.{HadLog}
use Rattle.std.proofs.lemmas.Bool.{eqb-true}
use Rattle.nop_types.specs.declared.replica_state.Phase.{Phase}
use Rattle.nop_types.specs.declared.replica_state.Phase.TheVariants.{Normal, Change}
use Rattle.lemmas.proofs.Views.{AtMost-refl, AtMost-trans, AtMost-antisym}
use Rattle.protocol.specs.Conf.{Conf}
use Rattle.protocol.specs.Invariant.{Own, Inv}
use Rattle.protocol.specs.LocalState.{LocalState, leads, leader}
use Rattle.protocol.specs.Moves.{MayFollow}
use Rattle.protocol.specs.Said.{Word}
use Rattle.protocol.proofs.Replying.{leads_from}

module _ {S : Type 0} (m : Meaning S) (f : ℕ) (c : Conf) (r : ℕ) (inv : Inv m f c) (within : r < 2 * f + 1) where
  abbrev p : LocalState
  p = c.replicas r

  own : Own f c r p
  own = inv.own r within

  -- the last normal view is not above the view
  pub normal_low : AtMost p.last_normal p.view
  normal_low = at p.status refl
    where
      at : (s : Phase) → p.status ≡ s → AtMost p.last_normal p.view
      at Normal e = subst (AtMost p.last_normal) (own.place.normal e) (AtMost-refl p.last_normal)
      at Change e = (own.place.change e).at_most

  pub below_of : (v : View) → AtMost p.view v → (p.view ≡ v → p.status ≡ Change) → Below p.last_normal v
  below_of v up change = record {
    at_most = AtMost-trans p.last_normal p.view v normal_low up;
    apart = λ e.
        let there : p.view ≡ v = AtMost-antisym p.view v up (subst (λ (w : View). AtMost w p.view) e normal_low) in
        (own.place.change (change there)).apart (e ∙ sym there);
  }

  -- who leads, and who follows

  pub leads_it : leads p ≡ true → r ≡ leader_of p.view (2 * f + 1)
  leads_it e = sym own.number ∙ sym (eqb-true (leader p) p.number e) ∙ ap (leader_of p.view) own.replicas

  pub follows_it : leads p ≡ false → r ≡ leader_of p.view (2 * f + 1) → ⊥
  follows_it e a = let yes = leads_from f p own.replicas (own.number ∙ a) in cc

  pub follows_last : {x : Word} → MayFollow c p x → r ≡ leader_of p.last_normal (2 * f + 1) → ⊥
  follows_last may a = follows_it may.follows (a ∙ ap (λ (w : View). leader_of w (2 * f + 1)) (own.place.normal may.normal))

  pub by_number : (d : Conf) (l : List Entry) → p.last_normal ≡ p.view → HadLog d.past r p.last_normal l → HadLog d.past p.number p.view l
  by_number d l view had = subst (λ (i : ℕ). HadLog d.past i p.view l) (sym own.number) (subst (λ (w : View). HadLog d.past r w l) view had)
