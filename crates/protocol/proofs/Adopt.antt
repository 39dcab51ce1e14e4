-- The move `adopt`.
use Rattle.std.proofs.Common.{◌≡◌, ℕ, ◌+◌, ◌*◌, ◌<◌, sym, ap, subst, ◌∙◌, arith, length, List, []}
use Rattle.nop_types.specs.declared.view.View.{View}
use Rattle.nop_types.specs.declared.request.Entry.{Entry}
use Rattle.nop_types.specs.declared.request.Entry.TheVariants.{NoOp, Req}
use Rattle.nop_types.specs.Lists.{IsPrefixOf}
use Rattle.nop_types.specs.Meaning.{Meaning}
use Rattle.nop_types.specs.Views.{leader_of}
use Rattle.lemmas.proofs.Prefixes.{Has-prefix, IsPrefixOf-shorter}
use Rattle.log_merge.specs.Starting.{Start}
use Rattle.started_views.specs.Past.{IsStart}
use Rattle.lemmas.proofs.Members.{Has-none}
use Rattle.lemmas.proofs.Slots.{slot_of-prefix}
use Rattle.protocol.specs.Conf.{Conf, after}
use Rattle.protocol.specs.Invariant.{Own, Inv}
use Rattle.protocol.specs.LocalState.{LocalState}
use Rattle.protocol.specs.Moves.{adopt, MayAdopt}
use Rattle.protocol.specs.Said.{StartView, says}
use Rattle.protocol.specs.Truth.{Begun}
use Rattle.protocol.proofs.Growing.{Kept}
use Rattle.lemmas.proofs.Options.{same_Some-at}
use Rattle.protocol.proofs.Stays.{log_lasts}
use Rattle.protocol.proofs.Places.{below_of}
use Rattle.protocol.proofs.Adopting.{adopted_keeps}
use Rattle.protocol.proofs.Spoken.{none_spoken}

module _ {S : Type 0} (m : Meaning S) (f : ℕ) (c : Conf) (r : ℕ) (inv : Inv m f c) (within : r < 2 * f + 1) where
  abbrev p : LocalState
  p = c.replicas r

  own : Own f c r p
  own = inv.own r within

  pub adopt_keeps : (v : View) (x z : ℕ) (l : List Entry) → MayAdopt c p v x z l → Kept m f c (after f c r (adopt m p v x z l))
  adopt_keeps v x z l may = adopted_keeps m f c r inv within v x z l [] may.at_most (below_of m f c r inv within v may.at_most may.change)
      (λ e here begun.
      let d = after f c r (adopt m p v x z l) in
      let n = e.leads v said.lead said.leads in
      let good = log_lasts m f c d e (leader_of v (2 * f + 1)) v said.lead (inv.logs (leader_of v (2 * f + 1)) v said.lead said.leads) in
      let is_start : IsStart d.past v said.start = e.starts v said.start said.is_start in
      let same : good.start ≡ said.start = same_Some-at (d.past.start v) good.start said.start good.is_start is_start in
      let begins : IsPrefixOf good.start.log l = IsPrefixOf-shorter good.start.log l said.lead good.begins said.begins
      (omega (arith, ap (λ (y : Start). length y.log) same, said.within)) in
      record {
        log = record {
          start = good.start;
          is_start = good.is_start;
          lead = n.0;
          leads = n.1;
          begins = begins;
          by_number = λ k y a h. good.by_number k y a (slot_of-prefix l said.lead k (Req y) said.begins h);
          noops = λ k a h. slot_of-prefix said.lead n.0 k NoOp n.2 (slot_of-prefix l said.lead k NoOp said.begins h);
          submitted = λ y i. good.submitted y (Has-prefix l said.lead (Req y) said.begins i);
          session = good.session;
          announced = λ a. absurd (follows a);
          settled = λ a. absurd (follows a);
        };
        counted = subst (λ (y : Start). x + length y.log ≡ y.next + length l) (sym same) said.counted;
        base = λ a. absurd (follows a);
        started = λ a. absurd (follows a);
        session = inv.said_views (says (leader_of v p.replicas) v (StartView x z l)) may.said;
        spoken = none_spoken v;
        words = λ y i. absurd (Has-none y i);
      })
    where
      said : Begun f c (leader_of v p.replicas) v x l
      said = inv.said (says (leader_of v p.replicas) v (StartView x z l)) may.said

      follows : r ≡ leader_of v (2 * f + 1) → ⊥
      follows a = may.follows (own.number ∙ a ∙ ap (leader_of v) (sym own.replicas))
