-- What holds of a desk over any events.
use Rattle.std.proofs.Common.{◌≡◌, ℕ, zero, suc, ◌+◌, ◌<◌, ◌≤◌, List, [], ◌∷◌, ◌++◌, Option, Some, None, refl, sym, ap, subst, ◌∙◌, arith, inl, inr}
use Rattle.std.specs.Prelude.{slice_get}
use Rattle.nop_types.specs.Configuration.{Configuration}
use Rattle.nop_types.specs.Lists.{Has}
use Rattle.nop_types.specs.declared.output.Out.{Out}
use Rattle.nop_types.specs.declared.output.Out.TheVariants.{Accepted}
use Rattle.lemmas.proofs.Members.{Has-none}
use Rattle.desk.specs.Desks.{Event, Leave, cores_from, left, next, opening}
use Rattle.desk.specs.Runs.{after, gave, ops_of, IsAnswer, IsBusy, IsTold}
use Rattle.desk.specs.Submitters as submitters
use Rattle.desk.specs.declared.desk_state.DeskState.{DeskState}
use Rattle.desk.specs.declared.submitter.Labelled.{Labelled}
use Rattle.desk.specs.declared.submitter.OpenTicket.{OpenTicket}
use Rattle.desk.specs.declared.submitter.Queued.{Queued}
use Rattle.desk.specs.declared.submitter.Submitter.{Submitter}
use Rattle.desk.proofs.Busy.{run_busy}
use Rattle.desk.proofs.Filling.{run_keeps}
use Rattle.desk.proofs.Once.{answers, cores_times, keeps_gone, keeps_once, left_gone, IsGone, IsOnce}
use Rattle.desk.proofs.Totals.{hit-same, hit_of, one_place, total-at}
use Rattle.desk.proofs.True.{keeps_right, IsRight}

opening_held : (config : Configuration) (first count i : ℕ) (s : Submitter) → slice_get (cores_from config first count) i ≡ Some s → s.held ≡ []
opening_held config first zero i s h = absurd cc
opening_held config first (suc n) zero s h =
    let same : submitters.opening config first ≡ s = cc in
    ap (λ (c : Submitter). c.held) (sym same)
opening_held config first (suc n) (suc i) s h = opening_held config (first + 1) n i s h

opening_times : (t : ℕ) (config : Configuration) (first count : ℕ) → cores_times t (cores_from config first count) ≡ 0
opening_times t config first zero = refl
opening_times t config first (suc n) = let e = opening_times t config (first + 1) n in omega (arith, e)

module _ (config : Configuration) (first count : ℕ) where
  opening_right : IsRight [] (opening config first count) []
  opening_right =
      record {
        taken = refl;
        queue = λ q h. absurd (Has-none q h);
        held = λ i s h at has. absurd (Has-none h (subst (λ (hs : List OpenTicket). Has hs h) (opening_held config first count i s at) has));
        told = λ k g h. absurd cc;
      }

  pub told_true : (es : List Event) → IsTold (ops_of es) (gave (opening config first count) es)
  told_true es = (run_keeps IsRight keeps_right es [] (opening config first count) [] opening_right).told

  opening_once : (t : ℕ) → IsOnce t (opening config first count) []
  opening_once t =
      let e = opening_times t config first count in
      record { one = omega (arith, e); fresh = λ above. omega (arith, e) }

  is_one : (t : ℕ) (ticket : Option ℕ) (out : Out) → IsAnswer ticket out t → answers t ticket out ≡ 1
  is_one t (Some n) (Accepted client id result) e = hit-same t n e
  is_one t (Some n) _ f = absurd f
  is_one t None _ f = absurd f

  pub answered_once : (es : List Event) (i j t : ℕ) (g h : Labelled) → slice_get (gave (opening config first count) es) i ≡ Some g
      → slice_get (gave (opening config first count) es) j ≡ Some h → IsAnswer g.ticket g.out t → IsAnswer h.ticket h.out t → i ≡ j
  answered_once es i j t g h a b is its =
      let one = (run_keeps (λ ops d told. IsOnce t d told) (keeps_once t) es [] (opening config first count) [] (opening_once t)).one in
      one_place (λ (l : Labelled). answers t l.ticket l.out) (gave (opening config first count) es) i j g h (omega (arith, one)) a b
      (is_one t g.ticket g.out is) (is_one t h.ticket h.out its)

  pub always_busy : (es : List Event) → IsBusy (after (opening config first count) es)
  always_busy es = run_busy es (opening config first count) (inl refl)

pub untold_after : (d : DeskState) (t : ℕ) (later : List Event) (g : Labelled) → t < d.taken → Has (gave (next d (Leave t)).0 later) g
    → g.ticket ≡ Some t → ⊥
untold_after d t later g given has e =
    let gone = run_keeps (λ ops d told. IsGone t d told) (keeps_gone t) later [] (left d t) [] (left_gone t d given) in
    let untold = gone.untold in
    let m = total-at (λ (l : Labelled). hit_of t l.ticket) (gave (left d t) later) has.0 g has.1 in
    let one : hit_of t g.ticket ≡ 1 = ap (λ (o : Option ℕ). hit_of t o) e ∙ hit-same t t refl in
    omega (arith, m, one, untold)
