-- What an event delivers makes one step of one actor.
use Rattle.std.proofs.Common.{◌≡◌, ℕ, ◌+◌, ◌*◌, List, [], Bool, true, false, Option, Some, None, refl, sym, ap, subst, ◌∙◌, ◌++◌}
use Rattle.std.specs.Prelude.{slice_get}
use Rattle.std.proofs.lemmas.List.{append-nil}
use Rattle.nop_types.specs.Configuration.{Configuration}
use Rattle.nop_types.specs.Given.{Given}
use Rattle.nop_types.specs.Lines.{Line}
use Rattle.nop_types.specs.Meaning.{Meaning}
use Rattle.nop_types.specs.declared.output.Actor.{Actor}
use Rattle.nop_types.specs.declared.output.Out.{Out}
use Rattle.replica_rows.specs.Within.{ResultsShort}
use Rattle.protocol.specs.Conf.{Conf}
use Rattle.protocol.specs.Invariant.{Inv}
use Rattle.network.specs.Network.{Sent}
use Rattle.world.specs.Others.{Kind, State, next, seats, with_seat, Who, AReplica, Another, who, actor_at}
use Rattle.world.specs.Seats.{Seated}
use Rattle.whole_world.specs.Whole.{WholeReplica, WholeWorld, Brings, input_of, is_crash, at_seat, gave, step_other, live_replica}
use Rattle.whole_world.specs.Whole.{at_replica, step_replica, step_of, whole_step}
use Rattle.whole_world.specs.Passed.{Passed}
use Rattle.whole_world.specs.Safe.{BringsFits, CrashedStay}
use Rattle.whole_world.proofs.ActorSteps.{other_goes}
use Rattle.whole_world.proofs.At.{At, Goes}
use Rattle.whole_world.proofs.Coming.{Comes, brings_come}
use Rattle.whole_world.proofs.Events.{StepsLead}
use Rattle.whole_world.proofs.Moving.{ran_holds, goes_later}
use Rattle.whole_world.proofs.Quiet.{nothing_goes, quiet_replica, quiet_other}
use Rattle.whole_world.proofs.ReplicaSteps.{replica_goes}

module _ {S : Type 0} (m : Meaning S) (f : ℕ) (config : Configuration) (short : ResultsShort m) (p : Passed) (c : Conf) (inv : Inv m f c)
    (at : At m f config p c) where
  abbrev w : WholeWorld
  w = p.world

  abbrev GoesTo : WholeWorld → Type 0
  GoesTo v = Goes m f config p c v

  -- where nothing is sent
  silent : (v : WholeWorld) (from : Actor) → GoesTo (record v { sent = w.sent; lines = w.lines }) → GoesTo (gave w from [] v)
  silent v from go =
      subst (λ (ss : List Sent). GoesTo (record v { sent = ss; lines = w.lines ++ [] })) (sym (append-nil w.sent))
      (subst (λ (ls : List Line). GoesTo (record v { sent = w.sent; lines = ls })) (sym (append-nil w.lines)) go)

  comes : (b : Brings) → BringsFits b → (i : Given) → input_of w.sent b ≡ Some i → Comes c i
  comes b fits i = brings_come c w.sent at.stands.carries b i fits

  -- ---- each actor, crashed or not

  module _ (k : Kind) (i : ℕ) (old : Seated (State k)) (there : slice_get (seats k w.others) i ≡ Some old) where
    abbrev OtherGoes : Seated (State k) × List Out → Type 0
    OtherGoes x = GoesTo (gave w (actor_at (Another k i)) x.1 (record w { others = with_seat k w.others i x.0 }))

    other_quiet : (new : Seated (State k)) → new.state ≡ old.state → OtherGoes (new, [])
    other_quiet new same = silent (record w { others = with_seat k w.others i new }) (actor_at (Another k i))
        (quiet_other m f config p c inv at k i old new there same)

    other_moves : (crashed crash : Bool) (o : Option Given) → ((g : Given) → o ≡ Some g → Comes c g)
        → OtherGoes (at_seat (next k) old crashed crash o)
    other_moves true crash o come = other_quiet old refl
    other_moves false true o come = other_quiet (record old { crashed = true }) refl
    other_moves false false None come = other_quiet old refl
    other_moves false false (Some g) come = other_goes m f config p c inv at k i old there g (come g refl)

  replica_moves : (i : ℕ) (old : Seated WholeReplica) → slice_get w.replicas i ≡ Some old → (b : Brings) (crashed crash : Bool)
      → is_crash b ≡ crash → GoesTo (at_replica m w i old crashed b)
  replica_moves i old there b true crash is = nothing_goes m f config p c inv at
  replica_moves i old there b false true is =
      subst (λ (x : Bool). GoesTo (live_replica m w i old x b)) (sym is)
      (quiet_replica m f config p c inv at i old (record old { crashed = true }) there refl)
  replica_moves i old there b false false is =
      subst (λ (x : Bool). GoesTo (live_replica m w i old x b)) (sym is) (replica_goes m f config p c inv at short i old there b)

  -- ---- each event

  replica_step : (i : ℕ) (o : Option (Seated WholeReplica)) → slice_get w.replicas i ≡ o → (b : Brings) → GoesTo (step_replica m w i o b)
  replica_step i None there b = nothing_goes m f config p c inv at
  replica_step i (Some old) there b = replica_moves i old there b old.crashed (is_crash b) refl

  other_step : (k : Kind) (i : ℕ) (o : Option (Seated (State k))) → slice_get (seats k w.others) i ≡ o → (b : Brings) → BringsFits b
      → GoesTo (step_other k w i o b)
  other_step k i None there b fits = nothing_goes m f config p c inv at
  other_step k i (Some old) there b fits = other_moves k i old there old.crashed (is_crash b) (input_of w.sent b) (comes b fits)

  step_goes : (x : Who) (b : Brings) → BringsFits b → GoesTo (step_of m w x b)
  step_goes (AReplica i) b fits = replica_step i (slice_get w.replicas i) refl b
  step_goes (Another k i) b fits = other_step k i (slice_get (seats k w.others) i) refl b fits
  step_goes _ b fits = nothing_goes m f config p c inv at

-- each event leads on
pub steps_lead : {S : Type 0} (m : Meaning S) (f : ℕ) (config : Configuration) → ResultsShort m → StepsLead m f config
steps_lead m f config short p c a b at fits =
    let count : config.replicas ≡ 2 * f + 1 = ap (λ (k : Configuration). k.replicas) (sym at.stands.same) ∙ at.stands.actors.config in
    let inv : Inv m f c = ran_holds m f config count c at.ran in
    goes_later m f config p c (whole_step m p.world a b) at (step_goes m f config short p c inv at (who a) b fits)

pub crashed_stay : {S : Type 0} (m : Meaning S) → CrashedStay m
crashed_stay m w i p b e c =
    ap (λ (o : Option (Seated WholeReplica)). step_replica m w i o b) e ∙ ap (λ (d : Bool). at_replica m w i p d b) c
