-- The turns of a cluster, one after the other.
use Rattle.std.proofs.Common.{◌≡◌, ℕ, suc, ◌+◌, ◌-◌, ◌<◌, ◌≤◌, List, Bool, true, false, Option, Some, None, refl, sym, ap, subst, ◌∙◌}
use Rattle.std.proofs.Common.{arith, max, Ok, Err}
use Rattle.std.specs.Prelude.{option_map}
use Rattle.std.specs.Option.{option_and_then}
use Rattle.nop_types.specs.Meaning.{Meaning}
use Rattle.outside.specs.Clocks.{next_value, later_values, ReadsTime}
use Rattle.outside.specs.declared.errors.DeviceError.{DeviceError}
use Rattle.outside.specs.declared.errors.DeviceError.TheVariants.{Failed, NoMemory}
use Rattle.one_box.specs.declared.node.BoxActor as code
use Rattle.one_box.specs.ClusterRun.{Course, BoxActor, ClusterRun, all_accepted, turn, one_more, ends_or, turns_from}
use Rattle.one_box.specs.Showing.{LinkView, AllShow, AllReachIf, Turns}
use Rattle.one_box.specs.Running.{IsRunIf, RunsObserved, Runs, after_turns, GoingFrom, Going}

abbrev Turned : Type 0
Turned = Course × List BoxActor

none_before : (o : Option ClusterRun) → o ≡ option_map (after_turns 0) o
none_before None = refl
none_before (Some r) =
    let same : r.turns ≡ 0 + r.turns = omega arith in
    ap (λ (n : ℕ). Some (record { course = r.course; nodes = r.nodes; turns = n; done = r.done })) same

one_after : (k : ℕ) (o : Option ClusterRun) → option_map (after_turns k) (option_map one_more o) ≡ option_map (after_turns (k + 1)) o
one_after k None = refl
one_after k (Some r) =
    let same : k + (1 + r.turns) ≡ (k + 1) + r.turns = omega arith in
    ap (λ (n : ℕ). Some (record { course = r.course; nodes = r.nodes; turns = n; done = r.done })) same

module _ {S L : Type 0} (m : Meaning S) (v : LinkView L) (ops : List (List ℕ)) where
  pub going_first : (turns now : ℕ) (observed : Option (List ℕ)) (c : Course) (xs : List (code.BoxActor L))
      → Going v m ops turns now observed c xs 0 now observed c xs
  going_first turns now None c xs = tt
  going_first turns now (Some values) c xs = λ ns shown.
      let all : turns ≡ turns - 0 = omega arith in record {
        later = values;
        tells = refl;
        nodes = ns;
        shown = shown;
        is =
            none_before (turns_from m ops turns c ns now values)
            ∙ ap (λ (k : ℕ). option_map (after_turns 0) (turns_from m ops k c ns now values)) all;
      }

  -- what comes after a turn
  abbrev after_turn : ℕ → ℕ → List ℕ → Option Turned → Option ClusterRun
  after_turn k time later o = option_and_then
      (λ (p : Turned). ends_or (all_accepted ops p.0) p (turns_from m ops k p.0 p.1 (max time (next_value later)) (later_values later))) o

  module _ (turns now taken time : ℕ) (values : List ℕ) (observed : Option (List ℕ)) (c d e : Course) (ns : List BoxActor)
      (ys zs : List (code.BoxActor L)) (left : taken < turns)
      (from : GoingFrom v m ops turns now values c ns (turns - taken) taken time observed d ys) where
    next_turn : turns_from m ops turns c ns now values
        ≡ option_map (after_turns taken) (after_turn (turns - (taken + 1)) time from.later (turn m ops time d from.nodes))
    unfolding turns_from
    next_turn =
        let more : turns - taken ≡ suc (turns - (taken + 1)) = omega (arith, left) in
        from.is ∙ ap (λ (k : ℕ). option_map (after_turns taken) (turns_from m ops k d from.nodes time from.later)) more

    -- a poll failed
    turn_fails : turn m ops time d from.nodes ≡ None → turns_from m ops turns c ns now values ≡ None
    turn_fails is =
        next_turn
        ∙ ap (λ (o : Option Turned). option_map (after_turns taken) (after_turn (turns - (taken + 1)) time from.later o)) is

    -- all ops are accepted after the turn
    turn_ends : (o : Option Turned) → turn m ops time d from.nodes ≡ o → AllReachIf v o e zs → all_accepted ops e ≡ true
        → IsRunIf v (turns_from m ops turns c ns now values) (record { turns = taken + 1; done = true }) e zs
    turn_ends None is reach all = absurd reach
    turn_ends (Some p) is reach all =
        let here : all_accepted ops p.0 ≡ true = ap (all_accepted ops) reach.course ∙ all in
        let whole : turns_from m ops turns c ns now values
        ≡ Some (record { course = p.0; nodes = p.1; turns = taken + 1; done = true }) =
        next_turn
        ∙ ap (λ (o : Option Turned). option_map (after_turns taken) (after_turn (turns - (taken + 1)) time from.later o)) is
        ∙ ap (λ (b : Bool). option_map (after_turns taken) (ends_or b p
        (turns_from m ops (turns - (taken + 1)) p.0 p.1 (max time (next_value from.later)) (later_values from.later)))) here in
        subst (λ (o : Option ClusterRun). IsRunIf v o (record { turns = taken + 1; done = true }) e zs) (sym whole)
        (record { course = reach.course; nodes = reach.nodes; turns = refl; done = refl })

    -- the run goes on after the turn
    turn_goes : (o : Option Turned) (value : ℕ) (left_observed : Option (List ℕ)) → turn m ops time d from.nodes ≡ o → AllReachIf v o e zs
        → all_accepted ops e ≡ false → ReadsTime observed left_observed value
        → GoingFrom v m ops turns now values c ns (turns - (taken + 1)) (taken + 1) (max time value) left_observed e zs
    turn_goes None value left_observed is reach all tells = absurd reach
    turn_goes (Some p) value left_observed is reach all tells =
        let here : all_accepted ops p.0 ≡ false = ap (all_accepted ops) reach.course ∙ all in
        let time_observed : ReadsTime (Some from.later) left_observed value =
        subst (λ (t : Option (List ℕ)). ReadsTime t left_observed value) from.tells tells in
        let rest : ℕ = turns - (taken + 1) in
        record {
          later = later_values from.later;
          tells = time_observed.1;
          nodes = p.1;
          shown = reach.nodes;
          is =
              next_turn
              ∙ ap (λ (o : Option Turned). option_map (after_turns taken) (after_turn rest time from.later o)) is
              ∙ ap (λ (b : Bool). option_map (after_turns taken) (ends_or b p
              (turns_from m ops rest p.0 p.1 (max time (next_value from.later)) (later_values from.later)))) here
              ∙ one_after taken (turns_from m ops rest p.0 p.1 (max time (next_value from.later)) (later_values from.later))
              ∙ ap (λ (a : Course). option_map (after_turns (taken + 1))
              (turns_from m ops rest a p.1 (max time (next_value from.later)) (later_values from.later))) reach.course
              ∙ ap (λ (t : ℕ). option_map (after_turns (taken + 1)) (turns_from m ops rest e p.1 (max time t) (later_values from.later)))
              (sym time_observed.0);
        }

  module _ (turns now taken time : ℕ) (observed first : Option (List ℕ)) (c d e : Course) (xs ys zs : List (code.BoxActor L))
      (left : taken < turns) where
    pub turn_broken : Going v m ops turns now first c xs taken time observed d ys
        → ((ns : List BoxActor) → AllShow v ns ys → turn m ops time d ns ≡ None)
        → RunsObserved v m ops turns now first (Err Failed) c xs e zs
    turn_broken going fails = by first going
      where
        by : (o : Option (List ℕ)) → Going v m ops turns now o c xs taken time observed d ys
            → RunsObserved v m ops turns now o (Err Failed) c xs e zs
        by None g = tt
        by (Some values) g = λ ns shown.
            let f = g ns shown in
            turn_fails turns now taken time values observed c d e ns ys zs left f (fails f.nodes f.shown)

    pub turn_done : Going v m ops turns now first c xs taken time observed d ys
        → ((ns : List BoxActor) → AllShow v ns ys → AllReachIf v (turn m ops time d ns) e zs) → all_accepted ops e ≡ true
        → RunsObserved v m ops turns now first (Ok (record { turns = taken + 1; done = true })) c xs e zs
    turn_done going does all = by first going
      where
        by : (o : Option (List ℕ)) → Going v m ops turns now o c xs taken time observed d ys
            → RunsObserved v m ops turns now o (Ok (record { turns = taken + 1; done = true })) c xs e zs
        by None g = tt
        by (Some values) g = λ ns shown.
            let f = g ns shown in
            turn_ends turns now taken time values observed c d e ns ys zs left f (turn m ops time d f.nodes) refl (does f.nodes f.shown) all

    pub going_on : (value : ℕ) (left_observed : Option (List ℕ)) → Going v m ops turns now first c xs taken time observed d ys
        → ((ns : List BoxActor) → AllShow v ns ys → AllReachIf v (turn m ops time d ns) e zs) → all_accepted ops e ≡ false
        → ReadsTime observed left_observed value → Going v m ops turns now first c xs (taken + 1) (max time value) left_observed e zs
    going_on value left_observed going does all tells = by first going
      where
        by : (o : Option (List ℕ)) → Going v m ops turns now o c xs taken time observed d ys
            → Going v m ops turns now o c xs (taken + 1) (max time value) left_observed e zs
        by None g = tt
        by (Some values) g = λ ns shown.
            let f = g ns shown in
            turn_goes turns now taken time values observed c d e ns ys zs left f (turn m ops time d f.nodes) value left_observed refl
            (does f.nodes f.shown) all tells

    -- an error ends the run
    pub run_stops : (error : DeviceError) → Going v m ops turns now first c xs taken time observed d ys
        → Turns v m (λ a ns. turn m ops time a ns) (Err error) d ys e zs → RunsObserved v m ops turns now first (Err error) c xs e zs
    run_stops Failed going fails = turn_broken going fails.none
    run_stops NoMemory going fails = by first
      where
        by : (o : Option (List ℕ)) → RunsObserved v m ops turns now o (Err NoMemory) c xs e zs
        by None = tt
        by (Some values) = λ ns shown. tt

  -- all turns were taken
  pub turns_over : (turns now taken time : ℕ) (observed first : Option (List ℕ)) (c d : Course) (xs ys : List (code.BoxActor L)) (done : Bool)
      → turns ≤ taken → done ≡ all_accepted ops d → Going v m ops turns now first c xs taken time observed d ys
      → RunsObserved v m ops turns now first (Ok (record { turns = taken; done = done })) c xs d ys
  unfolding turns_from
  turns_over turns now taken time observed None c d xs ys done over is g = tt
  turns_over turns now taken time observed (Some values) c d xs ys done over is g = λ ns shown.
      let f = g ns shown in
      let none : turns - taken ≡ 0 = omega (arith, over) in
      let count : taken + 0 ≡ taken = omega arith in
      let whole : turns_from m ops turns c ns now values
      ≡ Some (record { course = d; nodes = f.nodes; turns = taken + 0; done = all_accepted ops d }) =
      f.is ∙ ap (λ (k : ℕ). option_map (after_turns taken) (turns_from m ops k d f.nodes time f.later)) none in
      subst (λ (o : Option ClusterRun). IsRunIf v o (record { turns = taken; done = done }) d ys) (sym whole)
      (record { course = refl; nodes = f.shown; turns = count; done = sym is })

-- a poll that failed
pub runs_fail : {S L : Type 0} (m : Meaning S) (v : LinkView L) (f : Course → List BoxActor → Option (Course × List BoxActor)) (ops : List (List ℕ))
    (turns : ℕ) (c d e : Course) (xs ys zs : List (code.BoxActor L)) (error : DeviceError) → Turns v m f (Err error) d ys e zs
    → Runs v m ops turns (Err error) c xs e zs
runs_fail m v f ops turns c d e xs ys zs Failed stops = stops.fault
runs_fail m v f ops turns c d e xs ys zs NoMemory stops = tt
