-- How the turns of an op of a session end, from how its core was served.
use Rattle.std.proofs.Common.{◌≡◌, ℕ, Bool, true, false, Option, Some, None, refl, sym, ap, ◌∙◌, List, [], ◌++◌, append-nil}
use Rattle.std.specs.Prelude.{Result, Ok, Err, is_some}
use Rattle.nop_types.specs.declared.output.Accept.{Accept}
use Rattle.outside.specs.declared.link.LinkCall.{LinkCall}
use Rattle.outside.specs.declared.link.PollAnswer.{PollAnswer}
use Rattle.udp_node.specs.Effects.{Effect, Step, calls, effects_by, step_effects, Stopped}
use Rattle.udp_node.specs.NodeRun.{NodeRun, ServedRun, ServesAfter, first_inputs}
use Rattle.udp_node.specs.Sends.{LinkSide, Sends, side}
use Rattle.udp_node.specs.declared.address.Address.{Address}
use Rattle.udp_node.specs.declared.errors.ServeError.{ServeError}
use Rattle.udp_node.specs.declared.errors.ServeError.TheVariants as serves
use Rattle.udp_node.specs.declared.serving.Served.{Served}
use Rattle.udp_node.proofs.EffectLemmas.{calls_append}
use Rattle.client_call.specs.Calls.{GivesAccepted, SomeCallsMade, TurnsEnded, error_of}
use Rattle.client_call.specs.Sessions.{Answered, EndsTurns, SessionState, TakesTurns, acceptance, awaiting, first_of, is_done, next, run_of, timers}
use Rattle.client_call.specs.declared.errors.CallError.{CallError}
use Rattle.client_call.specs.declared.errors.CallError.TheVariants.{PortFault, LinkFault, Unanswered, NoMemory}

module _ (at : Address) (s t : SessionState) (op : List ℕ) (turns : ℕ) (h i : Option (List ℕ)) (a b : LinkSide) where
  abbrev asks : Step → List Effect
  asks = step_effects false at

  -- how the core was served
  abbrev Serves : Option (List PollAnswer) → Option (List ℕ) → Result Served ServeError → Type 0
  Serves answers values result =
      ServesAfter next is_done (first_inputs (first_of (awaiting s).awaited op)) timers asks turns (awaiting s) answers values result a b h i

  module _ (r : NodeRun) (served : Served) (run : ServedRun asks r served a (record b { lost = served.lost }) h i)
      (done : served.done ≡ is_done t) (spent : served.done ≡ false → served.turns ≡ turns) where
    run_answered : (accept : Accept) (o : Option Accept) → acceptance t ≡ o → GivesAccepted o (Ok accept) → Answered at r a b
    run_answered accept None is gives = absurd gives
    run_answered accept (Some x) is gives = record {
      done = sym run.done ∙ done ∙ ap is_some is;
      works = run.works;
      calls = (served.lost, run.effects.sends);
    }

    run_open : (o : Option Accept) → acceptance t ≡ o → GivesAccepted o (Err Unanswered) → TurnsEnded at turns r a b
    run_open None is gives =
        let not_done : served.done ≡ false = done ∙ ap is_some is in
        record {
          all = sym run.turns ∙ spent not_done;
          done = sym run.done ∙ not_done;
          works = run.works;
          calls = (served.lost, run.effects.sends);
        }
    run_open (Some x) is gives = absurd gives

    run_ends : (result : Result Accept CallError) → GivesAccepted (acceptance t) result → EndsTurns at turns r result a b
    run_ends (Ok accept) gives = run_answered accept (acceptance t) refl gives
    run_ends (Err PortFault) gives = absurd gives
    run_ends (Err LinkFault) gives = absurd gives
    run_ends (Err Unanswered) gives = run_open (acceptance t) refl gives
    run_ends (Err NoMemory) gives = (
      served.lost,
      record {
        before = calls (effects_by asks r.acts);
        rest = [];
        split = sym (append-nil (calls (effects_by asks r.acts)));
        sends = run.effects.sends;
      },
    )

  pub turns_served : (answers : Option (List PollAnswer)) (values : Option (List ℕ)) (served : Served) → Serves answers values (Ok served)
      → served.done ≡ is_done t → (served.done ≡ false → served.turns ≡ turns)
      → (result : Result Accept CallError) → GivesAccepted (acceptance t) result → TakesTurns at s op turns answers values result a b
  turns_served None values served run done spent result gives = tt
  turns_served (Some answers) None served run done spent result gives = tt
  turns_served (Some answers) (Some values) served run done spent result gives =
      run_ends (run_of s op turns answers values) served run done spent result gives

  -- ---- an error ended it

  stopped_calls : (es : List Effect) (lost : ℕ) → Stopped es a (record b { lost = lost }) h i → SomeCallsMade (calls es) a b
  stopped_calls es lost stopped = (
    lost,
    record {
      before = calls stopped.prefix;
      rest = calls stopped.rest;
      split = ap calls stopped.split ∙ calls_append stopped.prefix stopped.rest;
      sends = stopped.sends;
    },
  )

  run_failed : (answers : List PollAnswer) (values : List ℕ) (e : ServeError) → Serves (Some answers) (Some values) (Err e)
      → EndsTurns at turns (run_of s op turns answers values) (Err (error_of e)) a b
  run_failed answers values serves.LinkFault run = record { broken = run.1.broken; calls = (run.0, run.1.effects.sends) }
  run_failed answers values serves.WriteFault run =
      stopped_calls (effects_by asks (run_of s op turns answers values).acts) run.0 run.1.stopped
  run_failed answers values serves.NoMemory run = stopped_calls (effects_by asks (run_of s op turns answers values).acts) run.0 run.1

  pub turns_failed : (answers : Option (List PollAnswer)) (values : Option (List ℕ)) (e : ServeError) → Serves answers values (Err e)
      → TakesTurns at s op turns answers values (Err (error_of e)) a b
  turns_failed None values e run = tt
  turns_failed (Some answers) None e run = tt
  turns_failed (Some answers) (Some values) e run = run_failed answers values e run

no_calls : (trace : Option (List LinkCall)) (losses : ℕ) → Sends [] (side trace 0 losses) (side trace 0 losses)
no_calls None losses = record { tries = []; all = refl; trace = tt; lost = refl; losses = refl; observed = tt }
no_calls (Some cs) losses =
    record { tries = []; all = refl; trace = ap Some (sym (append-nil cs)); lost = refl; losses = refl; observed = refl }

-- the core had failed before
pub turns_before : (at : Address) (s : SessionState) (op : List ℕ) (turns : ℕ) (answers : Option (List PollAnswer)) (values : Option (List ℕ))
    (trace : Option (List LinkCall)) (losses : ℕ)
    → TakesTurns at s op turns answers values (Err NoMemory) (side trace 0 losses) (side trace 0 losses)
turns_before at s op turns None values trace losses = tt
turns_before at s op turns (Some answers) None trace losses = tt
turns_before at s op turns (Some answers) (Some values) trace losses = (
  0,
  record {
    before = [];
    rest = calls (effects_by (step_effects false at) (run_of s op turns answers values).acts);
    split = refl;
    sends = no_calls trace losses;
  },
)
