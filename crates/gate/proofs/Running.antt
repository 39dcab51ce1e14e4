-- What a gateway does, one thing after the other.
use Rattle.std.proofs.Common.{◌≡◌, ℕ, List, [], ◌∷◌, ◌++◌, refl, sym, ap, subst, ◌∙◌}
use Rattle.std.proofs.Common.{append-nil, append_assoc, length}
use Rattle.std.specs.Prelude.{Result, Ok, Err, Some, None}
use Rattle.std.specs.List.{flat_map}
use Rattle.std.proofs.lemmas.Grind.{flat_map-append}
use Rattle.nop_types.specs.Lists.{IsPrefixOf}
use Rattle.outside.specs.Causes.{next_count}
use Rattle.udp_node.specs.Sends.{Grows}
use Rattle.users.specs.declared.event.UserCall.{UserCall}
use Rattle.users.specs.declared.event.UserEvent.{UserEvent}
use Rattle.gate_core.specs.Gates.{next}
use Rattle.gate_core.specs.Runs.{after}
use Rattle.gate_core.specs.declared.act.Act.{Act}
use Rattle.gate_core.specs.declared.act.Event.{Event}
use Rattle.gate_core.specs.declared.act.Event.TheVariants as events
use Rattle.gate_core.specs.declared.gate_state.GateState.{GateState}
use Rattle.gate.specs.declared.errors.GateError.{GateError}
use Rattle.gate.specs.declared.errors.GateError.TheVariants.{PortFault, LinkFault, UsersFault, NoMemory}
use Rattle.gate.specs.Carrying.{Carried, Ended, Faultless, IsCause, IsInside, Makes, MakesAll, MakesFirst, OneFailed, Ran, Runs, Steps}
use Rattle.gate.specs.Carrying.{Takes, Took, TookNone, TakesStep, TakesStepPartly, Untaken, call_of, calls_of, came, came_in, packets_at, run_calls, user_event_in}
use Rattle.gate.specs.Sides.{LinksSeen, Side, UsersSeen, link_faults, seen}
use Rattle.gate.proofs.Taking.{all_quiet, all_same, all_then, grows_same, grows_then, same_count, takes_same, takes_then}

-- ---- calls and events

pub carried_same : (a : Side) → Carried [] [] a a
carried_same a = record { calls = grows_same a.users.trace; users = takes_same came a.users.to_come; links = all_same a.links }

pub carried_then : (cs ds : List UserCall) (es fs : List Event) (a b c : Side) → Carried cs es a b → Carried ds fs b c
    → Carried (cs ++ ds) (es ++ fs) a c
carried_then cs ds es fs a b c h k = record {
  calls = grows_then a.users.trace b.users.trace c.users.trace cs ds h.calls k.calls;
  users = subst (λ xs. Takes came xs a.users.to_come c.users.to_come) (sym (flat_map-append user_event_in es fs))
      (takes_then came a.users.to_come b.users.to_come c.users.to_come (flat_map user_event_in es) (flat_map user_event_in fs) h.users k.users);
  links = all_then a.links b.links c.links es fs h.links k.links;
}

-- ---- faults

pub faultless_same : (a : Side) → Faultless a a
faultless_same a = record { users = refl; links = refl }

pub faultless_then : (a b c : Side) → Faultless a b → Faultless b c → Faultless a c
faultless_then a b c h k = record { users = k.users ∙ h.users; links = k.links ∙ h.links }

pub cause_then : (e : GateError) (a b c : Side) → Faultless a b → IsCause e b c → IsCause e a c
cause_then PortFault a b c h k = k
cause_then LinkFault a b c h k = record {
  users = k.users ∙ h.users;
  links = subst (λ (ns : List ℕ). OneFailed ns (link_faults c.links)) h.links k.links;
}
cause_then UsersFault a b c h k = record { users = k.users ∙ ap next_count h.users; links = k.links ∙ h.links }
cause_then NoMemory a b c h k = faultless_then a b c h k

-- ---- prefixes

pub prefix_after : {A : Type 0} (xs ys zs : List A) → IsPrefixOf ys zs → IsPrefixOf (xs ++ ys) (xs ++ zs)
prefix_after xs ys zs h = (h.0, ap (λ ws. xs ++ ws) h.1 ∙ sym (append_assoc xs ys h.0))

pub prefix_of_first : {A : Type 0} (xs ys zs : List A) → IsPrefixOf xs ys → IsPrefixOf xs (ys ++ zs)
prefix_of_first {A} xs ys zs h = (h.0 ++ zs, ap (λ (ws : List A). ws ++ zs) h.1 ∙ append_assoc xs h.0 zs)

-- ---- runs

calls_append : (es fs : List Event) (g : GateState) → run_calls g (es ++ fs) ≡ run_calls g es ++ run_calls (after g es) fs
calls_append [] fs g = refl
calls_append (e ∷ es) fs g =
    ap (λ cs. (came_in e ++ calls_of (next g e).1) ++ cs) (calls_append es fs (next g e).0)
    ∙ sym (append_assoc (came_in e ++ calls_of (next g e).1) (run_calls (next g e).0 es) (run_calls (after (next g e).0 es) fs))

after_append : (es fs : List Event) (g : GateState) → after g (es ++ fs) ≡ after (after g es) fs
after_append [] fs g = refl
after_append (e ∷ es) fs g = after_append es fs (next g e).0

-- nothing was done
pub ran_same : (a : Side) → Ran a a
ran_same a = record { events = []; ends = refl; carried = carried_same a; faults = faultless_same a }

pub ran_then : (a b c : Side) → Ran a b → Ran b c → Ran a c
ran_then a b c h k =
    let from : GateState = after a.state h.events in
    record {
      events = h.events ++ k.events;
      ends = k.ends ∙ ap (λ g. after g k.events) h.ends ∙ sym (after_append h.events k.events a.state);
      carried = subst (λ (cs : List UserCall). Carried cs (h.events ++ k.events) a c)
          (ap (λ g. run_calls a.state h.events ++ run_calls g k.events) h.ends ∙ sym (calls_append h.events k.events a.state))
          (carried_then (run_calls a.state h.events) (run_calls b.state k.events) h.events k.events a b c h.carried k.carried);
      faults = faultless_then a b c h.faults k.faults;
    }

pub ended_then : (e : GateError) (a b c : Side) → Ran a b → Ended e b c → Ended e a c
ended_then e a b c h k = record {
  events = h.events ++ k.events;
  done = run_calls a.state h.events ++ k.done;
  part = subst (λ (cs : List UserCall). IsPrefixOf (run_calls a.state h.events ++ k.done) cs)
      (ap (λ g. run_calls a.state h.events ++ run_calls g k.events) h.ends ∙ sym (calls_append h.events k.events a.state))
      (prefix_after (run_calls a.state h.events) k.done (run_calls b.state k.events) k.part);
  carried = carried_then (run_calls a.state h.events) k.done h.events k.events a b c h.carried k.carried;
  cause = cause_then e a b c h.faults k.cause;
}

pub runs_then : {T : Type 0} (r : Result T GateError) (a b c : Side) → Ran a b → Runs r b c → Runs r a c
runs_then (Ok t) a b c h k = ran_then a b c h k
runs_then (Err e) a b c h k = ended_then e a b c h k

-- nothing was taken over the links before, and nothing else was done
pub runs_untaken : {T : Type 0} (r : Result T GateError) (g h : GateState) (us : UsersSeen) (xs ys : LinksSeen) (c : Side) → h ≡ g
    → Untaken xs ys → Runs r (seen h us ys) c → Runs r (seen g us xs) c
runs_untaken r g h us xs ys c same quiet runs = runs_then r (seen g us xs) (seen h us ys) c
    (record {
      events = [];
      ends = same;
      carried = record { calls = grows_same us.trace; users = takes_same came us.to_come; links = quiet.answers };
      faults = record { users = refl; links = quiet.faults };
    })
    runs

-- ---- a step

-- an event was taken, and then its step
pub ran_step : (e : Event) (a b c : Side) → Took (e ∷ []) a b → TakesStep e b c → Ran a c
ran_step e a b c h k = record {
  events = e ∷ [];
  ends = k.state ∙ ap (λ g. (next g e).0) h.state;
  carried = subst (λ (cs : List UserCall). Carried cs (e ∷ []) a c)
      (ap (λ cs. cs ++ calls_of (next b.state e).1) (append-nil (came_in e))
      ∙ ap (λ g. came_in e ++ calls_of (next g e).1) h.state ∙ sym (append-nil (came_in e ++ calls_of (next a.state e).1)))
      (carried_then (came_in e ++ []) (calls_of (next b.state e).1) (e ∷ []) [] a b c h.carried k.makes.carried);
  faults = faultless_then a b c h.faults k.makes.faults;
}

pub ended_step : (e : Event) (a b c : Side) → Took (e ∷ []) a b → TakesStepPartly e b c → Ended NoMemory a c
ended_step e a b c h step = let k : MakesFirst (calls_of (next b.state e).1) b c = step.makes in record {
  events = e ∷ [];
  done = came_in e ++ k.done;
  part = subst (λ (cs : List UserCall). IsPrefixOf (came_in e ++ k.done) cs)
      (ap (λ g. came_in e ++ calls_of (next g e).1) h.state ∙ sym (append-nil (came_in e ++ calls_of (next a.state e).1)))
      (prefix_after (came_in e) k.done (calls_of (next b.state e).1) k.part);
  carried = subst (λ (cs : List UserCall). Carried cs (e ∷ []) a c) (ap (λ cs. cs ++ k.done) (append-nil (came_in e)))
      (carried_then (came_in e ++ []) k.done (e ∷ []) [] a b c h.carried k.makes.carried);
  cause = faultless_then a b c h.faults k.makes.faults;
}

-- an event that no device gave
took_quiet : (e : Event) (a : Side) → came_in e ≡ [] → user_event_in e ≡ [] → ((place : ℕ) → packets_at a.links.cores place (e ∷ []) ≡ [])
    → Took (e ∷ []) a a
took_quiet e a calls users none = record {
  state = refl;
  carried = record {
    calls = subst (λ (cs : List UserCall). Grows a.users.trace a.users.trace (cs ++ [])) (sym calls) (grows_same a.users.trace);
    users = subst (λ (es : List UserEvent). Takes came (es ++ []) a.users.to_come a.users.to_come) (sym users) (takes_same came a.users.to_come);
    links = all_quiet (e ∷ []) a.links none;
  };
  faults = faultless_same a;
}

pub took_inside : (e : Event) (a : Side) → IsInside e → Took (e ∷ []) a a
took_inside (events.Retry core) a h = took_quiet (events.Retry core) a refl refl (λ place. refl)
took_inside (events.Read user) a h = took_quiet (events.Read user) a refl refl (λ place. refl)
took_inside (events.Ask core observer user) a h = took_quiet (events.Ask core observer user) a refl refl (λ place. refl)
took_inside (events.Reassign core) a h = took_quiet (events.Reassign core) a refl refl (λ place. refl)
took_inside (events.Watch now None) a h = took_quiet (events.Watch now None) a refl refl (λ place. refl)
took_inside events.Idle a h = took_quiet events.Idle a refl refl (λ place. refl)
took_inside (events.Datagram core bytes) a h = absurd h
took_inside (events.User event) a h = absurd h
took_inside (events.Watch now (Some bytes)) a h = absurd h

-- where nothing was to be taken
pub ran_none : (a b : Side) → Took [] a b → Ran a b
ran_none a b h = record { events = []; ends = h.state; carried = h.carried; faults = h.faults }

pub ended_none : (e : GateError) (a b : Side) → TookNone e a b → Ended e a b
ended_none e a b h = record { events = []; done = []; part = ([], refl); carried = h.carried; cause = h.cause }

-- ---- acts one after the other

pub makes_same : (a : Side) → Makes [] a a
makes_same a = record { carried = carried_same a; faults = faultless_same a }

pub makes_then : (cs ds : List UserCall) (a b c : Side) → Makes cs a b → Makes ds b c → Makes (cs ++ ds) a c
makes_then cs ds a b c h k = record {
  carried = carried_then cs ds [] [] a b c h.carried k.carried;
  faults = faultless_then a b c h.faults k.faults;
}

pub first_then : (cs ds : List UserCall) (a b c : Side) → Makes cs a b → MakesFirst ds b c → MakesFirst (cs ++ ds) a c
first_then cs ds a b c h k = record {
  done = cs ++ k.done;
  part = prefix_after cs k.done ds k.part;
  makes = makes_then cs k.done a b c h k.makes;
}

-- all of the acts so far, and one more
pub made_more : (acts : List Act) (act : Act) (a b c : Side) → Makes (calls_of acts) a b → Makes (call_of act) b c
    → Makes (calls_of (acts ++ act ∷ [])) a c
made_more acts act a b c h k =
    subst (λ (cs : List UserCall). Makes cs a c) (sym (flat_map-append call_of acts (act ∷ []) ∙ ap (λ cs. calls_of acts ++ cs) (append-nil (call_of act))))
    (makes_then (calls_of acts) (call_of act) a b c h k)

-- the act after some failed, and others would have come
pub made_first : (acts : List Act) (act : Act) (rest : List Act) (a b c : Side) → Makes (calls_of acts) a b → MakesFirst (call_of act) b c
    → MakesFirst (calls_of (acts ++ act ∷ rest)) a c
made_first acts act rest a b c h k =
    let all : MakesFirst (calls_of acts ++ call_of act) a c = first_then (calls_of acts) (call_of act) a b c h k in
    record {
      done = all.done;
      part = subst (λ (cs : List UserCall). IsPrefixOf all.done cs)
          (append_assoc (calls_of acts) (call_of act) (calls_of rest) ∙ sym (flat_map-append call_of acts (act ∷ rest)))
          (prefix_of_first all.done (calls_of acts ++ call_of act) (calls_of rest) all.part);
      makes = all.makes;
    }

-- nothing was carried out
pub makes_nothing : (cs : List UserCall) (a b : Side) → Makes [] a b → MakesFirst cs a b
makes_nothing cs a b h = record { done = []; part = (cs, refl); makes = h }

-- all was
pub makes_whole : (cs : List UserCall) (a b : Side) → Makes cs a b → MakesFirst cs a b
makes_whole cs a b h = record { done = cs; part = ([], sym (append-nil cs)); makes = h }

pub makes_all : {T E : Type 0} (cs : List UserCall) (r : Result T E) (a b : Side) → Makes cs a b → MakesAll cs r a b
makes_all cs (Ok t) a b h = h
makes_all cs (Err e) a b h = makes_whole cs a b h

-- what carries out the acts before the rest was made
pub record MadeUpTo (acts rest : List Act) (a b : Side) : Type 0 where
  pub done : List Act
  pub split : acts ≡ done ++ rest
  pub makes : Makes (calls_of done) a b

pub made_none : (acts : List Act) (a : Side) → MadeUpTo acts acts a a
made_none acts a = record { done = []; split = refl; makes = makes_same a }

pub made_next : (acts : List Act) (act : Act) (rest : List Act) (a b c : Side) → MadeUpTo acts (act ∷ rest) a b → Makes (call_of act) b c
    → MadeUpTo acts rest a c
made_next acts act rest a b c h k = record {
  done = h.done ++ act ∷ [];
  split = h.split ∙ sym (append_assoc h.done (act ∷ []) rest);
  makes = made_more h.done act a b c h.makes k;
}

pub made_partly : (acts : List Act) (act : Act) (rest : List Act) (a b c : Side) → MadeUpTo acts (act ∷ rest) a b → MakesFirst (call_of act) b c
    → MakesFirst (calls_of acts) a c
made_partly acts act rest a b c h k =
    subst (λ (bs : List Act). MakesFirst (calls_of bs) a c) (sym h.split) (made_first h.done act rest a b c h.makes k)

pub made_whole : (acts : List Act) (a b : Side) → MadeUpTo acts [] a b → Makes (calls_of acts) a b
made_whole acts a b h =
    subst (λ (bs : List Act). Makes (calls_of bs) a b) (sym (h.split ∙ append-nil h.done)) h.makes

-- ---- a core whose state changes

-- what is seen of the core does not matter
pub makes_between : (cs : List UserCall) (g h : GateState) (users : UsersSeen) (links : LinksSeen) (b : Side) → Makes cs (seen h users links) b
    → Makes cs (seen g users links) b
makes_between cs g h users links b m = record {
  carried = record { calls = m.carried.calls; users = m.carried.users; links = m.carried.links };
  faults = record { users = m.faults.users; links = m.faults.links };
}

pub made_ready : (cs : List UserCall) (g h : GateState) (a b : UsersSeen) (xs ys : LinksSeen) → Makes cs (seen g a xs) (seen g b xs) → ys ≡ xs
    → Makes cs (seen g a xs) (seen h b ys)
made_ready cs g h a b xs ys m same =
    subst (λ (ks : LinksSeen). Makes cs (seen g a xs) (seen h b ks)) (sym same)
    (record {
      carried = record { calls = m.carried.calls; users = m.carried.users; links = m.carried.links };
      faults = record { users = m.faults.users; links = m.faults.links };
    })

module _ (e : Event) (g h : GateState) (users : UsersSeen) (links : LinksSeen) where
  -- memory ran out in the step
  pub nothing_done : TakesStepPartly e (seen g users links) (seen h users links)
  nothing_done = record {
    makes = makes_nothing (calls_of (next g e).1) (seen g users links) (seen h users links)
        (made_ready [] g h users users links links (makes_same (seen g users links)) refl);
  }

  pub steps_all : {T E : Type 0} (r : Result T E) (acts : List Act) (b : Side) → h ≡ (next g e).0 → acts ≡ (next g e).1
      → MakesAll (calls_of acts) r (seen h users links) b → b.state ≡ h → Steps e r (seen g users links) b
  steps_all (Ok t) acts b after_ done m kept = record {
    state = kept ∙ after_;
    makes = subst (λ (xs : List Act). Makes (calls_of xs) (seen g users links) b) done
        (makes_between (calls_of acts) g h users links b m);
  }
  steps_all (Err x) acts b after_ done m kept = record {
    makes = subst (λ (xs : List Act). MakesFirst (calls_of xs) (seen g users links) b) done
        (record { done = m.done; part = m.part; makes = makes_between m.done g h users links b m.makes });
  }

-- the same events
pub took_is : (es fs : List Event) (a b : Side) → es ≡ fs → Took es a b → Took fs a b
took_is es fs a b is t = subst (λ (xs : List Event). Took xs a b) is t

pub took_on : (es : List Event) (before : Side) (g h : GateState) (users : UsersSeen) (xs ys : LinksSeen) → h ≡ g → ys ≡ xs
    → Took es before (seen g users xs) → Took es before (seen h users ys)
took_on es before g h users xs ys state same t =
    subst (λ (s : GateState). Took es before (seen s users ys)) (sym state)
    (subst (λ (ks : LinksSeen). Took es before (seen g users ks)) (sym same) t)

pub runs_from : {T : Type 0} (r : Result T GateError) (g h : GateState) (users : UsersSeen) (xs ys : LinksSeen) (c : Side) → h ≡ g → ys ≡ xs
    → Runs r (seen h users ys) c → Runs r (seen g users xs) c
runs_from r g h users xs ys c state same k =
    subst (λ (s : GateState). Runs r (seen s users xs) c) state (subst (λ (ks : LinksSeen). Runs r (seen h users ks) c) same k)

module _ {T : Type 0} where
  -- of as many cores as before
  pub runs_cores : (r : Result T GateError) (a b : Side) → Runs r a b → b.links.cores ≡ a.links.cores
  runs_cores (Ok t) a b k = k.carried.links.cores
  runs_cores (Err e) a b k = k.carried.links.cores

  -- as many links as before
  pub runs_count : (r : Result T GateError) (a b : Side) → Runs r a b → length b.links.links ≡ length a.links.links
  runs_count (Ok t) a b k =
      same_count (λ place. packets_at a.links.cores place k.events) a.links.links b.links.links k.carried.links.each
  runs_count (Err e) a b k =
      same_count (λ place. packets_at a.links.cores place k.events) a.links.links b.links.links k.carried.links.each
