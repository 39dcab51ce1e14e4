-- What single calls on the devices do.
use Rattle.std.proofs.Common.{◌≡◌, ◌==◌, ℕ, zero, suc, Bool, true, false, List, [], ◌∷◌, map, Option, Some, None, refl, sym, ap, subst, ◌∙◌}
use Rattle.std.specs.Prelude.{Result, Ok, Err, OnOk, OnErr, slice_get, slice_set}
use Rattle.nop_types.specs.declared.output.Dest.{Dest}
use Rattle.outside.specs.Causes.{CountsFor, count_after, next_count}
use Rattle.outside.specs.Links.{Polls}
use Rattle.outside.specs.Observed.{Adds, Stays}
use Rattle.outside.specs.declared.errors.DeviceError.{DeviceError}
use Rattle.outside.specs.declared.errors.DeviceError.TheVariants as devices
use Rattle.attached_links.specs.declared.attached.AttachedLink.{AttachedLink}
use Rattle.outside.specs.declared.link.Link as link_trait
use Rattle.users.specs.Events.{Gives, Traces}
use Rattle.users.specs.declared.event.UserCall.{UserCall}
use Rattle.users.specs.declared.event.UserCall.TheVariants as calls
use Rattle.users.specs.declared.event.UserEvent.{UserEvent}
use Rattle.gate_core.specs.declared.act.Act.{Act}
use Rattle.gate_core.specs.declared.act.Act.TheVariants as acts
use Rattle.gate_core.specs.declared.act.Event.TheVariants as events
use Rattle.gate_core.specs.declared.gate_state.GateState.{GateState}
use Rattle.gate.specs.declared.errors.GateError.{GateError}
use Rattle.gate.specs.declared.errors.GateError.TheVariants.{LinkFault, UsersFault, NoMemory}
use Rattle.gate.specs.declared.lines.Timers.{Timers}
use Rattle.gate.specs.Carrying.{Asks, Faultless, Makes, MakesAll, MakesFirst, Takes, TakesAll, Took, Untaken, call_of, came, datagram_of, event_of, event_with, received}
use Rattle.gate.specs.Faults.{link_fault, users_fault}
use Rattle.gate.specs.Sides.{LinkSeen, LinksSeen, Side, UsersSeen, line_seen, lines_seen, link_faults, seen}
use Rattle.gate.proofs.Taking.{all_quiet, all_same, all_set_none, all_set_one, event_takes, grows_none, grows_one, grows_same, map_set, poll_takes}
use Rattle.gate.proofs.Taking.{takes_none, takes_same}
use Rattle.gate.proofs.Running.{makes_all, makes_nothing}

get_map : {A B : Type 0} (f : A → B) (ys : List A) (i : ℕ) (x : A) → slice_get ys i ≡ Some x → slice_get (map f ys) i ≡ Some (f x)
get_map f [] i x found = absurd cc
get_map f (y ∷ ys) zero x found = let here : y ≡ x = cc in ap (λ z. Some (f z)) here
get_map f (y ∷ ys) (suc i) x found = get_map f ys i x found

set_same : {A : Type 0} (ys : List A) (i : ℕ) (x : A) → slice_get ys i ≡ Some x → slice_set ys i x ≡ ys
set_same [] i x found = refl
set_same {A} (y ∷ ys) zero x found = let here : y ≡ x = cc in ap (λ (z : A). z ∷ ys) (sym here)
set_same {A} (y ∷ ys) (suc i) x found = ap (λ (zs : List A). y ∷ zs) (set_same ys i x found)

-- ---- the line of a core

module _ {L : Type 0} (l : link_trait.Ghosts L) (n : ℕ) (ys : List (AttachedLink L Timers)) (i : ℕ) (x z : AttachedLink L Timers) (found : slice_get ys i ≡ Some x) where
  abbrev with_links : List LinkSeen → LinksSeen
  with_links ks = record { cores = n; links = ks }

  abbrev old_list : List LinkSeen
  old_list = lines_seen l ys

  abbrev set_list : List LinkSeen
  set_list = slice_set old_list i (line_seen l z)

  abbrev old_links : LinksSeen
  old_links = with_links old_list

  abbrev new_links : LinksSeen
  new_links = with_links (lines_seen l (slice_set ys i z))

  are_set : lines_seen l (slice_set ys i z) ≡ set_list
  are_set = map_set (line_seen l) ys i z

  seen_at : slice_get old_list i ≡ Some (line_seen l x)
  seen_at = get_map (line_seen l) ys i x found

  faults_are : link_faults new_links ≡ slice_set (link_faults old_links) i (l.fault_count z.link)
  faults_are =
      ap (λ (ks : List LinkSeen). link_faults (with_links ks)) are_set ∙ map_set (λ (k : LinkSeen). k.faults) old_list i (line_seen l z)

  faults_at : slice_get (link_faults old_links) i ≡ Some (l.fault_count x.link)
  faults_at = get_map (λ (k : LinkSeen). k.faults) old_list i (line_seen l x) seen_at

  same_faults : l.fault_count z.link ≡ l.fault_count x.link → link_faults new_links ≡ link_faults old_links
  same_faults same =
      faults_are ∙ ap (λ (m : ℕ). slice_set (link_faults old_links) i m) same
      ∙ set_same (link_faults old_links) i (l.fault_count x.link) faults_at

  -- its link was not called
  pub line_kept : line_seen l z ≡ line_seen l x → new_links ≡ old_links
  line_kept same =
      ap with_links (are_set ∙ ap (λ (k : LinkSeen). slice_set old_list i k) same ∙ set_same old_list i (line_seen l x) seen_at)

  takes_nothing : Takes received [] (l.answers x.link) (l.answers z.link) → TakesAll [] old_links new_links
  takes_nothing h =
      subst (λ (ks : List LinkSeen). TakesAll [] old_links (with_links ks)) (sym are_set)
      (all_set_none n old_list i (line_seen l x) (line_seen l z) seen_at h)

  pub line_sent : Stays (l.answers x.link) (l.answers z.link) → l.fault_count z.link ≡ l.fault_count x.link → Untaken old_links new_links
  line_sent stays same = record {
    answers = takes_nothing (takes_none received (l.answers x.link) (l.answers z.link) stays);
    faults = same_faults same;
  }

  -- its link was polled
  module _ (state : GateState) (users : UsersSeen) (now : ℕ) where
    abbrev from : Side
    from = seen state users old_links

    abbrev to : Side
    to = seen state users new_links

    pub polled_none : Polls (l.answers x.link) (l.answers z.link) (Ok None)
        → CountsFor {T = Option (List ℕ)} (l.fault_count x.link) (l.fault_count z.link) devices.Failed (Ok None)
        → Asks (datagram_of n now i) (Ok None) from to
    polled_none polls counts = record {
      state = refl;
      carried = record {
        calls = grows_same users.trace;
        users = takes_same came users.to_come;
        links = takes_nothing (poll_takes (l.answers x.link) (l.answers z.link) (Ok None) polls);
      };
      faults = record { users = refl; links = same_faults (counts.others (λ f. cc)) };
    }

    took_event : (b : Bool) (bytes : List ℕ) → TakesAll (event_with b now i bytes ∷ []) old_links new_links → Faultless from to
        → Took (event_with b now i bytes ∷ []) from to
    took_event true bytes taken faults = record {
      state = refl;
      carried = record { calls = grows_same users.trace; users = takes_same came users.to_come; links = taken };
      faults = faults;
    }
    took_event false bytes taken faults = record {
      state = refl;
      carried = record { calls = grows_same users.trace; users = takes_same came users.to_come; links = taken };
      faults = faults;
    }

    pub polled_some : (bytes : List ℕ) → Polls (l.answers x.link) (l.answers z.link) (Ok (Some bytes))
        → CountsFor {T = Option (List ℕ)} (l.fault_count x.link) (l.fault_count z.link) devices.Failed (Ok (Some bytes))
        → Asks (datagram_of n now i) (Ok (Some bytes)) from to
    polled_some bytes polls counts =
        took_event (i == n) bytes
        (subst (λ (ks : List LinkSeen). TakesAll (event_with (i == n) now i bytes ∷ []) old_links (with_links ks)) (sym are_set)
        (all_set_one n old_list i (line_seen l x) (line_seen l z) seen_at now bytes
        (poll_takes (l.answers x.link) (l.answers z.link) (Ok (Some bytes)) polls)))
        (record { users = refl; links = same_faults (counts.others (λ f. cc)) })

    pub polled_ok : (datagram : Option (List ℕ)) → Polls (l.answers x.link) (l.answers z.link) (Ok datagram)
        → CountsFor {T = Option (List ℕ)} (l.fault_count x.link) (l.fault_count z.link) devices.Failed (Ok datagram)
        → Asks (datagram_of n now i) (Ok datagram) from to
    polled_ok None polls counts = polled_none polls counts
    polled_ok (Some bytes) polls counts = polled_some bytes polls counts

    poll_failed : Polls (l.answers x.link) (l.answers z.link) (Err devices.Failed)
        → CountsFor {T = Option (List ℕ)} (l.fault_count x.link) (l.fault_count z.link) devices.Failed (Err devices.Failed)
        → Asks (datagram_of n now i) (Err LinkFault) from to
    poll_failed polls counts = record {
      carried = record {
        calls = grows_same users.trace;
        users = takes_same came users.to_come;
        links = takes_nothing (poll_takes (l.answers x.link) (l.answers z.link) (Err devices.Failed) polls);
      };
      cause = record {
        users = refl;
        links = record {
          core = i;
          before = l.fault_count x.link;
          was = faults_at;
          is = faults_are ∙ ap (λ (n : ℕ). slice_set (link_faults old_links) i n) (counts.failed refl);
        };
      };
    }

    poll_without_memory : Polls (l.answers x.link) (l.answers z.link) (Err devices.NoMemory)
        → CountsFor {T = Option (List ℕ)} (l.fault_count x.link) (l.fault_count z.link) devices.Failed (Err devices.NoMemory)
        → Asks (datagram_of n now i) (Err NoMemory) from to
    poll_without_memory polls counts = record {
      carried = record {
        calls = grows_same users.trace;
        users = takes_same came users.to_come;
        links = takes_nothing (poll_takes (l.answers x.link) (l.answers z.link) (Err devices.NoMemory) polls);
      };
      cause = record { users = refl; links = same_faults (counts.others (λ f. cc)) };
    }

    pub poll_stopped : (e : DeviceError) (fault : GateError) → fault ≡ link_fault e → Polls (l.answers x.link) (l.answers z.link) (Err e)
        → CountsFor {T = Option (List ℕ)} (l.fault_count x.link) (l.fault_count z.link) devices.Failed (Err e)
        → Asks (datagram_of n now i) (Err fault) from to
    poll_stopped devices.Failed fault is polls counts =
        subst (λ (f : GateError). Asks (datagram_of n now i) (Err f) from to) (sym is) (poll_failed polls counts)
    poll_stopped devices.NoMemory fault is polls counts =
        subst (λ (f : GateError). Asks (datagram_of n now i) (Err f) from to) (sym is) (poll_without_memory polls counts)

-- ---- a call of users

module _ (state : GateState) (links : LinksSeen) (a b : UsersSeen) where
  pub event_came : (r : Option UserEvent) → Gives a.to_come b.to_come (Ok r) → Traces a.trace b.trace (Ok r)
      → b.faults ≡ count_after {T = Option UserEvent} (Ok r) a.faults → Asks event_of (Ok r) (seen state a links) (seen state b links)
  event_came None gives traces counts = record {
    state = refl;
    carried = record {
      calls = grows_none a.trace b.trace traces;
      users = event_takes a.to_come b.to_come (Ok None) gives;
      links = all_same links;
    };
    faults = record { users = counts; links = refl };
  }
  event_came (Some event) gives traces counts = record {
    state = refl;
    carried = record {
      calls = grows_one a.trace b.trace (calls.Came event) traces;
      users = event_takes a.to_come b.to_come (Ok (Some event)) gives;
      links = all_quiet (events.User event ∷ []) links (λ place. refl);
    };
    faults = record { users = counts; links = refl };
  }

  users_failed : Gives a.to_come b.to_come (Err devices.Failed) → Stays a.trace b.trace → b.faults ≡ next_count a.faults
      → Asks event_of (Err UsersFault) (seen state a links) (seen state b links)
  users_failed gives stays counts = record {
    carried = record {
      calls = grows_none a.trace b.trace stays;
      users = event_takes a.to_come b.to_come (Err devices.Failed) gives;
      links = all_same links;
    };
    cause = record { users = counts; links = refl };
  }

  users_without_memory : Gives a.to_come b.to_come (Err devices.NoMemory) → Stays a.trace b.trace → b.faults ≡ a.faults
      → Asks event_of (Err NoMemory) (seen state a links) (seen state b links)
  users_without_memory gives stays counts = record {
    carried = record {
      calls = grows_none a.trace b.trace stays;
      users = event_takes a.to_come b.to_come (Err devices.NoMemory) gives;
      links = all_same links;
    };
    cause = record { users = counts; links = refl };
  }

  pub users_stopped : (e : DeviceError) (fault : GateError) → fault ≡ users_fault e → Gives a.to_come b.to_come (Err e)
      → Traces a.trace b.trace (Err e) → b.faults ≡ count_after {T = Option UserEvent} (Err e) a.faults
      → Asks event_of (Err fault) (seen state a links) (seen state b links)
  users_stopped devices.Failed fault is gives traces counts =
      subst (λ (f : GateError). Asks event_of (Err f) (seen state a links) (seen state b links)) (sym is) (users_failed gives traces counts)
  users_stopped devices.NoMemory fault is gives traces counts =
      subst (λ (f : GateError). Asks event_of (Err f) (seen state a links) (seen state b links)) (sym is)
      (users_without_memory gives traces counts)

  -- a reply, or a close
  pub call_made : (x : UserCall) → Adds a.trace b.trace x → Stays a.to_come b.to_come → b.faults ≡ a.faults
      → Makes (x ∷ []) (seen state a links) (seen state b links)
  call_made x adds stays counts = record {
    carried = record {
      calls = grows_one a.trace b.trace x adds;
      users = takes_none came a.to_come b.to_come stays;
      links = all_same links;
    };
    faults = record { users = counts; links = refl };
  }

  pub call_failed : (x : UserCall) → Stays a.trace b.trace → Stays a.to_come b.to_come → b.faults ≡ a.faults
      → MakesFirst (x ∷ []) (seen state a links) (seen state b links)
  call_failed x same stays counts =
      makes_nothing (x ∷ []) (seen state a links) (seen state b links)
      (record {
        carried = record {
          calls = grows_none a.trace b.trace same;
          users = takes_none came a.to_come b.to_come stays;
          links = all_same links;
        };
        faults = record { users = counts; links = refl };
      })

  pub call_all : {T E : Type 0} (x : UserCall) (r : Result T E) → OnOk r (Adds a.trace b.trace x) → OnErr r (Stays a.trace b.trace)
      → Stays a.to_come b.to_come → b.faults ≡ a.faults → MakesAll (x ∷ []) r (seen state a links) (seen state b links)
  call_all x (Ok t) ok err stays counts = call_made x ok stays counts
  call_all x (Err e) ok err stays counts = call_failed x err stays counts

-- ---- no call of users

module _ (state : GateState) (users : UsersSeen) (xs ys : LinksSeen) where
  pub made_by_links : {T E : Type 0} (r : Result T E) → Untaken xs ys → MakesAll [] r (seen state users xs) (seen state users ys)
  made_by_links r h =
      makes_all [] r (seen state users xs) (seen state users ys)
      (record {
        carried = record { calls = grows_same users.trace; users = takes_same came users.to_come; links = h.answers };
        faults = record { users = refl; links = h.faults };
      })

  pub made_by_none : {T E : Type 0} (r : Result T E) → ys ≡ xs → MakesAll [] r (seen state users xs) (seen state users ys)
  made_by_none r same =
      made_by_links r (record { answers = subst (TakesAll [] xs) (sym same) (all_same xs); faults = ap link_faults same })

  -- of each kind
  module _ {T E : Type 0} (act : Act) (r : Result T E) where
    pub sent_act : (core : ℕ) (dest : Dest) (bytes : List ℕ) → act ≡ acts.Send core dest bytes → Untaken xs ys
        → MakesAll (call_of act) r (seen state users xs) (seen state users ys)
    sent_act core dest bytes is h =
        subst (λ (a : Act). MakesAll (call_of a) r (seen state users xs) (seen state users ys)) (sym is) (made_by_links r h)

    pub submitted_act : (core id : ℕ) → act ≡ acts.Submitted core id → ys ≡ xs
        → MakesAll (call_of act) r (seen state users xs) (seen state users ys)
    submitted_act core id is same =
        subst (λ (a : Act). MakesAll (call_of a) r (seen state users xs) (seen state users ys)) (sym is) (made_by_none r same)

    pub reading_act : (core id : ℕ) → act ≡ acts.Reading core id → ys ≡ xs
        → MakesAll (call_of act) r (seen state users xs) (seen state users ys)
    reading_act core id is same =
        subst (λ (a : Act). MakesAll (call_of a) r (seen state users xs) (seen state users ys)) (sym is) (made_by_none r same)

  pub answered_act : (act : Act) (core id : ℕ) → act ≡ acts.Answered core id → ys ≡ xs → Makes (call_of act) (seen state users xs) (seen state users ys)
  answered_act act core id is same =
      subst (λ (a : Act). Makes (call_of a) (seen state users xs) (seen state users ys)) (sym is)
      (made_by_none {T = ℕ} {E = ℕ} (Ok 0) same)

  pub accepted_act : (act : Act) (core id : ℕ) → act ≡ acts.Accepted core id → ys ≡ xs → Makes (call_of act) (seen state users xs) (seen state users ys)
  accepted_act act core id is same =
      subst (λ (a : Act). Makes (call_of a) (seen state users xs) (seen state users ys)) (sym is)
      (made_by_none {T = ℕ} {E = ℕ} (Ok 0) same)

module _ {T E : Type 0} (act : Act) (r : Result T E) (a b : Side) where
  pub replied_act : (user : ℕ) (bytes sent : List ℕ) → act ≡ acts.Reply user bytes → sent ≡ bytes
      → MakesAll (calls.Replied user sent ∷ []) r a b → MakesAll (call_of act) r a b
  replied_act user bytes sent is same h =
      subst (λ (x : Act). MakesAll (call_of x) r a b) (sym is)
      (subst (λ (xs : List ℕ). MakesAll (calls.Replied user xs ∷ []) r a b) same h)

  pub closed_act : (user : ℕ) → act ≡ acts.Close user → MakesAll (calls.Closed user ∷ []) r a b → MakesAll (call_of act) r a b
  closed_act user is h = subst (λ (x : Act). MakesAll (call_of x) r a b) (sym is) h

-- a read waits: nothing is done for users
module _ {T E : Type 0} (act : Act) (r : Result T E) (g h : GateState) (users : UsersSeen) (xs ys : LinksSeen) where
  pub waits_act : (user : ℕ) (again : Bool) → act ≡ acts.Waits user again → h ≡ g → ys ≡ xs
      → MakesAll (call_of act) r (seen g users xs) (seen h users ys)
  waits_act user again is state same =
      subst (λ (k : GateState). MakesAll (call_of act) r (seen g users xs) (seen k users ys)) (sym state)
      (subst (λ (a : Act). MakesAll (call_of a) r (seen g users xs) (seen g users ys)) (sym is) (made_by_none g users xs ys r same))
