-- What the desk of a gateway is told, and how many ops it has taken.
use Rattle.std.proofs.Common.{◌≡◌, ℕ, ◌+◌, ◌-◌, length, Bool, true, false, cond, List, [], ◌∷◌, ◌++◌, Option, Some, None, refl, sym, ap, ◌∙◌, arith}
use Rattle.std.proofs.Common.{append_assoc, length-append}
use Rattle.std.specs.Prelude.{nat_le, nat_lt, ◌==◌, Ok, Err}
use Rattle.std.specs.FinMap as finite
use Rattle.nop_types.specs.Given as given
use Rattle.nop_types.specs.Given.{Given, Packet, Ticked}
use Rattle.nop_types.specs.Machine.{Machine}
use Rattle.nop_types.specs.declared.input.Tick.TheVariants as ticks
use Rattle.resp.specs.Reading.{Read, read_request}
use Rattle.resp.specs.declared.parsed.Stop.TheVariants.{More, Wrong}
use Rattle.kv_resp.specs.Table as table
use Rattle.kv_resp.specs.Table.{Action, asked}
use Rattle.desk.specs.Desks as desks
use Rattle.desk.specs.Desks.{has_room, Take, Leave, Comes}
use Rattle.desk.specs.Runs as runs
use Rattle.desk.specs.declared.desk_state.DeskState.{DeskState}
use Rattle.desk.specs.declared.submitter.Labelled.{Labelled}
use Rattle.observer.specs.ObserverSteps.{Observer}
use Rattle.watching.specs.Watching.{Watching}
use Rattle.users.specs.declared.event.UserEvent.TheVariants as users
use Rattle.kv_resp.specs.declared.demand.Form.{Form}
use Rattle.gate_core.specs.declared.act.Act.TheVariants.{Reply, Close}
use Rattle.gate_core.specs.declared.act.Event.{Event}
use Rattle.gate_core.specs.declared.act.Event.TheVariants as events
use Rattle.gate_core.specs.declared.gate_state.GateState.{GateState}
use Rattle.gate_core.specs.declared.near.NearAnswer.{NearAnswer}
use Rattle.gate_core.specs.declared.session.InFlight.{InFlight}
use Rattle.gate_core.specs.declared.session.InFlight.TheVariants as flight
use Rattle.gate_core.specs.declared.session.Session.{Session}
use Rattle.gate_core.specs.declared.limits.TheConstants.{MAX_USERS, MAX_WAITING_BYTES}
use Rattle.gate_core.specs.Gates.{admitted, ask_for, ask_free, ask_with, busy, came_of, comes, demanded, ended, executed, fresh, idle_op, is_new, key_to_ask, left_by, left_of, looked, near_answer, near_user, next, no_observers, quiet, read_as, read_asked, read_from, reads_at, reassign_reader, reassign_user, read_of, read_session, replied, sent_to, session_of, slot_in, take, taken_if, too_many, too_much, with_desk, with_owner, with_reader, with_session}
use Rattle.gate_core.specs.Runs.{Heard, Taken, after, bytes_in, Told, Takes, Inputs, Leaves, Looks, Nothing, Shows, looked_if, looks, shown_if, told_of, told_of_one, desk_events, desk_told, heard, heard_by, hears, leave_if, takes, takes_if, told_by_ask, told_by_demand, told_by_desk, told_by_key, told_by_left, told_by_read, told_by_sent, told_by_session, told_in, told_leave, told_with}
use Rattle.gate_core.proofs.Answering.{tell_desk}

-- the desk after a step
abbrev pub desk_after : GateState → Told → DeskState
desk_after g t = runs.after g.desk.state (desk_events t)

take_desk : (g : GateState) (owner : Option ℕ) (op : List ℕ) → (take g owner op).0.desk.state ≡ (desks.next g.desk.state (Take op)).0
take_desk g owner op =
    ap (λ d. d.state) (tell_desk [] (desks.next g.desk.state (Take op)).1
    (with_owner (with_desk g (desks.next g.desk.state (Take op)).0) g.desk.state.taken owner))

comes_desk : (g : GateState) (core : ℕ) (x : Given) → (comes g core x).0.desk.state ≡ (desks.next g.desk.state (Comes core x)).0
comes_desk g core x =
    ap (λ d. d.state) (tell_desk (came_of x) (desks.next g.desk.state (Comes core x)).1 (with_desk g (desks.next g.desk.state (Comes core x)).0))

op_desk : (g : GateState) (user : ℕ) (s : Session) (op : List ℕ) (form : Form) (b : Bool)
    → (cond b (executed g user s op form) (replied g user s busy)).0.desk.state
    ≡ desk_after g (takes_if b (record { owner = Some user; op = op }))
op_desk g user s op form true =
    take_desk (with_session g user (record s { asked = Some (flight.Op (record { ticket = g.desk.state.taken; form = form })) })) (Some user) op
op_desk g user s op form false = refl

read_asked_desk : (g : GateState) (user : ℕ) (s : Session) (key : List ℕ) (b : Bool)
    → (cond b (read_asked g user s key) (replied g user s no_observers)).0.desk.state ≡ g.desk.state
read_asked_desk g user s key true = refl
read_asked_desk g user s key false = refl

read_from_desk : (near : Option (Machine Observer)) (g : GateState) (user : ℕ) (s : Session) (key : List ℕ)
    → (read_from (looked near key) g user s key).0.desk.state ≡ desk_after g (looks near user)
read_from_desk None g user s key = read_asked_desk g user s key (nat_lt 0 g.observers)
read_from_desk (Some o) g user s key = refl

demand_desk : (g : GateState) (user : ℕ) (s : Session) (rest : ℕ) (action : Action)
    → (demanded g user s action).0.desk.state ≡ desk_after g (told_by_demand g user rest action)
demand_desk g user s rest (table.Execute op form) = op_desk g user s op form (has_room g.desk.state)
demand_desk g user s rest (table.ReadAt key) = read_from_desk g.near g user s key
demand_desk g user s rest table.Info = refl
demand_desk g user s rest (table.Answer bytes) = refl
demand_desk g user s rest (table.End bytes) = refl

read_desk : (g : GateState) (user : ℕ) (s : Session) (r : Read (List (List ℕ)))
    → (read_as g user s r).0.desk.state ≡ desk_after g (told_by_read g user None r)
read_desk g user s (Ok p) = demand_desk g user (record s { waiting = p.1 }) (length p.1) (asked p.0)
read_desk g user s (Err More) = refl
read_desk g user s (Err (Wrong fault)) = refl

session_desk : (g : GateState) (user : ℕ) (s : Session) (o : Option InFlight)
    → (read_session g user s o).0.desk.state ≡ desk_after g (told_by_read g user o (read_request s.waiting))
session_desk g user s None = read_desk g user s (read_request s.waiting)
session_desk g user s (Some a) = refl

reads_desk : (g : GateState) (user : ℕ) (o : Option Session) → (read_of o g user).0.desk.state ≡ desk_after g (told_by_session g user o)
reads_desk g user None = refl
reads_desk g user (Some s) = session_desk g user s s.asked

leave_desk : (g : GateState) (a : Option InFlight) → (left_by a g).desk.state ≡ desk_after g (told_leave a)
leave_desk g None = refl
leave_desk g (Some (flight.Op a)) = refl
leave_desk g (Some (flight.Read r)) = refl

left_desk : (g : GateState) (user : ℕ) (o : Option Session) → (left_of o g user).0.desk.state ≡ desk_after g (told_by_left o)
left_desk g user None = refl
left_desk g user (Some s) = leave_desk g s.asked

room_desk : (g : GateState) (user : ℕ) (s : Session) (bytes : List ℕ) (b : Bool)
    → (cond b (ended (left_by s.asked g) user too_much) (quiet (with_session g user (record s { waiting = s.waiting ++ bytes })))).0.desk.state
    ≡ desk_after g (leave_if b s.asked)
room_desk g user s bytes true = leave_desk g s.asked
room_desk g user s bytes false = refl

sent_desk : (g : GateState) (user : ℕ) (o : Option Session) (bytes : List ℕ)
    → (sent_to o g user bytes).0.desk.state ≡ desk_after g (told_by_sent o bytes)
sent_desk g user None bytes = refl
sent_desk g user (Some s) bytes = room_desk g user s bytes (nat_lt MAX_WAITING_BYTES (length s.waiting + length bytes))

ask_desk : (g : GateState) (b : Bool) → (cond b (take g None idle_op) (quiet g)).0.desk.state
    ≡ desk_after g (takes_if b (record { owner = None; op = idle_op }))
ask_desk g true = take_desk g None idle_op
ask_desk g false = refl

admitted_desk : (g : GateState) (user : ℕ) (b : Bool)
    → (cond b (g, Reply user too_many ∷ Close user ∷ []) (quiet (with_session g user fresh))).0.desk.state ≡ g.desk.state
admitted_desk g user true = refl
admitted_desk g user false = refl

opened_desk : (g : GateState) (user : ℕ) (b : Bool)
    → (cond b (admitted (record g { next_user = user + 1 }) user) (quiet g)).0.desk.state ≡ g.desk.state
opened_desk g user true = admitted_desk (record g { next_user = user + 1 }) user (nat_le MAX_USERS (finite.len g.sessions))
opened_desk g user false = refl

near_user_desk : (o : Option Session) (a : NearAnswer) (g : GateState) (user : ℕ) → (near_user o a g user).0.desk.state ≡ g.desk.state
near_user_desk None a g user = refl
near_user_desk (Some s) a g user = refl

ask_with_desk : (near : Option (Machine Observer)) (key : List ℕ) (g : GateState) (core observer user : ℕ)
    → (ask_with (looked near key) key g core observer user).0.desk.state ≡ desk_after g (told_with near key core observer user)
ask_with_desk None key g core observer user = comes_desk (with_reader g core user) core (given.Read observer key)
ask_with_desk (Some o) key g core observer user = near_user_desk (session_of g user) (near_answer o key) g user

key_desk : (g : GateState) (key : Option (List ℕ)) (core observer user : ℕ)
    → (ask_for key g core observer user).0.desk.state ≡ desk_after g (told_by_key key g.near core observer user)
key_desk g None core observer user = refl
key_desk g (Some key) core observer user = ask_with_desk g.near key g core observer user

ask_read_desk : (g : GateState) (o : Option ℕ) (core observer user : ℕ)
    → (ask_free o g core observer user).0.desk.state ≡ desk_after g (told_by_ask o g core observer user)
ask_read_desk g None core observer user = key_desk g (key_to_ask (session_of g user)) core observer user
ask_read_desk g (Some other) core observer user = refl

reassigned_desk : (b : Bool) (g : GateState) (user : ℕ) (s : Session) → (taken_if b g user s).0.desk.state ≡ g.desk.state
reassigned_desk true g user s = refl
reassigned_desk false g user s = refl

reassign_user_desk : (o : Option Session) (g : GateState) (core user : ℕ) → (reassign_user o g core user).0.desk.state ≡ g.desk.state
reassign_user_desk None g core user = refl
reassign_user_desk (Some s) g core user = reassigned_desk (reads_at s.asked core) g user s

reassign_desk : (o : Option ℕ) (g : GateState) (core : ℕ) → (reassign_reader o g core).0.desk.state ≡ g.desk.state
reassign_desk None g core = refl
reassign_desk (Some user) g core = reassign_user_desk (session_of g user) g core user

-- the desk takes what it is told, and nothing else changes it
pub desk_step : (g : GateState) (e : Event) → (next g e).0.desk.state ≡ desk_after g (told_in g e)
desk_step g (events.Datagram core sent) = comes_desk g core (Packet sent)
desk_step g (events.Retry core) = comes_desk g core (Ticked ticks.Retry)
desk_step g (events.User (users.Opened user)) = opened_desk g user (is_new g user)
desk_step g (events.User (users.Sent user bytes)) = sent_desk g user (session_of g user) bytes
desk_step g (events.User (users.Left user)) = left_desk g user (session_of g user)
desk_step g (events.Read user) = reads_desk g user (session_of g user)
desk_step g (events.Ask core observer user) = ask_read_desk g (finite.get g.readers core) core observer user
desk_step g (events.Reassign core) = reassign_desk (finite.get g.readers core) g core
desk_step g (events.Watch now datagram) = refl
desk_step g events.Idle = ask_desk g (has_room g.desk.state)

-- ---- tickets are counted from 0

plus_none : (n : ℕ) → n ≡ n + 0
plus_none n = omega arith

taken_by : (d : DeskState) (t : Told) → (runs.after d (desk_events t)).taken ≡ d.taken + length (takes t)
taken_by d Nothing = plus_none d.taken
taken_by d (Takes t) = refl
taken_by d (Inputs core x) = plus_none d.taken
taken_by d (Leaves ticket) = plus_none d.taken
taken_by d (Shows user rest) = plus_none d.taken
taken_by d (Looks user o) = plus_none d.taken

pub counts_step : (g : GateState) (e : Event) (ops : List Taken) → g.desk.state.taken ≡ length ops
    → (next g e).0.desk.state.taken ≡ length (ops ++ takes (told_in g e))
counts_step g e ops h =
    ap (λ (d : DeskState). d.taken) (desk_step g e) ∙ taken_by g.desk.state (told_in g e)
    ∙ ap (λ (n : ℕ). n + length (takes (told_in g e))) h ∙ sym (length-append ops (takes (told_in g e)))

-- ---- runs

pub gave_append : (d : DeskState) (xs ys : List desks.Event) → runs.gave d (xs ++ ys) ≡ runs.gave d xs ++ runs.gave (runs.after d xs) ys
gave_append d [] ys = refl
gave_append d (x ∷ xs) ys =
    ap (λ (ls : List Labelled). (desks.next d x).1 ++ ls) (gave_append (desks.next d x).0 xs ys)
    ∙ sym (append_assoc (desks.next d x).1 (runs.gave (desks.next d x).0 xs) (runs.gave (runs.after (desks.next d x).0 xs) ys))

-- what is told in a step and in those after it
pub told_on : (g : GateState) (e : Event) (es : List Event)
    → runs.gave g.desk.state (desk_told g (e ∷ es))
    ≡ runs.gave g.desk.state (desk_events (told_in g e)) ++ runs.gave (next g e).0.desk.state (desk_told (next g e).0 es)
told_on g e es =
    gave_append g.desk.state (desk_events (told_in g e)) (desk_told (next g e).0 es)
    ∙ ap (λ (d : DeskState). runs.gave g.desk.state (desk_events (told_in g e)) ++ runs.gave d (desk_told (next g e).0 es)) (sym (desk_step g e))

-- ---- what is heard is what the desk tells

told_append : (xs ys : List Heard) → told_of (xs ++ ys) ≡ told_of xs ++ told_of ys
told_append [] ys = refl
told_append (x ∷ xs) ys =
    ap (λ (ls : List Labelled). told_of_one x ++ ls) (told_append xs ys) ∙ sym (append_assoc (told_of_one x) (told_of xs) (told_of ys))

told_hears : (slot sent : ℕ) (ls : List Labelled) → told_of (hears slot sent ls) ≡ ls
told_hears slot sent [] = refl
told_hears slot sent (l ∷ ls) = ap (λ (ks : List Labelled). l ∷ ks) (told_hears slot sent ls)

told_shown : (b : Bool) (end_ : ℕ) (watch : Option Watching) → told_of (shown_if b end_ watch) ≡ []
told_shown true end watch = refl
told_shown false end watch = refl

told_looked : (b : Bool) (near : Machine Observer) (sent : ℕ) → told_of (looked_if b near sent) ≡ []
told_looked true near sent = refl
told_looked false near sent = refl

told_by_step : (user : ℕ) (g : GateState) (sent : ℕ) (t : Told) → told_of (heard_by user g t sent) ≡ runs.gave g.desk.state (desk_events t)
told_by_step user g sent Nothing = refl
told_by_step user g sent (Takes t) = told_hears (slot_in []) sent (runs.gave g.desk.state (Take t.op ∷ []))
told_by_step user g sent (Inputs core x) = told_hears (slot_in (came_of x)) sent (runs.gave g.desk.state (Comes core x ∷ []))
told_by_step user g sent (Leaves ticket) = told_hears (slot_in []) sent (runs.gave g.desk.state (Leave ticket ∷ []))
told_by_step user g sent (Shows other rest) = told_shown (other == user) (sent - rest) g.watch
told_by_step user g sent (Looks other near) = told_looked (other == user) near sent

heard_told : (user sent : ℕ) (es : List Event) (g : GateState) → told_of (heard user sent g es) ≡ told_by_desk g es
heard_told user sent [] g = refl
heard_told user sent (e ∷ es) g =
    let t = told_in g e in
    let now = runs.gave g.desk.state (desk_events t) in
    let later = sent + length (bytes_in user e) in
    told_append (heard_by user g t sent) (heard user later (next g e).0 es)
    ∙ ap (λ (ls : List Labelled). ls ++ told_of (heard user later (next g e).0 es)) (told_by_step user g sent t)
    ∙ ap (λ (ls : List Labelled). now ++ ls) (heard_told user later es (next g e).0)
    ∙ sym (told_on g e es)

told_then : (before later : List Event) (g : GateState) → told_by_desk g (before ++ later) ≡ told_by_desk g before ++ told_by_desk (after g before) later
told_then [] later g = refl
told_then (e ∷ before) later g =
    let g' = (next g e).0 in
    let now = runs.gave g.desk.state (desk_events (told_in g e)) in
    told_on g e (before ++ later)
    ∙ ap (λ (ls : List Labelled). now ++ ls) (told_then before later g')
    ∙ sym (append_assoc now (told_by_desk g' before) (told_by_desk (after g' before) later))
    ∙ ap (λ (ls : List Labelled). ls ++ told_by_desk (after g' before) later) (sym (told_on g e before))

pub heard_then : (user : ℕ) (before later : List Event) (g : GateState)
    → told_by_desk g (before ++ later) ≡ told_by_desk g before ++ told_of (heard user 0 (after g before) later)
heard_then user before later g =
    told_then before later g ∙ ap (λ (ls : List Labelled). told_by_desk g before ++ ls) (sym (heard_told user 0 later (after g before)))
