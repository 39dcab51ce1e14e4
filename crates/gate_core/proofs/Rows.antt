-- Each row of the step table keeps what holds of a user.
use Rattle.std.proofs.Common.{◌≡◌, ℕ, ◌+◌, ◌-◌, ◌^◌, ◌≤◌, length, Bool, true, false, cond, List, [], ◌∷◌, ◌++◌, Option, Some, None, refl, sym, ap, subst, ◌∙◌, inl, inr, arith}
use Rattle.std.proofs.Common.{append-nil, true≢false}
use Rattle.std.specs.Prelude.{◌==◌, ◌&&◌, map, nat_le, nat_lt, slice_get, Ok, Err}
use Rattle.std.specs.FinMap as finite
use Rattle.std.proofs.lemmas.Bool.{eq-eqb, ne_eqb, cases_eq, cases_lt, le-leb, leb-true, lt-leb, and_cases, and_left, and_parts, and_right}
use Rattle.nop_types.specs.Given as given
use Rattle.nop_types.specs.Given.{Given, Packet, Ticked}
use Rattle.nop_types.specs.Machine.{Machine}
use Rattle.nop_types.specs.declared.input.Tick.TheVariants as ticks
use Rattle.nop_types.specs.Lists.{Has}
use Rattle.lemmas.proofs.Members.{Has-append_left, Has-append_right, Has-cases, Has-first, Has-none, Has-rest}
use Rattle.lemmas.proofs.Places.{slice_get-append_at}
use Rattle.resp.proofs.RequestLemmas.{read_begins}
use Rattle.resp.specs.Reading.{Read, read_request}
use Rattle.resp.specs.Spelling.{spelled, Begins}
use Rattle.resp.specs.declared.parsed.Stop.TheVariants.{More, Wrong}
use Rattle.kv_resp.specs.Table as table
use Rattle.kv_resp.specs.Table.{Action, asked}
use Rattle.kv_resp.specs.declared.demand.Form.{Form}
use Rattle.desk.specs.Desks as desks
use Rattle.desk.specs.Desks.{has_room, Take, Leave, Comes}
use Rattle.desk.specs.Runs as runs
use Rattle.desk.specs.declared.desk_state.DeskState.{DeskState}
use Rattle.desk.specs.declared.submitter.Labelled.{Labelled}
use Rattle.observer.specs.ObserverSteps.{Observer}
use Rattle.watching.specs.Turns.{Turn}
use Rattle.users.specs.declared.event.UserEvent.TheVariants as users
use Rattle.gate_core.specs.declared.act.Act.{Act}
use Rattle.gate_core.specs.declared.act.Act.TheVariants.{Reply, Close, Waits}
use Rattle.gate_core.specs.declared.act.Event.{Event}
use Rattle.gate_core.specs.declared.act.Event.TheVariants as events
use Rattle.gate_core.specs.declared.gate_state.GateState.{GateState}
use Rattle.gate_core.specs.declared.near.NearAnswer.{NearAnswer}
use Rattle.gate_core.specs.declared.session.InFlight.{InFlight}
use Rattle.gate_core.specs.declared.session.InFlight.TheVariants as flight
use Rattle.gate_core.specs.declared.session.Session.{Session}
use Rattle.gate_core.specs.declared.limits.TheConstants.{MAX_USERS, MAX_WAITING_BYTES}
use Rattle.gate_core.specs.Gates.{admitted, ask_for, ask_free, ask_read, ask_with, busy, came_of, fresh, comes, demanded, ended, executed, idle_op, info, is_new, key_to_ask, left_by, left_of, looked, near_answer, near_read, near_replied, near_user, next, no_observers, no_request, opened, quiet, read_as, read_asked, read_from, reads_at, reassign, reassign_reader, reassign_user, read_of, read_session, replied, sent_to, session_of, slot_in, take, taken_if, too_many, too_much, unread, with_desk, with_owner, with_reader, with_session, without_session, with_turn}
use Rattle.gate_core.specs.Runs.{AreReplied, ByDesk, Exchange, Heard, Looks, OfNear, OfWatch, Shows, looked_if, looks, IsEnd, IsReplied, IsServed, Taken, Told, Takes, Inputs, Nothing, bytes_if, bytes_in, heard_by, hears, leave_if, replies_of, replies_to, requests_of, takes, takes_if, told_by_ask, told_by_demand, told_by_key, told_by_left, told_by_read, told_by_sent, told_by_session, told_in, told_leave, told_with, shown_if}
use Rattle.gate_core.proofs.Entries.{gone_elsewhere, gone_here, put_elsewhere, put_here}
use Rattle.gate_core.proofs.Serving.{Fits, end_by, ends_of, greatest, max_none, serving_unread, serving_near, IsInside, IsServing, Rests, each_more, fits_more, own_reply, served_bytes, served_end, served_more, served_push, serving_bytes, serving_more, serving_push}
use Rattle.gate_core.proofs.Answering.{inside_quiet, inside_same, other_fresh, other_reply, tell_all_keeps}

has_map : {A B : Type 0} (f : A → B) (xs : List A) (x : A) → Has xs x → Has (map f xs) (f x)
has_map f [] x h = absurd (Has-none x h)
has_map f (y ∷ ys) x h = elim (Has-cases x y ys h) [
  | inl e ↦ Has-first (f x) (f y) (map f ys) (ap f e)
  | inr k ↦ Has-rest (f x) (f y) (map f ys) (has_map f ys x k)
]

module _ (user : ℕ) where
  -- what is heard in a step
  abbrev pub tells : (sent : ℕ) → GateState → Told → List Heard
  tells sent g t = heard_by user g t sent

  abbrev pub Keeps : (ops : List Taken) (told : List Heard) (bytes : List ℕ) (replies : List (List ℕ)) → (GateState × List Act) → Type 0
  Keeps ops told bytes replies p = IsInside ops told user bytes (replies ++ replies_to user p.1) p.0

  -- ---- what the desk told is passed on

  module _ (ops : List Taken) (told : List Heard) (bytes : List ℕ) (replies : List (List ℕ)) where
    told_now : (slot : ℕ) (d : DeskState) (e : desks.Event) (l : Labelled) → Has (desks.next d e).1 l
        → Has (told ++ hears slot (length bytes) (runs.gave d (e ∷ []))) (ByDesk l slot (length bytes))
    told_now slot d e l h =
        let k : Has (runs.gave d (e ∷ [])) l = Has-append_left (desks.next d e).1 [] l h in
        Has-append_right told (hears slot (length bytes) (runs.gave d (e ∷ []))) (ByDesk l slot (length bytes))
        (has_map (λ (m : Labelled). ByDesk m slot (length bytes)) (runs.gave d (e ∷ [])) l k)

    -- an input of a core
    pub comes_keeps : (g : GateState) (core : ℕ) (x : Given) → IsInside ops (told ++ tells (length bytes) g (Inputs core x)) user bytes replies g
        → Keeps ops (told ++ tells (length bytes) g (Inputs core x)) bytes replies (comes g core x)
    comes_keeps g core x h =
        let d = (desks.next g.desk.state (Comes core x)).0 in
        tell_all_keeps ops (told ++ tells (length bytes) g (Inputs core x)) user bytes (came_of x) (desks.next g.desk.state (Comes core x)).1 (with_desk g d) replies
        (told_now (slot_in (came_of x)) g.desk.state (Comes core x))
        (inside_same ops (told ++ tells (length bytes) g (Inputs core x)) user bytes replies g (with_desk g d) refl refl h)

    -- an op that the desk takes
    pub take_keeps : (g : GateState) (owner : Option ℕ) (t : Taken) → IsInside ops (told ++ tells (length bytes) g (Takes t)) user bytes replies g
        → Keeps ops (told ++ tells (length bytes) g (Takes t)) bytes replies (take g owner t.op)
    take_keeps g owner t h =
        let d = (desks.next g.desk.state (Take t.op)).0 in
        let now = told ++ tells (length bytes) g (Takes t) in
        tell_all_keeps ops now user bytes [] (desks.next g.desk.state (Take t.op)).1 (with_owner (with_desk g d) g.desk.state.taken owner) replies
        (told_now (slot_in []) g.desk.state (Take t.op))
        (inside_same ops now user bytes replies g (with_owner (with_desk g d) g.desk.state.taken owner) refl refl h)

  -- the near observer is looked at for the user
  looked_now : (told : List Heard) (near : Machine Observer) (sent : ℕ) → Has (told ++ looked_if (user == user) near sent) (OfNear near sent)
  looked_now told near sent =
      Has-append_right told (looked_if (user == user) near sent) (OfNear near sent)
      (subst (λ (b : Bool). Has (looked_if b near sent) (OfNear near sent)) (sym (eq-eqb user user refl))
      (Has-first (OfNear near sent) (OfNear near sent) [] refl))

  -- ---- one that leaves, or is ended

  module _ (ops : List Taken) (told : List Heard) (bytes : List ℕ) (replies : List (List ℕ)) where
    left_session : (a : Option InFlight) (g : GateState) (v : ℕ) → session_of (left_by a g) v ≡ session_of g v
    left_session None g v = refl
    left_session (Some (flight.Op a)) g v = refl
    left_session (Some (flight.Read r)) g v = refl

    left_new : (a : Option InFlight) (g : GateState) (v : ℕ) → is_new (left_by a g) v ≡ is_new g v
    left_new None g v = refl
    left_new (Some (flight.Op a)) g v = refl
    left_new (Some (flight.Read r)) g v = refl

    pub left_inside : (a : Option InFlight) (g : GateState) → IsInside ops told user bytes replies g → IsInside ops told user bytes replies (left_by a g)
    left_inside a g h = inside_same ops told user bytes replies g (left_by a g) (left_session a g user) (left_new a g user) h

    -- another one is replied to, and its session changes
    pub others_session : (g h : GateState) (other : ℕ) (acts : List Act) → session_of h user ≡ session_of g user → is_new h user ≡ is_new g user
        → replies_to user acts ≡ [] → IsInside ops told user bytes replies g → Keeps ops told bytes replies (h, acts)
    others_session g h other acts same known none is =
        inside_quiet ops told user bytes replies (replies_to user acts) h none (inside_same ops told user bytes replies g h same known is)

    -- this one's session is gone, and it was served
    pub gone : (g : GateState) → is_new g user ≡ false → IsServed ops told user bytes replies
        → IsInside ops told user bytes replies (without_session g user)
    gone g known served = record {
      known = known;
      fits = subst (λ (o : Option Session). Fits ops told user bytes replies o) (sym (gone_here g.sessions user)) served;
    }

    -- its session is this one
    pub here : (g : GateState) (s : Session) → is_new g user ≡ false → IsServing ops told user bytes replies s
        → IsInside ops told user bytes replies (with_session g user s)
    here g s known serving = record {
      known = known;
      fits = subst (λ (o : Option Session). Fits ops told user bytes replies o) (sym (put_here g.sessions user s)) serving;
    }

  end_replies : (bytes : List ℕ) → replies_to user (Reply user bytes ∷ Close user ∷ []) ≡ bytes ∷ []
  end_replies bytes = own_reply user bytes

  other_end : (other : ℕ) (bytes : List ℕ) → (user ≡ other → ⊥) → replies_to user (Reply other bytes ∷ Close other ∷ []) ≡ []
  other_end other bytes d = other_reply user other bytes d

  -- ---- requests

  abbrev pub idle : (seen : ℕ) → (rest : List ℕ) → Session
  idle seen rest = record { waiting = rest; asked = None; seen = seen }

  abbrev pub open_session : GateState → (seen : ℕ) → (rest : List ℕ) → Form → Session
  open_session g seen rest form =
      record { waiting = rest; asked = Some (flight.Op (record { ticket = g.desk.state.taken; form = form })); seen = seen }

  abbrev pub read_session_of : (seen : ℕ) → (rest key : List ℕ) → Session
  read_session_of seen rest key =
      record { waiting = rest; asked = Some (flight.Read (record { key = key; under_way = None })); seen = seen }

  -- what is replied without a result
  abbrev pub exchange : (arguments : List (List ℕ)) → (reply : List ℕ) → Exchange
  exchange arguments reply = record { arguments = arguments; ticket = None; slot = 0; reply = reply }

  module _ (ops : List Taken) (told : List Heard) (bytes : List ℕ) (replies : List (List ℕ)) (g : GateState) (known : is_new g user ≡ false)
      (xs : List Exchange) (arguments : List (List ℕ)) (rest : List ℕ) (seen : ℕ) (each : AreReplied ops told user 0 0 xs) (seen_is : seen ≡ greatest 0 xs)
      (bytes_are : bytes ≡ requests_of xs ++ (spelled arguments ++ rest)) (replies_are : replies ≡ replies_of xs) where
    -- it is replied to at once
    abbrev pub end_here : ℕ
    end_here = ends_of 0 xs + length (spelled arguments)

    at_once : (reply : List ℕ) → IsReplied ops told user (greatest 0 xs) end_here (asked arguments) None 0 reply
        → Keeps ops told bytes replies (replied g user (idle seen rest) reply)
    at_once reply is =
        subst (λ (rs : List (List ℕ)). IsInside ops told user bytes (replies ++ rs) (with_session g user (idle seen rest))) (sym (own_reply user reply))
        (here ops told bytes (replies ++ reply ∷ []) g (idle seen rest) known
        (serving_push ops told user xs (exchange arguments reply) bytes rest replies each is bytes_are replies_are seen
        (seen_is ∙ max_none (greatest 0 xs))))

    at_end : (reply : List ℕ) → IsReplied ops told user (greatest 0 xs) end_here (asked arguments) None 0 reply → Keeps ops told bytes replies (ended g user reply)
    at_end reply is =
        subst (λ (rs : List (List ℕ)). IsInside ops told user bytes (replies ++ rs) (without_session g user)) (sym (end_replies reply))
        (gone ops told bytes (replies ++ reply ∷ []) g known
        (served_push ops told user xs (exchange arguments reply) bytes rest replies each is bytes_are replies_are))

    -- its op is in flight
    at_op : (op : List ℕ) (form : Form) → asked arguments ≡ table.Execute op form
        → slice_get ops g.desk.state.taken ≡ Some (record { owner = Some user; op = op })
        → IsInside ops told user bytes replies (with_session g user (open_session g seen rest form))
    at_op op form asks taken = here ops told bytes replies g (open_session g seen rest form) known (record {
      exchanges = xs;
      each = each;
      replies_are = replies_are;
      seen = seen_is;
      rests = record { arguments = arguments; op = op; asks = asks; taken = taken; bytes_are = bytes_are };
    })

    -- its read is in flight
    read_serving : (key : List ℕ) → asked arguments ≡ table.ReadAt key → IsServing ops told user bytes replies (read_session_of seen rest key)
    read_serving key asks = record {
      exchanges = xs;
      each = each;
      replies_are = replies_are;
      seen = seen_is;
      rests = record { arguments = arguments; asks = asks; way = tt; bytes_are = bytes_are };
    }

    -- it waits for a core
    at_read : (key : List ℕ) → asked arguments ≡ table.ReadAt key → Keeps ops told bytes replies (read_asked g user (idle seen rest) key)
    at_read key asks =
        let s : Session = read_session_of seen rest key in
        inside_quiet ops told user bytes replies [] (with_session g user s) refl (here ops told bytes replies g s known (read_serving key asks))

  module _ (ops : List Taken) (told : List Heard) (bytes : List ℕ) (replies : List (List ℕ)) (g : GateState) (known : is_new g user ≡ false)
      (counts : g.desk.state.taken ≡ length ops)
      (xs : List Exchange) (arguments : List (List ℕ)) (rest : List ℕ) (seen : ℕ) (each : AreReplied ops told user 0 0 xs) (seen_is : seen ≡ greatest 0 xs)
      (bytes_are : bytes ≡ requests_of xs ++ (spelled arguments ++ rest)) (replies_are : replies ≡ replies_of xs) where
    abbrev pub Done : Told → (GateState × List Act) → Type 0
    Done t p = Keeps (ops ++ takes t) (told ++ tells (length bytes) g t) bytes replies p

    each_then : (t : Told) → AreReplied (ops ++ takes t) (told ++ tells (length bytes) g t) user 0 0 xs
    each_then t = each_more ops (takes t) told (tells (length bytes) g t) user 0 0 xs each

    -- a reply without a result
    told_reply : (action : Action) (reply : List ℕ) → asked arguments ≡ action
        → IsReplied (ops ++ []) (told ++ []) user (greatest 0 xs) (ends_of 0 xs + length (spelled arguments)) action None 0 reply
        → IsReplied (ops ++ []) (told ++ []) user (greatest 0 xs) (ends_of 0 xs + length (spelled arguments)) (asked arguments) None 0 reply
    told_reply action reply is h =
        subst (λ (c : Action). IsReplied (ops ++ []) (told ++ []) user (greatest 0 xs) (ends_of 0 xs + length (spelled arguments)) c None 0 reply)
        (sym is) h

    replies_now : (reply : List ℕ)
        → IsReplied (ops ++ []) (told ++ []) user (greatest 0 xs) (ends_of 0 xs + length (spelled arguments)) (asked arguments) None 0 reply
        → Done Nothing (replied g user (idle seen rest) reply)
    replies_now reply is =
        at_once (ops ++ []) (told ++ []) bytes replies g known xs arguments rest seen (each_then Nothing) seen_is bytes_are replies_are reply is

    op_keeps : (op : List ℕ) (form : Form) → asked arguments ≡ table.Execute op form → (b : Bool)
        → Done (takes_if b (record { owner = Some user; op = op }))
        (cond b (executed g user (idle seen rest) op form) (replied g user (idle seen rest) busy))
    op_keeps op form asks true =
        let t : Taken = record { owner = Some user; op = op } in
        let at : slice_get (ops ++ t ∷ []) g.desk.state.taken ≡ Some t = ap (slice_get (ops ++ t ∷ [])) counts ∙ slice_get-append_at ops t [] in
        take_keeps (ops ++ t ∷ []) told bytes replies (with_session g user (open_session g seen rest form)) (Some user) t
        (at_op (ops ++ t ∷ []) (told ++ tells (length bytes) g (Takes t)) bytes replies g known xs arguments rest seen (each_then (Takes t)) seen_is bytes_are replies_are
        op form asks at)
    op_keeps op form asks false = replies_now busy (told_reply (table.Execute op form) busy asks refl)

    read_at_keeps : (key : List ℕ) → asked arguments ≡ table.ReadAt key → (b : Bool)
        → Done Nothing (cond b (read_asked g user (idle seen rest) key) (replied g user (idle seen rest) no_observers))
    read_at_keeps key asks true =
        at_read (ops ++ []) (told ++ []) bytes replies g known xs arguments rest seen (each_then Nothing) seen_is bytes_are replies_are key asks
    read_at_keeps key asks false = replies_now no_observers (told_reply (table.ReadAt key) no_observers asks (inl refl))

    from_keeps : (near : Option (Machine Observer)) (key : List ℕ) → asked arguments ≡ table.ReadAt key
        → Done (looks near user) (read_from (looked near key) g user (idle seen rest) key)
    from_keeps None key asks = read_at_keeps key asks (nat_lt 0 g.observers)
    from_keeps (Some o) key asks =
        let t = Looks user o in
        let now = told ++ tells (length bytes) g t in
        let s : Session = read_session_of seen rest key in
        let a : NearAnswer = near_answer o key in
        here (ops ++ []) now bytes (replies ++ replies_to user (near_read a user s).1) g (near_read a user s).0 known
        (serving_near (ops ++ []) now user o key bytes (looked_now told o (length bytes)) replies s (nat_le s.seen a.position) refl refl
        (read_serving (ops ++ []) now bytes replies g known xs arguments rest seen (each_then t) seen_is bytes_are replies_are key asks))

    -- what the watch shows now
    is_shown : Has (told ++ tells (length bytes) g (Shows user (length rest))) (OfWatch (ends_of 0 xs + length (spelled arguments)) g.watch)
    is_shown =
        let end = length bytes - length rest in
        let e : OfWatch (ends_of 0 xs + length (spelled arguments)) g.watch ≡ OfWatch end g.watch =
        ap (λ (n : ℕ). OfWatch n g.watch) (sym (end_by xs arguments bytes rest bytes_are)) in
        Has-append_right told (shown_if (user == user) end g.watch) _
        (subst (λ (b : Bool). Has (shown_if b end g.watch) (OfWatch (ends_of 0 xs + length (spelled arguments)) g.watch)) (sym (eq-eqb user user refl))
        (Has-first (OfWatch (ends_of 0 xs + length (spelled arguments)) g.watch) (OfWatch end g.watch) [] e))

    info_keeps : asked arguments ≡ table.Info → Done (Shows user (length rest)) (replied g user (idle seen rest) (info g.watch))
    info_keeps is =
        let t = Shows user (length rest) in
        let now = told ++ tells (length bytes) g t in
        at_once (ops ++ []) now bytes replies g known xs arguments rest seen (each_then t) seen_is bytes_are replies_are (info g.watch)
        (subst (λ (c : Action). IsReplied (ops ++ []) now user (greatest 0 xs) (ends_of 0 xs + length (spelled arguments)) c None 0 (info g.watch))
        (sym is) (record { watch = g.watch; shown = is_shown; replied = refl }))

    demand_keeps : (action : Action) → asked arguments ≡ action
        → Done (told_by_demand g user (length rest) action) (demanded g user (idle seen rest) action)
    demand_keeps (table.Execute op form) is = op_keeps op form is (has_room g.desk.state)
    demand_keeps (table.ReadAt key) is = from_keeps g.near key is
    demand_keeps table.Info is = info_keeps is
    demand_keeps (table.Answer reply) is = replies_now reply (told_reply (table.Answer reply) reply is refl)
    demand_keeps (table.End reply) is =
        at_end (ops ++ []) (told ++ []) bytes replies g known xs arguments rest seen (each_then Nothing) seen_is bytes_are replies_are reply
        (told_reply (table.End reply) reply is refl)

  -- nothing is told to the desk, nor taken
  no_more : (ops : List Taken) (told : List Heard) (bytes : List ℕ) (replies : List (List ℕ)) (p : GateState × List Act)
      → Keeps ops told bytes replies p → Keeps (ops ++ []) (told ++ []) bytes replies p
  no_more ops told bytes replies p h = record {
    known = h.known;
    fits = fits_more ops [] told [] user bytes (replies ++ replies_to user p.1) (session_of p.0 user) h.fits;
  }

  -- the request of the user itself
  module _ (ops : List Taken) (told : List Heard) (bytes : List ℕ) (replies : List (List ℕ)) (g : GateState) (known : is_new g user ≡ false)
      (counts : g.desk.state.taken ≡ length ops) (s : Session) (at : session_of g user ≡ Some s)
      (inside : IsInside ops told user bytes replies g) (serving : IsServing ops told user bytes replies s) where
    as_read : (r : Read (List (List ℕ))) → read_request s.waiting ≡ r → s.asked ≡ None
        → Keeps (ops ++ takes (told_by_read g user None r)) (told ++ tells (length bytes) g (told_by_read g user None r)) bytes replies (read_as g user s r)
    as_read (Ok p) is none =
        let xs = serving.exchanges in
        let begins : Begins s.waiting p.0 p.1 = read_begins s.waiting p.0 p.1 is in
        let e : bytes ≡ requests_of xs ++ s.waiting =
        subst (λ (o : Option InFlight). Rests ops told user xs bytes s.waiting o) none serving.rests in
        let bytes_are : bytes ≡ requests_of xs ++ (spelled p.0 ++ p.1) = e ∙ ap (λ (w : List ℕ). requests_of xs ++ w) begins.is in
        let t = told_by_demand g user (length p.1) (asked p.0) in
        subst (λ (o : Option InFlight). Keeps (ops ++ takes t) (told ++ tells (length bytes) g t) bytes replies
        (demanded g user (record { waiting = p.1; asked = o; seen = s.seen }) (asked p.0))) (sym none)
        (demand_keeps ops told bytes replies g known counts xs p.0 p.1 s.seen serving.each serving.seen bytes_are serving.replies_are (asked p.0) refl)
    as_read (Err More) is none = no_more ops told bytes replies (g, []) (inside_quiet ops told user bytes replies [] g refl inside)
    as_read (Err (Wrong fault)) is none =
        no_more ops told bytes replies (ended g user no_request)
        (subst (λ (rs : List (List ℕ)). IsInside ops told user bytes (replies ++ rs) (without_session g user)) (sym (end_replies no_request))
        (gone ops told bytes (replies ++ no_request ∷ []) g known
        (served_end ops told user bytes replies s (no_request ∷ []) (inr (inl refl)) serving)))

    by_asked : (o : Option InFlight) → s.asked ≡ o
        → Keeps (ops ++ takes (told_by_read g user o (read_request s.waiting))) (told ++ tells (length bytes) g (told_by_read g user o (read_request s.waiting)))
        bytes replies (read_session g user s o)
    by_asked None e = as_read (read_request s.waiting) refl e
    by_asked (Some a) e = no_more ops told bytes replies (g, []) (inside_quiet ops told user bytes replies [] g refl inside)

  -- another user is admitted, or refused
  admitted_elsewhere : (ops : List Taken) (told : List Heard) (bytes : List ℕ) (replies : List (List ℕ)) (g : GateState)
      → IsInside ops told user bytes replies g → (other : ℕ) → (user ≡ other → ⊥) → (b : Bool)
      → Keeps ops told bytes replies (cond b (g, Reply other too_many ∷ Close other ∷ []) (quiet (with_session g other fresh)))
  admitted_elsewhere ops told bytes replies g h other d true =
      others_session ops told bytes replies g g other (Reply other too_many ∷ Close other ∷ []) refl refl (other_end other too_many d) h
  admitted_elsewhere ops told bytes replies g h other d false =
      others_session ops told bytes replies g (with_session g other fresh) other [] (put_elsewhere g.sessions other fresh user d) refl refl h

  -- a number that was passed is passed for good
  pub passed : (next_user other : ℕ) (c : Bool) → (nat_le next_user user && c) ≡ false → next_user ≤ other → (nat_le (other + 1) user && c) ≡ false
  passed n other c old above = elim (cases_lt user (other + 1)) [
    | inl low ↦ and_left (nat_le (other + 1) user) c (lt-leb (other + 1) user low)
    | inr high ↦ elim (and_cases (nat_le n user) c old) [
      | inl below ↦ absurd (true≢false (sym (le-leb n user (omega (arith, above, high))) ∙ below))
      | inr below ↦ and_right (nat_le (other + 1) user) c below
    ]
  ]

  module _ (ops : List Taken) (told : List Heard) (bytes : List ℕ) (replies : List (List ℕ)) (g : GateState)
      (counts : g.desk.state.taken ≡ length ops) (inside : IsInside ops told user bytes replies g) where
    abbrev pub Then : Told → (GateState × List Act) → Type 0
    Then t p = Keeps (ops ++ takes t) (told ++ tells (length bytes) g t) bytes replies p

    as_before : (t : Told) → IsInside (ops ++ takes t) (told ++ tells (length bytes) g t) user bytes replies g
    as_before t = record {
      known = inside.known;
      fits = fits_more ops (takes t) told (tells (length bytes) g t) user bytes replies (session_of g user) inside.fits;
    }

    nothing : Then Nothing (quiet g)
    nothing = no_more ops told bytes replies (quiet g) (inside_quiet ops told user bytes replies [] g refl inside)

    own_read : (o : Option Session) → session_of g user ≡ o → Then (told_by_session g user o) (read_of o g user)
    own_read None e = nothing
    own_read (Some s) e =
        by_asked ops told bytes replies g inside.known counts s e inside
        (subst (λ (o : Option Session). Fits ops told user bytes replies o) e inside.fits) s.asked refl

    -- ---- of another user

    module _ (other : ℕ) (d : user ≡ other → ⊥) where
      none_end : (t : Told) (h : GateState) (bs : List ℕ) → session_of h user ≡ session_of g user → is_new h user ≡ is_new g user
          → Then t (h, Reply other bs ∷ Close other ∷ [])
      none_end t h bs same known =
          others_session (ops ++ takes t) (told ++ tells (length bytes) g t) bytes replies g h other (Reply other bs ∷ Close other ∷ []) same known
          (other_end other bs d) (as_before t)

      told_reply_of : (t : Told) (s : Session) (bs : List ℕ) → Then t (replied g other s bs)
      told_reply_of t s bs =
          others_session (ops ++ takes t) (told ++ tells (length bytes) g t) bytes replies g (with_session g other s) other (Reply other bs ∷ [])
          (put_elsewhere g.sessions other s user d) refl (other_reply user other bs d) (as_before t)

      none_reply : (s : Session) (bs : List ℕ) → Then Nothing (replied g other s bs)
      none_reply s bs = told_reply_of Nothing s bs

      op_elsewhere : (s : Session) (op : List ℕ) (form : Form) (b : Bool)
          → Then (takes_if b (record { owner = Some other; op = op })) (cond b (executed g other s op form) (replied g other s busy))
      op_elsewhere s op form true =
          let t : Taken = record { owner = Some other; op = op } in
          let in_flight : Session = record s { asked = Some (flight.Op (record { ticket = g.desk.state.taken; form = form })) } in
          take_keeps (ops ++ t ∷ []) told bytes replies (with_session g other in_flight) (Some other) t
          (inside_same (ops ++ t ∷ []) (told ++ tells (length bytes) g (Takes t)) user bytes replies g (with_session g other in_flight)
          (put_elsewhere g.sessions other in_flight user d) refl (as_before (Takes t)))
      op_elsewhere s op form false = none_reply s busy

      -- its session changes, and it is not replied to
      none_waits : (s : Session) → Then Nothing (with_session g other s, Waits other false ∷ [])
      none_waits s =
          others_session (ops ++ []) (told ++ []) bytes replies g (with_session g other s) other (Waits other false ∷ [])
          (put_elsewhere g.sessions other s user d) refl refl (as_before Nothing)

      read_at_elsewhere : (s : Session) (key : List ℕ) (b : Bool)
          → Then Nothing (cond b (read_asked g other s key) (replied g other s no_observers))
      read_at_elsewhere s key true = none_waits (record s { asked = Some (flight.Read (record { key = key; under_way = None })) })
      read_at_elsewhere s key false = none_reply s no_observers

      near_elsewhere : (t : Told) (s : Session) (a : NearAnswer) → Then t (near_replied a g other s)
      near_elsewhere t s a =
          others_session (ops ++ takes t) (told ++ tells (length bytes) g t) bytes replies g (with_session g other (near_read a other s).0) other
          (near_read a other s).1 (put_elsewhere g.sessions other (near_read a other s).0 user d) refl
          (other_fresh user other a.position s a.result (nat_le s.seen a.position) d) (as_before t)

      from_elsewhere : (near : Option (Machine Observer)) (s : Session) (key : List ℕ)
          → Then (looks near other) (read_from (looked near key) g other s key)
      from_elsewhere None s key = read_at_elsewhere s key (nat_lt 0 g.observers)
      from_elsewhere (Some o) s key =
          near_elsewhere (Looks other o) (record s { asked = Some (flight.Read (record { key = key; under_way = None })) }) (near_answer o key)

      near_user_elsewhere : (t : Told) (o : Option Session) (a : NearAnswer) → Then t (near_user o a g other)
      near_user_elsewhere t None a =
          inside_quiet (ops ++ takes t) (told ++ tells (length bytes) g t) user bytes replies [] g refl (as_before t)
      near_user_elsewhere t (Some s) a = near_elsewhere t s a

      demand_elsewhere : (s : Session) (rest : ℕ) (action : Action) → Then (told_by_demand g other rest action) (demanded g other s action)
      demand_elsewhere s rest (table.Execute op form) = op_elsewhere s op form (has_room g.desk.state)
      demand_elsewhere s rest (table.ReadAt key) = from_elsewhere g.near s key
      demand_elsewhere s rest table.Info = told_reply_of (Shows other rest) s (info g.watch)
      demand_elsewhere s rest (table.Answer bs) = none_reply s bs
      demand_elsewhere s rest (table.End bs) = none_end Nothing (without_session g other) bs (gone_elsewhere g.sessions other user d) refl

      read_elsewhere : (s : Session) (o : Option InFlight) (r : Read (List (List ℕ))) → read_request s.waiting ≡ r
          → Then (told_by_read g other o r) (read_session g other s o)
      read_elsewhere s None (Ok p) e =
          subst (λ (r : Read (List (List ℕ))). Then (told_by_demand g other (length p.1) (asked p.0)) (read_as g other s r)) (sym e)
          (demand_elsewhere (record s { waiting = p.1 }) (length p.1) (asked p.0))
      read_elsewhere s None (Err More) e =
          subst (λ (r : Read (List (List ℕ))). Then Nothing (read_as g other s r)) (sym e) nothing
      read_elsewhere s None (Err (Wrong fault)) e =
          subst (λ (r : Read (List (List ℕ))). Then Nothing (read_as g other s r)) (sym e)
          (none_end Nothing (without_session g other) no_request (gone_elsewhere g.sessions other user d) refl)
      read_elsewhere s (Some a) r e = nothing

      others_read : (o : Option Session) → Then (told_by_session g other o) (read_of o g other)
      others_read None = nothing
      others_read (Some s) = read_elsewhere s s.asked (read_request s.waiting) refl

    read_keeps : (other : ℕ) → Then (told_by_session g other (session_of g other)) (read_of (session_of g other) g other)
    read_keeps other = elim (cases_eq user other) [
      | inl e ↦ subst (λ (v : ℕ). Then (told_by_session g v (session_of g v)) (read_of (session_of g v) g v)) e (own_read (session_of g user) refl)
      | inr d ↦ others_read other d (session_of g other)
    ]

    -- ---- an op of the gateway itself

    ask_keeps : (b : Bool) → Then (takes_if b (record { owner = None; op = idle_op })) (cond b (take g None idle_op) (quiet g))
    ask_keeps true =
        let t : Taken = record { owner = None; op = idle_op } in
        take_keeps (ops ++ t ∷ []) told bytes replies g None t (as_before (Takes t))
    ask_keeps false = nothing

    input_keeps : (core : ℕ) (x : Given) → Then (Inputs core x) (comes g core x)
    input_keeps core x =
        comes_keeps (ops ++ []) told bytes replies g core x (as_before (Inputs core x))

    -- ---- reads of observers

    near_own : (near : Machine Observer) (key : List ℕ) (o : Option Session) → session_of g user ≡ o → key_to_ask o ≡ Some key
        → Then (Looks user near) (near_user o (near_answer near key) g user)
    near_own near key None e k = absurd (let h : None ≡ Some key = k in cc)
    near_own near key (Some s) e k =
        let t = Looks user near in
        let now = told ++ tells (length bytes) g t in
        let a : NearAnswer = near_answer near key in
        let serving : IsServing ops told user bytes replies s = subst (λ (o : Option Session). Fits ops told user bytes replies o) e inside.fits in
        here (ops ++ []) now bytes (replies ++ replies_to user (near_read a user s).1) g (near_read a user s).0 inside.known
        (serving_near (ops ++ []) now user near key bytes (looked_now told near (length bytes)) replies s (nat_le s.seen a.position) k refl
        (serving_more ops [] told (tells (length bytes) g t) user bytes replies s serving))

    near_keeps : (near : Machine Observer) (key : List ℕ) (other : ℕ) → key_to_ask (session_of g other) ≡ Some key
        → Then (Looks other near) (near_user (session_of g other) (near_answer near key) g other)
    near_keeps near key other k = elim (cases_eq user other) [
      | inl e ↦ subst (λ (v : ℕ). Then (Looks v near) (near_user (session_of g v) (near_answer near key) g v)) e
          (near_own near key (session_of g user) refl (subst (λ (v : ℕ). key_to_ask (session_of g v) ≡ Some key) (sym e) k))
      | inr d ↦ near_user_elsewhere other d (Looks other near) (session_of g other) (near_answer near key)
    ]

    with_keeps : (near : Option (Machine Observer)) (key : List ℕ) (core observer other : ℕ) → key_to_ask (session_of g other) ≡ Some key
        → Then (told_with near key core observer other) (ask_with (looked near key) key g core observer other)
    with_keeps None key core observer other k =
        let x = given.Read observer key in
        comes_keeps (ops ++ []) told bytes replies (with_reader g core other) core x
        (inside_same (ops ++ []) (told ++ tells (length bytes) g (Inputs core x)) user bytes replies g (with_reader g core other) refl refl
        (as_before (Inputs core x)))
    with_keeps (Some o) key core observer other k = near_keeps o key other k

    key_keeps : (key : Option (List ℕ)) (core observer other : ℕ) → key_to_ask (session_of g other) ≡ key
        → Then (told_by_key key g.near core observer other) (ask_for key g core observer other)
    key_keeps None core observer other k = nothing
    key_keeps (Some key) core observer other k = with_keeps g.near key core observer other k

    ask_read_keeps : (o : Option ℕ) (core observer other : ℕ)
        → Then (told_by_ask o g core observer other) (ask_free o g core observer other)
    ask_read_keeps None core observer other = key_keeps (key_to_ask (session_of g other)) core observer other refl
    ask_read_keeps (Some reader) core observer other = nothing

    own_unread : (s : Session) → session_of g user ≡ Some s → (b : Bool) → Then Nothing (taken_if b g user s)
    own_unread s e true =
        let serving : IsServing ops told user bytes replies s = subst (λ (o : Option Session). Fits ops told user bytes replies o) e inside.fits in
        let waits : Session = record s { asked = unread s.asked } in
        no_more ops told bytes replies (taken_if true g user s)
        (inside_quiet ops told user bytes replies [] (with_session g user waits) refl
        (here ops told bytes replies g waits inside.known (serving_unread ops told user bytes replies s serving)))
    own_unread s e false = nothing

    own_reassigned : (core : ℕ) (o : Option Session) → session_of g user ≡ o → Then Nothing (reassign_user o g core user)
    own_reassigned core None e = nothing
    own_reassigned core (Some s) e = own_unread s e (reads_at s.asked core)

    others_unread : (other : ℕ) → (user ≡ other → ⊥) → (s : Session) (b : Bool) → Then Nothing (taken_if b g other s)
    others_unread other d s true = none_waits other d (record s { asked = unread s.asked })
    others_unread other d s false = nothing

    others_reassigned : (core other : ℕ) → (user ≡ other → ⊥) → (o : Option Session) → Then Nothing (reassign_user o g core other)
    others_reassigned core other d None = nothing
    others_reassigned core other d (Some s) = others_unread other d s (reads_at s.asked core)

    reassign_keeps : (core : ℕ) (o : Option ℕ) → Then Nothing (reassign_reader o g core)
    reassign_keeps core None = nothing
    reassign_keeps core (Some other) = elim (cases_eq user other) [
      | inl e ↦ subst (λ (v : ℕ). Then Nothing (reassign_user (session_of g v) g core v)) e (own_reassigned core (session_of g user) refl)
      | inr d ↦ others_reassigned core other d (session_of g other)
    ]

    -- ---- users come and go

    abbrev pub raised : ℕ → GateState
    raised other = record g { next_user = other + 1 }

    pub is_raised : (other : ℕ) → is_new g other ≡ true → IsInside ops told user bytes replies (raised other)
    is_raised other new = record {
      known = passed g.next_user other (nat_lt user (2 ^ 64 - 1)) inside.known
          (leb-true g.next_user other (and_parts (nat_le g.next_user other) (nat_lt other (2 ^ 64 - 1)) new).0);
      fits = inside.fits;
    }

    opened_keeps : (other : ℕ) (b : Bool) → is_new g other ≡ b → Then Nothing (cond b (admitted (raised other) other) (quiet g))
    opened_keeps other false e = nothing
    opened_keeps other true e =
        no_more ops told bytes replies (admitted (raised other) other)
        (admitted_elsewhere ops told bytes replies (raised other) (is_raised other e) other
        (λ same. true≢false (sym e ∙ sym (ap (is_new g) same) ∙ inside.known)) (nat_le MAX_USERS (finite.len g.sessions)))

    -- ---- bytes of a user, and its leaving

    abbrev pub Sends : Told → (List ℕ) → (GateState × List Act) → Type 0
    Sends t more p = Keeps (ops ++ takes t) (told ++ tells (length bytes) g t) (bytes ++ more) replies p

    with_bytes : (t : Told) (p : GateState × List Act) (none : List ℕ) → none ≡ [] → Then t p → Sends t none p
    with_bytes t p none e h =
        subst (λ (bs : List ℕ). Keeps (ops ++ takes t) (told ++ tells (length bytes) g t) bs replies p) (sym (append-nil bytes) ∙ ap (λ (ns : List ℕ). bytes ++ ns) (sym e)) h

    -- the user's session is over
    is_over : (s : Session) → session_of g user ≡ Some s → (t : Told) (end : List (List ℕ)) → IsEnd end → (more : List ℕ)
        → IsInside (ops ++ takes t) (told ++ tells (length bytes) g t) user (bytes ++ more) (replies ++ end) (without_session (left_by s.asked g) user)
    is_over s e t end is more =
        let serving : IsServing ops told user bytes replies s = subst (λ (o : Option Session). Fits ops told user bytes replies o) e inside.fits in
        let later = serving_more ops (takes t) told (tells (length bytes) g t) user bytes replies s serving in
        gone (ops ++ takes t) (told ++ tells (length bytes) g t) (bytes ++ more) (replies ++ end) (left_by s.asked g)
        (left_new ops told bytes replies s.asked g user ∙ inside.known)
        (served_bytes (ops ++ takes t) (told ++ tells (length bytes) g t) user bytes more (replies ++ end)
        (served_end (ops ++ takes t) (told ++ tells (length bytes) g t) user bytes replies s end is later))

    own_sent : (o : Option Session) → session_of g user ≡ o → (more : List ℕ) → Sends (told_by_sent o more) more (sent_to o g user more)
    own_sent None e more =
        let served : IsServed ops told user bytes replies = subst (λ (o : Option Session). Fits ops told user bytes replies o) e inside.fits in
        inside_quiet (ops ++ []) (told ++ []) user (bytes ++ more) replies [] g refl (record {
          known = inside.known;
          fits = subst (λ (o : Option Session). Fits (ops ++ []) (told ++ []) user (bytes ++ more) replies o) (sym e)
              (served_bytes (ops ++ []) (told ++ []) user bytes more replies (served_more ops [] told [] user bytes replies served));
        })
    own_sent (Some s) e more = by_room (nat_lt MAX_WAITING_BYTES (length s.waiting + length more))
      where
        by_room : (b : Bool) → Sends (leave_if b s.asked) more
            (cond b (ended (left_by s.asked g) user too_much) (quiet (with_session g user (record s { waiting = s.waiting ++ more }))))
        by_room true =
            subst (λ (rs : List (List ℕ)). IsInside (ops ++ takes (told_leave s.asked)) (told ++ tells (length bytes) g (told_leave s.asked)) user (bytes ++ more) (replies ++ rs)
            (without_session (left_by s.asked g) user)) (sym (end_replies too_much))
            (is_over s e (told_leave s.asked) (too_much ∷ []) (inr (inr (inl refl))) more)
        by_room false =
            let serving : IsServing ops told user bytes replies s = subst (λ (o : Option Session). Fits ops told user bytes replies o) e inside.fits in
            let longer : Session = record s { waiting = s.waiting ++ more } in
            inside_quiet (ops ++ []) (told ++ []) user (bytes ++ more) replies [] (with_session g user longer) refl
            (here (ops ++ []) (told ++ []) (bytes ++ more) replies g longer inside.known
            (serving_bytes (ops ++ []) (told ++ []) user bytes more replies s (serving_more ops [] told [] user bytes replies s serving)))

    others_sent : (other : ℕ) → (user ≡ other → ⊥) → (o : Option Session) → (more : List ℕ) → Then (told_by_sent o more) (sent_to o g other more)
    others_sent other d None more = nothing
    others_sent other d (Some s) more = by_room (nat_lt MAX_WAITING_BYTES (length s.waiting + length more))
      where
        by_room : (b : Bool) → Then (leave_if b s.asked)
            (cond b (ended (left_by s.asked g) other too_much) (quiet (with_session g other (record s { waiting = s.waiting ++ more }))))
        by_room true = none_end other d (told_leave s.asked) (without_session (left_by s.asked g) other) too_much
            (gone_elsewhere (left_by s.asked g).sessions other user d ∙ left_session ops told bytes replies s.asked g user)
            (left_new ops told bytes replies s.asked g user)
        by_room false =
            others_session (ops ++ []) (told ++ []) bytes replies g (with_session g other (record s { waiting = s.waiting ++ more })) other []
            (put_elsewhere g.sessions other (record s { waiting = s.waiting ++ more }) user d) refl refl (as_before Nothing)

    sent_keeps : (other : ℕ) (more : List ℕ)
        → Sends (told_by_sent (session_of g other) more) (bytes_if (other == user) more) (sent_to (session_of g other) g other more)
    sent_keeps other more = elim (cases_eq user other) [
      | inl e ↦ subst (λ (v : ℕ). Sends (told_by_sent (session_of g v) more) (bytes_if (v == user) more) (sent_to (session_of g v) g v more)) e
          (subst (λ (b : Bool). Sends (told_by_sent (session_of g user) more) (bytes_if b more) (sent_to (session_of g user) g user more))
          (sym (eq-eqb user user refl)) (own_sent (session_of g user) refl more))
      | inr d ↦ with_bytes (told_by_sent (session_of g other) more) (sent_to (session_of g other) g other more) (bytes_if (other == user) more)
          (ap (λ (b : Bool). bytes_if b more) (ne_eqb other user (λ e. d (sym e)))) (others_sent other d (session_of g other) more)
    ]

    own_left : (o : Option Session) → session_of g user ≡ o → Then (told_by_left o) (left_of o g user)
    own_left None e = nothing
    own_left (Some s) e =
        subst (λ (bs : List ℕ). Keeps (ops ++ takes (told_leave s.asked)) (told ++ tells (length bytes) g (told_leave s.asked)) bs replies (left_of (Some s) g user))
        (append-nil bytes) (is_over s e (told_leave s.asked) [] (inl refl) [])

    others_left : (other : ℕ) → (user ≡ other → ⊥) → (o : Option Session) → Then (told_by_left o) (left_of o g other)
    others_left other d None = nothing
    others_left other d (Some s) =
        let h : GateState = without_session (left_by s.asked g) other in
        others_session (ops ++ takes (told_leave s.asked)) (told ++ tells (length bytes) g (told_leave s.asked)) bytes replies g h other []
        (gone_elsewhere (left_by s.asked g).sessions other user d ∙ left_session ops told bytes replies s.asked g user)
        (left_new ops told bytes replies s.asked g user) refl (as_before (told_leave s.asked))

    left_keeps : (other : ℕ) → Then (told_by_left (session_of g other)) (left_of (session_of g other) g other)
    left_keeps other = elim (cases_eq user other) [
      | inl e ↦ subst (λ (v : ℕ). Then (told_by_left (session_of g v)) (left_of (session_of g v) g v)) e (own_left (session_of g user) refl)
      | inr d ↦ others_left other d (session_of g other)
    ]

    turn_keeps : (t : Turn) → Then Nothing (quiet (with_turn g t))
    turn_keeps t =
        no_more ops told bytes replies (quiet (with_turn g t))
        (inside_quiet ops told user bytes replies [] (with_turn g t) refl
        (inside_same ops told user bytes replies g (with_turn g t) refl refl inside))

    -- each row keeps what holds of the user
    pub row_keeps : (e : Event) → Sends (told_in g e) (bytes_in user e) (next g e)
    row_keeps (events.Datagram core sent) = with_bytes (Inputs core (Packet sent)) (comes g core (Packet sent)) [] refl (input_keeps core (Packet sent))
    row_keeps (events.Retry core) = with_bytes (Inputs core (Ticked ticks.Retry)) (comes g core (Ticked ticks.Retry)) [] refl (input_keeps core (Ticked ticks.Retry))
    row_keeps (events.User (users.Opened other)) = with_bytes Nothing (opened g other) [] refl (opened_keeps other (is_new g other) refl)
    row_keeps (events.User (users.Sent other more)) = sent_keeps other more
    row_keeps (events.User (users.Left other)) =
        with_bytes (told_by_left (session_of g other)) (left_of (session_of g other) g other) [] refl (left_keeps other)
    row_keeps (events.Read other) =
        with_bytes (told_by_session g other (session_of g other)) (read_of (session_of g other) g other) [] refl (read_keeps other)
    row_keeps (events.Ask core observer other) =
        with_bytes (told_in g (events.Ask core observer other)) (ask_read g core observer other) [] refl
        (ask_read_keeps (finite.get g.readers core) core observer other)
    row_keeps (events.Reassign core) = with_bytes Nothing (reassign g core) [] refl (reassign_keeps core (finite.get g.readers core))
    row_keeps (events.Watch now datagram) = with_bytes Nothing (next g (events.Watch now datagram)) [] refl (turn_keeps (record { now = now; datagram = datagram }))
    row_keeps events.Idle =
        with_bytes (told_in g events.Idle) (next g events.Idle) [] refl (ask_keeps (has_room g.desk.state))
