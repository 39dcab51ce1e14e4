-- What is written of a run spells its transcript: each of its lines is in its ranges.
use Rattle.std.proofs.Common.{◌≡◌, ◌∙◌, ◌+◌, ◌*◌, ◌≤◌, ◌<◌, ◌^◌, ℕ, zero, suc, Bool, true, List, [], ◌∷◌, ◌++◌, length, map, take, refl}
use Rattle.std.proofs.Common.{sym, ap, subst}
use Rattle.std.proofs.Common.{arith, length-append, inl, inr}
use Rattle.std.specs.Prelude.{◌/◌, ◌%◌, Option, Some, None, Ok, count_by, slice_get}
use Rattle.std.specs.Int.{w16, to_be_bytes}
use Rattle.std.specs.List.{list_all}
use Rattle.std.proofs.lemmas.Bool.{and_parts}
use Rattle.std.proofs.lemmas.List.{length-map}
use Rattle.std.proofs.lemmas.Nat.{mod_below}
use Rattle.std.proofs.lemmas.List.Folds.{list_all-append}
use Rattle.std.proofs.lemmas.Option.{slice_get_within}
use Rattle.lemmas.proofs.Bytes.{byte_first, bytes_both, no_bytes}
use Rattle.lemmas.proofs.Members.{Has-append_left, Has-filter, Has-first, Has-from_filter, Has-push_cases, Has-rest}
use Rattle.execution_laws.proofs.Shortness.{result_fits}
use Rattle.nop_types.specs.Checkpoints.{KeepsTo}
use Rattle.nop_types.specs.Configuration.{Configuration, is_configuration}
use Rattle.nop_types.specs.Headers.{gives, is_header}
use Rattle.nop_types.specs.Legality.{Legal}
use Rattle.nop_types.specs.Lines as lines
use Rattle.nop_types.specs.Lines.{Line}
use Rattle.nop_types.specs.Lists.{Has}
use Rattle.nop_types.specs.Logs.{Trimmed, length_of}
use Rattle.nop_types.specs.Meaning.{Meaning}
use Rattle.nop_types.specs.Histories.{answer_from, history_of}
use Rattle.nop_types.specs.Reads.{state_after}
use Rattle.nop_types.specs.Services.{AnswersAreBytes, IsBytes, OpsAreBytes, get_of}
use Rattle.nop_types.specs.declared.limits.TheConstants.{MAX_LENGTH, MAX_RESULT_BYTES}
use Rattle.nop_types.specs.declared.header.Header.{Header}
use Rattle.nop_types.specs.declared.output.Actor.{Actor}
use Rattle.nop_types.specs.declared.request.Entry.{Entry}
use Rattle.nop_types.specs.declared.request.Entry.TheVariants.{NoOp, Req}
use Rattle.nop_types.specs.declared.request.Request.{Request}
use Rattle.protocol.specs.Conf.{Conf}
use Rattle.protocol.specs.LocalState.{LocalState}
use Rattle.refinement.specs.Projection.{local_state_of}
use Rattle.observer.specs.ObserverSteps.{Observer}
use Rattle.observer.specs.Observing.{position}
use Rattle.replica_core.specs.ReplicaSteps.{Replica}
use Rattle.replica_rows.specs.Within.{ResultsShort}
use Rattle.replica_state.specs.State.{PointsMeet}
use Rattle.replica_state.specs.declared.state.ReplicaState.{ReplicaState}
use Rattle.replica_state.specs.Within.{IsWithin}
use Rattle.replay.proofs.Reaching.{Reached, events_reach, datagrams_go_to_actors}
use Rattle.safety.proofs.Outputs.{bytes_there}
use Rattle.safety.proofs.Replicas.{WholeSeat, whole_seat}
use Rattle.safety.specs.Following.{is_spoken, spoken, all_brought, FollowsWhole}
use Rattle.safety.specs.Safe.{SafelyPassed}
use Rattle.schedule_text.specs.declared.event.Event.{Event}
use Rattle.network.specs.Network.{Sent}
use Rattle.transcript_reader.specs.Transcripts.{Transcript, Spells, AllFit, is_event, is_state, is_watching, members, body, transcript_lines}
use Rattle.transcript_reader.specs.declared.limits.TheConstants.{MAX_TRANSCRIPT_LINES}
use Rattle.transcript_rows.specs.Rows.{RowFits, row_text}
use Rattle.transcript_rows.specs.LineRows.{row_of}
use Rattle.transcript_rows.specs.declared.row.Row.{Row}
use Rattle.transcript_rows.specs.declared.row.Row.TheVariants.{End}
use Rattle.transcript_text.specs.Transcript.{transcript_line, lines_text}
use Rattle.whole_world.proofs.Counts.{counts_from}
use Rattle.whole_world.specs.Passed.{Passed, first, passes, passed, passed_from}
use Rattle.whole_world.specs.Safe.{IsSafe}
use Rattle.whole_world.specs.Whole.{WholeWorld, Brings, whole_run, whole_step}
use Rattle.world.specs.Archive.{with_archive}
use Rattle.world.specs.Ending.{final_text}
use Rattle.world.specs.Seats.{Seated}
use Rattle.world.specs.WorldSteps.{Happened, run, history, log_of, main_log}
use Rattle.judged_runs.proofs.Datagrams.{datagram_is}
use Rattle.judged_runs.proofs.Lines.{LinesShow, runs_tell}
use Rattle.judged_runs.proofs.Ops.{AreRead, read_fit}
use Rattle.judged_runs.proofs.Outs.{IsRequest, IsAsked}
use Rattle.judged_runs.proofs.Rows.{both, Counts, counts_of, IsResult, IsReadResult, IsSent, EntryIs, line_row, state_row, slot_row}
use Rattle.judged_runs.proofs.Rows.{watching_row, member_row}
use Rattle.judged_runs.proofs.Texts.{run_text, lines_counted}
use Rattle.judged_runs.specs.Runs.{slot_rows, rows_of, state_rows, watching_rows, transcript_of, is_line_end, HasRoom}

-- ---- lists of rows

fit_both : (xs ys : List Row) → AllFit xs → AllFit ys → AllFit (xs ++ ys)
fit_both [] ys f g = g
fit_both (x ∷ xs) ys f g = (f.0, fit_both xs ys f.1 g)

mapped_fit : (ls : List Line) → ((l : Line) → Has ls l → RowFits (row_of l)) → AllFit (map row_of ls)
mapped_fit [] all = tt
mapped_fit (l ∷ ls) all = (all l (Has-first l l ls refl), mapped_fit ls (λ x h. all x (Has-rest x l ls h)))

line_is_event : (l : Line) → is_event (row_of l) ≡ true
line_is_event (lines.Dead actor) = refl
line_is_event _ = refl

first_then : (p : Row → Bool) (x : Row) (xs : List Row) → p x ≡ true → list_all p xs ≡ true → list_all p (x ∷ xs) ≡ true
first_then p x xs e f = rw e f

both_all : (p : Row → Bool) (xs ys : List Row) → list_all p xs ≡ true → list_all p ys ≡ true → list_all p (xs ++ ys) ≡ true
both_all p xs ys e f = list_all-append p xs ys ∙ both (list_all p xs) (list_all p ys) e f

all_events : (ls : List Line) → list_all is_event (map row_of ls) ≡ true
all_events [] = refl
all_events (l ∷ ls) = first_then is_event (row_of l) (map row_of ls) (line_is_event l) (all_events ls)

all_slots : (i slot : ℕ) (es : List Entry) → list_all is_state (slot_rows i slot es) ≡ true
all_slots i slot [] = refl
all_slots i slot (e ∷ es) = all_slots i (slot + 1) es

all_states : (archive : List Entry) (i : ℕ) (ps : List (Seated Replica)) → list_all is_state (state_rows archive i ps) ≡ true
all_states archive i [] = refl
all_states archive i (p ∷ ps) =
    both_all is_state (rows_of archive i p) (state_rows archive (i + 1) ps) (all_slots i 1 (take p.state.state.sync.sync_point archive))
    (all_states archive (i + 1) ps)

all_watching : (i : ℕ) (ps : List (Seated Observer)) → list_all is_watching (watching_rows i ps) ≡ true
all_watching i [] = refl
all_watching i (p ∷ ps) = all_watching (i + 1) ps

-- ---- the lines at the end

module _ (c : Configuration) (counts : Counts c) where
  -- such entries, not too many
  slots_fit : (i : ℕ) → i < c.replicas → (slot : ℕ) (es : List Entry) → 1 ≤ slot → slot + length es ≤ 2 ^ 32
      → ((e : Entry) → Has es e → EntryIs c counts e) → AllFit (slot_rows i slot es)
  slots_fit i own slot [] low room all = tt
  slots_fit i own slot (e ∷ es) low room all = (
    slot_row c counts i slot e own low (omega (arith, room)) (all e (Has-first e e es refl)),
    slots_fit i own (slot + 1) es (omega arith) (omega (arith, room)) (λ x h. all x (Has-rest x e es h)),
  )

  -- no more than so many
  prefix_short : (n : ℕ) (es : List Entry) → length (take n es) ≤ n
  prefix_short zero es = omega arith
  prefix_short (suc n) [] = omega arith
  prefix_short (suc n) (e ∷ es) = let h = prefix_short n es in omega (arith, h)

  module _ (archive : List Entry) where
    -- what is shown of a replica
    record IsShown (i : ℕ) (p : Seated Replica) : Type 0 where
      own : i < c.replicas
      within : IsWithin p.state.state
      synced : (e : Entry) → Has (take p.state.state.sync.sync_point archive) e → EntryIs c counts e

    replica_fits : (i : ℕ) (p : Seated Replica) → IsShown i p → AllFit (rows_of archive i p)
    replica_fits i p is =
        let s : ReplicaState = p.state.state in
        let len : length_of Trimmed s.log ≤ MAX_LENGTH = is.within.log.limit in
        let point : s.sync.sync_point ≤ length_of Trimmed s.log = is.within.sync_point in
        let short = prefix_short s.sync.sync_point archive in (
          state_row c counts i p.crashed s.status s.view (length_of Trimmed s.log) s.sync.sync_point is.own is.within.view
              (omega (arith, len)) (omega (arith, len, point)),
          slots_fit i is.own 1 (take s.sync.sync_point archive) (omega arith) (omega (arith, len, point, short)) is.synced,
        )

    states_fit : (i : ℕ) (ps : List (Seated Replica)) → ((j : ℕ) (p : Seated Replica) → slice_get ps j ≡ Some p → IsShown (i + j) p)
        → AllFit (state_rows archive i ps)
    states_fit i [] all = tt
    states_fit i (p ∷ ps) all =
        fit_both (rows_of archive i p) (state_rows archive (i + 1) ps)
        (replica_fits i p (let e : i + 0 ≡ i = omega arith in subst (λ (k : ℕ). IsShown k p) e (all 0 p refl)))
        (states_fit (i + 1) ps
        (λ j q h. let e : i + suc j ≡ (i + 1) + j = omega arith in subst (λ (k : ℕ). IsShown k q) e (all (suc j) q h)))

  -- what is shown of an observer
  record IsWatched (i : ℕ) (p : Seated Observer) : Type 0 where
    own : i < c.observers
    high : position p.state.heard.state < 2 ^ 32

  watching_fit : (i : ℕ) (ps : List (Seated Observer)) → ((j : ℕ) (p : Seated Observer) → slice_get ps j ≡ Some p → IsWatched (i + j) p)
      → AllFit (watching_rows i ps)
  watching_fit i [] all = tt
  watching_fit i (p ∷ ps) all =
      let here : IsWatched i p = (let e : i + 0 ≡ i = omega arith in subst (λ (k : ℕ). IsWatched k p) e (all 0 p refl)) in (
        watching_row c counts i p.crashed (position p.state.heard.state) here.own here.high,
        watching_fit (i + 1) ps
            (λ j q h. let e : i + suc j ≡ (i + 1) + j = omega arith in subst (λ (k : ℕ). IsWatched k q) e (all (suc j) q h)),
      )

  members_fit : (place : ℕ) (rs : List Request) → 1 ≤ place → place + length rs ≤ 2 ^ 32 → ((r : Request) → Has rs r → IsRequest c r)
      → AllFit (members place rs)
  members_fit place [] low room all = tt
  members_fit place (r ∷ rs) low room all = (
    member_row c counts place r low (omega (arith, room)) (all r (Has-first r r rs refl)),
    members_fit (place + 1) rs (omega arith) (omega (arith, room)) (λ q h. all q (Has-rest q r rs h)),
  )

-- ---- how many lines there are

length_members : (place : ℕ) (rs : List Request) → length (members place rs) ≡ length rs
length_members place [] = refl
length_members place (r ∷ rs) = let h = length_members (place + 1) rs in omega (arith, h)

-- the lines of the events and the members are among those of the transcript
record IsFew (h : Happened) : Type 0 where
  lines : length h.lines ≤ MAX_TRANSCRIPT_LINES
  members : length (history h.world) + 2 ≤ MAX_TRANSCRIPT_LINES

few : (d : Header) (h : Happened) → length (transcript_lines (transcript_of d h)) ≤ MAX_TRANSCRIPT_LINES → IsFew h
few d h most =
    let t : Transcript = transcript_of d h in
    let all : List Row = members 1 (history h.world) in
    let a = length-map (body t) row_text in
    let b = length-append t.events (t.states ++ (t.observers ++ (all ++ End ∷ []))) in
    let e = length-append t.states (t.observers ++ (all ++ End ∷ [])) in
    let o = length-append t.observers (all ++ End ∷ []) in
    let g = length-append all (End ∷ []) in
    let k = length_members 1 (history h.world) in
    let l = length-map h.lines row_of in
    record { lines = omega (arith, most, a, b, e, o, g, k, l); members = omega (arith, most, a, b, e, o, g, k, l) }

-- ---- what is read

two_bytes : (n : ℕ) → IsBytes (to_be_bytes w16 n)
two_bytes n =
    byte_first (n / 256 % 256) (n % 256 ∷ []) (mod_below (n / 256) 256 (omega arith))
    (byte_first (n % 256) [] (mod_below n 256 (omega arith)) no_bytes)

get_bytes : (key : List ℕ) → IsBytes key → IsBytes (get_of key)
unfolding get_of
get_bytes key all =
    byte_first 71 (to_be_bytes w16 (length key) ++ key) (omega arith)
    (bytes_both (to_be_bytes w16 (length key)) key (two_bytes (length key)) all)

-- what is answered to one more op
answer_behind : {S : Type 0} (m : Meaning S) (s : S) (rs : List Request) (r : Request)
    → answer_from m s (rs ++ r ∷ []) (length rs) ≡ Some (m.answer (state_after m s rs) r.op)
answer_behind m s [] r = refl
answer_behind m s (x ∷ rs) r = answer_behind m (m.after s x.op) rs r

states_sound : {S : Type 0} (m : Meaning S) (IsSound : S → Type 0) → KeepsTo m IsSound → (s : S) (rs : List Request) → IsSound s
    → IsSound (state_after m s rs)
states_sound m IsSound keeps s [] sound = sound
states_sound m IsSound keeps s (r ∷ rs) sound = states_sound m IsSound keeps (m.after s r.op) rs (keeps.stays s r.op sound)

-- ---- the run

-- the world of what was passed
passed_world : {S : Type 0} (m : Meaning S) (q : Passed) (bs : List (Actor × Brings)) → (passed_from m q bs).world ≡ whole_run m q.world bs
passed_world m q [] = refl
passed_world m q (b ∷ bs) = passed_world m (passes q (whole_step m q.world b.0 b.1)) bs

module _ {S : Type 0} (m : Meaning S) (IsSound : S → Type 0) (keeps : KeepsTo m IsSound) (bytes : AnswersAreBytes m) (header : Header)
    (is : is_header header ≡ true) (es : List Event) (read : AreRead es) (h : Happened) (led : run m header.config es ≡ Ok h)
    (safely : SafelyPassed m header.config es h) where
  abbrev c : Configuration
  c = header.config

  is_one : is_configuration c ≡ true
  is_one = (and_parts (gives header.form c) (is_configuration c) is).1

  short : ResultsShort m
  short = result_fits m IsSound keeps.opens keeps.stays keeps.short

  abbrev safe : IsSafe m c (all_brought m c es)
  safe = safely.whole.at_last

  abbrev conf : Conf
  conf = safe.conf

  abbrev f : ℕ
  f = c.replicas / 2

  counts : Counts c
  counts = counts_of c is_one

  lines_show : LinesShow c h.world h.lines
  lines_show = runs_tell m c es h read led

  legal : Legal m h.lines (history h.world)
  legal = safely.safe.legal

  abbrev whole_one : WholeWorld
  whole_one = (passed m c (all_brought m c es)).world

  follows : FollowsWhole m h whole_one
  follows = subst (FollowsWhole m h) (sym (passed_world m (first c) (all_brought m c es))) safely.follows

  same_lines : conf.lines ≡ spoken h.lines
  same_lines = sym safe.shows.lines ∙ sym follows.lines

  submits_there : (r : Request) → Has conf.lines (lines.Submit r) → Has h.lines (lines.Submit r)
  submits_there r there =
      (Has-from_filter is_spoken (lines.Submit r) h.lines (subst (λ (ls : List Line). Has ls (lines.Submit r)) same_lines there)).0

  submitted : (r : Request) → Has h.lines (lines.Submit r) → IsRequest c r
  submitted r there = lines_show.lines (lines.Submit r) there

  -- ---- accepts and datagrams

  member_is : (r : Request) → Has (history h.world) r → IsRequest c r
  member_is r there = submitted r (legal.submitted r there)

  accepted : (k client id : ℕ) (result : List ℕ) → slice_get h.lines k ≡ Some (lines.Accept client id result)
      → IsResult c counts client id result
  accepted k client id result there =
      let before = legal.later k client id result there in
      let own = submitted before.request (before.place, before.line) in
      let answered = legal.answered k client id result there in
      let line : Has conf.lines (lines.Accept client id result) =
      subst (λ (ls : List Line). Has ls (lines.Accept client id result)) (sym same_lines)
      (Has-filter is_spoken (lines.Accept client id result) h.lines (k, there) refl) in
      let sound = safe.sound.accepts line.0 client id result line.1 in
      record {
        client = subst (λ (n : ℕ). n < c.clients) before.same.same_client own.client;
        low = subst (λ (n : ℕ). 1 ≤ n) before.same.same_id own.low;
        id = subst (λ (n : ℕ). n < 2 ^ 64) before.same.same_id own.id;
        bytes = bytes (history h.world) answered.place result (λ r i. (member_is r i).bytes) answered.answer;
        short = short sound.lead sound.slot result sound.answers;
      }

  sent : (s : Sent) (i : ℕ) → slice_get h.world.sent i ≡ Some s → IsSent c counts s
  sent s i there = record {
    dest = datagrams_go_to_actors m IsSound keeps c is_one es h (read_fit es read) led s (i, there);
    spelled = datagram_is s.bytes (follows.fragments.network.datagrams s.bytes (bytes_there h.world.sent s (i, there)));
  }

  -- ---- replicas

  reached : Reached m c h
  reached = events_reach m IsSound keeps c is_one es h (read_fit es read) led

  within : (i : ℕ) (p : Seated Replica) → slice_get h.world.replicas i ≡ Some p → IsWithin p.state.state
  within i p there = (reached.at.both.beside.travels.members i p there).within

  -- what is synchronised of a replica's log is in the archive, and of the whole log
  synced_is : (i : ℕ) (p : Seated Replica) → i < c.replicas → slice_get h.world.replicas i ≡ Some p → (e : Entry)
      → Has (take p.state.state.sync.sync_point h.world.archive) e → EntryIs c counts e
  synced_is i p own there NoOp has = tt
  synced_is i p own there (Req r) has =
      let q : WholeSeat m whole_one.replicas i p = whole_seat m h.world.replicas whole_one.replicas i p follows.replicas there in
      let points : PointsMeet p.state.state = (within i p there).points in
      let in_log : Has (with_archive h.world.archive p.state.state.log) (Req r) =
      Has-append_left (take p.state.state.log.sync_point h.world.archive) p.state.state.log.entries (Req r)
      (subst (λ (n : ℕ). Has (take n h.world.archive) (Req r)) (sym points) has) in
      let in_whole : Has q.seat.state.state.log.entries (Req r) =
      subst (λ (xs : List Entry). Has xs (Req r)) (follows.logs i p q.seat there q.there) in_log in
      let same : conf.replicas i ≡ local_state_of q.seat.state.state = safe.shows.actors.replicas i q.seat q.there in
      let few_replicas : i < 2 * f + 1 = omega (arith, own, (counts_from c is_one).replicas) in
      let line : Has conf.lines (lines.Submit r) =
      safe.sound.requests.logged i few_replicas r (subst (λ (x : LocalState). Has x.log (Req r)) (sym same) in_whole) in
      submitted r (submits_there r line)

  shown : (i : ℕ) (p : Seated Replica) → slice_get h.world.replicas i ≡ Some p → IsShown c counts h.world.archive (0 + i) p
  shown i p there =
      let own : i < c.replicas = omega (arith, slice_get_within h.world.replicas i p there, lines_show.replicas) in
      let same : i ≡ 0 + i = omega arith in
      let here : IsShown c counts h.world.archive i p =
      record { own = own; within = within i p there; synced = synced_is i p own there } in
      subst (λ (k : ℕ). IsShown c counts h.world.archive k p) same here

  -- ---- reads

  log_is_short : (i : ℕ) (o : Option (Seated Replica)) → slice_get h.world.replicas i ≡ o → length (log_of h.world.archive o) < 2 ^ 32
  log_is_short i None there = omega arith
  log_is_short i (Some p) there =
      let log = p.state.state.log in
      let limit : length_of Trimmed log ≤ MAX_LENGTH = (within i p there).log.limit in
      let few = prefix_short c counts log.sync_point h.world.archive in
      let parts = length-append (take log.sync_point h.world.archive) log.entries in
      omega (arith, limit, few, parts)

  main_is_short : length (main_log h.world) < 2 ^ 32
  unfolding main_log
  main_is_short = log_is_short _ (slice_get h.world.replicas _) refl

  read_is_bytes : (rs : List Request) (key : List ℕ) → OpsAreBytes rs → IsBytes key
      → IsBytes (m.answer (state_after m m.opening rs) (get_of key))
  read_is_bytes rs key all of_key =
      let r : Request = record { client = 0; id = 0; op = get_of key } in
      bytes (rs ++ r ∷ []) (length rs) (m.answer (state_after m m.opening rs) (get_of key))
      (λ q has. elim (Has-push_cases rs r q has) [
        | inl old ↦ all q old
        | inr new ↦ subst (λ (x : Request). IsBytes x.op) new (get_bytes key of_key)
      ])
      (answer_behind m m.opening rs r)

  read_result : (k client id observer place : ℕ) (result : List ℕ)
      → slice_get h.lines k ≡ Some (lines.Answer client id observer place result) → IsReadResult c counts client id observer place result
  read_result k client id observer place result there =
      let right = safely.reads.lines.right k client id observer place result there in
      let own : IsAsked c client id observer right.key =
      lines_show.lines (lines.Read client id observer right.key) (right.asked.place, right.asked.line) in
      let rs : List Request = history_of (take place (main_log h.world)) in
      let op : List ℕ = get_of right.key in
      let all : OpsAreBytes rs =
      λ r has. (member_is r (subst (λ (xs : List Request). Has xs r) (sym right.is.members.1)
      (Has-append_left rs right.is.members.0 r has))).bytes in
      record {
        client = own.client_there;
        low = own.low;
        id = own.id_fits;
        there = own.observer_there;
        high = omega (arith, right.is.within, main_is_short);
        bytes = subst IsBytes (sym right.is.gives) (read_is_bytes rs right.key all own.key_is.bytes);
        short = subst (λ (xs : List ℕ). length xs ≤ MAX_RESULT_BYTES) (sym right.is.gives)
            (keeps.short (state_after m m.opening rs) op (states_sound m IsSound keeps m.opening rs keeps.opens));
      }

  watched : (i : ℕ) (p : Seated Observer) → slice_get h.world.observers i ≡ Some p → IsWatched c counts (0 + i) p
  watched i p there =
      let own : i < c.observers = omega (arith, slice_get_within h.world.observers i p there, lines_show.observers) in
      let same : i ≡ 0 + i = omega arith in
      let here : IsWatched c counts i p = record { own = own; high = (reached.at.both.beside.observers i p there).position } in
      subst (λ (k : ℕ). IsWatched c counts k p) same here

  -- ---- all of it

  line_fits : IsFew h → (l : Line) → Has h.lines l → RowFits (row_of l)
  line_fits few l there =
      line_row c counts h.world.sent l (lines_show.lines l there) (omega (arith, lines_show.count, few.lines))
      (λ client id result e. accepted there.0 client id result (there.1 ∙ ap Some e))
      (λ client id observer place result e. read_result there.0 client id observer place result (there.1 ∙ ap Some e)) sent

  rows_fit : IsFew h → AllFit (body (transcript_of header h))
  rows_fit few =
      let all : List Row = members 1 (history h.world) in
      let states : List Row = state_rows h.world.archive 0 h.world.replicas in
      let observers : List Row = watching_rows 0 h.world.observers in
      fit_both (map row_of h.lines) (states ++ (observers ++ (all ++ End ∷ []))) (mapped_fit h.lines (line_fits few))
      (fit_both states (observers ++ (all ++ End ∷ [])) (states_fit c counts h.world.archive 0 h.world.replicas shown)
      (fit_both observers (all ++ End ∷ []) (watching_fit c counts 0 h.world.observers watched)
      (fit_both all (End ∷ []) (members_fit c counts 1 (history h.world) (omega arith) (omega (arith, few.members)) member_is)
      (record { ranges = refl; typed = tt }, tt))))

  pub run_spells : HasRoom (transcript_line header.form c ++ (lines_text h.lines ++ final_text h.world))
      → Spells (transcript_of header h) (transcript_line header.form c ++ (lines_text h.lines ++ final_text h.world))
  run_spells room =
      let t : Transcript = transcript_of header h in
      let most : length (transcript_lines t) ≤ MAX_TRANSCRIPT_LINES =
      omega (arith, lines_counted t is, ap (count_by is_line_end) (run_text header h), room) in
      record {
        text = sym (run_text header h);
        fits = record {
          header = is;
          events = all_events h.lines;
          states = all_states h.world.archive 0 h.world.replicas;
          observers = all_watching 0 h.world.observers;
          rows = rows_fit (few header h most);
        };
        most = most;
      }
