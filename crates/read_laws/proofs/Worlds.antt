-- Each step of the world is a step of the exchange of reads.
use Rattle.std.proofs.Common.{◌≡◌, ℕ, ◌+◌, ◌<◌, ◌≤◌, Bool, true, false, List, [], ◌∷◌, ◌++◌, length, take}
use Rattle.std.proofs.Common.{Option, Some, None, refl, sym, ap, subst, ◌∙◌, arith, inl, inr, append_assoc}
use Rattle.std.specs.Prelude.{Result, Ok, IfSome, slice_get}
use Rattle.std.proofs.lemmas.List.{map-append}
use Rattle.nop_types.specs.Checkpoints.{KeepsTo}
use Rattle.nop_types.specs.Configuration.{Configuration, is_configuration}
use Rattle.nop_types.specs.Given.{Given, Packet}
use Rattle.nop_types.specs.Histories.{history_of}
use Rattle.nop_types.specs.Lines as said
use Rattle.nop_types.specs.Lines.{Line}
use Rattle.nop_types.specs.Lists.{Has}
use Rattle.nop_types.specs.Logs.{Trimmed}
use Rattle.nop_types.specs.Meaning.{Meaning}
use Rattle.nop_types.specs.Ranges.{AnswerFits, ReadFits}
use Rattle.nop_types.specs.Reads.{ReadIsRight, read_at, state_after}
use Rattle.nop_types.specs.Services.{get_of}
use Rattle.nop_types.specs.declared.datagram.Answer.{Answer}
use Rattle.nop_types.specs.declared.datagram.Datagram.{Datagram}
use Rattle.nop_types.specs.declared.datagram.Datagram.TheVariants as datagrams
use Rattle.nop_types.specs.declared.datagram.Read.{Read}
use Rattle.nop_types.specs.declared.limits.TheConstants.{MAX_RESULT_BYTES}
use Rattle.nop_types.specs.declared.output.Actor.{Actor}
use Rattle.nop_types.specs.declared.output.Actor.TheVariants as actors
use Rattle.nop_types.specs.declared.output.Dest.TheVariants.{One}
use Rattle.nop_types.specs.declared.output.Out.{Out}
use Rattle.nop_types.specs.declared.output.Out.TheVariants as outs
use Rattle.nop_types.specs.declared.request.Entry.{Entry}
use Rattle.nop_types.specs.declared.request.Request.{Request}
use Rattle.lemmas.specs.Functions.{put}
use Rattle.lemmas.proofs.Functions.{put-here, put-other}
use Rattle.lemmas.proofs.Members.{Has-none, Has-one, Has-append_left, Has-append_cases, Has-push}
use Rattle.oum_codec.specs.declared.bad.Bad.{Bad}
use Rattle.oum_codec.specs.Reading.{reading}
use Rattle.oum_codec.specs.Spelling.{spelling}
use Rattle.oum_codec.proofs.Datagrams.{reads_again}
use Rattle.client_reads.specs.declared.state.Reading.{Reading}
use Rattle.client_reads.specs.declared.state.Reads.{Reads}
use Rattle.client_reads.specs.ReadSteps as reads
use Rattle.client_reads.specs.ReadSteps.{IsWithin, ReadingFits, reading_of}
use Rattle.client_reads.specs.Rows.{Answers, Row, Rests, SaysBusy, Asks, Repeats, Ends}
use Rattle.client_reads.specs.Runs.{KeyFits, answer_in, answer_of}
use Rattle.client_reads.proofs.Ranges.{stays_within}
use Rattle.client_reads.proofs.RowLemmas.{row_of}
use Rattle.client_quorum.specs.ClientSteps as requests
use Rattle.client_quorum.specs.Core as client
use Rattle.client_quorum.specs.Core.{Client}
use Rattle.sequencer.specs.SequencerSteps as sequencer
use Rattle.sequencer.specs.declared.state.SequencerState.{SequencerState}
use Rattle.session_control.specs.ControllerSteps as controller
use Rattle.session_control.specs.declared.state.ControllerState.{ControllerState}
use Rattle.observer.specs.ObserverSteps as observer
use Rattle.observer.specs.ObserverSteps.{Observer, answer_to, answered}
use Rattle.observer.specs.Observing.{position, answer}
use Rattle.replica_core.specs.ReplicaSteps as replica
use Rattle.replica_core.specs.ReplicaSteps.{Replica}
use Rattle.schedule_text.specs.declared.event.Event.{Event}
use Rattle.schedule_text.specs.Fits.{EventFits}
use Rattle.network.specs.Network.{Did, Nothing, Outputs, Sent, sends_of, sends_by, lines_from, lines_by}
use Rattle.network.proofs.LineLemmas.{lines_from-append}
use Rattle.network_laws.specs.Network.{MayCome, bytes_in}
use Rattle.world.specs.Others.{Sequencers, Clients, Controllers, Who, AReplica, Another, AnObserver, who}
use Rattle.world.specs.Seats.{Seated, Stimulus, Takes, Crashes, seated, moved_if, seat_step}
use Rattle.world.specs.WorldSteps.{WorldState, Happened, Refusal, actor_of, stimulus_of, at_replica, at_other, at_observer}
use Rattle.world.specs.WorldSteps.{step_of, step}
use Rattle.read_laws.specs.Received.{Received, bytes_of}
use Rattle.read_laws.specs.Runs.{ObserversReceived, ObserversReadRight}
use Rattle.read_laws.proofs.Coming.{bytes_of_sends, bytes_after, bytes_append, Delivers, event_delivers}
use Rattle.read_laws.proofs.Coming.{received_within}
use Rattle.read_laws.proofs.Exchanges.{Exchange, AreSilentLines, Consistent, asked, again, served, told, risen, passed}
use Rattle.read_laws.proofs.Exchanges.{asked_keeps, again_keeps, served_keeps, told_keeps, risen_keeps, passed_keeps}
use Rattle.read_laws.proofs.ObserverRows as rows
use Rattle.read_laws.proofs.ObserverRows.{ObserverRow, Hears, number_stays}
use Rattle.read_laws.proofs.Seats.{seats_become, Before, all_before, set_before, seat_leads}
use Rattle.read_laws.proofs.Silent.{is_exchanged, IsSilent, AreSilent, silent_bytes, silent_lines, no_lines, one_line}
use Rattle.read_laws.proofs.Silent.{requests_silent, sequencer_silent, controller_silent, replica_silent}

-- ---- an answer that a client takes came in a packet

record CameIn (x : Given) (a : Answer) : Type 0 where
  bytes : List ℕ
  is : x ≡ Packet bytes
  read : reading bytes ≡ Ok (datagrams.Answer a)

packet_brings : (bytes : List ℕ) (r : Result Datagram Bad) (a : Answer) → reading bytes ≡ r → Has (answer_in r) a → CameIn (Packet bytes) a
packet_brings bytes (Ok (datagrams.Answer b)) a is h =
    let same : a ≡ b = Has-one a b h in
    record { bytes = bytes; is = refl; read = is ∙ ap (λ (x : Answer). Ok (datagrams.Answer x)) (sym same) }
packet_brings bytes _ a is h = absurd (Has-none a h)

answer_came : (x : Given) (a : Answer) → Has (answer_of x) a → CameIn x a
answer_came (Packet bytes) a h = packet_brings bytes (reading bytes) a refl h
answer_came _ a h = absurd (Has-none a h)

-- what is read as a datagram was sent
was_sent : (sent : List (List ℕ)) (x : Given) (bytes : List ℕ) (d : Datagram) → x ≡ Packet bytes → reading bytes ≡ Ok d → MayCome sent x
    → Has sent bytes
was_sent sent x bytes d is read may = by (subst (MayCome sent) is may)
  where
    by : MayCome sent (Packet bytes) → Has sent bytes
    by (inl has) = has
    by (inr none) = absurd (let refused = none.refused in cc)

-- ---- an actor that neither asks nor answers

record QuietDid (from : Actor) (n : ℕ) (did : Did) : Type 0 where
  lines : AreSilentLines (lines_by from n did)
  bytes : (b : List ℕ) → Has (bytes_of (sends_by from did)) b → IsSilent (reading b)

quiet_outs : (from : Actor) (n : ℕ) (os : List Out) → AreSilent os → QuietDid from n (Outputs os)
quiet_outs from n os silent = record {
  lines = silent_lines from n os silent;
  bytes = λ b h. silent_bytes os silent b (subst (λ (xs : List (List ℕ)). Has xs b) (bytes_of_sends from os) h);
}

quiet_crashed : (from : Actor) (n : ℕ) → QuietDid from n Nothing
quiet_crashed from n = record { lines = one_line (said.Dead from) refl; bytes = λ b h. absurd (Has-none b h) }

quiet_did : {A : Type 0} (next : A → Given → A × List Out) → ((s : A) (x : Given) → AreSilent (next s x).1) → (from : Actor) (n : ℕ)
    (p : Seated A) (b : Bool) (what : Stimulus) → QuietDid from n (moved_if next b p what).1
quiet_did next silent from n p true what = quiet_crashed from n
quiet_did next silent from n p false (Takes x) = quiet_outs from n (next p.state x).1 (silent p.state x)
quiet_did next silent from n p false Crashes = quiet_outs from n [] tt

few_observers : (config : Configuration) (n : ℕ) → is_configuration config ≡ true → n < config.observers → n ≤ 3
few_observers config n is less = grind (arith, is, less)

module _ {S : Type 0} (m : Meaning S) (IsSound : S → Type 0) (keeps : KeepsTo m IsSound) (config : Configuration)
    (is_one : is_configuration config ≡ true) (ended : WorldState) (main : List Entry) (right : ObserversReadRight m config ended main) where
  abbrev net : List (List ℕ)
  net = bytes_of ended.sent

  -- ---- what observers answer is in its ranges

  state_sound : (s : S) (rs : List Request) → IsSound s → IsSound (state_after m s rs)
  state_sound s [] h = h
  state_sound s (r ∷ rs) h = state_sound (m.after s r.op) rs (keeps.stays s r.op h)

  read_short : (at : ℕ) (key : List ℕ) → length (read_at m main at key) ≤ MAX_RESULT_BYTES
  read_short at key =
      let rs : List Request = history_of (take at main) in
      keeps.short (state_after m m.opening rs) (get_of key) (state_sound m.opening rs keeps.opens)

  answer_fits : (i : ℕ) (s : Observer) (r : Read) → i < config.observers → Received m config net i s → ReadFits r
      → AnswerFits (answer_to m s r)
  answer_fits i s r low received fits =
      let number : s.number ≡ i = number_stays m config i received.inputs s received.is in
      let x : ReadIsRight m main (position s.heard.state) r.key (answer m Trimmed s.heard.state (get_of r.key)) =
      right.right i s received r.key in
      record {
        observer = subst (λ (n : ℕ). n ≤ 3) (sym number) (few_observers config i is_one low);
        position = (let a = x.within in let b = right.few in omega (arith, a, b));
        client = fits.client;
        id_low = fits.id_low;
        id = fits.id;
        result_length = subst (λ (b : List ℕ). length b ≤ MAX_RESULT_BYTES) (sym x.gives) (read_short (position s.heard.state) r.key);
      }

  -- ---- the exchange that a world shows

  pub record ObserverSeen (at i : ℕ) (s : Observer) : Type 0 where
    pub low : i < config.observers
    pub is : at ≡ position s.heard.state

  pub record ClientSeen (last : ℕ) (pending : Option Reading) (i : ℕ) (s : Reads) : Type 0 where
    pub number : s.number ≡ i
    pub within : IsWithin s
    pub last_is : last ≡ s.last_id
    pub pending_is : pending ≡ s.pending

  pub record ReadSeen (v : Exchange) (q : Read) : Type 0 where
    pub fits : ReadFits q
    pub has : Has v.reads q

  -- of a datagram
  pub record Speaks (v : Exchange) (bytes : List ℕ) : Type 0 where
    pub reads : (q : Read) → reading bytes ≡ Ok (datagrams.Read q) → ReadSeen v q
    pub answers : (a : Answer) → reading bytes ≡ Ok (datagrams.Answer a) → Has v.answers a

  pub record Shows (t : WorldState) (ls : List Line) (v : Exchange) : Type 0 where
    pub lines : v.lines ≡ ls
    pub observers : (i : ℕ) (p : Seated Observer) → slice_get t.observers i ≡ Some p → ObserverSeen (v.positions i) i p.state
    pub clients : (i : ℕ) (p : Seated Client) → slice_get t.others.clients i ≡ Some p → ClientSeen (v.last i) (v.pending i) i p.state.reads
    pub sent : (bytes : List ℕ) → Has (bytes_of t.sent) bytes → Speaks v bytes

  -- a world and its lines show a consistent one
  pub record Kept (t : WorldState) (ls : List Line) : Type 0 where
    pub exchange : Exchange
    pub consistent : Consistent m main exchange
    pub shows : Shows t ls exchange

  -- what was sent stays
  pub record Grows (v w : Exchange) : Type 0 where
    pub reads : (q : Read) → Has v.reads q → Has w.reads q
    pub answers : (a : Answer) → Has v.answers a → Has w.answers a

  none_new : (v w : Exchange) → v.reads ≡ w.reads → v.answers ≡ w.answers → Grows v w
  none_new v w a b = record {
    reads = λ q h. subst (λ (xs : List Read). Has xs q) a h;
    answers = λ x h. subst (λ (xs : List Answer). Has xs x) b h;
  }

  speaks_on : (v w : Exchange) (bytes : List ℕ) → Grows v w → Speaks v bytes → Speaks w bytes
  speaks_on v w bytes grows h = record {
    reads = λ q is. (let r = h.reads q is in record { fits = r.fits; has = grows.reads q r.has });
    answers = λ a is. grows.answers a (h.answers a is);
  }

  silent_speaks : (w : Exchange) (bytes : List ℕ) → IsSilent (reading bytes) → Speaks w bytes
  silent_speaks w bytes silent = record {
    reads = λ q is. absurd (let loud : is_exchanged (reading bytes) ≡ true = ap is_exchanged is in cc);
    answers = λ a is. absurd (let loud : is_exchanged (reading bytes) ≡ true = ap is_exchanged is in cc);
  }

  read_speaks : (w : Exchange) (r : Read) (bytes : List ℕ) → bytes ≡ spelling (datagrams.Read r) → ReadFits r → Has w.reads r
      → Speaks w bytes
  read_speaks w r bytes is fits has = record {
    reads = λ q read. (let same = sym spelled ∙ read in
        let one : r ≡ q = cc in
        subst (ReadSeen w) one (record { fits = fits; has = has }));
    answers = λ a read. absurd (let same = sym spelled ∙ read in cc);
  }
    where
      spelled : reading bytes ≡ Ok (datagrams.Read r)
      spelled = ap reading is ∙ reads_again (datagrams.Read r) fits

  answer_speaks : (w : Exchange) (a : Answer) (bytes : List ℕ) → bytes ≡ spelling (datagrams.Answer a) → AnswerFits a → Has w.answers a
      → Speaks w bytes
  answer_speaks w a bytes is fits has = record {
    reads = λ q read. absurd (let same = sym spelled ∙ read in cc);
    answers = λ b read. (let same = sym spelled ∙ read in let one : a ≡ b = cc in subst (Has w.answers) one has);
  }
    where
      spelled : reading bytes ≡ Ok (datagrams.Answer a)
      spelled = ap reading is ∙ reads_again (datagrams.Answer a) fits

  -- after a step: what seats show by then, and what the new datagrams say
  shows_on : (t u : WorldState) (ls new : List Line) (more : List (List ℕ)) (v w : Exchange) → Shows t ls v → Grows v w
      → w.lines ≡ ls ++ new → bytes_of u.sent ≡ bytes_of t.sent ++ more
      → ((i : ℕ) (p : Seated Observer) → slice_get u.observers i ≡ Some p → ObserverSeen (w.positions i) i p.state)
      → ((i : ℕ) (p : Seated Client) → slice_get u.others.clients i ≡ Some p → ClientSeen (w.last i) (w.pending i) i p.state.reads)
      → ((bytes : List ℕ) → Has more bytes → Speaks w bytes) → Shows u (ls ++ new) w
  shows_on t u ls new more v w shows grows lines bytes observers clients speaks = record {
    lines = lines;
    observers = observers;
    clients = clients;
    sent = λ b h. elim (Has-append_cases (bytes_of t.sent) more b (subst (λ (xs : List (List ℕ)). Has xs b) bytes h)) [
      | inl old ↦ speaks_on v w b grows (shows.sent b old)
      | inr fresh ↦ speaks b fresh
    ];
  }

  -- ---- a step in which nobody asks or answers

  quiet : (t u : WorldState) (ls : List Line) (from : Actor) (did : Did) → Kept t ls → QuietDid from (length t.sent) did
      → u.sent ≡ t.sent ++ sends_by from did
      → ((i : ℕ) (p : Seated Observer) → slice_get u.observers i ≡ Some p → Before (λ (s : Observer). s) t.observers i p.state)
      → ((i : ℕ) (p : Seated Client) → slice_get u.others.clients i ≡ Some p → Before (λ (s : Client). s.reads) t.others.clients i p.state)
      → Kept u (ls ++ lines_by from (length t.sent) did)
  quiet t u ls from did kept q sent observers clients = record {
    exchange = passed v new;
    consistent = passed_keeps m main v new q.lines kept.consistent;
    shows = shows_on t u ls new (bytes_of (sends_by from did)) v (passed v new) kept.shows (none_new v (passed v new) refl refl)
        (ap (λ (xs : List Line). xs ++ new) kept.shows.lines) (ap bytes_of sent ∙ both (sends_by from did))
        (λ i p at. let b = observers i p at in
        subst (ObserverSeen (v.positions i) i) b.same (kept.shows.observers i b.seat b.there))
        (λ i p at. let b = clients i p at in
        subst (ClientSeen (v.last i) (v.pending i) i) b.same (kept.shows.clients i b.seat b.there))
        (λ b h. silent_speaks (passed v new) b (q.bytes b h));
  }
    where
      v : Exchange
      v = kept.exchange

      new : List Line
      new = lines_by from (length t.sent) did

      both : (more : List Sent) → bytes_of (t.sent ++ more) ≡ bytes_of t.sent ++ bytes_of more
      both more = map-append (λ (s : Sent). s.bytes) t.sent more

  -- ---- a client takes an input

  module _ (t : WorldState) (ls : List Line) (kept : Kept t ls) (i : ℕ) (p : Seated Client) (at : slice_get t.others.clients i ≡ Some p)
      (x : Given) (may : MayCome (bytes_of t.sent) x) where
    abbrev s : Reads
    s = p.state.reads

    abbrev from : Actor
    from = actors.Client i

    -- the outputs of its requests come first
    abbrev first : List Out
    first = (requests.next p.state.requests x).1

    abbrev first_lines : List Line
    first_lines = lines_from from (length t.sent) first

    abbrev count : ℕ
    count = length t.sent + length (sends_of from first)

    abbrev v : Exchange
    v = kept.exchange

    abbrev u : Exchange
    u = passed v first_lines

    u_consistent : Consistent m main u
    u_consistent =
        passed_keeps m main v first_lines (silent_lines from (length t.sent) first (requests_silent p.state.requests x)) kept.consistent

    seen : ClientSeen (v.last i) (v.pending i) i s
    seen = kept.shows.clients i p at

    last_is : v.last s.number ≡ s.last_id
    last_is = ap v.last seen.number ∙ seen.last_is

    pending_is : v.pending s.number ≡ s.pending
    pending_is = ap v.pending seen.number ∙ seen.pending_is

    abbrev now : Reads × List Out → Happened
    now y =
        at_other Clients t i
        (seated (record { requests = (requests.next p.state.requests x).0; reads = y.0 }), Outputs (first ++ y.1))

    abbrev IsKeptThen : Reads × List Out → Type 0
    IsKeptThen y = Kept (now y).world (ls ++ (now y).lines)

    -- by the exchange afterwards
    finish : (y : Reads × List Out) (w : Exchange) → Consistent m main w → Grows v w → w.lines ≡ u.lines ++ lines_from from count y.1
        → ((j : ℕ) → w.positions j ≡ v.positions j) → ClientSeen (w.last i) (w.pending i) i y.0
        → ((j : ℕ) → (j ≡ i → ⊥) → (w.last j ≡ v.last j) × (w.pending j ≡ v.pending j))
        → ((bytes : List ℕ) → Has (bytes_in y.1) bytes → Speaks w bytes) → IsKeptThen y
    finish y w consistent grows lines positions here there speaks = record {
      exchange = w;
      consistent = consistent;
      shows = shows_on t (now y).world ls (now y).lines (bytes_in (first ++ y.1)) v w kept.shows grows
          (lines ∙ append_assoc v.lines first_lines (lines_from from count y.1)
          ∙ ap (λ (xs : List Line). xs ++ (first_lines ++ lines_from from count y.1)) kept.shows.lines
          ∙ ap (λ (xs : List Line). ls ++ xs) (sym (lines_from-append from (length t.sent) first y.1)))
          (bytes_after t.sent from (first ++ y.1))
          (λ j q there. subst (λ (n : ℕ). ObserverSeen n j q.state) (sym (positions j)) (kept.shows.observers j q there))
          (seats_become {A = Client} (λ j c. ClientSeen (v.last j) (v.pending j) j c.reads)
          (λ j c. ClientSeen (w.last j) (w.pending j) j c.reads) t.others.clients i
          (seated (record { requests = (requests.next p.state.requests x).0; reads = y.0 })) here
          (λ j c other h. record {
            number = h.number;
            within = h.within;
            last_is = (there j other).0 ∙ h.last_is;
            pending_is = (there j other).1 ∙ h.pending_is;
          }) kept.shows.clients)
          (λ b h. elim (Has-append_cases (bytes_in first) (bytes_in y.1) b
          (subst (λ (xs : List (List ℕ)). Has xs b) (bytes_append first y.1) h)) [
            | inl old ↦ silent_speaks w b (silent_bytes first (requests_silent p.state.requests x) b old)
            | inr fresh ↦ speaks b fresh
          ]);
    }

    -- nothing becomes of its reads
    still : (os : List Out) → AreSilent os → IsKeptThen (s, os)
    still os silent =
        finish (s, os) (passed u (lines_from from count os))
        (passed_keeps m main u (lines_from from count os) (silent_lines from count os silent) u_consistent)
        (none_new v (passed u (lines_from from count os)) refl refl) refl (λ j. refl) seen (λ j other. (refl, refl))
        (λ b h. silent_speaks (passed u (lines_from from count os)) b (silent_bytes os silent b h))

    abbrev read_of : Reading → Read
    read_of r = record { client = s.number; id = r.id; key = r.key }

    abbrev send_line : Reading → Line
    send_line r = said.Send count from (One (actors.Observer r.observer)) (spelling (datagrams.Read (read_of r)))

    read_fits : (r : Reading) → ReadingFits r → ReadFits (read_of r)
    read_fits r fits =
        record { client = seen.within.number; id_low = fits.id_low; id = fits.id; some = fits.some; most = fits.most }

    -- the read that waits is sent again
    repeats : (r : Reading) → s.pending ≡ Some r → IsKeptThen (s, reads.sent s.number r ∷ [])
    repeats r e =
        finish (s, reads.sent s.number r ∷ []) w
        (passed_keeps m main (again u s.number r) (send_line r ∷ []) (one_line (send_line r) refl)
        (again_keeps m main u s.number r (pending_is ∙ e) u_consistent))
        (record { reads = λ q h. Has-append_left v.reads (read_of r ∷ []) q h; answers = λ a h. h }) refl (λ j. refl) seen
        (λ j other. (refl, refl))
        (λ b h. read_speaks w (read_of r) b (Has-one b (spelling (datagrams.Read (read_of r))) h)
        (read_fits r (subst (λ (o : Option Reading). IfSome o ReadingFits) e seen.within.pending)) (Has-push v.reads (read_of r)))
      where
        w : Exchange
        w = passed (again u s.number r) (send_line r ∷ [])

    -- a key is asked for
    asks : (o : ℕ) (key : List ℕ) → IsWithin (reads.begin s (reading_of s o key)).0 → IsKeptThen (reads.begin s (reading_of s o key))
    asks o key within =
        finish (reads.begin s r) w
        (passed_keeps m main (asked u s.number o key) (send_line r ∷ []) (one_line (send_line r) refl)
        (asked_keeps m main u s.number o key u_consistent))
        (record { reads = λ q h. Has-append_left v.reads (sent_read ∷ []) q h; answers = λ a h. h })
        (append_assoc u.lines (said.Read s.number (v.last s.number + 1) o key ∷ []) (send_line r ∷ [])
        ∙ ap (λ (n : ℕ). u.lines ++ said.Read s.number (n + 1) o key ∷ send_line r ∷ []) last_is)
        (λ j. refl)
        (record {
          number = seen.number;
          within = within;
          last_is = ap (put v.last s.number (v.last s.number + 1)) (sym seen.number)
              ∙ put-here v.last s.number (v.last s.number + 1) ∙ ap (λ (n : ℕ). n + 1) last_is;
          pending_is = ap (put v.pending s.number (waits (v.last s.number))) (sym seen.number)
              ∙ put-here v.pending s.number (waits (v.last s.number)) ∙ ap waits last_is;
        })
        (λ j other. (
          put-other v.last s.number (v.last s.number + 1) j (λ e. other (e ∙ seen.number)),
          put-other v.pending s.number (waits (v.last s.number)) j (λ e. other (e ∙ seen.number)),
        ))
        (λ b h. read_speaks w (read_of r) b (Has-one b (spelling (datagrams.Read (read_of r))) h) (read_fits r within.pending)
        (subst (λ (n : ℕ). Has w.reads (record { client = s.number; id = n + 1; key = key })) last_is (Has-push v.reads sent_read)))
      where
        r : Reading
        r = reading_of s o key

        w : Exchange
        w = passed (asked u s.number o key) (send_line (reading_of s o key) ∷ [])

        sent_read : Read
        sent_read = record { client = s.number; id = v.last s.number + 1; key = key }

        waits : ℕ → Option Reading
        waits n = Some (record { id = n + 1; observer = o; key = key })

    -- the read that waits is answered
    ends : (r : Reading) (a : Answer) → Has (answer_of x) a → s.pending ≡ Some r → Answers s.number r a → IsWithin (reads.end s a).0
        → IsKeptThen (reads.end s a)
    ends r a has e is within =
        finish (reads.end s a) (told u a)
        (told_keeps m main u a heard (record {
          pending = r;
          is = ap v.pending is.client ∙ pending_is ∙ e;
          id = is.id;
          observer = is.observer;
        }) u_consistent)
        (none_new v (told u a) refl refl)
        (ap (λ (n : ℕ). u.lines ++ said.Answer n a.id a.observer a.position a.result ∷ []) is.client) (λ j. refl)
        (record {
          number = seen.number;
          within = within;
          last_is = seen.last_is;
          pending_is = ap (put v.pending a.client None) (sym (is.client ∙ seen.number)) ∙ put-here v.pending a.client None;
        })
        (λ j other. (refl, put-other v.pending a.client None j (λ q. other (q ∙ is.client ∙ seen.number))))
        (λ b h. absurd (Has-none b h))
      where
        came : CameIn x a
        came = answer_came x a has

        heard : Has v.answers a
        heard = (kept.shows.sent came.bytes (was_sent (bytes_of t.sent) x came.bytes (datagrams.Answer a) came.is came.read may)).answers a
            came.read

    row_keeps : (y : Reads × List Out) → Row s x y → IsWithin y.0 → IsKeptThen y
    row_keeps y (Rests nothing) within = still [] tt
    row_keeps y (SaysBusy o key is busy) within = still (outs.Busy s.number ∷ []) tt
    row_keeps y (Asks o key is can) within = asks o key within
    row_keeps y (Repeats r is e) within = repeats r e
    row_keeps y (Ends r a has e is) within = ends r a has e is within

    client_takes : KeyFits x → IsKeptThen (reads.next s x)
    client_takes fits = row_keeps (reads.next s x) (row_of s x) (stays_within s x seen.within fits)

  -- ---- an observer takes an input

  module _ (t : WorldState) (ls : List Line) (kept : Kept t ls) (within : (b : List ℕ) → Has (bytes_of t.sent) b → Has net b) (i : ℕ)
      (p : Seated Observer) (at : slice_get t.observers i ≡ Some p) (came : Received m config (bytes_of t.sent) i p.state) (x : Given)
      (may : MayCome (bytes_of t.sent) x) where
    abbrev me : Observer
    me = p.state

    abbrev held : Exchange
    held = kept.exchange

    looks : ObserverSeen (held.positions i) i me
    looks = kept.shows.observers i p at

    abbrev then : Observer × List Out → Happened
    then y = at_observer t i (seated y.0, Outputs y.1)

    abbrev IsKeptAfter : Observer × List Out → Type 0
    IsKeptAfter y = Kept (then y).world (ls ++ (then y).lines)

    hears : (s : Observer) → position me.heard.state ≤ position s.heard.state → IsKeptAfter (s, [])
    hears s up = record {
      exchange = w;
      consistent = passed_keeps m main (risen held i (position s.heard.state)) [] no_lines
          (risen_keeps m main held i (position s.heard.state) (let is = looks.is in omega (arith, is, up)) kept.consistent);
      shows = shows_on t (then (s, [])).world ls [] [] held w kept.shows (none_new held w refl refl)
          (ap (λ (xs : List Line). xs ++ []) kept.shows.lines) (bytes_after t.sent (actors.Observer i) [])
          (seats_become {A = Observer} (λ j c. ObserverSeen (held.positions j) j c)
          (λ j c. ObserverSeen (w.positions j) j c) t.observers i (seated s)
          (record { low = looks.low; is = put-here held.positions i (position s.heard.state) })
          (λ j c other h. record { low = h.low; is = put-other held.positions i (position s.heard.state) j other ∙ h.is })
          kept.shows.observers)
          kept.shows.clients (λ b h. absurd (Has-none b h));
    }
      where
        w : Exchange
        w = passed (risen held i (position s.heard.state)) []

    answers_read : (bytes : List ℕ) (r : Read) → x ≡ Packet bytes → reading bytes ≡ Ok (datagrams.Read r)
        → IsKeptAfter (me, answered m me r ∷ [])
    answers_read bytes r is read = record {
      exchange = w;
      consistent = passed_keeps m main (served held i r result) (line ∷ []) (one_line line refl)
          (served_keeps m main held i r result asked_for.has
          (subst (λ (n : ℕ). ReadIsRight m main n r.key result) (sym looks.is) (right.right i me received r.key)) kept.consistent);
      shows = shows_on t (then (me, answered m me r ∷ [])).world ls (line ∷ []) (spelling (datagrams.Answer a) ∷ []) held w kept.shows
          (record { reads = λ q h. h; answers = λ b h. Has-append_left held.answers (new ∷ []) b h })
          (ap (λ (xs : List Line). xs ++ line ∷ []) kept.shows.lines) (bytes_after t.sent (actors.Observer i) (answered m me r ∷ []))
          (seats_become {A = Observer} (λ j c. ObserverSeen (held.positions j) j c)
          (λ j c. ObserverSeen (held.positions j) j c) t.observers i (seated me) looks (λ j c other h. h)
          kept.shows.observers)
          kept.shows.clients
          (λ b h. answer_speaks w a b (Has-one b (spelling (datagrams.Answer a)) h)
          (answer_fits i me r looks.low received asked_for.fits) (subst (Has w.answers) same (Has-push held.answers new)));
    }
      where
        result : List ℕ
        result = answer m Trimmed me.heard.state (get_of r.key)

        a : Answer
        a = answer_to m me r

        new : Answer
        new = record { observer = i; position = held.positions i; client = r.client; id = r.id; result = result }

        line : Line
        line = said.Send (length t.sent) (actors.Observer i) (One (actors.Client r.client)) (spelling (datagrams.Answer (answer_to m me r)))

        w : Exchange
        w = passed (served held i r result) (line ∷ [])

        received : Received m config net i me
        received = received_within m config (bytes_of t.sent) net i me within came

        asked_for : ReadSeen held r
        asked_for = (kept.shows.sent bytes (was_sent (bytes_of t.sent) x bytes (datagrams.Read r) is read may)).reads r read

        number : me.number ≡ i
        number = number_stays m config i came.inputs me came.is

        same : new ≡ a
        same =
            ap (λ (n : ℕ). (
            let b : Answer = record { observer = n; position = held.positions i; client = r.client; id = r.id; result = result } in b
            )) (sym number)
            ∙ ap (λ (n : ℕ). (
            let b : Answer = record { observer = me.number; position = n; client = r.client; id = r.id; result = result } in b
            )) looks.is

    observer_row_keeps : (y : Observer × List Out) → ObserverRow m me x y → IsKeptAfter y
    observer_row_keeps y (Hears s up) = hears s up
    observer_row_keeps y (rows.Answers bytes r is read) = answers_read bytes r is read

    observer_takes : IsKeptAfter (observer.next m me x)
    observer_takes = observer_row_keeps (observer.next m me x) (rows.row_of m me x)

  -- ---- each actor

  module _ (t : WorldState) (ls : List Line) (kept : Kept t ls) (came : ObserversReceived m config t)
      (within : (b : List ℕ) → Has (bytes_of t.sent) b → Has net b) where
    replica_keeps : (i : ℕ) (p : Seated Replica) (what : Stimulus)
        → Kept (at_replica t i (seat_step (replica.next m) p what)).world (ls ++ (at_replica t i (seat_step (replica.next m) p what)).lines)
    replica_keeps i p what =
        quiet t (at_replica t i (seat_step (replica.next m) p what)).world ls (actors.Replica i) (seat_step (replica.next m) p what).1 kept
        (quiet_did (replica.next m) (replica_silent m) (actors.Replica i) (length t.sent) p p.crashed what) refl
        (all_before (λ (s : Observer). s) t.observers) (all_before (λ (s : Client). s.reads) t.others.clients)

    sequencer_keeps : (i : ℕ) (p : Seated SequencerState) (what : Stimulus)
        → Kept (at_other Sequencers t i (seat_step sequencer.next p what)).world
        (ls ++ (at_other Sequencers t i (seat_step sequencer.next p what)).lines)
    sequencer_keeps i p what =
        quiet t (at_other Sequencers t i (seat_step sequencer.next p what)).world ls (actors.Sequencer i)
        (seat_step sequencer.next p what).1 kept
        (quiet_did sequencer.next sequencer_silent (actors.Sequencer i) (length t.sent) p p.crashed what) refl
        (all_before (λ (s : Observer). s) t.observers) (all_before (λ (s : Client). s.reads) t.others.clients)

    controller_keeps : (i : ℕ) (p : Seated ControllerState) (what : Stimulus)
        → Kept (at_other Controllers t i (seat_step controller.next p what)).world
        (ls ++ (at_other Controllers t i (seat_step controller.next p what)).lines)
    controller_keeps i p what =
        quiet t (at_other Controllers t i (seat_step controller.next p what)).world ls (actors.Controller i)
        (seat_step controller.next p what).1 kept
        (quiet_did controller.next controller_silent (actors.Controller i) (length t.sent) p p.crashed what) refl
        (all_before (λ (s : Observer). s) t.observers) (all_before (λ (s : Client). s.reads) t.others.clients)

    client_if : (i : ℕ) (p : Seated Client) → slice_get t.others.clients i ≡ Some p → (b : Bool) (what : Stimulus)
        → Delivers (bytes_of t.sent) what
        → Kept (at_other Clients t i (moved_if client.next b p what)).world (ls ++ (at_other Clients t i (moved_if client.next b p what)).lines)
    client_if i p at true what h =
        quiet t (at_other Clients t i (p, Nothing)).world ls (actors.Client i) Nothing kept
        (quiet_crashed (actors.Client i) (length t.sent)) refl (all_before (λ (s : Observer). s) t.observers)
        (set_before (λ (s : Client). s.reads) t.others.clients i p p at refl)
    client_if i p at false (Takes x) h = client_takes t ls kept i p at x h.0 h.1
    client_if i p at false Crashes h =
        quiet t (at_other Clients t i (record { state = p.state; crashed = true }, Outputs [])).world ls (actors.Client i) (Outputs []) kept
        (quiet_outs (actors.Client i) (length t.sent) [] tt) refl (all_before (λ (s : Observer). s) t.observers)
        (set_before (λ (s : Client). s.reads) t.others.clients i p (record { state = p.state; crashed = true }) at refl)

    observer_if : (i : ℕ) (p : Seated Observer) → slice_get t.observers i ≡ Some p → (b : Bool) (what : Stimulus)
        → Delivers (bytes_of t.sent) what
        → Kept (at_observer t i (moved_if (observer.next m) b p what)).world
        (ls ++ (at_observer t i (moved_if (observer.next m) b p what)).lines)
    observer_if i p at true what h =
        quiet t (at_observer t i (p, Nothing)).world ls (actors.Observer i) Nothing kept
        (quiet_crashed (actors.Observer i) (length t.sent)) refl (set_before (λ (s : Observer). s) t.observers i p p at refl)
        (all_before (λ (s : Client). s.reads) t.others.clients)
    observer_if i p at false (Takes x) h = observer_takes t ls kept within i p at (came i p at) x h.0
    observer_if i p at false Crashes h =
        quiet t (at_observer t i (record { state = p.state; crashed = true }, Outputs [])).world ls (actors.Observer i) (Outputs []) kept
        (quiet_outs (actors.Observer i) (length t.sent) [] tt) refl
        (set_before (λ (s : Observer). s) t.observers i p (record { state = p.state; crashed = true }) at refl)
        (all_before (λ (s : Client). s.reads) t.others.clients)

    -- ---- the step

    abbrev KeptAfter : Happened → Type 0
    KeptAfter h = Kept h.world (ls ++ h.lines)

    actor_keeps : (x : Who) (r : Result Stimulus Refusal) (h : Happened) → ((what : Stimulus) → r ≡ Ok what → Delivers (bytes_of t.sent) what)
        → step_of m t x r ≡ Ok h → Kept h.world (ls ++ h.lines)
    actor_keeps (AReplica i) r h delivers e =
        seat_leads KeptAfter (Delivers (bytes_of t.sent)) (replica.next m) (at_replica t i) (slice_get t.replicas i) r h
        (λ p at what d. replica_keeps i p what) delivers e
    actor_keeps (Another Sequencers i) r h delivers e =
        seat_leads KeptAfter (Delivers (bytes_of t.sent)) sequencer.next (at_other Sequencers t i) (slice_get t.others.sequencers i) r h
        (λ p at what d. sequencer_keeps i p what) delivers e
    actor_keeps (Another Clients i) r h delivers e =
        seat_leads KeptAfter (Delivers (bytes_of t.sent)) client.next (at_other Clients t i) (slice_get t.others.clients i) r h
        (λ p at what d. client_if i p at p.crashed what d) delivers e
    actor_keeps (Another Controllers i) r h delivers e =
        seat_leads KeptAfter (Delivers (bytes_of t.sent)) controller.next (at_other Controllers t i) (slice_get t.others.controllers i) r h
        (λ p at what d. controller_keeps i p what) delivers e
    actor_keeps (AnObserver i) r h delivers e =
        seat_leads KeptAfter (Delivers (bytes_of t.sent)) (observer.next m) (at_observer t i) (slice_get t.observers i) r h
        (λ p at what d. observer_if i p at p.crashed what d) delivers e

    pub step_keeps : (x : Event) (h : Happened) → EventFits x → step m t x ≡ Ok h → Kept h.world (ls ++ h.lines)
    unfolding step
    step_keeps x h fits e =
        actor_keeps (who (actor_of x)) (stimulus_of t.config t.sent x) h
        (λ what is. event_delivers t.sent t.config x what fits is) e
