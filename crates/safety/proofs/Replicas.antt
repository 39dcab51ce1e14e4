-- An event of a replica: its row is that of the whole replica, and what it posts are the letters.
use Rattle.std.proofs.Common.{◌≡◌, ℕ, zero, suc, ◌+◌, Bool, true, false, List, [], ◌∷◌, ◌++◌, length, Option, Some, None}
use Rattle.std.proofs.Common.{refl, sym, ap, subst, ◌∙◌, arith}
use Rattle.std.specs.Prelude.{Result, Ok, Err, ◌&&◌, ◌||◌, ◌<◌, ◌^◌, not, filter, map, cond, slice_get, slice_set, nat_lt}
use Rattle.std.specs.List.{AllByRecursion}
use Rattle.std.specs.Option.{option_map}
use Rattle.replica_state.specs.Sends.{SendingFits}
use Rattle.network_laws.specs.Sends.{IsBy}
use Rattle.std.proofs.lemmas.Bool.{eq-eqb}
use Rattle.std.proofs.lemmas.List.{append-nil, map-append}
use Rattle.nop_types.specs.Given.{Given, Packet, Ticked}
use Rattle.nop_types.specs.Lines.{Line}
use Rattle.nop_types.specs.Meaning.{Meaning}
use Rattle.nop_types.specs.declared.datagram.Answer.{Answer}
use Rattle.nop_types.specs.declared.datagram.Datagram.{Datagram}
use Rattle.nop_types.specs.declared.datagram.Datagram.TheVariants as datagrams
use Rattle.nop_types.specs.declared.datagram.Fragment.{Fragment}
use Rattle.nop_types.specs.declared.input.Tick.{Tick}
use Rattle.nop_types.specs.declared.input.Tick.TheVariants as ticks
use Rattle.nop_types.specs.declared.output.Actor.{Actor}
use Rattle.nop_types.specs.declared.output.Actor.TheVariants as actors
use Rattle.nop_types.specs.declared.output.Dest.{Dest}
use Rattle.nop_types.specs.declared.output.Out.{Out}
use Rattle.nop_types.specs.declared.output.Out.TheVariants as outs
use Rattle.nop_types.specs.declared.peer.Peer.{Peer}
use Rattle.oum_codec.specs.declared.bad.Bad.{Bad}
use Rattle.oum_codec.specs.Reading.{reading}
use Rattle.peer_codec.specs.declared.bad_peer.BadPeer.{BadPeer}
use Rattle.peer_codec.specs.Reading as peers
use Rattle.peer_codec.specs.Spelling as peer
use Rattle.fragments.specs.Cutting as cutting
use Rattle.fragments.specs.Joining.{Waiting, taken}
use Rattle.replica_state.specs.State.{is_other}
use Rattle.replica_state.specs.Sends.{Effect, still, message_count}
use Rattle.replica_state.specs.declared.sending.Sending.{Sending}
use Rattle.replica_state.specs.declared.sending.Sending.TheVariants.{ToClient, ToReplicas, Trims}
use Rattle.replica_state.specs.declared.state.ReplicaState.{ReplicaState}
use Rattle.replica_rows.specs.Messages as messages
use Rattle.replica_core.specs.declared.replica.TheConstants.{LAST_MESSAGE}
use Rattle.replica_core.specs.Posting.{posted, reply_out}
use Rattle.replica_core.specs.ReplicaSteps as replica
use Rattle.replica_core.specs.ReplicaSteps.{Replica}
use Rattle.nop_types.specs.Bounds.{Bounds}
use Rattle.nop_types.specs.Logs.{Trimmed}
use Rattle.nop_types.specs.declared.request.Entry.{Entry}
use Rattle.trimmed_rows.specs.Trimmed.{trimmed, trimmed_peer, trimmed_sending, trimmed_effect, trimmed_arrival}
use Rattle.network_laws.specs.Network.{MayCome}
use Rattle.network_laws.proofs.Steps.{step_delivers}
use Rattle.schedule_text.specs.Ticks.{takes_tick}
use Rattle.schedule_text.specs.declared.event.Event.{Event}
use Rattle.schedule_text.specs.declared.event.Event.TheVariants as events
use Rattle.network.specs.Network.{Sent, Did, Nothing, Outputs, sends_of, sends_by, lines_by}
use Rattle.world.specs.Seats.{Seated, Stimulus, Takes, Crashes, seated, moved_if, seat_step}
use Rattle.world.specs.WorldSteps.{WorldState, Happened, Refusal, actor_of, tick_if, read_if, datagram_at, junk_of, stimulus_of, then_at, step_at}
use Rattle.world.specs.Others.{who}
use Rattle.world.specs.WorldSteps.{step_of, step, at_replica}
use Rattle.world.proofs.Places.{slice_set-found}
use Rattle.safety.specs.Following.{brought, sent_to, datagram_to, fragment_at, fragment_if, completes, is_spoken, is_fragment, is_apart, other_datagrams}
use Rattle.safety.specs.Following.{plain, trimmed_seat, trimmed_letter}
use Rattle.safety.specs.Following.{bytes_of, JoinsTrimmed}
use Rattle.safety.proofs.Beside.{Alike, Travels, real_letters}
use Rattle.safety.proofs.Coming.{AllMayCome}
use Rattle.whole_world.proofs.Mapped.{slice_get-from_map}
use Rattle.whole_world.specs.Archives.{with_sends, row_sends}
use Rattle.whole_world.specs.Trimming.{RowsTrim}
use Rattle.world.specs.Archive.{with_entries, with_outs, archived}
use Rattle.whole_world.specs.Whole as whole
use Rattle.whole_world.specs.Whole.{WholeReplica, WholeWorld, Letter, Brings, given_if, junk_if, is_crash, lines_of, letters_in, replies_in}
use Rattle.whole_world.specs.Whole.{whole_step, step_replica, effect_of, arrival_of, arrival_given, arrival_read, message_if}
use Rattle.safety.proofs.Others.{other_was_sent, lines_go_on, sends_go_on}
use Rattle.safety.proofs.Posted.{posted_others}
use Rattle.safety.proofs.Sends.{lines_spoken, no_fragment}
use Rattle.safety.proofs.Travels.{travels_quiet, travels_row}

-- ---- the lists of replicas

abbrev made : ReplicaState → ℕ → Bool → Seated WholeReplica
made s n c = record { state = record { state = s; messages = n }; crashed = c }

plain_set : (ps : List (Seated Replica)) (i : ℕ) (p : Seated Replica) → map plain (slice_set ps i p) ≡ slice_set (map plain ps) i (plain p)
plain_set [] i p = refl
plain_set (x ∷ ps) zero p = refl
plain_set (x ∷ ps) (suc i) p = ap (λ (qs : List (Seated WholeReplica)). plain x ∷ qs) (plain_set ps i p)

pub plain_found : (ps : List (Seated Replica)) (i : ℕ) (p : Seated Replica) → slice_get ps i ≡ Some p → slice_get (map plain ps) i ≡ Some (plain p)
plain_found [] i p e = absurd cc
plain_found (x ∷ ps) zero p e = let same : x ≡ p = cc in ap (λ (y : Seated Replica). Some (plain y)) same
plain_found (x ∷ ps) (suc i) p e = plain_found ps i p e

module _ {S : Type 0} (m : Meaning S) where
  pub trimmed_set : (qs : List (Seated WholeReplica)) (i : ℕ) (q : Seated WholeReplica)
      → map (trimmed_seat m) (slice_set qs i q) ≡ slice_set (map (trimmed_seat m) qs) i (trimmed_seat m q)
  trimmed_set [] i q = refl
  trimmed_set (x ∷ qs) zero q = refl
  trimmed_set (x ∷ qs) (suc i) q = ap (λ (rs : List (Seated WholeReplica)). trimmed_seat m x ∷ rs) (trimmed_set qs i q)

  -- the whole replica at the place of a real one
  pub record WholeSeat (qs : List (Seated WholeReplica)) (i : ℕ) (p : Seated Replica) : Type 0 where
    pub seat : Seated WholeReplica
    pub there : slice_get qs i ≡ Some seat
    pub same : plain p ≡ trimmed_seat m seat

  pub whole_seat : (ps : List (Seated Replica)) (qs : List (Seated WholeReplica)) (i : ℕ) (p : Seated Replica)
      → map plain ps ≡ map (trimmed_seat m) qs → slice_get ps i ≡ Some p → WholeSeat qs i p
  whole_seat ps qs i p alike e =
      let x = slice_get-from_map (trimmed_seat m) qs i (plain p)
      (ap (λ (rs : List (Seated WholeReplica)). slice_get rs i) (sym alike) ∙ plain_found ps i p e) in
      record { seat = x.from; there = x.there; same = sym x.is }

-- ---- what is trimmed of what a row sends

module _ {S : Type 0} (m : Meaning S) where
  trimmed_count : (xs : List Sending) → message_count (map (trimmed_sending m) xs) ≡ message_count xs
  trimmed_count [] = refl
  trimmed_count (ToReplicas dest p ∷ xs) = ap (λ (n : ℕ). n + 1) (trimmed_count xs)
  trimmed_count (_ ∷ xs) = trimmed_count xs

  trimmed_replies : (xs : List Sending) → replies_in (map (trimmed_sending m) xs) ≡ replies_in xs
  trimmed_replies [] = refl
  trimmed_replies (ToClient r ∷ xs) = ap (λ (os : List Out). reply_out r ∷ os) (trimmed_replies xs)
  trimmed_replies (_ ∷ xs) = trimmed_replies xs

  trimmed_letters : (n : ℕ) (xs : List Sending) → letters_in n (map (trimmed_sending m) xs) ≡ map (trimmed_letter m) (letters_in n xs)
  trimmed_letters n [] = refl
  trimmed_letters n (ToReplicas dest p ∷ xs) =
      ap (λ (ls : List Letter). record { number = n + 1; dest = dest; peer = trimmed_peer m p } ∷ ls) (trimmed_letters (n + 1) xs)
  trimmed_letters n (_ ∷ xs) = trimmed_letters n xs

  trimmed_archive : (archive : List Entry) (xs : List Sending) → with_sends archive (map (trimmed_sending m) xs) ≡ with_sends archive xs
  trimmed_archive archive [] = refl
  trimmed_archive archive (Trims first entries ∷ xs) = trimmed_archive (with_entries archive first entries.entries) xs
  trimmed_archive archive (_ ∷ xs) = trimmed_archive archive xs

-- ---- what is posted adds to the archive what was sent

fragments_add_nothing : (archive : List Entry) (dest : Dest) (fs : List Fragment) (more : List Out)
    → with_outs archive (cutting.sends_of dest fs ++ more) ≡ with_outs archive more
fragments_add_nothing archive dest [] more = refl
fragments_add_nothing archive dest (f ∷ fs) more = fragments_add_nothing archive dest fs more

posted_adds : (archive : List Entry) (n : ℕ) (sends : List Sending) → with_outs archive (posted n sends) ≡ with_sends archive sends
unfolding posted
posted_adds archive n [] = refl
posted_adds archive n (ToClient r ∷ sends) = posted_adds archive n sends
posted_adds archive n (ToReplicas dest p ∷ sends) =
    fragments_add_nothing archive dest (cutting.fragments_of p.sender (n + 1) (peer.spelling p)) (posted (n + 1) sends)
    ∙ posted_adds archive (n + 1) sends
posted_adds archive n (Trims first entries ∷ sends) = posted_adds (with_entries archive first entries.entries) n sends

-- ---- what is posted has no lines

lines_append : (xs ys : List Out) → lines_of xs ≡ [] → lines_of ys ≡ [] → lines_of (xs ++ ys) ≡ []
lines_append [] ys a b = b
lines_append (outs.Submitted r ∷ xs) ys a b = absurd cc
lines_append (outs.Accepted client id result ∷ xs) ys a b = absurd cc
lines_append (outs.Busy client ∷ xs) ys a b = absurd cc
lines_append (_ ∷ xs) ys a b = lines_append xs ys a b

fragments_silent : (dest : Dest) (fs : List Fragment) → lines_of (cutting.sends_of dest fs) ≡ []
fragments_silent dest [] = refl
fragments_silent dest (f ∷ fs) = fragments_silent dest fs

posted_silent : (n : ℕ) (sends : List Sending) → lines_of (posted n sends) ≡ []
unfolding posted
posted_silent n [] = refl
posted_silent n (ToReplicas dest p ∷ sends) =
    lines_append (cutting.sends_of dest (cutting.fragments_of p.sender (n + 1) (peer.spelling p))) (posted (n + 1) sends)
    (fragments_silent dest (cutting.fragments_of p.sender (n + 1) (peer.spelling p))) (posted_silent (n + 1) sends)
posted_silent n (_ ∷ sends) = posted_silent n sends

-- ---- a row

-- a step with the effect of a row over whole messages
record Does (s : Replica) (result : Replica × List Out) (e : Effect) : Type 0 where
  pub state : result.0.state ≡ e.0
  pub messages : result.0.messages ≡ s.messages + message_count e.1
  pub outs : result.1 ≡ posted s.messages e.1

rests : (s t : Replica) → t.state ≡ s.state → t.messages ≡ s.messages → Does s (t, []) (still s.state)
unfolding posted
rests s t a b = record { state = a; messages = b ∙ (let more : s.messages ≡ s.messages + 0 = omega arith in more); outs = refl }

module _ {S : Type 0} (m : Meaning S) where
  -- a row over trimmed logs, while message numbers are left
  abbrev pub real_if : Bool → ReplicaState → messages.Arrival → Effect
  real_if true s a = messages.arrive m Trimmed s a
  real_if false s a = still s

  abbrev pub real_effect : Replica → Option messages.Arrival → Effect
  real_effect s None = still s.state
  real_effect s (Some a) = real_if (nat_lt s.messages LAST_MESSAGE) s.state a

  -- what comes in the whole world, with its log trimmed
  abbrev pub real_arrival : WholeWorld → Brings → Option messages.Arrival
  real_arrival w g = option_map (trimmed_arrival m) (arrival_of w g)

  row_if_does : (b : Bool) (s : Replica) (waiting : List Waiting) (a : messages.Arrival)
      → Does s (replica.row_if m b (record s { reassembly = waiting }) a) (real_if b s.state a)
  row_if_does true s waiting a = record { state = refl; messages = refl; outs = refl }
  row_if_does false s waiting a = rests s (record s { reassembly = waiting }) refl refl

  row_does : (s : Replica) (waiting : List Waiting) (a : messages.Arrival)
      → Does s (replica.row m (record s { reassembly = waiting }) a) (real_effect s (Some a))
  row_does s waiting a = row_if_does (nat_lt s.messages LAST_MESSAGE) s waiting a

  module _ (w : WholeWorld) (s : Replica) where
    abbrev DoesOf : Replica × List Out → Brings → Type 0
    DoesOf result g = Does s result (real_effect s (real_arrival w g))

    letter_does : (f : Fragment) (bytes : List ℕ) (waiting : List Waiting) → JoinsTrimmed m w f bytes
        → DoesOf (replica.read m (record s { reassembly = waiting }) f.replica (peers.reading bytes)) (whole.Message f.replica f.message)
    letter_does f bytes waiting j =
        let p : Peer = trimmed_peer m j.peer in
        let arrived : real_arrival w (whole.Message f.replica f.message) ≡ Some (messages.PeerMessage p) =
        ap (λ (o : Option Peer). option_map (trimmed_arrival m) (message_if o)) j.letter in
        let took : replica.read m (record s { reassembly = waiting }) f.replica (peers.reading bytes)
        ≡ replica.row m (record s { reassembly = waiting }) (messages.PeerMessage p) =
        ap (λ (r : Result Peer BadPeer). replica.read m (record s { reassembly = waiting }) f.replica r) j.read
        ∙ ap (λ (x : Bool). replica.of_sender_if m x (record s { reassembly = waiting }) p) (eq-eqb j.peer.sender f.replica j.sender) in
        subst (λ (r : Replica × List Out). DoesOf r (whole.Message f.replica f.message)) (sym took)
        (subst (λ (o : Option messages.Arrival). Does s (replica.row m (record s { reassembly = waiting }) (messages.PeerMessage p))
        (real_effect s o)) (sym arrived) (row_does s waiting (messages.PeerMessage p)))

    joined_does : (f : Fragment) (waiting : List Waiting) (o : Option (List ℕ))
        → ((bytes : List ℕ) → o ≡ Some bytes → JoinsTrimmed m w f bytes)
        → DoesOf (replica.joined m (record s { reassembly = waiting }) f.replica o) (completes f o)
    joined_does f waiting None j = rests s (record s { reassembly = waiting }) refl refl
    joined_does f waiting (Some bytes) j = letter_does f bytes waiting (j bytes refl)

    fragment_if_does : (f : Fragment) (c : Bool) → ((bytes : List ℕ) → (taken s.reassembly f).1 ≡ Some bytes → JoinsTrimmed m w f bytes)
        → DoesOf (replica.fragment_if m c s f) (fragment_if c s f)
    fragment_if_does f true j = joined_does f (taken s.reassembly f).0 (taken s.reassembly f).1 j
    fragment_if_does f false j = rests s s refl refl

    -- what is read of bytes that both worlds have
    read_does : (g : Brings) (bytes : List ℕ) (r : Result Datagram Bad) → reading bytes ≡ r → is_fragment r ≡ false
        → arrival_of w g ≡ arrival_read (reading bytes) → DoesOf (replica.on_datagram m s r) g
    read_does g bytes (Ok (datagrams.Fragment f)) is c a = absurd cc
    read_does g bytes r is c a =
        subst (λ (o : Option messages.Arrival). Does s (replica.on_datagram m s r) (real_effect s (option_map (trimmed_arrival m) o)))
        (sym (a ∙ ap arrival_read is)) (by r c)
      where
        by : (x : Result Datagram Bad) → is_fragment x ≡ false
            → Does s (replica.on_datagram m s x) (real_effect s (option_map (trimmed_arrival m) (arrival_read x)))
        by (Ok (datagrams.Stamped p)) d = row_does s s.reassembly (messages.Packet p)
        by (Ok (datagrams.Fragment f)) d = absurd cc
        by _ d = rests s s refl refl

-- what a row sends is in its ranges, under the replica's own number, and finds message numbers
pub record RowFits {S : Type 0} (m : Meaning S) (i : ℕ) (s : Replica) (e : Effect) : Type 0 where
  pub sends : AllByRecursion SendingFits e.1
  pub by : AllByRecursion (IsBy i) e.1
  pub high : s.messages + message_count e.1 < 2 ^ 64

-- ---- by the event

completes_is : (f : Fragment) (o : Option (List ℕ)) → is_crash (completes f o) ≡ false
completes_is f None = refl
completes_is f (Some bytes) = refl

fragment_is : (c : Bool) (s : Replica) (f : Fragment) → is_crash (fragment_if c s f) ≡ false
fragment_is true s f = completes_is f (taken s.reassembly f).1
fragment_is false s f = refl

module _ {S : Type 0} (m : Meaning S) (t : WorldState) (ls : List Line) (v : WholeWorld) (follows : Alike m t ls v) (i : ℕ)
    (p : Seated Replica) (found : slice_get t.replicas i ≡ Some p) where
  abbrev s : Replica
  s = p.state

  -- what fragments complete here is the letter of their sender and number
  abbrev pub Joins : Type 0
  Joins = (k : ℕ) (x : Sent) (f : Fragment) (bytes : List ℕ) → slice_get t.sent k ≡ Some x → reading x.bytes ≡ Ok (datagrams.Fragment f)
      → (taken s.reassembly f).1 ≡ Some bytes → JoinsTrimmed m v f bytes

  abbrev Goes : Given → Brings → Type 0
  Goes g x = (is_crash x ≡ false) × Does s (replica.next m s g) (real_effect m s (real_arrival m v x))

  module _ (live : p.crashed ≡ false) where
    bytes_go : (x : Brings) (bytes : List ℕ) (r : Result Datagram Bad) → reading bytes ≡ r → is_fragment r ≡ false → is_crash x ≡ false
        → arrival_of v x ≡ arrival_read (reading bytes) → Goes (Packet bytes) x
    unfolding replica.next
    bytes_go x bytes r is c crash a = (
      crash,
      subst (λ (y : Result Datagram Bad). Does s (replica.on_datagram m s y) (real_effect m s (real_arrival m v x)))
          (sym is) (read_does m v s x bytes r is c a),
    )

    equal_goes : (k : ℕ) (x : Sent) → slice_get t.sent k ≡ Some x → (r : Result Datagram Bad) → reading x.bytes ≡ r
        → is_apart r ≡ false → Goes (Packet x.bytes) (whole.Equal x.bytes)
    equal_goes k x at r is c =
        bytes_go (whole.Equal x.bytes) x.bytes r is (no_fragment r c) refl
        (ap (λ (y : Bool). arrival_given (given_if y x.bytes))
        (other_was_sent t.sent v.sent k x follows.sent at (ap is_apart is ∙ c)))

    -- an answer is for clients
    heard_goes : (x : Sent) (a : Answer) → reading x.bytes ≡ Ok (datagrams.Answer a) → Goes (Packet x.bytes) (whole.Heard x.bytes)
    heard_goes x a is =
        bytes_go (whole.Heard x.bytes) x.bytes (Ok (datagrams.Answer a)) is refl refl (sym (ap arrival_read is))

    fragment_goes : (x : Sent) (f : Fragment) → reading x.bytes ≡ Ok (datagrams.Fragment f)
        → ((bytes : List ℕ) → (taken s.reassembly f).1 ≡ Some bytes → JoinsTrimmed m v f bytes)
        → Goes (Packet x.bytes) (datagram_to t (actors.Replica i) x.bytes (Ok (datagrams.Fragment f)))
    unfolding replica.next replica.fragment
    fragment_goes x f is joins =
        let here : datagram_to t (actors.Replica i) x.bytes (Ok (datagrams.Fragment f)) ≡ fragment_if (is_other s.state f.replica) s f =
        ap (λ (o : Option (Seated Replica)). fragment_at o f) found
        ∙ ap (λ (c : Bool). fragment_if (not c && is_other s.state f.replica) s f) live in
        subst (λ (y : Brings). Goes (Packet x.bytes) y) (sym here) (
          fragment_is (is_other s.state f.replica) s f,
          subst (λ (y : Result Datagram Bad). Does s (replica.on_datagram m s y)
              (real_effect m s (real_arrival m v (fragment_if (is_other s.state f.replica) s f)))) (sym is)
              (fragment_if_does m v s f (is_other s.state f.replica) joins),
        )

    packet_goes : (k : ℕ) (x : Sent) → slice_get t.sent k ≡ Some x → (r : Result Datagram Bad) → reading x.bytes ≡ r
        → ((f : Fragment) (bytes : List ℕ) → reading x.bytes ≡ Ok (datagrams.Fragment f) → (taken s.reassembly f).1 ≡ Some bytes
        → JoinsTrimmed m v f bytes) → Goes (Packet x.bytes) (datagram_to t (actors.Replica i) x.bytes r)
    packet_goes k x at (Ok (datagrams.Fragment f)) is joins = fragment_goes x f is (λ bytes. joins f bytes is)
    packet_goes k x at (Ok (datagrams.Answer a)) is joins = heard_goes x a is
    packet_goes k x at d is joins = equal_goes k x at d is refl

    sent_goes : (k : ℕ) (o : Option Sent) → slice_get t.sent k ≡ o → (g : Given) → datagram_at k (length t.sent) o ≡ Ok (Takes g)
        → ((x : Sent) (f : Fragment) (bytes : List ℕ) → slice_get t.sent k ≡ Some x → reading x.bytes ≡ Ok (datagrams.Fragment f)
        → (taken s.reassembly f).1 ≡ Some bytes → JoinsTrimmed m v f bytes) → Goes g (sent_to t (actors.Replica i) o)
    sent_goes k None at g is joins = absurd cc
    sent_goes k (Some x) at g is joins =
        let same : Packet x.bytes ≡ g = cc in
        subst (λ (y : Given). Goes y (sent_to t (actors.Replica i) (Some x))) same
        (packet_goes k x at (reading x.bytes) refl (λ f bytes. joins x f bytes at))

    tick_goes : (c : Bool) (tick : Tick) (g : Given) → tick_if c tick ≡ Ok (Takes g) → Goes g (whole.Timer tick)
    unfolding replica.next
    tick_goes false tick g is = absurd cc
    tick_goes true tick g is =
        let same : Ticked tick ≡ g = cc in
        subst (λ (y : Given). Goes y (whole.Timer tick)) same (refl, row_does m s s.reassembly (messages.Ticked tick))

    junk_goes : (bytes : List ℕ) (r : Result Datagram Bad) → reading bytes ≡ r → (g : Given) → junk_of bytes r ≡ Ok (Takes g)
        → Goes g (whole.Junk bytes)
    junk_goes bytes (Ok d) is g e = absurd cc
    junk_goes bytes (Err bad) is g e =
        let same : Packet bytes ≡ g = cc in
        subst (λ (y : Given). Goes y (whole.Junk bytes)) same
        (bytes_go (whole.Junk bytes) bytes (Err bad) is refl refl
        (ap (λ (y : Result Datagram Bad). arrival_given (junk_if y bytes)) is))

    event_goes : (e : Event) → actor_of e ≡ actors.Replica i → Joins → (g : Given)
        → stimulus_of t.config t.sent e ≡ Ok (Takes g) → Goes g (brought t e)
    unfolding stimulus_of
    event_goes (events.Deliver k actor) at joins g is =
        subst (λ (a : Actor). Goes g (sent_to t a (slice_get t.sent k))) (sym at)
        (sent_goes k (slice_get t.sent k) refl g is (joins k))
    event_goes (events.Tick actor tick) at joins g is = tick_goes (takes_tick actor tick) tick g is
    event_goes (events.Junk actor bytes) at joins g is = junk_goes bytes (reading bytes) refl g is
    event_goes _ at joins g is = absurd cc

  -- a crash delivers a crash
  sent_crashes : (k : ℕ) (n : ℕ) (o : Option Sent) → datagram_at k n o ≡ Ok Crashes → ⊥
  sent_crashes k n None is = absurd cc
  sent_crashes k n (Some x) is = absurd cc

  tick_crashes : (c : Bool) (tick : Tick) → tick_if c tick ≡ Ok Crashes → ⊥
  tick_crashes true tick is = absurd cc
  tick_crashes false tick is = absurd cc

  read_crashes : (c : Bool) (observer : ℕ) (key : List ℕ) → read_if c observer key ≡ Ok Crashes → ⊥
  read_crashes true observer key is = absurd cc
  read_crashes false observer key is = absurd cc

  junk_crashes : (bytes : List ℕ) (r : Result Datagram Bad) → junk_of bytes r ≡ Ok Crashes → ⊥
  junk_crashes bytes (Ok d) is = absurd cc
  junk_crashes bytes (Err bad) is = absurd cc

  crash_brings : (e : Event) → stimulus_of t.config t.sent e ≡ Ok Crashes → is_crash (brought t e) ≡ true
  unfolding stimulus_of
  crash_brings (events.Submit number op) is = absurd cc
  crash_brings (events.Deliver k actor) is = absurd (sent_crashes k (length t.sent) (slice_get t.sent k) is)
  crash_brings (events.Tick actor tick) is = absurd (tick_crashes (takes_tick actor tick) tick is)
  crash_brings (events.Install k j) is = absurd (tick_crashes (nat_lt j t.config.sequencers) (ticks.Install j) is)
  crash_brings (events.Read client observer key) is = absurd (read_crashes (nat_lt observer t.config.observers) observer key is)
  crash_brings (events.Crash actor) is = refl
  crash_brings (events.Junk actor bytes) is = absurd (junk_crashes bytes (reading bytes) is)

  -- ---- the worlds afterwards

  module _ (bounds : Bounds m Trimmed) (trims : RowsTrim m v) (carried : Travels t.sent t.replicas (real_letters m v))
      (q : Seated WholeReplica) (there : slice_get v.replicas i ≡ Some q) (same : plain p ≡ trimmed_seat m q) where
    abbrev from : Actor
    from = actors.Replica i

    -- both worlds after an event, and what was added to the archive and to the network
    pub record After (h : Happened) (u : WholeWorld) (sends : List Sending) : Type 0 where
      pub alike : Alike m h.world (ls ++ h.lines) u
      pub travels : Travels h.world.sent h.world.replicas (real_letters m u)
      pub archive : h.world.archive ≡ with_sends t.archive sends
      pub posted : List Sent
      pub sent : h.world.sent ≡ t.sent ++ posted
      pub observers : h.world.observers ≡ t.observers

    abbrev pub row_of : Event → Effect
    row_of e = effect_of m q.state (arrival_of v (brought t e))

    abbrev pub real_of : Event → Effect
    real_of e = real_effect m s (real_arrival m v (brought t e))

    -- the row over the trimmed log is that over the whole one, trimmed
    state_is : s.state ≡ trimmed m q.state.state
    state_is = ap (λ (x : Seated WholeReplica). x.state.state) same

    count_is : s.messages ≡ q.state.messages
    count_is = ap (λ (x : Seated WholeReplica). x.state.messages) same

    row_trims : (e : Event) (o : Option messages.Arrival) → arrival_of v (brought t e) ≡ o
        → real_effect m s (option_map (trimmed_arrival m) o) ≡ trimmed_effect m (effect_of m q.state o)
    row_trims e None is = ap (λ (x : ReplicaState). still x) state_is
    row_trims e (Some a) is =
        ap (λ (x : ReplicaState). real_if m (nat_lt s.messages LAST_MESSAGE) x (trimmed_arrival m a)) state_is
        ∙ ap (λ (n : ℕ). real_if m (nat_lt n LAST_MESSAGE) (trimmed m q.state.state) (trimmed_arrival m a)) count_is
        ∙ by (nat_lt q.state.messages LAST_MESSAGE)
      where
        by : (b : Bool) → real_if m b (trimmed m q.state.state) (trimmed_arrival m a) ≡ trimmed_effect m (whole.row_if m b q.state.state a)
        by true = trims i q (brought t e) a there is
        by false = refl

    pub real_is : (e : Event) → real_of e ≡ trimmed_effect m (row_of e)
    real_is e = row_trims e (arrival_of v (brought t e)) refl

    set_same : (x : Seated Replica) (y : Seated WholeReplica) → plain x ≡ trimmed_seat m y
        → map plain (slice_set t.replicas i x) ≡ map (trimmed_seat m) (slice_set v.replicas i y)
    set_same x y e = plain_set t.replicas i x
        ∙ ap (λ (qs : List (Seated WholeReplica)). slice_set qs i (plain x)) follows.replicas
        ∙ ap (λ (z : Seated WholeReplica). slice_set (map (trimmed_seat m) v.replicas) i z) e
        ∙ sym (trimmed_set m v.replicas i y)

    -- where the real replica is x
    settles : (x : Seated Replica × Did) (qs : List (Seated WholeReplica)) (more : List Sent) (letters : List Letter)
        (sends : List Sending)
        → map plain (slice_set t.replicas i x.0) ≡ map (trimmed_seat m) qs → other_datagrams (sends_by from x.1) ≡ more
        → filter is_spoken (lines_by from (length t.sent) x.1) ≡ []
        → Travels (t.sent ++ sends_by from x.1) (slice_set t.replicas i x.0) (map (trimmed_letter m) letters)
        → archived t.archive x.1 ≡ with_sends t.archive sends
        → After (at_replica t i x) (record v { replicas = qs; sent = v.sent ++ more; letters = letters }) sends
    settles x qs more letters sends seats sent silent carries archive = record {
      alike = record {
        lines = lines_go_on m t ls v follows (lines_by from (length t.sent) x.1) [] silent ∙ append-nil v.lines;
        sent = sends_go_on m t ls v follows (sends_by from x.1) more sent;
        config = follows.config;
        replicas = seats;
        others = follows.others;
      };
      travels = carries;
      archive = archive;
      posted = sends_by from x.1;
      sent = refl;
      observers = refl;
    }

    -- where nothing is sent
    nothing_more : (x : Seated Replica) (did : Did) (qs : List (Seated WholeReplica))
        → map plain (slice_set t.replicas i x) ≡ map (trimmed_seat m) qs
        → sends_by from did ≡ [] → filter is_spoken (lines_by from (length t.sent) did) ≡ [] → x.state ≡ s
        → archived t.archive did ≡ t.archive → After (at_replica t i (x, did)) (record v { replicas = qs }) []
    nothing_more x did qs seats none silent keeps archive =
        subst (λ (ss : List Sent). After (at_replica t i (x, did)) (record v { replicas = qs; sent = ss }) []) (append-nil v.sent)
        (settles (x, did) qs [] v.letters [] seats (ap other_datagrams none) silent
        (subst (λ (ss : List Sent). Travels (t.sent ++ ss) (slice_set t.replicas i x) (real_letters m v)) (sym none)
        (travels_quiet t.sent t.replicas (real_letters m v) i p x found keeps carried)) archive)

    row_after : (g : Given) (e : Effect) → Does s (replica.next m s g) (trimmed_effect m e) → RowFits m i s (trimmed_effect m e)
        → MayCome (bytes_of t.sent) g
        → After (at_replica t i (seated (replica.next m s g).0, Outputs (replica.next m s g).1)) (whole.posts v i q.state e) e.1
    row_after g e does fits may =
        let r : Replica × List Out = replica.next m s g in
        let ts : List Sending = map (trimmed_sending m) e.1 in
        let delivers = step_delivers m bounds carried.posts.peer_messages (bytes_of t.sent) carried.used i s g carried.posts.network
        (carried.members i p found) may in
        let counts : r.0.messages ≡ q.state.messages + message_count e.1 =
        does.messages ∙ ap (λ (n : ℕ). s.messages + n) (trimmed_count m e.1) ∙ ap (λ (n : ℕ). n + message_count e.1) count_is in
        let letters : real_letters m v ++ letters_in s.messages ts ≡ map (trimmed_letter m) (v.letters ++ letters_in q.state.messages e.1) =
        ap (λ (n : ℕ). real_letters m v ++ letters_in n ts) count_is
        ∙ ap (λ (xs : List Letter). real_letters m v ++ xs) (trimmed_letters m q.state.messages e.1)
        ∙ sym (map-append (trimmed_letter m) v.letters (letters_in q.state.messages e.1)) in
        settles (seated r.0, Outputs r.1) (slice_set v.replicas i (seated (whole.after_row q.state e)))
        (sends_of from (replies_in e.1)) (v.letters ++ letters_in q.state.messages e.1) e.1
        (set_same (seated r.0) (seated (whole.after_row q.state e))
        (ap (λ (y : ReplicaState). made y r.0.messages false) does.state
        ∙ ap (λ (n : ℕ). made (trimmed m e.0) n false) counts))
        (ap (λ (os : List Out). other_datagrams (sends_of from os)) does.outs
        ∙ posted_others from s.messages ts fits.sends fits.high
        ∙ ap (λ (os : List Out). sends_of from os) (trimmed_replies m e.1))
        (lines_spoken from (length t.sent) r.1 ∙ ap lines_of does.outs ∙ posted_silent s.messages ts)
        (subst (λ (xs : List Letter). Travels (t.sent ++ sends_of from r.1) (slice_set t.replicas i (seated r.0)) xs) letters
        (travels_row t.sent t.replicas (real_letters m v) i p (seated r.0) r.1 ts found fits.sends fits.by fits.high does.outs does.messages
        carried delivers.replica))
        (ap (with_outs t.archive) does.outs ∙ posted_adds t.archive s.messages ts ∙ trimmed_archive m t.archive e.1)

    crashed_is : p.crashed ≡ q.crashed
    crashed_is = ap (λ (x : Seated WholeReplica). x.crashed) same

    abbrev sends_if : Bool → Event → List Sending
    sends_if c e = cond (c || is_crash (brought t e)) [] (row_of e).1

    acts : (e : Event) → actor_of e ≡ actors.Replica i → Joins → RowFits m i s (real_of e) → (what : Stimulus)
        → stimulus_of t.config t.sent e ≡ Ok what → AllMayCome (bytes_of t.sent) what → (c : Bool) → p.crashed ≡ c
        → After (at_replica t i (moved_if (replica.next m) c p what)) (whole.at_replica m v i q c (brought t e)) (sends_if c e)
    acts e at joins fits what is may true c =
        nothing_more p Nothing v.replicas
        (ap (map plain) (slice_set-found t.replicas i p found) ∙ follows.replicas) refl refl refl refl
    acts e at joins fits Crashes is may false c =
        let gone : Seated Replica = record { state = s; crashed = true } in
        subst (λ (y : Bool). After (at_replica t i (gone, Outputs [])) (whole.live_replica m v i q y (brought t e))
        (cond (false || y) [] (row_of e).1))
        (sym (crash_brings e is))
        (nothing_more gone (Outputs []) (slice_set v.replicas i (record q { crashed = true }))
        (set_same gone (record q { crashed = true })
        (ap (λ (x : Seated WholeReplica). (let y : Seated WholeReplica = record x { crashed = true } in y)) same)) refl refl refl refl)
    acts e at joins fits (Takes g) is may false c =
        let goes : Goes g (brought t e) = event_goes c e at joins g is in
        subst (λ (y : Bool). After (at_replica t i (seated (replica.next m s g).0, Outputs (replica.next m s g).1))
        (whole.live_replica m v i q y (brought t e)) (cond (false || y) [] (row_of e).1)) (sym goes.0)
        (row_after g (row_of e) (subst (λ (x : Effect). Does s (replica.next m s g) x) (real_is e) goes.1)
        (subst (RowFits m i s) (real_is e) fits) may)

    steps : (e : Event) → actor_of e ≡ actors.Replica i → Joins → RowFits m i s (real_of e)
        → ((what : Stimulus) → stimulus_of t.config t.sent e ≡ Ok what → AllMayCome (bytes_of t.sent) what)
        → (h : Happened) (r : Result Stimulus Refusal)
        → stimulus_of t.config t.sent e ≡ r → then_at (at_replica t i) (step_at (replica.next m) (Some p) r) ≡ Ok h
        → After h (step_replica m v i (Some q) (brought t e)) (row_sends m v (Some q) (brought t e))
    steps e at joins fits may h (Err refusal) is got = absurd cc
    steps e at joins fits may h (Ok what) is got =
        let same : at_replica t i (seat_step (replica.next m) p what) ≡ h = cc in
        subst (λ (y : Happened). After y (step_replica m v i (Some q) (brought t e)) (row_sends m v (Some q) (brought t e))) same
        (subst (λ (c : Bool). After (at_replica t i (seat_step (replica.next m) p what)) (whole.at_replica m v i q c (brought t e)) (sends_if c e))
        crashed_is (acts e at joins fits what is (may what is) p.crashed refl))

    pub replica_follows : (e : Event) → actor_of e ≡ actors.Replica i → Joins → RowFits m i s (real_of e)
        → ((what : Stimulus) → stimulus_of t.config t.sent e ≡ Ok what → AllMayCome (bytes_of t.sent) what)
        → (h : Happened) → step m t e ≡ Ok h
        → After h (whole_step m v (actors.Replica i) (brought t e)) (row_sends m v (slice_get v.replicas i) (brought t e))
    unfolding step
    replica_follows e at joins fits may h is =
        let real : then_at (at_replica t i) (step_at (replica.next m) (Some p) (stimulus_of t.config t.sent e)) ≡ Ok h =
        ap (λ (o : Option (Seated Replica)). then_at (at_replica t i) (step_at (replica.next m) o (stimulus_of t.config t.sent e)))
        (sym found) ∙ ap (λ (a : Actor). step_of m t (who a) (stimulus_of t.config t.sent e)) (sym at) ∙ is in
        subst (λ (o : Option (Seated WholeReplica)). After h (step_replica m v i o (brought t e)) (row_sends m v o (brought t e))) (sym there)
        (steps e at joins fits may h (stimulus_of t.config t.sent e) refl real)
