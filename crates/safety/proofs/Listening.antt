-- What an observer sends are answers in their ranges, whatever comes to it of what was sent.
use Rattle.std.proofs.Common.{◌≡◌, ◌≤◌, ◌<◌, ◌^◌, ◌++◌, ℕ, Bool, true, false, cond, List, [], ◌∷◌, length, Option, Some, None, Result, Ok}
use Rattle.std.proofs.Common.{refl, sym, ap, subst, ◌∙◌, arith, inl, inr}
use Rattle.std.specs.Prelude.{⊤, ◌==◌, ◌&&◌, nat_lt}
use Rattle.nop_types.specs.Checkpoints.{KeepsTo}
use Rattle.nop_types.specs.CheckpointedLogs.{loads, executed}
use Rattle.nop_types.specs.Given.{Given, Packet}
use Rattle.nop_types.specs.Lists.{Has}
use Rattle.nop_types.specs.Logs.{Log, Trimmed, first}
use Rattle.nop_types.specs.Meaning.{Meaning}
use Rattle.nop_types.specs.Ranges.{AnswerFits, BodyFits, DatagramFits, LogFits, PeerFits, ReadFits}
use Rattle.nop_types.specs.Views.{leader_of}
use Rattle.nop_types.specs.declared.datagram.Answer.{Answer}
use Rattle.nop_types.specs.declared.datagram.Datagram.{Datagram}
use Rattle.nop_types.specs.declared.datagram.Datagram.TheVariants as datagrams
use Rattle.nop_types.specs.declared.datagram.Fragment.{Fragment}
use Rattle.nop_types.specs.declared.datagram.Read.{Read}
use Rattle.nop_types.specs.declared.limits.TheConstants.{MAX_RESULT_BYTES}
use Rattle.nop_types.specs.declared.output.Actor.{Actor}
use Rattle.nop_types.specs.declared.output.Out.{Out}
use Rattle.nop_types.specs.declared.output.Out.TheVariants as outs
use Rattle.nop_types.specs.declared.peer.Body.{Body}
use Rattle.nop_types.specs.declared.peer.Body.TheVariants as bodies
use Rattle.nop_types.specs.declared.peer.Peer.{Peer}
use Rattle.nop_types.specs.declared.view.View.{View}
use Rattle.oum_codec.specs.declared.bad.Bad.{Bad}
use Rattle.oum_codec.specs.Reading.{reading}
use Rattle.oum_codec.specs.Spelling.{Spells}
use Rattle.oum_codec.proofs.Datagrams.{reads_again}
use Rattle.peer_codec.specs.declared.bad_peer.BadPeer.{BadPeer}
use Rattle.peer_codec.specs.Reading as peers
use Rattle.fragments.specs.Joining.{taken}
use Rattle.fragments.specs.Runs.{AllCame}
use Rattle.fragments.proofs.Came.{keeps_what_came}
use Rattle.trimming.proofs.Executions.{executed_is_sound}
use Rattle.observer.specs.Hearing.{Hearing, of_sender_if, read, joined, fragment_if, fragment}
use Rattle.observer.specs.Observing.{Candidate, Observing, position, is_better, prepare_if, may_follow, commit_if, commit_by, on_body}
use Rattle.observer.specs.Observing.{told_if, told, answer}
use Rattle.nop_types.specs.Services.{get_of}
use Rattle.observer.specs.ObserverSteps.{Observer, answer_to, on_datagram, next}
use Rattle.replica_core.specs.ReplicaSteps.{Replica}
use Rattle.network.specs.Network.{Sent, sends_of}
use Rattle.network_laws.specs.Network.{MayCome, IsDatagram, fragments_among}
use Rattle.network_laws.proofs.Networks.{among_has}
use Rattle.network_laws.proofs.Replicas.{came_of_more}
use Rattle.std.proofs.lemmas.List.{map-append}
use Rattle.world.specs.Seats.{Seated}
use Rattle.whole_world.specs.Coming.{IsLetter}
use Rattle.whole_world.specs.Shows.{peers_of}
use Rattle.whole_world.specs.Whole.{Letter, lines_of}
use Rattle.whole_world.proofs.Coming.{letter_found}
use Rattle.whole_world.proofs.Fitting.{read_as}
use Rattle.whole_world.proofs.Mapped.{Has-map, slice_get-from_map}
use Rattle.lemmas.proofs.Members.{Has-none, Has-cases}
use Rattle.safety.specs.Following.{is_fragment, is_apart, other_datagrams, bytes_of}
use Rattle.safety.proofs.Beside.{Travels, Listens, AllListen, JoinsLetter}
use Rattle.safety.proofs.Posted.{one_gone}
use Rattle.safety.proofs.Travels.{joins_letter}

-- where more is sent
pub listens_more : (sent more : List (List ℕ)) (s : Observer) → Listens sent s → Listens (sent ++ more) s
listens_more sent more s h =
    record { number = h.number; came = came_of_more sent more s.heard.reassembly h.came; position = h.position }

pub more_listen : (sent more : List Sent) (observers : List (Seated Observer)) → AllListen (bytes_of sent) observers
    → AllListen (bytes_of (sent ++ more)) observers
more_listen sent more observers all i p e =
    subst (λ (b : List (List ℕ)). Listens b p.state) (sym (map-append (λ (s : Sent). s.bytes) sent more))
    (listens_more (bytes_of sent) (bytes_of more) p.state (all i p e))

-- ---- positions are numbers of 32 bits

known_low : (l known : Log) (b : Bool) → LogFits l → known.sync_point < 2 ^ 32
    → (cond b (first Trimmed l l.sync_point) known).sync_point < 2 ^ 32
known_low l known true fits h = let point = fits.point in let limit = fits.limit in omega (arith, point, limit)
known_low l known false fits h = h

prepare_low : (b : Bool) (s : Observing) (w : View) (l : Log) → LogFits l → position s < 2 ^ 32 → position (prepare_if Trimmed b s w l) < 2 ^ 32
prepare_low true s w l fits h = known_low l s.known (nat_lt s.known.sync_point l.sync_point) fits h
prepare_low false s w l fits h = h

module _ {S : Type 0} (m : Meaning S) where
  commit_low : (b : Bool) (s : Observing) (l : Log) (n : ℕ) → n < 2 ^ 32 → position s < 2 ^ 32
      → position (commit_if m Trimmed b s l n) < 2 ^ 32
  commit_low true s l n fits h = fits
  commit_low false s l n fits h = h

  commit_by_low : (o : Option Candidate) (s : Observing) (w : View) (n : ℕ) → n < 2 ^ 32 → position s < 2 ^ 32
      → position (commit_by m Trimmed o s w n) < 2 ^ 32
  commit_by_low None s w n fits h = h
  commit_by_low (Some c) s w n fits h = commit_low (may_follow Trimmed s c w n) s c.log n fits h

  body_low : (s : Observing) (w : View) (b : Body) → BodyFits b → position s < 2 ^ 32 → position (on_body m Trimmed s w b) < 2 ^ 32
  body_low s w (bodies.SyncPrepare l) fits h = prepare_low (loads m l && is_better Trimmed s.candidate w l) s w l fits h
  body_low s w (bodies.SyncCommit n) fits h = commit_by_low s.candidate s w n fits h
  body_low s w body fits h = h

  told_if_low : (b : Bool) (s : Observing) (p : Peer) → PeerFits p → position s < 2 ^ 32 → position (told_if m Trimmed b s p) < 2 ^ 32
  told_if_low true s p fits h = body_low s p.view p.body fits.body h
  told_if_low false s p fits h = h

  told_low : (n : ℕ) (s : Observing) (p : Peer) → PeerFits p → position s < 2 ^ 32 → position (told m Trimmed n s p) < 2 ^ 32
  told_low n s p fits h = told_if_low (p.sender == leader_of p.view n) s p fits h

-- ---- what comes to it

module _ {S : Type 0} (m : Meaning S) (sent : List Sent) (replicas : List (Seated Replica)) (letters : List Letter)
    (travels : Travels sent replicas letters) where
  abbrev net : List Fragment
  net = fragments_among (bytes_of sent)

  record Hears (s : Hearing) : Type 0 where
    came : AllCame net s.reassembly
    low : position s.state < 2 ^ 32

  module _ (n : ℕ) where
    sender_hears : (b : Bool) (s : Hearing) (p : Peer) → PeerFits p → Hears s → Hears (of_sender_if m n b s p)
    sender_hears true s p fits h = record { came = h.came; low = told_low m n s.state p fits h.low }
    sender_hears false s p fits h = h

    letter_fits : (q k : ℕ) (p : Peer) → IsLetter letters q k p → PeerFits p
    letter_fits q k p x =
        travels.fits p (subst (Has (peers_of letters)) x.peer (Has-map (λ (y : Letter). y.peer) letters x.letter x.has))

    message_hears : (s : Hearing) (f : Fragment) (bytes : List ℕ) → JoinsLetter letters f bytes → Hears s
        → Hears (read m n s f.replica (peers.reading bytes))
    message_hears s f bytes j h =
        subst (λ (r : Result Peer BadPeer). Hears (read m n s f.replica r)) (sym j.read)
        (sender_hears (j.peer.sender == f.replica) s j.peer
        (letter_fits f.replica f.message j.peer (letter_found letters f.replica f.message j.peer j.letter)) h)

    joined_hears : (s : Hearing) (f : Fragment) (o : Option (List ℕ)) → ((bytes : List ℕ) → o ≡ Some bytes → JoinsLetter letters f bytes)
        → Hears s → Hears (joined m n s f.replica o)
    joined_hears s f None joins h = h
    joined_hears s f (Some bytes) joins h = message_hears s f bytes (joins bytes refl) h

    fragment_hears : (b : Bool) (s : Hearing) (f : Fragment) → Has net f → Hears s → Hears (fragment_if m n b s f)
    fragment_hears true s f has h =
        joined_hears (record s { reassembly = (taken s.reassembly f).0 }) f (taken s.reassembly f).1
        (λ bytes is. joins_letter letters (bytes_of sent) travels.used s.reassembly f bytes travels.posts travels.fits h.came has is)
        (record { came = (keeps_what_came net s.reassembly f has h.came).kept; low = h.low })
    fragment_hears false s f has h = h

  datagram_listens : (s : Observer) (bytes : List ℕ) (r : Result Datagram Bad) → Has (bytes_of sent) bytes → reading bytes ≡ r
      → Listens (bytes_of sent) s → Listens (bytes_of sent) (on_datagram m s r).0
  datagram_listens s bytes (Ok (datagrams.Fragment f)) has is h =
      let x : Hears (fragment m s.config.replicas s.heard f) =
      fragment_hears s.config.replicas (nat_lt f.replica s.config.replicas) s.heard f (among_has (bytes_of sent) bytes f has is)
      (record { came = h.came; low = h.position }) in
      record { number = h.number; came = x.came; position = x.low }
  datagram_listens s bytes r has is h = h

  packet_listens : (s : Observer) (bytes : List ℕ) → MayCome (bytes_of sent) (Packet bytes) → Listens (bytes_of sent) s
      → Listens (bytes_of sent) (on_datagram m s (reading bytes)).0
  packet_listens s bytes (inl has) h = datagram_listens s bytes (reading bytes) has refl h
  packet_listens s bytes (inr none) h =
      subst (λ (r : Result Datagram Bad). Listens (bytes_of sent) (on_datagram m s r).0) (sym none.refused) h

  pub next_listens : (s : Observer) (g : Given) → MayCome (bytes_of sent) g → Listens (bytes_of sent) s
      → Listens (bytes_of sent) (next m s g).0
  unfolding next
  next_listens s (Packet bytes) may h = packet_listens s bytes may h
  next_listens s _ may h = h

-- ---- what it sends

pub record IsAnswer (bytes : List ℕ) : Type 0 where
  pub answer : Answer
  pub spells : Spells (datagrams.Answer answer) bytes

-- sends alone, each of an answer in its ranges
abbrev pub AreAnswers : List Out → Type 0
AreAnswers [] = ⊤
AreAnswers (outs.Send dest bytes ∷ rest) = IsAnswer bytes × AreAnswers rest
AreAnswers (_ ∷ rest) = ⊥

module _ {S : Type 0} (m : Meaning S) (IsSound : S → Type 0) (keeps : KeepsTo m IsSound) where
  answer_is_short : (s : Observing) (op : List ℕ) → length (answer m Trimmed s op) ≤ MAX_RESULT_BYTES
  answer_is_short s op =
      keeps.short (executed m Trimmed s.known (position s)).host op (executed_is_sound m IsSound keeps Trimmed s.known (position s))

  pub answer_fits : (sent : List (List ℕ)) (s : Observer) (r : Read) → Listens sent s → ReadFits r → AnswerFits (answer_to m s r)
  answer_fits sent s r h fits = record {
    observer = h.number;
    position = h.position;
    client = fits.client;
    id_low = fits.id_low;
    id = fits.id;
    result_length = answer_is_short s.heard.state (get_of r.key);
  }

  module _ (sent : List (List ℕ)) (all : (bytes : List ℕ) → Has sent bytes → IsDatagram bytes) where
    read_fits : (bytes : List ℕ) (r : Read) → Has sent bytes → reading bytes ≡ Ok (datagrams.Read r) → ReadFits r
    read_fits bytes r has is =
        let d = all bytes has in
        subst DatagramFits (read_as bytes d.datagram (datagrams.Read r) d.spells is) d.spells.fits

    datagram_answers : (s : Observer) (bytes : List ℕ) (r : Result Datagram Bad) → Has sent bytes → reading bytes ≡ r → Listens sent s
        → AreAnswers (on_datagram m s r).1
    datagram_answers s bytes (Ok (datagrams.Read r)) has is h = (
      record {
        answer = answer_to m s r;
        spells = record { fits = answer_fits sent s r h (read_fits bytes r has is); spelled = refl };
      },
      tt,
    )
    datagram_answers s bytes r has is h = tt

    packet_answers : (s : Observer) (bytes : List ℕ) → MayCome sent (Packet bytes) → Listens sent s
        → AreAnswers (on_datagram m s (reading bytes)).1
    packet_answers s bytes (inl has) h = datagram_answers s bytes (reading bytes) has refl h
    packet_answers s bytes (inr none) h =
        subst (λ (r : Result Datagram Bad). AreAnswers (on_datagram m s r).1) (sym none.refused) tt

    pub next_answers : (s : Observer) (g : Given) → MayCome sent g → Listens sent s → AreAnswers (next m s g).1
    unfolding next
    next_answers s (Packet bytes) may h = packet_answers s bytes may h
    next_answers s _ may h = tt

-- ---- answers in the network

answer_reads : (bytes : List ℕ) (h : IsAnswer bytes) → reading bytes ≡ Ok (datagrams.Answer h.answer)
answer_reads bytes h = ap reading h.spells.spelled ∙ reads_again (datagrams.Answer h.answer) h.spells.fits

pub answers_gone : (from : Actor) (os : List Out) → AreAnswers os → other_datagrams (sends_of from os) ≡ []
answers_gone from [] h = refl
answers_gone from (outs.Send dest bytes ∷ rest) h =
    one_gone (record { from = from; dest = dest; bytes = bytes }) (is_apart (reading bytes)) (other_datagrams (sends_of from rest))
    (ap is_apart (answer_reads bytes h.0)) (answers_gone from rest h.1)
answers_gone from (_ ∷ rest) h = absurd h

pub answers_silent : (os : List Out) → AreAnswers os → lines_of os ≡ []
answers_silent [] h = refl
answers_silent (outs.Send dest bytes ∷ rest) h = answers_silent rest h.1
answers_silent (_ ∷ rest) h = absurd h

-- each that is sent is an answer
record EachAnswers (more : List Sent) : Type 0 where
  each : (s : Sent) → Has more s → IsAnswer s.bytes

each_of : (from : Actor) (os : List Out) → AreAnswers os → EachAnswers (sends_of from os)
each_of from [] h = record { each = λ s i. absurd (Has-none s i) }
each_of from (outs.Send dest bytes ∷ rest) h = record {
  each = λ s i. elim (Has-cases s (record { from = from; dest = dest; bytes = bytes }) (sends_of from rest) i) [
    | inl e ↦ subst (λ (x : Sent). IsAnswer x.bytes) (sym e) h.0
    | inr j ↦ (each_of from rest h.1).each s j
  ];
}
each_of from (_ ∷ rest) h = absurd h

pub answers_are_no_fragments : (from : Actor) (os : List Out) → AreAnswers os → (s : Sent) → Has (sends_of from os) s
    → is_fragment (reading s.bytes) ≡ false
answers_are_no_fragments from os h s i = ap is_fragment (answer_reads s.bytes ((each_of from os h).each s i))

pub answers_are_datagrams : (from : Actor) (os : List Out) → AreAnswers os → (b : List ℕ) → Has (bytes_of (sends_of from os)) b → IsDatagram b
answers_are_datagrams from os h b i =
    let x = slice_get-from_map (λ (s : Sent). s.bytes) (sends_of from os) i.0 b i.1 in
    let a : IsAnswer x.from.bytes = (each_of from os h).each x.from (i.0, x.there) in
    subst IsDatagram x.is (record { datagram = datagrams.Answer a.answer; spells = a.spells })
