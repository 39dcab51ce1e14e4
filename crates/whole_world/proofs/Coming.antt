-- What an event delivers to an actor was sent here, or spells no datagram, or an answer; and it is in its ranges.
use Rattle.std.proofs.Common.{◌≡◌, ℕ, Bool, true, false, Option, Some, None, refl, sym, ap, subst, ◌∙◌, List, [], ◌∷◌}
use Rattle.std.specs.Prelude.{◌==◌, ◌&&◌, ◌||◌, cond, Result, Ok, Err}
use Rattle.std.specs.Str.{bytes_eq}
use Rattle.std.proofs.lemmas.Bool.{and_parts, eqb-true}
use Rattle.std.proofs.lemmas.Slice.Eq.{bytes_eq-Decides}
use Rattle.nop_types.specs.Given.{Given}
use Rattle.nop_types.specs.Given as given
use Rattle.nop_types.specs.Lists.{Has}
use Rattle.nop_types.specs.Logs.{Whole}
use Rattle.nop_types.specs.declared.datagram.Answer.{Answer}
use Rattle.nop_types.specs.declared.datagram.Datagram.{Datagram}
use Rattle.nop_types.specs.declared.datagram.Datagram.TheVariants as datagrams
use Rattle.nop_types.specs.declared.peer.Peer.{Peer}
use Rattle.lemmas.proofs.Members.{Has-first, Has-rest}
use Rattle.client_reads.specs.Runs.{KeyFits}
use Rattle.oum_codec.specs.declared.bad.Bad.{Bad}
use Rattle.oum_codec.specs.Reading.{reading}
use Rattle.replica_rows.specs.Messages.{Arrival, Packet, PeerMessage, Ticked}
use Rattle.replica_rows.specs.Within.{ArrivalIsIn}
use Rattle.protocol.specs.Conf.{Conf}
use Rattle.network.specs.Network.{Sent}
use Rattle.refinement.specs.Datagrams.{Arrived, MayCome}
use Rattle.refinement.specs.Ranges.{GivenFits}
use Rattle.refinement.specs.Replicas.{Came}
use Rattle.whole_world.specs.Whole.{Brings, Op, Ask, Timer, Junk, Equal, Heard, Message, Letter, was_sent, given_if, junk_if, heard_if}
use Rattle.whole_world.specs.Whole.{input_of}
use Rattle.whole_world.specs.Whole.{WholeWorld, letter_of, message_if, arrival_read, arrival_given, arrival_of}
use Rattle.network_laws.specs.Network.{IsNoDatagram}
use Rattle.whole_world.specs.Coming.{IsBytesOf, IsAnswer, IsLetter, DatagramsWereSent, JunkIsNoDatagram, HeardIsAnswer, MessagesWereSent}
use Rattle.whole_world.specs.Safe.{BringsFits}
use Rattle.whole_world.specs.Shows.{Carries, MessagesSay, peers_of}
use Rattle.whole_world.proofs.Fitting.{arrived}
use Rattle.whole_world.proofs.Mapped.{Has-map}

-- ---- what is looked up

later_bytes : (s : Sent) (sent : List Sent) (bytes : List ℕ) → IsBytesOf sent bytes → IsBytesOf (s ∷ sent) bytes
later_bytes s sent bytes h = record { datagram = h.datagram; has = Has-rest h.datagram s sent h.has; same = h.same }

pub bytes_found : (sent : List Sent) (bytes : List ℕ) → was_sent sent bytes ≡ true → IsBytesOf sent bytes
bytes_found [] bytes e = absurd cc
bytes_found (s ∷ sent) bytes e = by (bytes_eq s.bytes bytes) refl e (bytes_found sent bytes)
  where
    by : (b : Bool) → bytes_eq s.bytes bytes ≡ b → (b || was_sent sent bytes) ≡ true
        → (was_sent sent bytes ≡ true → IsBytesOf sent bytes) → IsBytesOf (s ∷ sent) bytes
    by true is h rest = record { datagram = s; has = Has-first s s sent refl; same = (bytes_eq-Decides s.bytes bytes).0 is }
    by false is h rest = later_bytes s sent bytes (rest h)

later_letter : (x : Letter) (letters : List Letter) (q n : ℕ) (p : Peer) → IsLetter letters q n p → IsLetter (x ∷ letters) q n p
later_letter x letters q n p h = record {
  letter = h.letter;
  has = Has-rest h.letter x letters h.has;
  peer = h.peer;
  sender = h.sender;
  number = h.number;
}

pub letter_found : (letters : List Letter) (q n : ℕ) (p : Peer) → letter_of letters q n ≡ Some p → IsLetter letters q n p
letter_found [] q n p e = absurd cc
letter_found (x ∷ letters) q n p e = by ((x.peer.sender == q) && (x.number == n)) refl e (letter_found letters q n p)
  where
    by : (b : Bool) → ((x.peer.sender == q) && (x.number == n)) ≡ b → cond b (Some x.peer) (letter_of letters q n) ≡ Some p
        → (letter_of letters q n ≡ Some p → IsLetter letters q n p) → IsLetter (x ∷ letters) q n p
    by true is h rest =
        let same : x.peer ≡ p = cc in
        let parts = and_parts (x.peer.sender == q) (x.number == n) is in
        record {
          letter = x;
          has = Has-first x x letters refl;
          peer = same;
          sender = ap (λ (y : Peer). y.sender) (sym same) ∙ eqb-true x.peer.sender q parts.0;
          number = eqb-true x.number n parts.1;
        }
    by false is h rest = later_letter x letters q n p (rest h)

-- ---- what comes was sent

equal_was_sent : (sent : List Sent) (bytes : List ℕ) (b : Bool) (i : Given) → was_sent sent bytes ≡ b → given_if b bytes ≡ Some i
    → (i ≡ given.Packet bytes) × IsBytesOf sent bytes
equal_was_sent sent bytes false i is e = absurd cc
equal_was_sent sent bytes true i is e = let same : given.Packet bytes ≡ i = cc in (sym same, bytes_found sent bytes is)

pub datagrams_were_sent : DatagramsWereSent
datagrams_were_sent sent bytes i e = equal_was_sent sent bytes (was_sent sent bytes) i refl e

junk_is : (bytes : List ℕ) (r : Result Datagram Bad) (i : Given) → reading bytes ≡ r → junk_if r bytes ≡ Some i
    → (i ≡ given.Packet bytes) × IsNoDatagram bytes
junk_is bytes (Ok d) i is e = absurd cc
junk_is bytes (Err bad) i is e =
    let same : given.Packet bytes ≡ i = cc in (sym same, record { error = bad; refused = is })

pub junk_is_no_datagram : JunkIsNoDatagram
junk_is_no_datagram sent bytes i e = junk_is bytes (reading bytes) i refl e

heard_is : (bytes : List ℕ) (r : Result Datagram Bad) (i : Given) → reading bytes ≡ r → heard_if r bytes ≡ Some i
    → (i ≡ given.Packet bytes) × IsAnswer bytes
heard_is bytes (Ok (datagrams.Answer a)) i is e =
    let same : given.Packet bytes ≡ i = cc in (sym same, record { answer = a; reads = is })
heard_is bytes _ i is e = absurd cc

pub heard_is_answer : HeardIsAnswer
heard_is_answer sent bytes i e = heard_is bytes (reading bytes) i refl e

message_was_sent : (w : WholeWorld) (q n : ℕ) (o : Option Peer) (a : Arrival) → letter_of w.letters q n ≡ o → message_if o ≡ Some a
    → (p : Peer) × (a ≡ PeerMessage p) × IsLetter w.letters q n p
message_was_sent w q n None a is e = absurd cc
message_was_sent w q n (Some p) a is e = let same : PeerMessage p ≡ a = cc in (p, sym same, letter_found w.letters q n p is)

pub messages_were_sent : MessagesWereSent
messages_were_sent w q n a e = message_was_sent w q n (letter_of w.letters q n) a refl e

-- ---- what comes to an actor

-- it may come, and is in its ranges
pub record Comes (c : Conf) (i : Given) : Type 0 where
  pub may : MayCome c i
  pub fits : GivenFits i
  pub key : KeyFits i

module _ (c : Conf) (sent : List Sent) (carries : Carries sent c) where
  equal_comes : (bytes : List ℕ) (i : Given) → input_of sent (Equal bytes) ≡ Some i → Comes c i
  equal_comes bytes i e =
      let t = datagrams_were_sent sent bytes i e in
      let s = t.1 in
      subst (Comes c) (sym t.0) (subst (λ (b : List ℕ). Comes c (given.Packet b)) s.same
      (record {
        may = arrived c s.datagram.bytes (carries.spelled s.datagram s.has) (λ d. carries.only s.datagram d s.has);
        fits = tt;
        key = tt;
      }))

  junk_comes : (bytes : List ℕ) (i : Given) → input_of sent (Junk bytes) ≡ Some i → Comes c i
  junk_comes bytes i e =
      let t = junk_is_no_datagram sent bytes i e in
      let none : reading bytes ≡ Err t.1.error = t.1.refused in
      subst (Comes c) (sym t.0) (record { may = λ d read. absurd cc; fits = tt; key = tt })

  -- bytes that read as an answer are no other datagram
  answer_arrives : (bytes : List ℕ) (a : Answer) → BringsFits (Heard bytes) → reading bytes ≡ Ok (datagrams.Answer a) → (d : Datagram)
      → reading bytes ≡ Ok d → Arrived c d
  answer_arrives bytes a fits is d read =
      let both : Ok (datagrams.Answer a) ≡ Ok d = sym is ∙ read in
      let same : datagrams.Answer a ≡ d = cc in
      subst (Arrived c) same (record { sent = fits a is; fits = fits a is })

  heard_comes : (bytes : List ℕ) (i : Given) → BringsFits (Heard bytes) → input_of sent (Heard bytes) ≡ Some i → Comes c i
  heard_comes bytes i fits e =
      let t = heard_is_answer sent bytes i e in
      subst (Comes c) (sym t.0) (record { may = answer_arrives bytes t.1.answer fits t.1.reads; fits = tt; key = tt })

  pub brings_come : (b : Brings) (i : Given) → BringsFits b → input_of sent b ≡ Some i → Comes c i
  brings_come (Op op) i fits e = let same : given.Submit op ≡ i = cc in subst (Comes c) same (record { may = tt; fits = fits; key = tt })
  brings_come (Ask observer key) i fits e =
      let same : given.Read observer key ≡ i = cc in subst (Comes c) same (record { may = tt; fits = tt; key = fits })
  brings_come (Timer tick) i fits e = let same : given.Ticked tick ≡ i = cc in subst (Comes c) same (record { may = tt; fits = tt; key = tt })
  brings_come (Junk bytes) i fits e = junk_comes bytes i e
  brings_come (Equal bytes) i fits e = equal_comes bytes i e
  brings_come (Heard bytes) i fits e = heard_comes bytes i fits e
  brings_come _ i fits e = absurd cc

-- ---- what arrives at a replica

-- it was sent in the protocol too, in its ranges
pub record Arrives (c : Conf) (a : Arrival) : Type 0 where
  pub came : Came c a
  pub fits : ArrivalIsIn Whole a

module _ (c : Conf) (w : WholeWorld) (carries : Carries w.sent c) (tells : MessagesSay (peers_of w.letters) c.said) where
  read_arrives : (bytes : List ℕ) (r : Result Datagram Bad) (a : Arrival) → IsBytesOf w.sent bytes → reading bytes ≡ r
      → arrival_read r ≡ Some a → Arrives c a
  read_arrives bytes (Ok (datagrams.Stamped x)) a is read e =
      let same : Packet x ≡ a = cc in
      let there : reading is.datagram.bytes ≡ Ok (datagrams.Stamped x) = ap reading is.same ∙ read in
      let t = arrived c is.datagram.bytes (carries.spelled is.datagram is.has) (λ d. carries.only is.datagram d is.has)
      (datagrams.Stamped x) there in
      subst (Arrives c) same (record { came = t.sent; fits = t.fits })
  read_arrives bytes _ a is read e = absurd cc

  equal_arrives : (bytes : List ℕ) (b : Bool) (a : Arrival) → was_sent w.sent bytes ≡ b → arrival_given (given_if b bytes) ≡ Some a
      → Arrives c a
  equal_arrives bytes false a is e = absurd cc
  equal_arrives bytes true a is e = read_arrives bytes (reading bytes) a (bytes_found w.sent bytes is) refl e

  -- junk is not taken
  junk_arrives : (bytes : List ℕ) (r : Result Datagram Bad) (a : Arrival) → reading bytes ≡ r → arrival_given (junk_if r bytes) ≡ Some a
      → Arrives c a
  junk_arrives bytes (Ok d) a is e = absurd cc
  junk_arrives bytes (Err bad) a is e = absurd (let none : arrival_read (reading bytes) ≡ None = ap arrival_read is in cc)

  message_arrives : (q n : ℕ) (a : Arrival) → arrival_of w (Message q n) ≡ Some a → Arrives c a
  message_arrives q n a e =
      let t = messages_were_sent w q n a e in
      let x = t.2 in
      let has : Has (peers_of w.letters) t.0 =
      subst (Has (peers_of w.letters)) x.peer (Has-map (λ (y : Letter). y.peer) w.letters x.letter x.has) in
      subst (Arrives c) (sym t.1) (record { came = tells.all t.0 has; fits = tells.fits t.0 has })

  pub arrives : (b : Brings) (a : Arrival) → arrival_of w b ≡ Some a → Arrives c a
  arrives (Timer tick) a e = let same : Ticked tick ≡ a = cc in subst (Arrives c) same (record { came = tt; fits = tt })
  arrives (Junk bytes) a e = junk_arrives bytes (reading bytes) a refl e
  arrives (Equal bytes) a e = equal_arrives bytes (was_sent w.sent bytes) a refl e
  arrives (Message q n) a e = message_arrives q n a e
  arrives _ a e = absurd cc
