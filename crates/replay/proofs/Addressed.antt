-- What actors send goes to actors of the configuration, and what clients submit is theirs.
use Rattle.std.proofs.Common.{◌≡◌, ◌≤◌, ◌<◌, ◌+◌, ℕ, Bool, true, false, Option, Some, None, refl, sym, ap, subst, ◌∙◌, arith}
use Rattle.std.proofs.Common.{List, [], ◌∷◌, ◌++◌, inl, inr, map}
use Rattle.std.specs.Prelude.{⊤, ◌⊎◌, IfSome, nat_lt, nat_le, ◌==◌, ◌&&◌, ◌||◌, Result, Ok, slice_index}
use Rattle.std.specs.Int.{w32, w64}
use Rattle.std.specs.List.{AllByRecursion}
use Rattle.std.proofs.lemmas.Bool.{ltb-true}
use Rattle.std.proofs.lemmas.Nat.{mod_below}
use Rattle.nop_types.specs.Configuration.{Configuration}
use Rattle.nop_types.specs.Given.{Given, Packet, Ticked}
use Rattle.nop_types.specs.Given as given
use Rattle.nop_types.specs.Lines as lines
use Rattle.nop_types.specs.Lines.{Line}
use Rattle.nop_types.specs.Lists.{Has}
use Rattle.nop_types.specs.Meaning.{Meaning}
use Rattle.nop_types.specs.Ranges.{ReadFits, ReplyFits}
use Rattle.nop_types.specs.declared.input.Tick.{Tick}
use Rattle.nop_types.specs.declared.input.Tick.TheVariants as ticks
use Rattle.nop_types.specs.declared.datagram.Datagram.{Datagram}
use Rattle.nop_types.specs.declared.datagram.Datagram.TheVariants as datagrams
use Rattle.nop_types.specs.declared.datagram.Fragment.{Fragment}
use Rattle.nop_types.specs.declared.datagram.Read.{Read}
use Rattle.nop_types.specs.declared.datagram.Reply.{Reply}
use Rattle.nop_types.specs.declared.datagram.Stamped.{Stamped}
use Rattle.nop_types.specs.declared.kinds.TheConstants as kinds
use Rattle.nop_types.specs.declared.output.Actor.{Actor}
use Rattle.nop_types.specs.declared.output.Actor.TheVariants as actors
use Rattle.nop_types.specs.declared.output.Dest.{Dest}
use Rattle.nop_types.specs.declared.output.Dest.TheVariants.{Replicas, Sequencers, One}
use Rattle.nop_types.specs.declared.output.Out.{Out}
use Rattle.nop_types.specs.declared.output.Out.TheVariants as outs
use Rattle.nop_types.specs.declared.request.Request.{Request}
use Rattle.oum_codec.specs.declared.bad.Bad.{Bad}
use Rattle.oum_codec.specs.Numbers.{be_bytes}
use Rattle.oum_codec.specs.Reading.{reading}
use Rattle.oum_codec.specs.Spelling.{spelling, header, stamped_bytes, reply_bytes, request_bytes, install_bytes, ping_bytes, fragment_bytes, answer_bytes}
use Rattle.oum_codec.proofs.Datagrams.{reads_again}
use Rattle.fragments.specs.Cutting.{sends_of}
use Rattle.lemmas.proofs.Members.{Has-none, Has-cases, Has-first, Has-rest}
use Rattle.client_reads.specs.declared.state.Reading.{Reading}
use Rattle.client_reads.specs.declared.state.Reads.{Reads}
use Rattle.client_reads.specs.ReadSteps as reads
use Rattle.client_reads.specs.Rows as rows
use Rattle.client_reads.specs.Runs.{IsRead, KeyFits}
use Rattle.client_reads.proofs.Ranges.{step_sends}
use Rattle.client_reads.proofs.RowLemmas.{row_of as reads_row}
use Rattle.client_quorum.specs.declared.state.ClientState.{ClientState}
use Rattle.client_quorum.specs.ClientSteps as client
use Rattle.client_quorum.specs.Core as core
use Rattle.client_quorum.specs.Core.{Client}
use Rattle.client_quorum.specs.OpenRequests.{open_requests}
use Rattle.client_quorum.specs.Rows.{Row, SaysBusy, Opens, Repeats, Accepts}
use Rattle.client_quorum.proofs.RowLemmas.{row_of}
use Rattle.sequencer.specs.declared.state.SequencerState.{SequencerState}
use Rattle.sequencer.specs.SequencerSteps as sequencer
use Rattle.session_control.specs.declared.state.ControllerState.{ControllerState}
use Rattle.session_control.specs.declared.state.TheConstants.{MISSED_END}
use Rattle.session_control.specs.ControllerSteps as controller
use Rattle.observer.specs.ObserverSteps as observer
use Rattle.observer.specs.ObserverSteps.{Observer}
use Rattle.replica_state.specs.declared.sending.Sending.{Sending}
use Rattle.replica_state.specs.declared.sending.Sending.TheVariants.{ToClient, ToReplicas, Trims}
use Rattle.replica_core.specs.Posting.{posted}
use Rattle.network_laws.specs.Sends.{IsAmong, GoesAmong}
use Rattle.replica_state.specs.Sends.{SendingFits}
use Rattle.network.specs.Network.{Sent, sends_of as sent_of, lines_from}
use Rattle.safety.proofs.Coming.{IsAskedOf}

-- ---- outputs

-- the bytes are a reply to the client
pub record IsReplyTo (client : ℕ) (bytes : List ℕ) : Type 0 where
  pub reply : Reply
  pub fits : ReplyFits reply
  pub spelled : bytes ≡ spelling (datagrams.Reply reply)
  pub to : reply.client ≡ client

-- a datagram goes to an actor of the configuration, or is a reply to the client that it goes to
abbrev pub Goes : Configuration → Dest → List ℕ → Type 0
Goes c Replicas bytes = ⊤
Goes c Sequencers bytes = ⊤
Goes c (One (actors.Replica i)) bytes = i < c.replicas
Goes c (One (actors.Sequencer j)) bytes = j < c.sequencers
Goes c (One (actors.Client k)) bytes = IsReplyTo k bytes ⊎ (k < c.clients)
Goes c (One (actors.Controller k)) bytes = k < c.controllers
Goes c (One (actors.Observer i)) bytes = i < c.observers

-- of these datagrams each Install and each Ping names a controller of the configuration, and each Read a client of it
pub record Names (c : Configuration) (Is : Datagram → Type 0) : Type 0 where
  pub installs : (k j session : ℕ) → Is (datagrams.Install k j session) → k < c.controllers
  pub pings : (k j round : ℕ) → Is (datagrams.Ping k j round) → k < c.controllers
  pub reads : (r : Read) → ReadFits r → Is (datagrams.Read r) → r.client < c.clients

-- so of what the bytes spell
abbrev pub NamesIn : Configuration → List ℕ → Type 0
NamesIn c bytes = Names c (λ d. bytes ≡ spelling d)

pub record IsAddressed (c : Configuration) (dest : Dest) (bytes : List ℕ) : Type 0 where
  pub goes : Goes c dest bytes
  pub names : NamesIn c bytes

-- so is each output that sends; and each that submits is of a client of the configuration
abbrev pub OutGoes : Configuration → Out → Type 0
OutGoes c (outs.Send dest bytes) = IsAddressed c dest bytes
OutGoes c (outs.Submitted r) = r.client < c.clients
OutGoes c _ = ⊤

abbrev pub OutsGo : Configuration → List Out → Type 0
OutsGo c os = AllByRecursion (OutGoes c) os

both_go : (c : Configuration) (xs ys : List Out) → OutsGo c xs → OutsGo c ys → OutsGo c (xs ++ ys)
both_go c [] ys f g = g
both_go c (x ∷ xs) ys f g = (f.0, both_go c xs ys f.1 g)

abbrev is_asking : ℕ → Bool
is_asking kind = (kind == kinds.INSTALL) || ((kind == kinds.PING) || (kind == kinds.READ))

-- a datagram of another kind names neither a controller nor a client
other_kind : (c : Configuration) (kind : ℕ) (rest : List ℕ) → is_asking kind ≡ false → NamesIn c (header kind ++ rest)
other_kind c kind rest other = record {
  installs = λ k j session is.
      let e = subst (λ (n : ℕ). is_asking n ≡ false) (ap (λ (xs : List ℕ). slice_index xs 3) is) other in absurd cc;
  pings = λ k j round is.
      let e = subst (λ (n : ℕ). is_asking n ≡ false) (ap (λ (xs : List ℕ). slice_index xs 3) is) other in absurd cc;
  reads = λ r fits is.
      let e = subst (λ (n : ℕ). is_asking n ≡ false) (ap (λ (xs : List ℕ). slice_index xs 3) is) other in absurd cc;
}

-- one that is no Read names the controller that is in it
own_name : (c : Configuration) (kind k : ℕ) (rest : List ℕ) → (kind == kinds.READ) ≡ false → k < c.controllers
    → NamesIn c (header kind ++ k ∷ rest)
own_name c kind k rest other own = record {
  installs = λ i j session is. subst (λ (n : ℕ). n < c.controllers) (ap (λ (xs : List ℕ). slice_index xs 4) is) own;
  pings = λ i j round is. subst (λ (n : ℕ). n < c.controllers) (ap (λ (xs : List ℕ). slice_index xs 4) is) own;
  reads = λ r fits is.
      let e = subst (λ (n : ℕ). (n == kinds.READ) ≡ false) (ap (λ (xs : List ℕ). slice_index xs 3) is) other in absurd cc;
}

-- a Read of a client names that client
read_name : (c : Configuration) (number : ℕ) (dest : Dest) (bytes : List ℕ) → number < c.clients → IsRead number dest bytes
    → NamesIn c bytes
read_name c number dest bytes own is =
    let x : Read = record { client = number; id = is.id; key = is.key } in
    record {
      installs = λ k j session e.
          let other : (kinds.INSTALL == kinds.READ) ≡ true =
          subst (λ (n : ℕ). (n == kinds.READ) ≡ true) (ap (λ (xs : List ℕ). slice_index xs 3) (sym is.spells.spelled ∙ e)) refl in absurd cc;
      pings = λ k j round e.
          let other : (kinds.PING == kinds.READ) ≡ true =
          subst (λ (n : ℕ). (n == kinds.READ) ≡ true) (ap (λ (xs : List ℕ). slice_index xs 3) (sym is.spells.spelled ∙ e)) refl in absurd cc;
      reads = λ r fits e.
          let both : Ok (datagrams.Read x) ≡ Ok (datagrams.Read r) =
          sym (reads_again (datagrams.Read x) is.spells.fits) ∙ ap reading (sym is.spells.spelled ∙ e) ∙ reads_again (datagrams.Read r) fits in
          let same : x ≡ r = cc in
          subst (λ (y : Read). y.client < c.clients) same own;
    }

-- ---- what comes of them in the world

goes_later : (c : Configuration) (s : Sent) (x : Sent) (xs : List Sent) → IsAddressed c x.dest x.bytes
    → ((t : Sent) → Has xs t → IsAddressed c t.dest t.bytes)
    → Has (x ∷ xs) s → IsAddressed c s.dest s.bytes
goes_later c s x xs here rest h = elim (Has-cases s x xs h) [
  | inl e ↦ subst (λ (t : Sent). IsAddressed c t.dest t.bytes) (sym e) here
  | inr i ↦ rest s i
]

pub sent_goes : (c : Configuration) (from : Actor) (os : List Out) → OutsGo c os → (s : Sent) → Has (sent_of from os) s
    → IsAddressed c s.dest s.bytes
sent_goes c from [] all s h = absurd (Has-none s h)
sent_goes c from (outs.Send dest bytes ∷ os) all s h =
    goes_later c s (record { from = from; dest = dest; bytes = bytes }) (sent_of from os) all.0 (sent_goes c from os all.1) h
sent_goes c from (_ ∷ os) all s h = sent_goes c from os all.1 s h

-- each line that submits is of a client of the configuration
abbrev pub SubmitsOf : Configuration → List Line → Type 0
SubmitsOf c ls = (r : Request) → Has ls (lines.Submit r) → r.client < c.clients

other_line : (c : Configuration) (x : Line) (ls : List Line) → ((r : Request) → lines.Submit r ≡ x → ⊥) → SubmitsOf c ls
    → SubmitsOf c (x ∷ ls)
other_line c x ls other rest r h = elim (Has-cases (lines.Submit r) x ls h) [ inl e ↦ absurd (other r e) | inr i ↦ rest r i ]

own_line : (c : Configuration) (q : Request) (ls : List Line) → q.client < c.clients → SubmitsOf c ls → SubmitsOf c (lines.Submit q ∷ ls)
own_line c q ls own rest r h = elim (Has-cases (lines.Submit r) (lines.Submit q) ls h) [
  | inl e ↦ (let same : q ≡ r = cc in subst (λ (t : Request). t.client < c.clients) same own)
  | inr i ↦ rest r i
]

pub lines_are_of : (c : Configuration) (from : Actor) (n : ℕ) (os : List Out) → OutsGo c os → SubmitsOf c (lines_from from n os)
lines_are_of c from n [] all = λ r h. absurd (Has-none _ h)
lines_are_of c from n (outs.Send dest bytes ∷ os) all =
    other_line c (lines.Send n from dest bytes) (lines_from from (n + 1) os) (λ r e. cc) (lines_are_of c from (n + 1) os all.1)
lines_are_of c from n (outs.Submitted q ∷ os) all = own_line c q (lines_from from n os) all.0 (lines_are_of c from n os all.1)
lines_are_of c from n (outs.Accepted client id result ∷ os) all =
    other_line c (lines.Accept client id result) (lines_from from n os) (λ r e. cc) (lines_are_of c from n os all.1)
lines_are_of c from n (outs.Busy client ∷ os) all =
    other_line c (lines.Busy client) (lines_from from n os) (λ r e. cc) (lines_are_of c from n os all.1)
lines_are_of c from n (outs.Reading client id observer key ∷ os) all =
    other_line c (lines.Read client id observer key) (lines_from from n os) (λ r e. cc) (lines_are_of c from n os all.1)
lines_are_of c from n (outs.Answered client id observer position result ∷ os) all =
    other_line c (lines.Answer client id observer position result) (lines_from from n os) (λ r e. cc) (lines_are_of c from n os all.1)
lines_are_of c from n (outs.Trimmed first entries ∷ os) all = lines_are_of c from n os all.1

pub dead_is_of : (c : Configuration) (from : Actor) → SubmitsOf c (lines.Dead from ∷ [])
dead_is_of c from = other_line c (lines.Dead from) [] (λ r e. cc) (λ r h. absurd (Has-none _ h))

-- ---- replicas

among_goes : (c : Configuration) (dest : Dest) (bytes : List ℕ) → 1 ≤ c.replicas → IsAmong c.replicas dest → Goes c dest bytes
among_goes c Replicas bytes some h = tt
among_goes c (One (actors.Replica i)) bytes some h = h some
among_goes c _ bytes some h = absurd h

cut_goes : (c : Configuration) (dest : Dest) (fs : List Fragment) → 1 ≤ c.replicas → IsAmong c.replicas dest → OutsGo c (sends_of dest fs)
cut_goes c dest [] some h = tt
cut_goes c dest (x ∷ fs) some h = (
  record {
    goes = among_goes c dest (spelling (datagrams.Fragment x)) some h;
    names = other_kind c kinds.FRAGMENT (fragment_bytes x) refl;
  },
  cut_goes c dest fs some h,
)

pub posted_goes : (c : Configuration) (number : ℕ) (sends : List Sending) → 1 ≤ c.replicas → AllByRecursion SendingFits sends
    → AllByRecursion (GoesAmong c.replicas) sends → OutsGo c (posted number sends)
unfolding posted
posted_goes c number [] some fits all = tt
posted_goes c number (ToClient r ∷ sends) some fits all = (
  record {
    goes = inl (record { reply = r; fits = fits.0; spelled = refl; to = refl });
    names = other_kind c kinds.REPLY (reply_bytes r) refl;
  },
  posted_goes c number sends some fits.1 all.1,
)
posted_goes c number (ToReplicas dest p ∷ sends) some fits all =
    both_go c _ (posted (number + 1) sends) (cut_goes c dest _ some all.0) (posted_goes c (number + 1) sends some fits.1 all.1)
posted_goes c number (Trims first entries ∷ sends) some fits all = (tt, posted_goes c number sends some fits.1 all.1)

-- ---- sequencers

-- of what is given
abbrev pub GivenNames : Configuration → Given → Type 0
GivenNames c (Packet bytes) = Names c (λ d. reading bytes ≡ Ok d)
GivenNames c _ = ⊤

packet_goes : (c : Configuration) (o : Option Stamped) → OutsGo c (sequencer.send_packet o)
packet_goes c (Some p) = (record { goes = tt; names = other_kind c kinds.STAMPED (stamped_bytes p) refl }, tt)
packet_goes c None = tt

install_goes : (c : Configuration) (b : Bool) (s : SequencerState) (k session : ℕ) → k < c.controllers
    → OutsGo c (sequencer.install_if b s k session).1
install_goes c true s k session own =
    let t : SequencerState = sequencer.in_session s session in
    (record { goes = own; names = other_kind c kinds.INSTALLED (install_bytes k t.number t.session) refl }, tt)
install_goes c false s k session own = tt

ping_goes : (c : Configuration) (b : Bool) (s : SequencerState) (k round : ℕ) → k < c.controllers
    → OutsGo c (sequencer.ping_if b s k round).1
ping_goes c true s k round own = (record { goes = own; names = other_kind c kinds.PONG (ping_bytes k s.number round) refl }, tt)
ping_goes c false s k round own = tt

stamping_goes : (c : Configuration) (s : SequencerState) (r : Result Datagram Bad) → Names c (λ d. r ≡ Ok d)
    → OutsGo c (sequencer.on_datagram s r).1
stamping_goes c s (Ok (datagrams.Request r)) names = packet_goes c (sequencer.stamped_by s r)
stamping_goes c s (Ok (datagrams.Install k j session)) names = install_goes c (j == s.number) s k session (names.installs k j session refl)
stamping_goes c s (Ok (datagrams.Ping k j round)) names = ping_goes c (j == s.number) s k round (names.pings k j round refl)
stamping_goes c s _ names = tt

pub sequencer_goes : (c : Configuration) (s : SequencerState) (i : Given) → GivenNames c i → OutsGo c (sequencer.next s i).1
unfolding sequencer.next
sequencer_goes c s (Packet bytes) names = stamping_goes c s (reading bytes) names
sequencer_goes c s _ names = tt

-- ---- clients

module _ (c : Configuration) (s : ClientState) (own : s.number < c.clients) where
  request_goes : (r : Request) → IsAddressed c Sequencers (spelling (datagrams.Request r))
  request_goes r = record { goes = tt; names = other_kind c kinds.REQUEST (request_bytes r) refl }

  retry_goes : (qs : List Request) → OutsGo c (map client.sent qs)
  retry_goes [] = tt
  retry_goes (q ∷ qs) = (request_goes q, retry_goes qs)

  row_goes : (i : Given) (y : ClientState × List Out) → Row s i y → OutsGo c y.1
  row_goes i y (Opens op waiting can from) = (own, (request_goes (client.request_of s op), tt))
  row_goes i y (Repeats is) = retry_goes (open_requests s)
  row_goes i y (Accepts p leaders has e quorum) = (tt, tt)
  row_goes i y (SaysBusy op is busy) = (tt, tt)
  row_goes i y _ = tt

  requests_go : (i : Given) → OutsGo c (client.next s i).1
  requests_go i = row_goes i (client.next s i) (row_of s i)

-- the read that waits is to an observer of the configuration
abbrev HasPlace : Configuration → Option Reading → Type 0
HasPlace c pending = IfSome pending (λ r. r.observer < c.observers)

-- and the reads are those of a client of it
pub record IsReader (c : Configuration) (s : Reads) : Type 0 where
  pub pending : HasPlace c s.pending
  pub number : s.number < c.clients

-- a key that is asked for is in its ranges
asked_fits : (c : Configuration) (i : Given) → IsAskedOf c i → KeyFits i
asked_fits c (given.Read observer key) asked = asked.1
asked_fits c _ asked = tt

-- what these outputs send are Reads of a client
abbrev SendReads : (number : ℕ) → List Out → Type 0
SendReads number os = (dest : Dest) (bytes : List ℕ) → Has os (outs.Send dest bytes) → IsRead number dest bytes

module _ (c : Configuration) (s : Reads) (is : IsReader c s) where
  row_stays : (i : Given) → IsAskedOf c i → (y : Reads × List Out) → rows.Row s i y → IsReader c y.0
  row_stays i asked y (rows.Asks observer key of may) =
      record { pending = (subst (IsAskedOf c) of asked).0; number = is.number }
  row_stays i asked y (rows.Ends r a has e answers) = record { pending = tt; number = is.number }
  row_stays i asked y _ = is

  reads_stay : (i : Given) → IsAskedOf c i → IsReader c (reads.next s i).0
  reads_stay i asked = row_stays i asked (reads.next s i) (reads_row s i)

  read_goes : (r : Reading) (os : List Out) → Has os (reads.sent s.number r) → SendReads s.number os → r.observer < c.observers
      → OutGoes c (reads.sent s.number r)
  read_goes r os has all there = record { goes = there; names = read_name c s.number _ _ is.number (all _ _ has) }

  reads_row_go : (i : Given) → IsAskedOf c i → (y : Reads × List Out) → SendReads s.number y.1 → rows.Row s i y → OutsGo c y.1
  reads_row_go i asked y all (rows.Rests nothing) = tt
  reads_row_go i asked y all (rows.SaysBusy observer key of busy) = (tt, tt)
  reads_row_go i asked y all (rows.Asks observer key of may) =
      let r : Reading = reads.reading_of s observer key in
      let again : Out = reads.sent s.number r in
      let has : Has (reads.begin s r).1 again = Has-rest again _ (again ∷ []) (Has-first again again [] refl) in
      (tt, (read_goes r (reads.begin s r).1 has all (subst (IsAskedOf c) of asked).0, tt))
  reads_row_go i asked y all (rows.Repeats r of e) =
      (read_goes r (reads.sent s.number r ∷ []) (Has-first _ _ [] refl) all (subst (HasPlace c) e is.pending), tt)
  reads_row_go i asked y all (rows.Ends r a has e answers) = (tt, tt)

  reads_go : (i : Given) → reads.IsWithin s → IsAskedOf c i → OutsGo c (reads.next s i).1
  reads_go i within asked =
      reads_row_go i asked (reads.next s i) (step_sends s i within (asked_fits c i asked)) (reads_row s i)

module _ (c : Configuration) (s : Client) (is : IsReader c s.reads) (i : Given) (asked : IsAskedOf c i) where
  pub client_goes : s.requests.number < c.clients → reads.IsWithin s.reads → OutsGo c (core.next s i).1
  client_goes own within =
      both_go c (client.next s.requests i).1 (reads.next s.reads i).1 (requests_go c s.requests own i) (reads_go c s.reads is i within asked)

  pub client_placed : IsReader c (core.next s i).0.reads
  client_placed = reads_stay c s.reads is i asked

-- ---- observers

-- a Read is in its ranges
abbrev pub ReadIsIn : Result Datagram Bad → Type 0
ReadIsIn (Ok (datagrams.Read r)) = ReadFits r
ReadIsIn _ = ⊤

-- so of what is given
abbrev pub GivenIsIn : Given → Type 0
GivenIsIn (Packet bytes) = ReadIsIn (reading bytes)
GivenIsIn _ = ⊤

module _ {S : Type 0} (m : Meaning S) (c : Configuration) (s : Observer) where
  answering_goes : (r : Result Datagram Bad) → Names c (λ d. r ≡ Ok d) → ReadIsIn r → OutsGo c (observer.on_datagram m s r).1
  answering_goes (Ok (datagrams.Read r)) names fits = (
    record {
      goes = inr (names.reads r fits refl);
      names = other_kind c kinds.ANSWER (answer_bytes (observer.answer_to m s r)) refl;
    },
    tt,
  )
  answering_goes _ names fits = tt

  pub observer_goes : (i : Given) → GivenNames c i → GivenIsIn i → OutsGo c (observer.next m s i).1
  unfolding observer.next
  observer_goes (Packet bytes) names fits = answering_goes (reading bytes) names fits
  observer_goes _ names fits = tt

-- ---- controllers

-- one of the configuration, whose current sequencer is one of it too
pub record IsPlaced (c : Configuration) (s : ControllerState) : Type 0 where
  pub config : s.config ≡ c
  pub number : s.number < c.controllers
  pub current : s.current < c.sequencers

-- it stays one, and sends to the sequencer that is current then, under its own number
pub record Directs (c : Configuration) (r : ControllerState × List Out) : Type 0 where
  pub stays : IsPlaced c r.0
  pub sends : OutsGo c r.1

module _ (c : Configuration) where
  quiet_directs : (s : ControllerState) → IsPlaced c s → Directs c (s, [])
  quiet_directs s is = record { stays = is; sends = tt }

  install_directs : (s : ControllerState) → IsPlaced c s → Directs c (s, controller.install_of s)
  install_directs s is = record {
    stays = is;
    sends = (
      record { goes = is.current; names = own_name c kinds.INSTALL s.number (s.current ∷ be_bytes w64 s.session) refl is.number },
      tt,
    );
  }

  move_directs : (o : Option ℕ) (s : ControllerState) (j : ℕ) → IsPlaced c s → j < c.sequencers → Directs c (controller.move_by o s j)
  move_directs (Some session) s j is there =
      install_directs (controller.moved s j session) (record { config = is.config; number = is.number; current = there })
  move_directs None s j is there = quiet_directs s is

  move_to_directs : (s : ControllerState) (j : ℕ) → IsPlaced c s → j < c.sequencers → Directs c (controller.move_to s j)
  move_to_directs s j is there = move_directs (controller.next_session s.number s.session s.seen) s j is there

  -- how many sequencers it knows
  sequencers_are : (s : ControllerState) → IsPlaced c s → s.config.sequencers ≡ c.sequencers
  sequencers_are s is = ap (λ (q : Configuration). q.sequencers) is.config

  order_directs : (b : Bool) (s : ControllerState) (j : ℕ) → nat_lt j s.config.sequencers ≡ b → IsPlaced c s
      → Directs c (controller.order_if b s j)
  order_directs true s j test is =
      move_to_directs s j is (subst (λ (n : ℕ). j < n) (sequencers_are s is) (ltb-true j s.config.sequencers test))
  order_directs false s j test is = quiet_directs s is

  ask_if_directs : (b : Bool) (s : ControllerState) → IsPlaced c s → Directs c (controller.ask_if b s)
  ask_if_directs true s is = record {
    stays = record { config = is.config; number = is.number; current = is.current };
    sends = (
      record { goes = is.current; names = own_name c kinds.PING s.number (s.current ∷ be_bytes w32 (s.round + 1)) refl is.number },
      tt,
    );
  }
  ask_if_directs false s is = quiet_directs s is

  ask_directs : (s : ControllerState) → IsPlaced c s → Directs c (controller.ask s)
  ask_directs s is = ask_if_directs (nat_lt s.round controller.last_number) s is

  -- the next one in the circle is there
  following_there : (s : ControllerState) → IsPlaced c s → controller.following s < c.sequencers
  following_there s is =
      let same = sequencers_are s is in
      subst (λ (n : ℕ). controller.following s < n) same
      (mod_below (s.current + 1) s.config.sequencers (let current = is.current in omega (arith, same, current)))

  miss_directs : (b : Bool) (s : ControllerState) → IsPlaced c s → Directs c (controller.miss_if b s)
  miss_directs true s is = move_to_directs s (controller.following s) is (following_there s is)
  miss_directs false s is =
      ask_directs (record s { missed = s.missed + 1 }) (record { config = is.config; number = is.number; current = is.current })

  probe_directs : (b : Bool) (s : ControllerState) → IsPlaced c s → Directs c (controller.probe_if b s)
  probe_directs true s is = ask_directs s is
  probe_directs false s is = miss_directs (nat_le MISSED_END (s.missed + 1)) s is

  resend_directs : (b : Bool) (s : ControllerState) → IsPlaced c s → Directs c (controller.resend_if b s)
  resend_directs true s is = quiet_directs s is
  resend_directs false s is = install_directs s is

  heard_stays : (b : Bool) (s : ControllerState) → IsPlaced c s → IsPlaced c (controller.heard_if b s)
  heard_stays true s is = record { config = is.config; number = is.number; current = is.current }
  heard_stays false s is = is

  confirmed_stays : (b : Bool) (s : ControllerState) → IsPlaced c s → IsPlaced c (controller.confirmed_if b s)
  confirmed_stays true s is = record { config = is.config; number = is.number; current = is.current }
  confirmed_stays false s is = is

  seen_stays : (b : Bool) (s : ControllerState) (session : ℕ) → IsPlaced c s → IsPlaced c (controller.seen_if b s session)
  seen_stays true s session is = record { config = is.config; number = is.number; current = is.current }
  seen_stays false s session is = is

  installed_stays : (b : Bool) (s : ControllerState) (j session : ℕ) → IsPlaced c s → IsPlaced c (controller.installed_if b s j session)
  installed_stays true s j session is =
      confirmed_stays ((j == s.current) && (session == s.session)) (controller.seen_if (nat_lt s.session session) s session)
      (seen_stays (nat_lt s.session session) s session is)
  installed_stays false s j session is = is

  on_tick_directs : (s : ControllerState) (t : Tick) → IsPlaced c s → Directs c (controller.on_tick s t)
  on_tick_directs s ticks.Probe is = probe_directs s.heard s is
  on_tick_directs s ticks.Resend is = resend_directs s.confirmed s is
  on_tick_directs s (ticks.Install j) is = order_directs (nat_lt j s.config.sequencers) s j refl is
  on_tick_directs s _ is = quiet_directs s is

  on_datagram_directs : (s : ControllerState) (r : Result Datagram Bad) → IsPlaced c s → Directs c (controller.on_datagram s r)
  on_datagram_directs s (Ok (datagrams.Pong k j round)) is =
      quiet_directs _ (heard_stays ((k == s.number) && ((j == s.current) && (round == s.round))) s is)
  on_datagram_directs s (Ok (datagrams.Installed k j session)) is = quiet_directs _ (installed_stays (k == s.number) s j session is)
  on_datagram_directs s _ is = quiet_directs s is

  pub controller_directs : (s : ControllerState) (i : Given) → IsPlaced c s → Directs c (controller.next s i)
  unfolding controller.next
  controller_directs s (Packet bytes) is = on_datagram_directs s (reading bytes) is
  controller_directs s (Ticked tick) is = on_tick_directs s tick is
  controller_directs s _ is = quiet_directs s is
