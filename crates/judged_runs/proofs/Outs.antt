-- What actors tell of their steps: only clients submit, requests of their own with an id and the op that they were given; and only
-- clients read, the key that they were given.
use Rattle.std.proofs.Common.{◌≡◌, ◌+◌, ◌≤◌, ◌<◌, ◌^◌, ℕ, Bool, true, false, Option, Some, None, subst, inl, inr, map, arith, length}
use Rattle.std.proofs.Common.{List, [], ◌∷◌, ◌++◌}
use Rattle.std.specs.Prelude.{◌-◌, ⊤, is_none, nat_lt, nat_le, ◌==◌, Result, Ok, Err}
use Rattle.std.specs.List.{AllByRecursion}
use Rattle.std.proofs.lemmas.Bool.{and_parts, ltb-true}
use Rattle.hex.specs.Hex.{IsBytes}
use Rattle.nop_types.specs.Configuration.{Configuration}
use Rattle.nop_types.specs.Given.{Given, Packet, Ticked, Submit, Read}
use Rattle.nop_types.specs.Logs.{Trimmed}
use Rattle.nop_types.specs.Meaning.{Meaning}
use Rattle.nop_types.specs.declared.limits.TheConstants.{MAX_OP_BYTES, MAX_KEY_BYTES}
use Rattle.nop_types.specs.declared.input.Tick.{Tick}
use Rattle.nop_types.specs.declared.input.Tick.TheVariants as ticks
use Rattle.nop_types.specs.declared.datagram.Datagram.{Datagram}
use Rattle.nop_types.specs.declared.datagram.Datagram.TheVariants as datagrams
use Rattle.nop_types.specs.declared.datagram.Fragment.{Fragment}
use Rattle.nop_types.specs.declared.datagram.Stamped.{Stamped}
use Rattle.nop_types.specs.declared.output.Dest.{Dest}
use Rattle.nop_types.specs.declared.output.Out.{Out}
use Rattle.nop_types.specs.declared.output.Out.TheVariants as outs
use Rattle.nop_types.specs.declared.peer.Peer.{Peer}
use Rattle.nop_types.specs.declared.request.Request.{Request}
use Rattle.oum_codec.specs.declared.bad.Bad.{Bad}
use Rattle.oum_codec.specs.Reading.{reading}
use Rattle.peer_codec.specs.Reading as peer
use Rattle.peer_codec.specs.declared.bad_peer.BadPeer.{BadPeer}
use Rattle.fragments.specs.Cutting.{sends_of}
use Rattle.fragments.specs.Joining.{taken}
use Rattle.client_reads.specs.declared.state.Reads.{Reads}
use Rattle.client_reads.specs.ReadSteps as reads
use Rattle.client_reads.specs.Rows as rows
use Rattle.client_reads.proofs.RowLemmas.{row_of as reads_row}
use Rattle.client_quorum.specs.declared.state.ClientState.{ClientState}
use Rattle.client_quorum.specs.ClientSteps as client
use Rattle.client_quorum.specs.Core as core
use Rattle.client_quorum.specs.Core.{Client}
use Rattle.client_quorum.specs.OpenRequests.{has_room, open_requests}
use Rattle.client_quorum.specs.Rows.{Row, Rests, SaysBusy, Opens, Repeats, Keeps, Accepts}
use Rattle.client_quorum.proofs.RowLemmas.{row_of}
use Rattle.sequencer.specs.declared.state.SequencerState.{SequencerState}
use Rattle.sequencer.specs.SequencerSteps as sequencer
use Rattle.session_control.specs.declared.state.ControllerState.{ControllerState}
use Rattle.session_control.specs.declared.state.TheConstants.{MISSED_END}
use Rattle.session_control.specs.ControllerSteps as controller
use Rattle.observer.specs.ObserverSteps as observer
use Rattle.observer.specs.ObserverSteps.{Observer}
use Rattle.replica_state.specs.State.{is_other}
use Rattle.replica_state.specs.declared.sending.Sending.{Sending}
use Rattle.replica_state.specs.declared.sending.Sending.TheVariants.{ToReplicas}
use Rattle.replica_rows.specs.Messages as messages
use Rattle.replica_core.specs.Posting.{posted}
use Rattle.replica_core.specs.ReplicaSteps as replica
use Rattle.replica_core.specs.declared.replica.TheConstants.{LAST_MESSAGE}
use Rattle.replica_core.specs.ReplicaSteps.{Replica}

-- ---- outputs

-- a request as its client submits it: the client is one of the configuration
pub record IsRequest (c : Configuration) (r : Request) : Type 0 where
  pub client : r.client < c.clients
  pub low : 1 ≤ r.id
  pub id : r.id < 2 ^ 64
  pub bytes : IsBytes r.op
  pub short : length r.op ≤ MAX_OP_BYTES

-- a key is bytes, of its length
pub record IsKey (key : List ℕ) : Type 0 where
  pub bytes : IsBytes key
  pub some : 1 ≤ length key
  pub most : length key ≤ MAX_KEY_BYTES

-- a read as its client asks: the client and the observer are of the configuration
pub record IsAsked (c : Configuration) (client id observer : ℕ) (key : List ℕ) : Type 0 where
  pub client_there : client < c.clients
  pub low : 1 ≤ id
  pub id_fits : id < 2 ^ 64
  pub observer_there : observer < c.observers
  pub key_is : IsKey key

abbrev pub OutIs : Configuration → Out → Type 0
OutIs c (outs.Submitted r) = IsRequest c r
OutIs c (outs.Busy client) = client < c.clients
OutIs c (outs.Reading client id observer key) = IsAsked c client id observer key
OutIs c _ = ⊤

abbrev pub OutsAre : Configuration → List Out → Type 0
OutsAre c os = AllByRecursion (OutIs c) os

both_are : (c : Configuration) (xs ys : List Out) → OutsAre c xs → OutsAre c ys → OutsAre c (xs ++ ys)
both_are c [] ys f g = g
both_are c (x ∷ xs) ys f g = (f.0, both_are c xs ys f.1 g)

-- ---- what is given

-- an op is bytes, and short
pub record IsOp (op : List ℕ) : Type 0 where
  pub bytes : IsBytes op
  pub short : length op ≤ MAX_OP_BYTES

-- an input submits such an op, or asks an observer that is there for such a key
abbrev pub GivenIs : Configuration → Given → Type 0
GivenIs c (Submit op) = IsOp op
GivenIs c (Read observer key) = (observer < c.observers) × IsKey key
GivenIs c _ = ⊤

-- ---- replicas

cut_are : (c : Configuration) (dest : Dest) (fs : List Fragment) → OutsAre c (sends_of dest fs)
cut_are c dest [] = tt
cut_are c dest (f ∷ fs) = (tt, cut_are c dest fs)

posted_are : (c : Configuration) (number : ℕ) (sends : List Sending) → OutsAre c (posted number sends)
unfolding posted
posted_are c number [] = tt
posted_are c number (ToReplicas dest p ∷ sends) =
    both_are c _ (posted (number + 1) sends) (cut_are c dest _) (posted_are c (number + 1) sends)
posted_are c number (_ ∷ sends) = (tt, posted_are c number sends)

module _ {S : Type 0} (m : Meaning S) (c : Configuration) where
  row_are : (b : Bool) (s : Replica) (a : messages.Arrival) → OutsAre c (replica.row_if m b s a).1
  row_are true s a = posted_are c s.messages (messages.arrive m Trimmed s.state a).1
  row_are false s a = tt

  sender_are : (b : Bool) (s : Replica) (p : Peer) → OutsAre c (replica.of_sender_if m b s p).1
  sender_are true s p = row_are (nat_lt s.messages LAST_MESSAGE) s (messages.PeerMessage p)
  sender_are false s p = tt

  read_are : (s : Replica) (q : ℕ) (r : Result Peer BadPeer) → OutsAre c (replica.read m s q r).1
  read_are s q (Ok p) = sender_are (p.sender == q) s p
  read_are s q (Err e) = tt

  joined_are : (s : Replica) (q : ℕ) (o : Option (List ℕ)) → OutsAre c (replica.joined m s q o).1
  joined_are s q None = tt
  joined_are s q (Some bytes) = read_are s q (peer.reading bytes)

  fragment_if_are : (b : Bool) (s : Replica) (f : Fragment) → OutsAre c (replica.fragment_if m b s f).1
  fragment_if_are true s f = joined_are (record s { reassembly = (taken s.reassembly f).0 }) f.replica (taken s.reassembly f).1
  fragment_if_are false s f = tt

  fragment_are : (s : Replica) (f : Fragment) → OutsAre c (replica.fragment m s f).1
  unfolding replica.fragment
  fragment_are s f = fragment_if_are (is_other s.state f.replica) s f

  took_are : (s : Replica) (r : Result Datagram Bad) → OutsAre c (replica.on_datagram m s r).1
  took_are s (Ok (datagrams.Stamped p)) = row_are (nat_lt s.messages LAST_MESSAGE) s (messages.Packet p)
  took_are s (Ok (datagrams.Fragment f)) = fragment_are s f
  took_are s _ = tt

  pub replica_tells : (s : Replica) (i : Given) → OutsAre c (replica.next m s i).1
  unfolding replica.next
  replica_tells s (Packet bytes) = took_are s (reading bytes)
  replica_tells s (Ticked tick) = row_are (nat_lt s.messages LAST_MESSAGE) s (messages.Ticked tick)
  replica_tells s _ = tt

-- ---- sequencers

packet_are : (c : Configuration) (o : Option Stamped) → OutsAre c (sequencer.send_packet o)
packet_are c (Some p) = (tt, tt)
packet_are c None = tt

install_are : (c : Configuration) (b : Bool) (s : SequencerState) (k session : ℕ) → OutsAre c (sequencer.install_if b s k session).1
install_are c true s k session = (tt, tt)
install_are c false s k session = tt

ping_are : (c : Configuration) (b : Bool) (s : SequencerState) (k round : ℕ) → OutsAre c (sequencer.ping_if b s k round).1
ping_are c true s k round = (tt, tt)
ping_are c false s k round = tt

stamping_are : (c : Configuration) (s : SequencerState) (r : Result Datagram Bad) → OutsAre c (sequencer.on_datagram s r).1
stamping_are c s (Ok (datagrams.Request r)) = packet_are c (sequencer.stamped_by s r)
stamping_are c s (Ok (datagrams.Install k j session)) = install_are c (j == s.number) s k session
stamping_are c s (Ok (datagrams.Ping k j round)) = ping_are c (j == s.number) s k round
stamping_are c s _ = tt

pub sequencer_tells : (c : Configuration) (s : SequencerState) (i : Given) → OutsAre c (sequencer.next s i).1
unfolding sequencer.next
sequencer_tells c s (Packet bytes) = stamping_are c s (reading bytes)
sequencer_tells c s _ = tt

-- ---- controllers

module _ (c : Configuration) where
  move_are : (o : Option ℕ) (s : ControllerState) (j : ℕ) → OutsAre c (controller.move_by o s j).1
  move_are (Some session) s j = (tt, tt)
  move_are None s j = tt

  move_to_are : (s : ControllerState) (j : ℕ) → OutsAre c (controller.move_to s j).1
  move_to_are s j = move_are (controller.next_session s.number s.session s.seen) s j

  order_are : (b : Bool) (s : ControllerState) (j : ℕ) → OutsAre c (controller.order_if b s j).1
  order_are true s j = move_to_are s j
  order_are false s j = tt

  ask_if_are : (b : Bool) (s : ControllerState) → OutsAre c (controller.ask_if b s).1
  ask_if_are true s = (tt, tt)
  ask_if_are false s = tt

  ask_are : (s : ControllerState) → OutsAre c (controller.ask s).1
  ask_are s = ask_if_are (nat_lt s.round controller.last_number) s

  miss_are : (b : Bool) (s : ControllerState) → OutsAre c (controller.miss_if b s).1
  miss_are true s = move_to_are s (controller.following s)
  miss_are false s = ask_are (record s { missed = s.missed + 1 })

  probe_are : (b : Bool) (s : ControllerState) → OutsAre c (controller.probe_if b s).1
  probe_are true s = ask_are s
  probe_are false s = miss_are (nat_le MISSED_END (s.missed + 1)) s

  resend_are : (b : Bool) (s : ControllerState) → OutsAre c (controller.resend_if b s).1
  resend_are true s = tt
  resend_are false s = (tt, tt)

  controller_tick_are : (s : ControllerState) (t : Tick) → OutsAre c (controller.on_tick s t).1
  controller_tick_are s ticks.Probe = probe_are s.heard s
  controller_tick_are s ticks.Resend = resend_are s.confirmed s
  controller_tick_are s (ticks.Install j) = order_are (nat_lt j s.config.sequencers) s j
  controller_tick_are s _ = tt

  controller_took_are : (s : ControllerState) (r : Result Datagram Bad) → OutsAre c (controller.on_datagram s r).1
  controller_took_are s (Ok (datagrams.Pong k j round)) = tt
  controller_took_are s _ = tt

  pub controller_tells : (s : ControllerState) (i : Given) → OutsAre c (controller.next s i).1
  unfolding controller.next
  controller_tells s (Packet bytes) = controller_took_are s (reading bytes)
  controller_tells s (Ticked tick) = controller_tick_are s tick
  controller_tells s _ = tt

-- ---- observers

module _ {S : Type 0} (m : Meaning S) (c : Configuration) where
  observer_took_are : (s : Observer) (r : Result Datagram Bad) → OutsAre c (observer.on_datagram m s r).1
  observer_took_are s (Ok (datagrams.Read r)) = (tt, tt)
  observer_took_are s _ = tt

  pub observer_tells : (s : Observer) (i : Given) → OutsAre c (observer.next m s i).1
  unfolding observer.next
  observer_tells s (Packet bytes) = observer_took_are s (reading bytes)
  observer_tells s _ = tt

-- ---- clients

-- its number, and no op of its own that waits
pub record ClientIs (k : ℕ) (s : ClientState) : Type 0 where
  pub number : s.number ≡ k
  pub waits : s.waiting ≡ []

-- a step of a client that stays so
pub record ClientTells (c : Configuration) (k : ℕ) (r : ClientState × List Out) : Type 0 where
  pub tells : OutsAre c r.1
  pub stays : ClientIs k r.0

module _ (c : Configuration) (k : ℕ) (within : k < c.clients) (s : ClientState) (is : ClientIs k s) where
  quiet_client : ClientTells c k (s, [])
  quiet_client = record { tells = tt; stays = is }

  own : s.number < c.clients
  own = omega (arith, is.number)

  submit_tells : (op : List ℕ) → client.can_submit s ≡ true → IsOp op → ClientTells c k (client.begin s (client.request_of s op))
  submit_tells op can fits =
      let left = ltb-true s.last_id (2 ^ 64 - 1) (and_parts (has_room s) (nat_lt s.last_id (2 ^ 64 - 1)) can).1 in
      record {
        tells = (
          record { client = own; low = omega arith; id = omega (arith, left); bytes = fits.bytes; short = fits.short },
          (tt, tt),
        );
        stays = record { number = is.number; waits = is.waits };
      }

  retry_tells : (qs : List Request) → OutsAre c (map client.sent qs)
  retry_tells [] = tt
  retry_tells (q ∷ qs) = (tt, retry_tells qs)

  row_tells : (i : Given) → GivenIs c i → (y : ClientState × List Out) → Row s i y → ClientTells c k y
  row_tells i fits y (Rests nothing) = quiet_client
  row_tells i fits y (SaysBusy op of busy) = record { tells = (own, tt); stays = is }
  row_tells i fits y (Opens op waiting can (inl (of, left))) = absurd (let none = is.waits in cc)
  row_tells i fits y (Opens op waiting can (inr (of, same))) =
      subst (λ (ops : List (List ℕ)). ClientTells c k (client.begin (record s { waiting = ops }) (client.request_of s op))) same
      (submit_tells op can (subst (GivenIs c) of fits))
  row_tells i fits y (Repeats of) = record { tells = retry_tells (open_requests s); stays = is }
  row_tells i fits y (Keeps p has e quorum) = record { tells = tt; stays = record { number = is.number; waits = is.waits } }
  row_tells i fits y (Accepts p leaders has e quorum) =
      record { tells = (tt, tt); stays = record { number = is.number; waits = is.waits } }

  requests_tell : (i : Given) → GivenIs c i → ClientTells c k (client.next s i)
  requests_tell i fits = row_tells i fits (client.next s i) (row_of s i)

-- a step of its reads, which keep its number
record ReadsTell (c : Configuration) (k : ℕ) (y : Reads × List Out) : Type 0 where
  tells : OutsAre c y.1
  stays : y.0.number ≡ k

module _ (c : Configuration) (k : ℕ) (within : k < c.clients) (s : Reads) (is : s.number ≡ k) where
  reader_there : s.number < c.clients
  reader_there = omega (arith, within, is)

  reads_row_tell : (i : Given) → GivenIs c i → (y : Reads × List Out) → rows.Row s i y → ReadsTell c k y
  reads_row_tell i fits y (rows.Rests nothing) = record { tells = tt; stays = is }
  reads_row_tell i fits y (rows.SaysBusy other key of busy) = record { tells = (reader_there, tt); stays = is }
  reads_row_tell i fits y (rows.Asks other key of can) =
      let asked = subst (GivenIs c) of fits in
      let left = ltb-true s.last_id (2 ^ 64 - 1) (and_parts (is_none s.pending) (nat_lt s.last_id (2 ^ 64 - 1)) can).1 in
      record {
        tells = (
          record {
            client_there = reader_there;
            low = omega arith;
            id_fits = omega (arith, left);
            observer_there = asked.0;
            key_is = asked.1;
          },
          (tt, tt),
        );
        stays = is;
      }
  reads_row_tell i fits y (rows.Repeats r of e) = record { tells = (tt, tt); stays = is }
  reads_row_tell i fits y (rows.Ends r a has e answers) = record { tells = (tt, tt); stays = is }

  reads_tell : (i : Given) → GivenIs c i → ReadsTell c k (reads.next s i)
  reads_tell i fits = reads_row_tell i fits (reads.next s i) (reads_row s i)

-- its requests are so, and its reads have its number
pub record IsClient (k : ℕ) (s : Client) : Type 0 where
  pub requests : ClientIs k s.requests
  pub reads : s.reads.number ≡ k

pub client_tells : (c : Configuration) (k : ℕ) → k < c.clients → (s : Client) → IsClient k s → (i : Given) → GivenIs c i
    → OutsAre c (core.next s i).1 × IsClient k (core.next s i).0
client_tells c k within s is i fits =
    let first = requests_tell c k within s.requests is.requests i fits in
    let later = reads_tell c k within s.reads is.reads i fits in (
      both_are c (client.next s.requests i).1 (reads.next s.reads i).1 first.tells later.tells,
      record { requests = first.stays; reads = later.stays },
    )
