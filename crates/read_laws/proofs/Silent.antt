-- Who neither asks nor answers: replicas, sequencers, controllers, and the requests of clients.
use Rattle.std.proofs.Common.{◌≡◌, ℕ, ◌+◌, Bool, true, false, List, [], ◌∷◌, ◌++◌, Option, Some, None, map, refl, ap, subst, ◌∙◌, inl, inr}
use Rattle.std.specs.Prelude.{Result, Ok, Err, ⊤, nat_lt, slice_get, ◌==◌, ◌||◌}
use Rattle.nop_types.specs.Given.{Given, Packet, Ticked}
use Rattle.nop_types.specs.Lines as said
use Rattle.nop_types.specs.Lines.{Line}
use Rattle.nop_types.specs.Lists.{Has}
use Rattle.nop_types.specs.Logs.{Trimmed}
use Rattle.nop_types.specs.Meaning.{Meaning}
use Rattle.nop_types.specs.declared.datagram.Datagram.{Datagram}
use Rattle.nop_types.specs.declared.datagram.Datagram.TheVariants as datagrams
use Rattle.nop_types.specs.declared.datagram.Fragment.{Fragment}
use Rattle.nop_types.specs.declared.datagram.Reply.{Reply}
use Rattle.nop_types.specs.declared.datagram.Stamped.{Stamped}
use Rattle.nop_types.specs.declared.input.Tick.{Tick}
use Rattle.nop_types.specs.declared.input.Tick.TheVariants as ticks
use Rattle.nop_types.specs.declared.kinds.TheConstants as kinds
use Rattle.nop_types.specs.declared.kinds.TheConstants.{KIND_PLACE}
use Rattle.nop_types.specs.declared.output.Actor.{Actor}
use Rattle.nop_types.specs.declared.output.Dest.{Dest}
use Rattle.nop_types.specs.declared.output.Out.{Out}
use Rattle.nop_types.specs.declared.output.Out.TheVariants as outs
use Rattle.nop_types.specs.declared.peer.Peer.{Peer}
use Rattle.nop_types.specs.declared.request.Request.{Request}
use Rattle.lemmas.proofs.Members.{Has-none, Has-cases}
use Rattle.oum_codec.specs.declared.bad.Bad.{Bad}
use Rattle.oum_codec.specs.Kinds.{IsOfKind, kind_of}
use Rattle.oum_codec.specs.Reading.{reading}
use Rattle.oum_codec.specs.Spelling.{spelling}
use Rattle.oum_codec.proofs.KindBytes.{kinds_are_told}
use Rattle.peer_codec.specs.declared.bad_peer.BadPeer.{BadPeer}
use Rattle.peer_codec.specs.Reading as peers
use Rattle.peer_codec.specs.Spelling as peer
use Rattle.fragments.specs.Cutting.{fragments_of, sends_of}
use Rattle.fragments.specs.Joining.{taken}
use Rattle.client_quorum.specs.ClientSteps as requests
use Rattle.client_quorum.specs.OpenRequests.{open_requests}
use Rattle.client_quorum.specs.Rows.{Row, Opens, Repeats}
use Rattle.client_quorum.proofs.RowLemmas.{row_of}
use Rattle.client_quorum.specs.declared.state.ClientState.{ClientState}
use Rattle.sequencer.specs.SequencerSteps as sequencer
use Rattle.sequencer.specs.declared.state.SequencerState.{SequencerState}
use Rattle.session_control.specs.ControllerSteps as controller
use Rattle.session_control.specs.declared.state.ControllerState.{ControllerState}
use Rattle.replica_state.specs.State.{is_other}
use Rattle.replica_state.specs.declared.sending.Sending.{Sending}
use Rattle.replica_state.specs.declared.sending.Sending.TheVariants.{ToClient, ToReplicas, Trims}
use Rattle.replica_rows.specs.Messages as messages
use Rattle.replica_rows.specs.Messages.{arrive}
use Rattle.replica_core.specs.Posting.{message_outs, posted}
use Rattle.replica_core.specs.ReplicaSteps as replica
use Rattle.replica_core.specs.ReplicaSteps.{Replica}
use Rattle.replica_core.specs.declared.replica.TheConstants.{LAST_MESSAGE}
use Rattle.network.specs.Network.{lines_from}
use Rattle.network_laws.specs.Network.{bytes_in}
use Rattle.read_laws.proofs.Exchanges.{AreSilentLines, is_read}

-- ---- datagrams of the other kinds are neither reads nor answers, in whatever ranges

abbrev pub is_exchanged : Result Datagram Bad → Bool
is_exchanged (Ok (datagrams.Read r)) = true
is_exchanged (Ok (datagrams.Answer a)) = true
is_exchanged _ = false

abbrev pub IsSilent : Result Datagram Bad → Type 0
IsSilent r = is_exchanged r ≡ false

abbrev is_exchange : ℕ → Bool
is_exchange kind = kind == kinds.READ || kind == kinds.ANSWER

of_kind : (kind : ℕ) (r : Result Datagram Bad) → IsOfKind (Some kind) r → is_exchange kind ≡ false → IsSilent r
of_kind kind (Ok (datagrams.Read r)) is other = absurd (let same : kind ≡ kinds.READ = cc in let e = ap is_exchange same in cc)
of_kind kind (Ok (datagrams.Answer a)) is other = absurd (let same : kind ≡ kinds.ANSWER = cc in let e = ap is_exchange same in cc)
of_kind kind _ is other = refl

-- what is spelled as a datagram of another kind
spelled_is : (d : Datagram) → slice_get (spelling d) KIND_PLACE ≡ Some (kind_of d) → is_exchange (kind_of d) ≡ false
    → IsSilent (reading (spelling d))
spelled_is d here other =
    of_kind (kind_of d) (reading (spelling d))
    (subst (λ (kind : Option ℕ). IsOfKind kind (reading (spelling d))) here (kinds_are_told (spelling d))) other

request_is : (r : Request) → IsSilent (reading (spelling (datagrams.Request r)))
request_is r = spelled_is (datagrams.Request r) refl refl

stamped_is : (p : Stamped) → IsSilent (reading (spelling (datagrams.Stamped p)))
stamped_is p = spelled_is (datagrams.Stamped p) refl refl

reply_is : (p : Reply) → IsSilent (reading (spelling (datagrams.Reply p)))
reply_is p = spelled_is (datagrams.Reply p) refl refl

fragment_is : (f : Fragment) → IsSilent (reading (spelling (datagrams.Fragment f)))
fragment_is f = spelled_is (datagrams.Fragment f) refl refl

install_is : (k j s : ℕ) → IsSilent (reading (spelling (datagrams.Install k j s)))
install_is k j s = spelled_is (datagrams.Install k j s) refl refl

installed_is : (k j s : ℕ) → IsSilent (reading (spelling (datagrams.Installed k j s)))
installed_is k j s = spelled_is (datagrams.Installed k j s) refl refl

ping_is : (k j n : ℕ) → IsSilent (reading (spelling (datagrams.Ping k j n)))
ping_is k j n = spelled_is (datagrams.Ping k j n) refl refl

pong_is : (k j n : ℕ) → IsSilent (reading (spelling (datagrams.Pong k j n)))
pong_is k j n = spelled_is (datagrams.Pong k j n) refl refl

-- ---- outputs that neither ask nor answer

abbrev pub AreSilent : List Out → Type 0
AreSilent [] = ⊤
AreSilent (outs.Send dest bytes ∷ rest) = IsSilent (reading bytes) × AreSilent rest
AreSilent (outs.Reading client id observer key ∷ rest) = ⊥
AreSilent (outs.Answered client id observer position result ∷ rest) = ⊥
AreSilent (_ ∷ rest) = AreSilent rest

are_silent : (xs ys : List Out) → AreSilent xs → AreSilent ys → AreSilent (xs ++ ys)
are_silent [] ys first rest = rest
are_silent (outs.Send dest bytes ∷ xs) ys first rest = (first.0, are_silent xs ys first.1 rest)
are_silent (outs.Reading client id observer key ∷ xs) ys first rest = absurd first
are_silent (outs.Answered client id observer position result ∷ xs) ys first rest = absurd first
are_silent (_ ∷ xs) ys first rest = are_silent xs ys first rest

-- the bytes of what they send
pub silent_bytes : (os : List Out) → AreSilent os → (bytes : List ℕ) → Has (bytes_in os) bytes → IsSilent (reading bytes)
silent_bytes [] silent bytes h = absurd (Has-none bytes h)
silent_bytes (outs.Send dest sent ∷ os) silent bytes h = elim (Has-cases bytes sent (bytes_in os) h) [
  | inl first ↦ ap (λ (b : List ℕ). is_exchanged (reading b)) first ∙ silent.0
  | inr later ↦ silent_bytes os silent.1 bytes later
]
silent_bytes (outs.Reading client id observer key ∷ os) silent bytes h = absurd silent
silent_bytes (outs.Answered client id observer position result ∷ os) silent bytes h = absurd silent
silent_bytes (_ ∷ os) silent bytes h = silent_bytes os silent bytes h

-- one line more that neither asks nor answers
line_more : (l : Line) (ls : List Line) → is_read l ≡ false → AreSilentLines ls → AreSilentLines (l ∷ ls)
line_more l ls none rest x h = elim (Has-cases x l ls h) [
  | inl first ↦ ap is_read first ∙ none
  | inr later ↦ rest x later
]

pub no_lines : AreSilentLines []
no_lines x h = absurd (Has-none x h)

pub one_line : (l : Line) → is_read l ≡ false → AreSilentLines (l ∷ [])
one_line l none = line_more l [] none no_lines

-- their lines
pub silent_lines : (from : Actor) (n : ℕ) (os : List Out) → AreSilent os → AreSilentLines (lines_from from n os)
silent_lines from n [] silent = no_lines
silent_lines from n (outs.Send dest bytes ∷ os) silent =
    line_more (said.Send n from dest bytes) (lines_from from (n + 1) os) refl (silent_lines from (n + 1) os silent.1)
silent_lines from n (outs.Submitted r ∷ os) silent =
    line_more (said.Submit r) (lines_from from n os) refl (silent_lines from n os silent)
silent_lines from n (outs.Accepted client id result ∷ os) silent =
    line_more (said.Accept client id result) (lines_from from n os) refl (silent_lines from n os silent)
silent_lines from n (outs.Busy client ∷ os) silent =
    line_more (said.Busy client) (lines_from from n os) refl (silent_lines from n os silent)
silent_lines from n (outs.Reading client id observer key ∷ os) silent = absurd silent
silent_lines from n (outs.Answered client id observer position result ∷ os) silent = absurd silent
silent_lines from n (outs.Trimmed first entries ∷ os) silent = silent_lines from n os silent

-- ---- the requests of clients

retry_silent : (qs : List Request) → AreSilent (map requests.sent qs)
retry_silent [] = tt
retry_silent (q ∷ qs) = (request_is q, retry_silent qs)

request_row_silent : (s : ClientState) (x : Given) (y : ClientState × List Out) → Row s x y → AreSilent y.1
request_row_silent s x y (Opens op waiting can from) = (request_is _, tt)
request_row_silent s x y (Repeats is) = retry_silent (open_requests s)
request_row_silent s x y _ = tt

pub requests_silent : (s : ClientState) (x : Given) → AreSilent (requests.next s x).1
requests_silent s x = request_row_silent s x (requests.next s x) (row_of s x)

-- ---- sequencers

packet_silent : (o : Option Stamped) → AreSilent (sequencer.send_packet o)
packet_silent None = tt
packet_silent (Some p) = (stamped_is p, tt)

install_silent : (b : Bool) (s : SequencerState) (k n : ℕ) → AreSilent (sequencer.install_if b s k n).1
install_silent true s k n = (installed_is k _ _, tt)
install_silent false s k n = tt

ping_silent : (b : Bool) (s : SequencerState) (k n : ℕ) → AreSilent (sequencer.ping_if b s k n).1
ping_silent true s k n = (pong_is k s.number n, tt)
ping_silent false s k n = tt

sequencer_reads : (s : SequencerState) (r : Result Datagram Bad) → AreSilent (sequencer.on_datagram s r).1
sequencer_reads s (Ok (datagrams.Request r)) = packet_silent (sequencer.stamped_by s r)
sequencer_reads s (Ok (datagrams.Install k j n)) = install_silent _ s k n
sequencer_reads s (Ok (datagrams.Ping k j n)) = ping_silent _ s k n
sequencer_reads s _ = tt

pub sequencer_silent : (s : SequencerState) (x : Given) → AreSilent (sequencer.next s x).1
unfolding sequencer.next
sequencer_silent s (Packet bytes) = sequencer_reads s (reading bytes)
sequencer_silent s _ = tt

-- ---- controllers

installs : (s : ControllerState) → AreSilent (controller.install_of s)
installs s = (install_is s.number s.current s.session, tt)

move_silent : (o : Option ℕ) (s : ControllerState) (j : ℕ) → AreSilent (controller.move_by o s j).1
move_silent (Some session) s j = installs (controller.moved s j session)
move_silent None s j = tt

order_silent : (b : Bool) (s : ControllerState) (j : ℕ) → AreSilent (controller.order_if b s j).1
order_silent true s j = move_silent _ s j
order_silent false s j = tt

ask_silent : (b : Bool) (s : ControllerState) → AreSilent (controller.ask_if b s).1
ask_silent true s = (ping_is s.number s.current (s.round + 1), tt)
ask_silent false s = tt

miss_silent : (b : Bool) (s : ControllerState) → AreSilent (controller.miss_if b s).1
miss_silent true s = move_silent _ s (controller.following s)
miss_silent false s = ask_silent _ (record s { missed = s.missed + 1 })

probe_silent : (b : Bool) (s : ControllerState) → AreSilent (controller.probe_if b s).1
probe_silent true s = ask_silent _ s
probe_silent false s = miss_silent _ s

resend_silent : (b : Bool) (s : ControllerState) → AreSilent (controller.resend_if b s).1
resend_silent true s = tt
resend_silent false s = installs s

controller_ticks : (s : ControllerState) (tick : Tick) → AreSilent (controller.on_tick s tick).1
controller_ticks s ticks.Probe = probe_silent s.heard s
controller_ticks s ticks.Resend = resend_silent s.confirmed s
controller_ticks s (ticks.Install j) = order_silent _ s j
controller_ticks s _ = tt

controller_reads : (s : ControllerState) (r : Result Datagram Bad) → AreSilent (controller.on_datagram s r).1
controller_reads s (Ok (datagrams.Pong k j n)) = tt
controller_reads s _ = tt

pub controller_silent : (s : ControllerState) (x : Given) → AreSilent (controller.next s x).1
unfolding controller.next
controller_silent s (Packet bytes) = controller_reads s (reading bytes)
controller_silent s (Ticked tick) = controller_ticks s tick
controller_silent s _ = tt

-- ---- replicas

message_silent : (dest : Dest) (fs : List Fragment) → AreSilent (sends_of dest fs)
message_silent dest [] = tt
message_silent dest (f ∷ fs) = (fragment_is f, message_silent dest fs)

posted_silent : (number : ℕ) (sends : List Sending) → AreSilent (posted number sends)
unfolding posted
posted_silent number [] = tt
posted_silent number (ToClient r ∷ sends) = (reply_is r, posted_silent number sends)
posted_silent number (ToReplicas dest p ∷ sends) =
    are_silent (message_outs (number + 1) dest p) (posted (number + 1) sends)
    (message_silent dest (fragments_of p.sender (number + 1) (peer.spelling p))) (posted_silent (number + 1) sends)
posted_silent number (Trims first entries ∷ sends) = posted_silent number sends

module _ {S : Type 0} (m : Meaning S) where
  row_silent : (b : Bool) (s : Replica) (a : messages.Arrival) → AreSilent (replica.row_if m b s a).1
  row_silent true s a = posted_silent s.messages (arrive m Trimmed s.state a).1
  row_silent false s a = tt

  of_sender_silent : (b : Bool) (s : Replica) (p : Peer) → AreSilent (replica.of_sender_if m b s p).1
  of_sender_silent true s p = row_silent (nat_lt s.messages LAST_MESSAGE) s (messages.PeerMessage p)
  of_sender_silent false s p = tt

  read_silent : (s : Replica) (q : ℕ) (r : Result Peer BadPeer) → AreSilent (replica.read m s q r).1
  read_silent s q (Ok p) = of_sender_silent (p.sender == q) s p
  read_silent s q (Err e) = tt

  joined_silent : (s : Replica) (q : ℕ) (o : Option (List ℕ)) → AreSilent (replica.joined m s q o).1
  joined_silent s q None = tt
  joined_silent s q (Some bytes) = read_silent s q (peers.reading bytes)

  fragment_if_silent : (b : Bool) (s : Replica) (f : Fragment) → AreSilent (replica.fragment_if m b s f).1
  fragment_if_silent true s f =
      joined_silent (record s { reassembly = (taken s.reassembly f).0 }) f.replica (taken s.reassembly f).1
  fragment_if_silent false s f = tt

  replica_reads : (s : Replica) (r : Result Datagram Bad) → AreSilent (replica.on_datagram m s r).1
  unfolding replica.fragment
  replica_reads s (Ok (datagrams.Stamped p)) = row_silent (nat_lt s.messages LAST_MESSAGE) s (messages.Packet p)
  replica_reads s (Ok (datagrams.Fragment f)) = fragment_if_silent (is_other s.state f.replica) s f
  replica_reads s _ = tt

  pub replica_silent : (s : Replica) (x : Given) → AreSilent (replica.next m s x).1
  unfolding replica.next
  replica_silent s (Packet bytes) = replica_reads s (reading bytes)
  replica_silent s (Ticked tick) = row_silent (nat_lt s.messages LAST_MESSAGE) s (messages.Ticked tick)
  replica_silent s _ = tt
