-- What a sequencer, a client or a controller sends is neither a fragment nor an answer, and its lines are those of which the whole
-- world speaks.
use Rattle.std.proofs.Common.{◌≡◌, ℕ, ◌+◌, Bool, true, false, cond, List, [], ◌∷◌, ◌++◌, Option, Some, None, map, refl, ap, subst}
use Rattle.std.specs.Prelude.{Result, Ok, not, filter, slice_get, ⊤, ◌==◌, ◌||◌}
use Rattle.nop_types.specs.Given.{Given, Packet, Ticked}
use Rattle.nop_types.specs.Lines.{Line}
use Rattle.nop_types.specs.Lines as lines
use Rattle.nop_types.specs.declared.datagram.Datagram.{Datagram}
use Rattle.nop_types.specs.declared.datagram.Datagram.TheVariants as datagrams
use Rattle.nop_types.specs.declared.datagram.Fragment.{Fragment}
use Rattle.nop_types.specs.declared.datagram.Read.{Read}
use Rattle.nop_types.specs.declared.datagram.Reply.{Reply}
use Rattle.nop_types.specs.declared.datagram.Stamped.{Stamped}
use Rattle.nop_types.specs.declared.input.Tick.{Tick}
use Rattle.nop_types.specs.declared.input.Tick.TheVariants as ticks
use Rattle.nop_types.specs.declared.kinds.TheConstants as kinds
use Rattle.nop_types.specs.declared.kinds.TheConstants.{KIND_PLACE}
use Rattle.nop_types.specs.declared.output.Actor.{Actor}
use Rattle.nop_types.specs.declared.output.Out.{Out}
use Rattle.nop_types.specs.declared.output.Out.TheVariants as outs
use Rattle.nop_types.specs.declared.request.Request.{Request}
use Rattle.oum_codec.specs.declared.bad.Bad.{Bad}
use Rattle.oum_codec.specs.Kinds.{IsOfKind, kind_of}
use Rattle.oum_codec.specs.Reading.{reading}
use Rattle.oum_codec.specs.Spelling.{spelling}
use Rattle.oum_codec.proofs.KindBytes.{kinds_are_told}
use Rattle.client_reads.specs.declared.state.Reads.{Reads}
use Rattle.client_reads.specs.ReadSteps as asked
use Rattle.client_reads.specs.Rows as reads
use Rattle.client_reads.proofs.RowLemmas.{row_of as read_row}
use Rattle.client_quorum.specs.ClientSteps as client
use Rattle.client_quorum.specs.Core.{Client}
use Rattle.client_quorum.specs.OpenRequests.{open_requests}
use Rattle.client_quorum.specs.Rows.{Row, Opens, Repeats}
use Rattle.client_quorum.proofs.RowLemmas.{row_of}
use Rattle.client_quorum.specs.declared.state.ClientState.{ClientState}
use Rattle.sequencer.specs.SequencerSteps as sequencer
use Rattle.sequencer.specs.declared.state.SequencerState.{SequencerState}
use Rattle.session_control.specs.ControllerSteps as controller
use Rattle.session_control.specs.declared.state.ControllerState.{ControllerState}
use Rattle.network.specs.Network.{Sent, sends_of, lines_from}
use Rattle.world.specs.Others.{Kind, Sequencers, Clients, Controllers, State, next}
use Rattle.safety.specs.Following.{is_spoken, is_fragment, is_apart, other_datagrams}
use Rattle.whole_world.specs.Whole.{lines_of}

-- ---- datagrams of the other kinds, in whatever ranges

pub no_fragment : (r : Result Datagram Bad) → is_apart r ≡ false → is_fragment r ≡ false
no_fragment (Ok (datagrams.Fragment f)) e = absurd cc
no_fragment _ e = refl

abbrev IsOther : Result Datagram Bad → Type 0
IsOther r = is_apart r ≡ false

abbrev is_other_kind : ℕ → Bool
is_other_kind kind = not (kind == kinds.FRAGMENT || kind == kinds.ANSWER)

of_kind : (kind : ℕ) (r : Result Datagram Bad) → IsOfKind (Some kind) r → is_other_kind kind ≡ true → IsOther r
of_kind kind (Ok (datagrams.Fragment f)) is other = absurd (let same : kind ≡ kinds.FRAGMENT = cc in let e = ap is_other_kind same in cc)
of_kind kind (Ok (datagrams.Answer a)) is other = absurd (let same : kind ≡ kinds.ANSWER = cc in let e = ap is_other_kind same in cc)
of_kind kind _ is other = refl

-- what is spelled as one of them
spelled_is : (d : Datagram) → slice_get (spelling d) KIND_PLACE ≡ Some (kind_of d) → is_other_kind (kind_of d) ≡ true
    → IsOther (reading (spelling d))
spelled_is d here other =
    of_kind (kind_of d) (reading (spelling d))
    (subst (λ (kind : Option ℕ). IsOfKind kind (reading (spelling d))) here (kinds_are_told (spelling d))) other

pub request_is : (r : Request) → IsOther (reading (spelling (datagrams.Request r)))
request_is r = spelled_is (datagrams.Request r) refl refl

pub stamped_is : (p : Stamped) → IsOther (reading (spelling (datagrams.Stamped p)))
stamped_is p = spelled_is (datagrams.Stamped p) refl refl

pub reply_is : (p : Reply) → IsOther (reading (spelling (datagrams.Reply p)))
reply_is p = spelled_is (datagrams.Reply p) refl refl

pub install_is : (k j s : ℕ) → IsOther (reading (spelling (datagrams.Install k j s)))
install_is k j s = spelled_is (datagrams.Install k j s) refl refl

pub installed_is : (k j s : ℕ) → IsOther (reading (spelling (datagrams.Installed k j s)))
installed_is k j s = spelled_is (datagrams.Installed k j s) refl refl

pub ping_is : (k j n : ℕ) → IsOther (reading (spelling (datagrams.Ping k j n)))
ping_is k j n = spelled_is (datagrams.Ping k j n) refl refl

pub pong_is : (k j n : ℕ) → IsOther (reading (spelling (datagrams.Pong k j n)))
pong_is k j n = spelled_is (datagrams.Pong k j n) refl refl

pub read_is : (r : Read) → IsOther (reading (spelling (datagrams.Read r)))
read_is r = spelled_is (datagrams.Read r) refl refl

-- ---- outputs without fragments and answers

abbrev pub AreOther : List Out → Type 0
AreOther [] = ⊤
AreOther (outs.Send dest bytes ∷ rest) = IsOther (reading bytes) × AreOther rest
AreOther (_ ∷ rest) = AreOther rest

are_other : (xs ys : List Out) → AreOther xs → AreOther ys → AreOther (xs ++ ys)
are_other [] ys first rest = rest
are_other (outs.Send dest bytes ∷ xs) ys first rest = (first.0, are_other xs ys first.1 rest)
are_other (_ ∷ xs) ys first rest = are_other xs ys first rest

pub one_kept : (s : Sent) (b : Bool) (xs ys : List Sent) → b ≡ false → xs ≡ ys → cond (not b) (s ∷ xs) xs ≡ s ∷ ys
one_kept s true xs ys e same = absurd cc
one_kept s false xs ys e same = ap (λ (zs : List Sent). s ∷ zs) same

pub others_kept : (from : Actor) (os : List Out) → AreOther os → other_datagrams (sends_of from os) ≡ sends_of from os
others_kept from [] h = refl
others_kept from (outs.Send dest bytes ∷ rest) h =
    one_kept (record { from = from; dest = dest; bytes = bytes }) (is_apart (reading bytes)) (other_datagrams (sends_of from rest))
    (sends_of from rest) h.0 (others_kept from rest h.1)
others_kept from (_ ∷ rest) h = others_kept from rest h

pub lines_spoken : (from : Actor) (n : ℕ) (os : List Out) → filter is_spoken (lines_from from n os) ≡ lines_of os
lines_spoken from n [] = refl
lines_spoken from n (outs.Send dest bytes ∷ rest) = lines_spoken from (n + 1) rest
lines_spoken from n (outs.Submitted r ∷ rest) = ap (λ (l : List Line). lines.Submit r ∷ l) (lines_spoken from n rest)
lines_spoken from n (outs.Accepted client id result ∷ rest) =
    ap (λ (l : List Line). lines.Accept client id result ∷ l) (lines_spoken from n rest)
lines_spoken from n (outs.Busy client ∷ rest) = ap (λ (l : List Line). lines.Busy client ∷ l) (lines_spoken from n rest)
lines_spoken from n (_ ∷ rest) = lines_spoken from n rest

-- ---- clients

retry_sends : (qs : List Request) → AreOther (map client.sent qs)
retry_sends [] = tt
retry_sends (q ∷ qs) = (request_is q, retry_sends qs)

row_sends : (s : ClientState) (i : Given) (y : ClientState × List Out) → Row s i y → AreOther y.1
row_sends s i y (Opens op waiting can from) = (request_is _, tt)
row_sends s i y (Repeats is) = retry_sends (open_requests s)
row_sends s i y _ = tt

reads_send : (s : Reads) (i : Given) (y : Reads × List Out) → reads.Row s i y → AreOther y.1
reads_send s i y (reads.Asks observer key is may) = (read_is _, tt)
reads_send s i y (reads.Repeats r is e) = (read_is _, tt)
reads_send s i y _ = tt

client_sends : (s : Client) (i : Given) → AreOther (next Clients s i).1
client_sends s i =
    are_other (client.next s.requests i).1 (asked.next s.reads i).1
    (row_sends s.requests i (client.next s.requests i) (row_of s.requests i))
    (reads_send s.reads i (asked.next s.reads i) (read_row s.reads i))

-- ---- sequencers

packet_sends : (o : Option Stamped) → AreOther (sequencer.send_packet o)
packet_sends None = tt
packet_sends (Some p) = (stamped_is p, tt)

install_sends : (b : Bool) (s : SequencerState) (k n : ℕ) → AreOther (sequencer.install_if b s k n).1
install_sends true s k n = (installed_is k _ _, tt)
install_sends false s k n = tt

ping_sends : (b : Bool) (s : SequencerState) (k n : ℕ) → AreOther (sequencer.ping_if b s k n).1
ping_sends true s k n = (pong_is k s.number n, tt)
ping_sends false s k n = tt

sequencer_reads : (s : SequencerState) (r : Result Datagram Bad) → AreOther (sequencer.on_datagram s r).1
sequencer_reads s (Ok (datagrams.Request r)) = packet_sends (sequencer.stamped_by s r)
sequencer_reads s (Ok (datagrams.Install k j n)) = install_sends _ s k n
sequencer_reads s (Ok (datagrams.Ping k j n)) = ping_sends _ s k n
sequencer_reads s _ = tt

sequencer_sends : (s : SequencerState) (i : Given) → AreOther (sequencer.next s i).1
unfolding sequencer.next
sequencer_sends s (Packet bytes) = sequencer_reads s (reading bytes)
sequencer_sends s _ = tt

-- ---- controllers

installs : (s : ControllerState) → AreOther (controller.install_of s)
installs s = (install_is s.number s.current s.session, tt)

move_sends : (o : Option ℕ) (s : ControllerState) (j : ℕ) → AreOther (controller.move_by o s j).1
move_sends (Some session) s j = installs (controller.moved s j session)
move_sends None s j = tt

order_sends : (b : Bool) (s : ControllerState) (j : ℕ) → AreOther (controller.order_if b s j).1
order_sends true s j = move_sends _ s j
order_sends false s j = tt

ask_sends : (b : Bool) (s : ControllerState) → AreOther (controller.ask_if b s).1
ask_sends true s = (ping_is s.number s.current (s.round + 1), tt)
ask_sends false s = tt

miss_sends : (b : Bool) (s : ControllerState) → AreOther (controller.miss_if b s).1
miss_sends true s = move_sends _ s (controller.following s)
miss_sends false s = ask_sends _ (record s { missed = s.missed + 1 })

probe_sends : (b : Bool) (s : ControllerState) → AreOther (controller.probe_if b s).1
probe_sends true s = ask_sends _ s
probe_sends false s = miss_sends _ s

resend_sends : (b : Bool) (s : ControllerState) → AreOther (controller.resend_if b s).1
resend_sends true s = tt
resend_sends false s = installs s

controller_ticks : (s : ControllerState) (tick : Tick) → AreOther (controller.on_tick s tick).1
controller_ticks s ticks.Probe = probe_sends s.heard s
controller_ticks s ticks.Resend = resend_sends s.confirmed s
controller_ticks s (ticks.Install j) = order_sends _ s j
controller_ticks s _ = tt

controller_reads : (s : ControllerState) (r : Result Datagram Bad) → AreOther (controller.on_datagram s r).1
controller_reads s (Ok (datagrams.Pong k j n)) = tt
controller_reads s _ = tt

controller_sends : (s : ControllerState) (i : Given) → AreOther (controller.next s i).1
unfolding controller.next
controller_sends s (Packet bytes) = controller_reads s (reading bytes)
controller_sends s (Ticked tick) = controller_ticks s tick
controller_sends s _ = tt

-- ---- each kind of them

pub other_sends : (k : Kind) (s : State k) (i : Given) → AreOther (next k s i).1
other_sends Sequencers = sequencer_sends
other_sends Clients = client_sends
other_sends Controllers = controller_sends

client_ignores : (bytes : List ℕ) (f : Fragment) → reading bytes ≡ Ok (datagrams.Fragment f) → (s : Client)
    → next Clients s (Packet bytes) ≡ (s, [])
unfolding client.next asked.next
client_ignores bytes f e s = rw e refl

-- a fragment changes nothing at them
pub other_ignores : (k : Kind) (bytes : List ℕ) (f : Fragment) → reading bytes ≡ Ok (datagrams.Fragment f) → (s : State k)
    → next k s (Packet bytes) ≡ (s, [])
unfolding sequencer.next controller.next
other_ignores Sequencers bytes f e s = ap (sequencer.on_datagram s) e
other_ignores Clients bytes f e s = client_ignores bytes f e s
other_ignores Controllers bytes f e s = ap (controller.on_datagram s) e
