-- The lines of a transcript as bytes.
use Rattle.std.specs.Prelude.{ℕ, List, [], ◌∷◌, ◌++◌, length, Bool, true, false, Option, Some, None, codes, slice_index, decimal, ◌==◌}
use Rattle.std.specs.Prelude.{if◌then◌else◌}
use Rattle.std.specs.List.{flat_map}
use Rattle.hex.specs.Hex.{encode_lower}
use Rattle.nop_types.specs.declared.kinds.TheConstants as kinds
use Rattle.nop_types.specs.Configuration.{Configuration}
use Rattle.nop_types.specs.Lines.{Line, Dead, Submit, Accept, Busy, Read, Answer, Send}
use Rattle.nop_types.specs.declared.output.Actor.{Actor}
use Rattle.nop_types.specs.declared.output.Actor.TheVariants as actors
use Rattle.nop_types.specs.declared.output.Dest.{Dest}
use Rattle.nop_types.specs.declared.output.Dest.TheVariants.{Replicas, Sequencers, One}
use Rattle.nop_types.specs.declared.request.Request.{Request}
use Rattle.nop_types.specs.declared.request.Entry.{Entry}
use Rattle.nop_types.specs.declared.request.Entry.TheVariants.{NoOp, Req}
use Rattle.nop_types.specs.declared.replica_state.Phase.{Phase}
use Rattle.nop_types.specs.declared.replica_state.Phase.TheVariants.{Normal, Change}
use Rattle.nop_types.specs.declared.view.View.{View}

-- ---- words

-- controller 0 has no number in its name
abbrev pub number_after : ℕ → List ℕ
number_after k = if k == 0 then [] else decimal k

abbrev pub actor_text : Actor → List ℕ
actor_text (actors.Replica i) = 114 ∷ decimal i
actor_text (actors.Sequencer i) = 115 ∷ decimal i
actor_text (actors.Client i) = 99 ∷ decimal i
actor_text (actors.Controller k) = codes "ctl" ++ number_after k
actor_text (actors.Observer i) = 111 ∷ decimal i

abbrev pub dest_text : Dest → List ℕ
dest_text Replicas = codes "r*"
dest_text Sequencers = codes "s*"
dest_text (One actor) = actor_text actor

-- lower case, and `-` for none
abbrev pub hex_text : List ℕ → List ℕ
hex_text [] = codes "-"
hex_text (b ∷ bs) = encode_lower (b ∷ bs)

-- the name of a kind of datagrams
unfoldable pub kind_text : ℕ → List ℕ
kind_text kind =
    if kind == kinds.REQUEST then codes "request"
    else if kind == kinds.STAMPED then codes "stamped"
    else if kind == kinds.REPLY then codes "reply"
    else if kind == kinds.INSTALL then codes "install"
    else if kind == kinds.INSTALLED then codes "installed"
    else if kind == kinds.PING then codes "ping"
    else if kind == kinds.PONG then codes "pong"
    else if kind == kinds.READ then codes "read"
    else if kind == kinds.ANSWER then codes "answer"
    else codes "fragment"

abbrev pub phase_text : Phase → List ℕ
phase_text Normal = codes "normal"
phase_text Change = codes "change"

abbrev pub up_text : Bool → List ℕ
up_text true = codes "crashed"
up_text false = codes "up"

abbrev pub space : List ℕ
space = 32 ∷ []

abbrev pub line_end : List ℕ
line_end = 10 ∷ []

abbrev pub client_text : ℕ → List ℕ
client_text client = actor_text (actors.Client client)

abbrev pub observer_text : ℕ → List ℕ
observer_text observer = actor_text (actors.Observer observer)

-- a client, an id and bytes
abbrev pub pair_text : ℕ → ℕ → List ℕ → List ℕ
pair_text client id bytes = client_text client ++ space ++ decimal id ++ space ++ hex_text bytes

abbrev pub request_text : Request → List ℕ
request_text r = pair_text r.client r.id r.op

-- ---- lines of events

unfoldable pub dead_line : Actor → List ℕ
dead_line actor = codes "dead " ++ actor_text actor ++ line_end

unfoldable pub submit_line : Request → List ℕ
submit_line r = codes "submit " ++ request_text r ++ line_end

unfoldable pub accept_line : ℕ → ℕ → List ℕ → List ℕ
accept_line client id result = codes "accept " ++ pair_text client id result ++ line_end

unfoldable pub busy_line : ℕ → List ℕ
busy_line client = codes "busy " ++ client_text client ++ line_end

-- a read: its client and id, the observer and the key
unfoldable pub read_line : ℕ → ℕ → ℕ → List ℕ → List ℕ
read_line client id observer key =
    codes "read " ++ client_text client ++ space ++ decimal id ++ space ++ observer_text observer ++ space ++ hex_text key ++ line_end

-- its answer, from the state after so many slots
unfoldable pub answer_line : ℕ → ℕ → ℕ → ℕ → List ℕ → List ℕ
answer_line client id observer position result =
    codes "answer " ++ client_text client ++ space ++ decimal id ++ space ++ observer_text observer ++ space ++ decimal position ++ space
    ++ hex_text result ++ line_end

-- the kind is the fourth byte
unfoldable pub send_line : ℕ → Actor → Dest → List ℕ → List ℕ
send_line index from dest datagram =
    codes "send " ++ decimal index ++ space ++ actor_text from ++ space ++ dest_text dest ++ space ++ kind_text (slice_index datagram 3)
    ++ space ++ decimal (length datagram) ++ line_end

abbrev pub line_text : Line → List ℕ
line_text (Dead actor) = dead_line actor
line_text (Submit r) = submit_line r
line_text (Accept client id result) = accept_line client id result
line_text (Busy client) = busy_line client
line_text (Read client id observer key) = read_line client id observer key
line_text (Answer client id observer position result) = answer_line client id observer position result
line_text (Send index from dest datagram) = send_line index from dest datagram

abbrev pub lines_text : List Line → List ℕ
lines_text lines = flat_map line_text lines

-- ---- the other lines

-- a header of form 1 has no count of controllers
abbrev pub controllers_text : ℕ → ℕ → List ℕ
controllers_text form controllers = if form == 1 then [] else codes " controllers " ++ decimal controllers

-- one of form 1 or 2 has none of observers
abbrev pub watching_text : ℕ → ℕ → List ℕ
watching_text form observers = if form == 1 then [] else if form == 2 then [] else codes " observers " ++ decimal observers

-- a word, a form and the counts of a configuration: the first line of schedules, traces and transcripts
unfoldable pub counts_line : List ℕ → ℕ → Configuration → List ℕ
counts_line word form c = word ++ codes " " ++ decimal form ++ codes " replicas " ++ decimal c.replicas
    ++ codes " sequencers " ++ decimal c.sequencers ++ codes " clients " ++ decimal c.clients
    ++ controllers_text form c.controllers ++ watching_text form c.observers ++ line_end

unfoldable pub transcript_line : ℕ → Configuration → List ℕ
transcript_line form c = counts_line (codes "transcript") form c

unfoldable pub replica_line : ℕ → Bool → Phase → View → ℕ → ℕ → List ℕ
replica_line number crashed status view len sync_point =
    codes "replica r" ++ decimal number ++ space ++ up_text crashed ++ space ++ phase_text status ++ space ++ decimal view.leader ++ space
    ++ decimal view.session ++ space ++ decimal len ++ space ++ decimal sync_point ++ line_end

unfoldable pub observer_line : ℕ → Bool → ℕ → List ℕ
observer_line number crashed position =
    codes "observer o" ++ decimal number ++ space ++ up_text crashed ++ space ++ decimal position ++ line_end

abbrev pub entry_text : Entry → List ℕ
entry_text NoOp = codes "noop"
entry_text (Req r) = request_text r

unfoldable pub entry_line : ℕ → ℕ → Entry → List ℕ
entry_line replica slot entry = codes "entry r" ++ decimal replica ++ space ++ decimal slot ++ space ++ entry_text entry ++ line_end

unfoldable pub history_line : ℕ → Request → List ℕ
history_line index r = codes "history " ++ decimal index ++ space ++ request_text r ++ line_end

abbrev pub sent_text : Option (ℕ × ℕ) → List ℕ
sent_text None = []
sent_text (Some p) = codes " index " ++ decimal p.0 ++ codes " sent " ++ decimal p.1

-- the line and the rule; at a datagram that was not sent, also its index and the number sent
unfoldable pub error_line : ℕ → ℕ → Option (ℕ × ℕ) → List ℕ
error_line line rule index_sent = codes "error line " ++ decimal line ++ codes " rule " ++ decimal rule ++ sent_text index_sent ++ line_end

unfoldable pub end_line : List ℕ
end_line = codes "end" ++ line_end
