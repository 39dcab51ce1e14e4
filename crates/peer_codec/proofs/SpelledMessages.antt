-- The bytes that spell a message stand for it.
use Rattle.std.proofs.Common.{◌≡◌, List, ℕ, ap, ◌∙◌, sym, subst}
use Rattle.nop_types.specs.Ranges.{PeerFits}
use Rattle.nop_types.specs.declared.peer.Peer.{Peer}
use Rattle.peer_codec.specs.SpelledMessages.{message_in, message_or_other}
use Rattle.peer_codec.specs.Spelling.{Spells, spelling}
use Rattle.peer_codec.specs.Reading.{reading}
use Rattle.peer_codec.proofs.Peers.{reads_again}

pub stands_for : (bytes : List ℕ) (p : Peer) → PeerFits p → bytes ≡ spelling p → message_in bytes ≡ p
stands_for bytes p fits is = ap message_or_other (ap reading is ∙ reads_again p fits)

pub stands_spelled : (bytes : List ℕ) (p : Peer) → PeerFits p → bytes ≡ spelling p → Spells (message_in bytes) bytes
stands_spelled bytes p fits is =
    subst (λ (q : Peer). Spells q bytes) (sym (stands_for bytes p fits is)) (record { fits = fits; spelled = is })

pub ruleset encoded_rules = (stands_for, stands_spelled)
