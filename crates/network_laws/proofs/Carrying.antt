-- What is joined was told, and what is posted is carried too.
use Rattle.std.proofs.Common.{◌≡◌, ◌≤◌, ◌<◌, ◌+◌, ◌^◌, ℕ, Some, refl, sym, ap, subst, ◌∙◌, arith, inl, inr, List, [], ◌++◌}
use Rattle.std.specs.Prelude.{Result, Ok}
use Rattle.std.specs.List.{AllByRecursion}
use Rattle.nop_types.specs.Lists.{Has}
use Rattle.nop_types.specs.declared.datagram.Fragment.{Fragment}
use Rattle.nop_types.specs.declared.peer.Peer.{Peer}
use Rattle.lemmas.specs.Functions.{put}
use Rattle.lemmas.proofs.Functions.{put-here, put-all}
use Rattle.lemmas.proofs.Members.{Has-none, Has-append_left, Has-append_right, Has-append_cases}
use Rattle.fragments.specs.Joining.{Waiting, taken}
use Rattle.fragments.specs.Runs.{AllCame, Sent, IsCutFrom}
use Rattle.fragments.proofs.Came.{keeps_what_came}
use Rattle.fragments.proofs.Whole.{joins_what_was_sent}
use Rattle.peer_codec.specs.declared.bad_peer.BadPeer.{BadPeer}
use Rattle.peer_codec.specs.Reading.{reading}
use Rattle.peer_codec.proofs.Peers.{reads_again}
use Rattle.replica_state.specs.declared.sending.Sending.{Sending}
use Rattle.replica_core.specs.Posting.{posted}
use Rattle.replica_state.specs.Sends.{SendingFits, message_count}
use Rattle.network_laws.specs.Carried.{Carried, IsMessage, IsWhole, WasSent, WasSentInRange}
use Rattle.network_laws.specs.PostedFragments.{fragments_in, messages_from, fragments_of_all}
use Rattle.network_laws.specs.Sends.{peers_in, IsBy}
use Rattle.network_laws.proofs.Messages.{posted_next, posted_once, posted_message, stays_message, each_posted, cut_from_all, all_cut}
use Rattle.network_laws.proofs.PostedFragments.{posts_fragments}

-- ---- joining

same_peer : (x : Result Peer BadPeer) (p q : Peer) → x ≡ Ok p → x ≡ Ok q → p ≡ q
same_peer x p q e d = cc

message_was_sent : (peer_messages : List Peer) (f : Fragment) (bytes : List ℕ) (p : Peer)
    → IsMessage peer_messages (record { sender = f.replica; number = f.message; bytes = bytes }) → reading bytes ≡ Ok p → WasSentInRange peer_messages f p
message_was_sent peer_messages f bytes p h read =
    let same = same_peer (reading bytes) h.peer p (ap reading h.bytes ∙ reads_again h.peer h.fits) read in
    subst (WasSentInRange peer_messages f) same (record { has = h.has; fits = h.fits; sender = h.sender })

pub joined_was_sent : (peer_messages : List Peer) (net : List Fragment) (used : ℕ → ℕ) (all : List Waiting) (f : Fragment) (bytes : List ℕ)
    (p : Peer) → Carried peer_messages net used → Has net f → AllCame net all → (taken all f).1 ≡ Some bytes → reading bytes ≡ Ok p
    → WasSentInRange peer_messages f p
joined_was_sent peer_messages net used all f bytes p c here came is read =
    let parts = (keeps_what_came net all f here came).gave bytes is in
    let sent = joins_what_was_sent c.sent net f bytes c.distinct c.cut here parts in
    message_was_sent peer_messages f bytes p (c.spelled (record { sender = f.replica; number = f.message; bytes = bytes }) sent) read

-- ---- the opening

pub opening_carries : Carried [] [] (λ (r : ℕ). 0)
opening_carries = record {
  sent = [];
  distinct = λ a b i j s n. absurd (Has-none a i);
  numbered = λ x h. absurd (Has-none x h);
  cut = λ f h. absurd (Has-none f h);
  spelled = λ x h. absurd (Has-none x h);
  whole = λ x h. absurd (Has-none x h);
  all = λ p h. absurd (Has-none p h);
}

-- ---- posting

more_used : (used : ℕ → ℕ) (r count q : ℕ) → used q ≤ put used r (used r + count) q
more_used used r count = put-all (λ (q n : ℕ). used q ≤ n) used r (used r + count) (omega arith) (λ q d. omega arith)

module _ (peer_messages : List Peer) (net : List Fragment) (used : ℕ → ℕ) (r : ℕ) (sends : List Sending) (c : Carried peer_messages net used)
    (fits : AllByRecursion SendingFits sends) (by : AllByRecursion (IsBy r) sends) where
  abbrev new : List Sent
  new = messages_from (used r) sends

  abbrev used_then : ℕ → ℕ
  used_then = put used r (used r + message_count sends)

  -- an older message of the replica has a lower number
  apart : (a b : Sent) → Has new a → Has c.sent b → a.sender ≡ b.sender → a.number ≡ b.number → ⊥
  apart a b i j s n =
      let next = posted_next r (used r) sends by a i in
      let low = next.low in
      let high = c.numbered b j in
      let same : used b.sender ≡ used r = ap used (sym s ∙ next.sender) in
      omega (arith, low, high, same, n)

  distinct : (a b : Sent) → Has (new ++ c.sent) a → Has (new ++ c.sent) b → a.sender ≡ b.sender → a.number ≡ b.number → a.bytes ≡ b.bytes
  distinct a b i j s n = elim (Has-append_cases new c.sent a i) [
    | inl a_new ↦ elim (Has-append_cases new c.sent b j) [
      | inl b_new ↦ posted_once r (used r) sends by a b a_new b_new n
      | inr b_old ↦ absurd (apart a b a_new b_old s n)
    ]
    | inr a_old ↦ elim (Has-append_cases new c.sent b j) [
      | inl b_new ↦ absurd (apart b a b_new a_old (sym s) (sym n))
      | inr b_old ↦ c.distinct a b a_old b_old s n
    ]
  ]

  numbered : (x : Sent) → Has (new ++ c.sent) x → x.number ≤ used_then x.sender
  numbered x h = elim (Has-append_cases new c.sent x h) [
    | inl is_new ↦
        let next = posted_next r (used r) sends by x is_new in
        let high = next.high in
        let last = put-here used r (used r + message_count sends) in
        subst (λ (q : ℕ). x.number ≤ used_then q) (sym next.sender) (omega (arith, high, last))
    | inr old ↦
        let high = c.numbered x old in
        let more = more_used used r (message_count sends) x.sender in
        omega (arith, high, more)
  ]

  cut : (f : Fragment) → Has (net ++ fragments_of_all new) f → IsCutFrom (new ++ c.sent) f
  cut f h = elim (Has-append_cases net (fragments_of_all new) f h) [
    | inl old ↦
        let from = c.cut f old in
        record { message = from.message; was_sent = Has-append_right new c.sent from.message from.was_sent; cut = from.cut }
    | inr is_new ↦
        let from = cut_from_all new f is_new in
        record { message = from.message; was_sent = Has-append_left new c.sent from.message from.was_sent; cut = from.cut }
  ]

  spelled : (x : Sent) → Has (new ++ c.sent) x → IsMessage (peers_in sends ++ peer_messages) x
  spelled x h = elim (Has-append_cases new c.sent x h) [
    | inl is_new ↦ stays_message (λ p. Has-append_left (peers_in sends) peer_messages p) x (posted_message (used r) sends fits x is_new)
    | inr old ↦ stays_message (λ p. Has-append_right (peers_in sends) peer_messages p) x (c.spelled x old)
  ]

  whole : (x : Sent) → Has (new ++ c.sent) x → IsWhole (net ++ fragments_of_all new) x
  whole x h f i = elim (Has-append_cases new c.sent x h) [
    | inl is_new ↦ Has-append_right net (fragments_of_all new) f (all_cut new x is_new f i)
    | inr old ↦ Has-append_left net (fragments_of_all new) f (c.whole x old f i)
  ]

  all : (p : Peer) → Has (peers_in sends ++ peer_messages) p → WasSent (new ++ c.sent) p
  all p h = elim (Has-append_cases (peers_in sends) peer_messages p h) [
    | inl is_new ↦
        let under = each_posted (used r) sends p is_new in
        record { number = under.under; has = Has-append_left new c.sent _ under.has }
    | inr old ↦
        let under = c.all p old in
        record { number = under.number; has = Has-append_right new c.sent _ under.has }
  ]

  carries : (d : Carried (peers_in sends ++ peer_messages) (net ++ fragments_of_all new) used_then) × (d.sent ≡ new ++ c.sent)
  carries = (
    record { sent = new ++ c.sent; distinct = distinct; numbered = numbered; cut = cut; spelled = spelled; whole = whole; all = all },
    refl,
  )

-- under the numbers above the one that was used last
pub posting_carries_under : (peer_messages : List Peer) (net : List Fragment) (used : ℕ → ℕ) (r : ℕ) (sends : List Sending)
    → (c : Carried peer_messages net used) → AllByRecursion SendingFits sends → AllByRecursion (IsBy r) sends → used r + message_count sends < 2 ^ 64
    → (d : Carried (peers_in sends ++ peer_messages) (net ++ fragments_in (posted (used r) sends)) (put used r (used r + message_count sends)))
    × (d.sent ≡ messages_from (used r) sends ++ c.sent)
posting_carries_under peer_messages net used r sends c fits by high =
    subst
    (λ (fs : List Fragment). (d : Carried (peers_in sends ++ peer_messages) (net ++ fs) (put used r (used r + message_count sends)))
    × (d.sent ≡ messages_from (used r) sends ++ c.sent))
    (sym (posts_fragments (used r) sends fits high).fragments) (carries peer_messages net used r sends c fits by)

pub posting_carries : (peer_messages : List Peer) (net : List Fragment) (used : ℕ → ℕ) (r : ℕ) (sends : List Sending) → Carried peer_messages net used
    → AllByRecursion SendingFits sends → AllByRecursion (IsBy r) sends → used r + message_count sends < 2 ^ 64
    → Carried (peers_in sends ++ peer_messages) (net ++ fragments_in (posted (used r) sends)) (put used r (used r + message_count sends))
posting_carries peer_messages net used r sends c fits by high = (posting_carries_under peer_messages net used r sends c fits by high).0
