-- What a replica posts are its replies, and fragments.
use Rattle.std.proofs.Common.{◌≡◌, ◌≤◌, ◌<◌, ◌+◌, ◌^◌, ℕ, refl, sym, ap, subst, arith, inl, inr, List, [], ◌∷◌, ◌++◌, length}
use Rattle.std.specs.Prelude.{◌⊎◌}
use Rattle.std.specs.List.{AllByRecursion}
use Rattle.nop_types.specs.Lists.{Has}
use Rattle.nop_types.specs.Ranges.{PeerFits, FragmentFits}
use Rattle.nop_types.specs.declared.limits.TheConstants.{MAX_FRAGMENTS}
use Rattle.nop_types.specs.declared.datagram.Datagram.TheVariants as datagrams
use Rattle.nop_types.specs.declared.datagram.Fragment.{Fragment}
use Rattle.nop_types.specs.declared.datagram.Reply.{Reply}
use Rattle.nop_types.specs.declared.output.Dest.{Dest}
use Rattle.nop_types.specs.declared.output.Out.{Out}
use Rattle.nop_types.specs.declared.output.Out.TheVariants as outs
use Rattle.nop_types.specs.declared.peer.Peer.{Peer}
use Rattle.lemmas.proofs.Members.{Has-first, Has-rest, Has-none, Has-cases, Has-append_right, Has-append_cases}
use Rattle.oum_codec.specs.Spelling as datagram
use Rattle.fragments.specs.Cutting.{fragments_of, sends_of, piece_count}
use Rattle.fragments.specs.Runs.{CanBeCut}
use Rattle.fragments.proofs.Limits.{cut_fragments_fit}
use Rattle.peer_codec.specs.Spelling.{spelling}
use Rattle.replica_state.specs.declared.sending.Sending.{Sending}
use Rattle.replica_state.specs.declared.sending.Sending.TheVariants.{ToClient, ToReplicas, Trims}
use Rattle.replica_core.specs.Posting.{message_outs, posted}
use Rattle.replica_state.specs.Sends.{SendingFits, message_count}
use Rattle.replica_core.proofs.Lengths.{message_is_cut}
use Rattle.network_laws.specs.Network.{bytes_in, IsFragment, IsReplyIn, PostsReplies}

bytes_append : (a b : List Out) → bytes_in (a ++ b) ≡ bytes_in a ++ bytes_in b
bytes_append [] b = refl
bytes_append (outs.Send dest bytes ∷ a) b = ap (λ (rest : List (List ℕ)). bytes ∷ rest) (bytes_append a b)
bytes_append (_ ∷ a) b = bytes_append a b

-- ---- the fragments of a message

fragments_sent : (dest : Dest) (fs : List Fragment) → ((f : Fragment) → Has fs f → FragmentFits f) → (bytes : List ℕ)
    → Has (bytes_in (sends_of dest fs)) bytes → IsFragment bytes
fragments_sent dest [] fit bytes h = absurd (Has-none bytes h)
fragments_sent dest (f ∷ fs) fit bytes h =
    elim (Has-cases bytes (datagram.spelling (datagrams.Fragment f)) (bytes_in (sends_of dest fs)) h) [
      | inl first ↦ record { fragment = f; spells = record { fits = fit f (Has-first f f fs refl); spelled = first } }
      | inr later ↦ fragments_sent dest fs (λ g i. fit g (Has-rest g f fs i)) bytes later
    ]

not_none : (n : ℕ) → (n ≡ 0 → ⊥) → 1 ≤ n
not_none n h = omega (arith, h)

not_more : (n most : ℕ) → (most < n → ⊥) → n ≤ most
not_more n most h = omega (arith, h)

pub can_be_cut : (p : Peer) (number : ℕ) → PeerFits p → 1 ≤ number → number < 2 ^ 64 → CanBeCut p.sender number (spelling p)
can_be_cut p number fits low high = record {
  replica = fits.sender;
  low = low;
  high = high;
  some = not_none (length (spelling p)) (λ e. message_is_cut p fits (inl e));
  few = not_more (piece_count (spelling p)) MAX_FRAGMENTS (λ more. message_is_cut p fits (inr more));
}

message_sent : (number : ℕ) (dest : Dest) (p : Peer) → PeerFits p → 1 ≤ number → number < 2 ^ 64 → (bytes : List ℕ)
    → Has (bytes_in (message_outs number dest p)) bytes → IsFragment bytes
message_sent number dest p fits low high bytes h =
    let fit : (f : Fragment) → Has (fragments_of p.sender number (spelling p)) f → FragmentFits f =
    λ f here. cut_fragments_fit p.sender number (spelling p) f (can_be_cut p number fits low high) here in
    fragments_sent dest (fragments_of p.sender number (spelling p)) fit bytes h

-- ---- replies and fragments

posted_each : (number : ℕ) (sends : List Sending) (reply : Reply) → Has sends (ToClient reply)
    → Has (bytes_in (posted number sends)) (datagram.spelling (datagrams.Reply reply))
unfolding posted
posted_each number [] reply h = absurd (Has-none (ToClient reply) h)
posted_each number (ToClient r ∷ sends) reply h = elim (Has-cases (ToClient reply) (ToClient r) sends h) [
  | inl first ↦
      let same : reply ≡ r = cc in
      Has-first _ _ (bytes_in (posted number sends)) (ap (λ (x : Reply). datagram.spelling (datagrams.Reply x)) same)
  | inr later ↦ Has-rest _ _ (bytes_in (posted number sends)) (posted_each number sends reply later)
]
posted_each number (ToReplicas dest p ∷ sends) reply h = elim (Has-cases (ToClient reply) (ToReplicas dest p) sends h) [
  | inl first ↦ absurd cc
  | inr later ↦
      subst (λ (xs : List (List ℕ)). Has xs (datagram.spelling (datagrams.Reply reply)))
      (sym (bytes_append (message_outs (number + 1) dest p) (posted (number + 1) sends)))
      (Has-append_right (bytes_in (message_outs (number + 1) dest p)) _ _ (posted_each (number + 1) sends reply later))
]
posted_each number (Trims first entries ∷ sends) reply h = elim (Has-cases (ToClient reply) (Trims first entries) sends h) [
  | inl first ↦ absurd cc
  | inr later ↦ posted_each number sends reply later
]

-- more may be sent
of_more : (x : Sending) (sends : List Sending) (bytes : List ℕ) → IsReplyIn sends bytes ⊎ IsFragment bytes
    → IsReplyIn (x ∷ sends) bytes ⊎ IsFragment bytes
of_more x sends bytes (inl r) = inl (record { reply = r.reply; has = Has-rest (ToClient r.reply) x sends r.has; spells = r.spells })
of_more x sends bytes (inr f) = inr f

posted_only : (number : ℕ) (sends : List Sending) → AllByRecursion SendingFits sends → number + message_count sends < 2 ^ 64
    → (bytes : List ℕ) → Has (bytes_in (posted number sends)) bytes → IsReplyIn sends bytes ⊎ IsFragment bytes
unfolding posted
posted_only number [] fits high bytes h = absurd (Has-none bytes h)
posted_only number (ToClient r ∷ sends) fits high bytes h =
    elim (Has-cases bytes (datagram.spelling (datagrams.Reply r)) (bytes_in (posted number sends)) h) [
      | inl first ↦
          inl (record {
            reply = r;
            has = Has-first (ToClient r) (ToClient r) sends refl;
            spells = record { fits = fits.0; spelled = first };
          })
      | inr later ↦ of_more (ToClient r) sends bytes (posted_only number sends fits.1 high bytes later)
    ]
posted_only number (ToReplicas dest p ∷ sends) fits high bytes h =
    let here : List (List ℕ) = bytes_in (message_outs (number + 1) dest p) in
    let rest : List (List ℕ) = bytes_in (posted (number + 1) sends) in
    let split : Has (here ++ rest) bytes =
    subst (λ (xs : List (List ℕ)). Has xs bytes) (bytes_append (message_outs (number + 1) dest p) (posted (number + 1) sends)) h in
    elim (Has-append_cases here rest bytes split) [
      | inl piece ↦ inr (message_sent (number + 1) dest p fits.0 (omega arith) (omega (arith, high)) bytes piece)
      | inr later ↦ of_more (ToReplicas dest p) sends bytes (posted_only (number + 1) sends fits.1 (omega (arith, high)) bytes later)
    ]
posted_only number (Trims first entries ∷ sends) fits high bytes h =
    of_more (Trims first entries) sends bytes (posted_only number sends fits.1 high bytes h)

pub posts_replies : (number : ℕ) (sends : List Sending) → AllByRecursion SendingFits sends → number + message_count sends < 2 ^ 64
    → PostsReplies number sends
posts_replies number sends fits high = record { each = posted_each number sends; only = posted_only number sends fits high }
