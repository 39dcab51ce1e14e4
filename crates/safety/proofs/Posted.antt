-- Of what a replica posts, the replies are no fragments, and all else is fragments.
use Rattle.std.proofs.Common.{◌≡◌, ℕ, suc, ◌+◌, ◌<◌, ◌≤◌, ◌^◌, Bool, true, false, cond, List, [], ◌∷◌, ◌++◌, length, refl, ap, ◌∙◌, arith, inl, inr}
use Rattle.std.specs.Prelude.{not}
use Rattle.std.specs.List.{AllByRecursion}
use Rattle.std.proofs.lemmas.List.Elements.{filter-append}
use Rattle.nop_types.specs.Lists.{Has}
use Rattle.nop_types.specs.Ranges.{FragmentFits, PeerFits}
use Rattle.nop_types.specs.declared.limits.TheConstants.{MAX_FRAGMENTS}
use Rattle.nop_types.specs.declared.datagram.Datagram.TheVariants as datagrams
use Rattle.nop_types.specs.declared.datagram.Fragment.{Fragment}
use Rattle.nop_types.specs.declared.output.Actor.{Actor}
use Rattle.nop_types.specs.declared.output.Actor.TheVariants as actors
use Rattle.nop_types.specs.declared.output.Dest.{Dest}
use Rattle.nop_types.specs.declared.output.Dest.TheVariants as dests
use Rattle.nop_types.specs.declared.output.Out.{Out}
use Rattle.nop_types.specs.declared.peer.Peer.{Peer}
use Rattle.oum_codec.proofs.Datagrams.{reads_again}
use Rattle.oum_codec.specs.Reading.{reading}
use Rattle.oum_codec.specs.Spelling as datagram
use Rattle.peer_codec.specs.Spelling as peer
use Rattle.fragments.specs.Cutting as cutting
use Rattle.fragments.specs.Cutting.{fragments_of, piece_count}
use Rattle.fragments.specs.Runs.{CanBeCut}
use Rattle.fragments.proofs.Limits.{cut_fragments_fit}
use Rattle.replica_core.proofs.Lengths.{message_is_cut}
use Rattle.replica_core.specs.Posting.{message_outs, posted}
use Rattle.replica_state.specs.declared.sending.Sending.{Sending}
use Rattle.replica_state.specs.declared.sending.Sending.TheVariants.{ToClient, ToReplicas, Trims}
use Rattle.replica_state.specs.Sends.{SendingFits, message_count}
use Rattle.network.specs.Network.{Sent, sends_of}
use Rattle.network.proofs.LineLemmas.{sends_of-append}
use Rattle.safety.specs.Following.{is_apart, other_datagrams}
use Rattle.whole_world.specs.Whole.{replies_in}
use Rattle.safety.proofs.Sends.{one_kept, reply_is}

-- each is in its ranges
record EachFits (fs : List Fragment) : Type 0 where
  each : (f : Fragment) → Has fs f → FragmentFits f

rest_fits : (f : Fragment) (fs : List Fragment) → EachFits (f ∷ fs) → EachFits fs
rest_fits f fs h = record { each = λ g here. h.each g (suc here.0, here.1) }

not_none : (n : ℕ) → (n ≡ 0 → ⊥) → 1 ≤ n
not_none n h = omega (arith, h)

not_more : (n most : ℕ) → (most < n → ⊥) → n ≤ most
not_more n most h = omega (arith, h)

can_be_cut : (p : Peer) (number : ℕ) → PeerFits p → 1 ≤ number → number < 2 ^ 64 → CanBeCut p.sender number (peer.spelling p)
can_be_cut p number fits low high = record {
  replica = fits.sender;
  low = low;
  high = high;
  some = not_none (length (peer.spelling p)) (λ e. message_is_cut p fits (inl e));
  few = not_more (piece_count (peer.spelling p)) MAX_FRAGMENTS (λ more. message_is_cut p fits (inr more));
}

pub one_gone : (s : Sent) (b : Bool) (xs : List Sent) → b ≡ true → xs ≡ [] → cond (not b) (s ∷ xs) xs ≡ []
one_gone s true xs e none = none
one_gone s false xs e none = absurd cc

fragments_gone : (from : Actor) (dest : Dest) (fs : List Fragment) → EachFits fs
    → other_datagrams (sends_of from (cutting.sends_of dest fs)) ≡ []
fragments_gone from dest [] h = refl
fragments_gone from dest (f ∷ fs) h =
    one_gone (record { from = from; dest = dest; bytes = datagram.spelling (datagrams.Fragment f) })
    (is_apart (reading (datagram.spelling (datagrams.Fragment f)))) (other_datagrams (sends_of from (cutting.sends_of dest fs)))
    (ap is_apart (reads_again (datagrams.Fragment f) (h.each f (0, refl)))) (fragments_gone from dest fs (rest_fits f fs h))

message_gone : (from : Actor) (number : ℕ) (dest : Dest) (p : Peer) → PeerFits p → 1 ≤ number → number < 2 ^ 64
    → other_datagrams (sends_of from (message_outs number dest p)) ≡ []
message_gone from number dest p fits low high =
    fragments_gone from dest (fragments_of p.sender number (peer.spelling p))
    (record { each = λ f here. cut_fragments_fit p.sender number (peer.spelling p) f (can_be_cut p number fits low high) here })

pub posted_others : (from : Actor) (number : ℕ) (sends : List Sending) → AllByRecursion SendingFits sends
    → number + message_count sends < 2 ^ 64
    → other_datagrams (sends_of from (posted number sends)) ≡ sends_of from (replies_in sends)
unfolding posted
posted_others from number [] fits high = refl
posted_others from number (ToClient r ∷ sends) fits high =
    one_kept (record { from = from; dest = dests.One (actors.Client r.client); bytes = datagram.spelling (datagrams.Reply r) })
    (is_apart (reading (datagram.spelling (datagrams.Reply r)))) (other_datagrams (sends_of from (posted number sends)))
    (sends_of from (replies_in sends)) (reply_is r) (posted_others from number sends fits.1 high)
posted_others from number (ToReplicas dest p ∷ sends) fits high =
    let here : List Out = message_outs (number + 1) dest p in
    let rest : List Out = posted (number + 1) sends in
    ap other_datagrams (sends_of-append from here rest)
    ∙ filter-append (λ (s : Sent). not (is_apart (reading s.bytes))) (sends_of from here) (sends_of from rest)
    ∙ ap (λ (xs : List Sent). xs ++ other_datagrams (sends_of from rest))
    (message_gone from (number + 1) dest p fits.0 (omega arith) (omega (arith, high)))
    ∙ posted_others from (number + 1) sends fits.1 (omega (arith, high))
posted_others from number (Trims first entries ∷ sends) fits high = posted_others from number sends fits.1 high
