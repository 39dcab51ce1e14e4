-- What is posted are the fragments of the messages that are sent.
use Rattle.std.proofs.Common.{◌≡◌, ℕ, suc, ◌+◌, ◌<◌, ◌≤◌, ◌^◌, List, [], ◌∷◌, ◌++◌, refl, sym, ap, ◌∙◌, arith, append_assoc}
use Rattle.std.specs.Prelude.{map}
use Rattle.std.specs.List.{AllByRecursion, range_with_len}
use Rattle.nop_types.specs.declared.datagram.Fragment.{Fragment}
use Rattle.nop_types.specs.declared.datagram.Reply.{Reply}
use Rattle.nop_types.specs.declared.datagram.Datagram.TheVariants as datagrams
use Rattle.nop_types.specs.declared.output.Dest.{Dest}
use Rattle.nop_types.specs.declared.output.Out.{Out}
use Rattle.nop_types.specs.declared.peer.Peer.{Peer}
use Rattle.nop_types.specs.Lists.{Has}
use Rattle.nop_types.specs.Ranges.{FragmentFits, ReplyFits, PeerFits}
use Rattle.oum_codec.proofs.Datagrams.{reads_again}
use Rattle.peer_codec.specs.Spelling.{spelling}
use Rattle.fragments.specs.Cutting.{fragments_of, sends_of}
use Rattle.fragments.specs.Runs.{Sent}
use Rattle.fragments.proofs.Limits.{cut_fragments_fit}
use Rattle.replica_state.specs.declared.sending.Sending.{Sending}
use Rattle.replica_state.specs.declared.sending.Sending.TheVariants.{ToClient, ToReplicas, Trims}
use Rattle.replica_state.specs.Sends.{SendingFits, message_count}
use Rattle.replica_core.specs.Posting.{reply_out, message_outs, posted}
use Rattle.network_laws.specs.PostedFragments.{fragment_read, fragment_in, fragments_in, messages_from, fragments_of_all, PostsFragments}
use Rattle.network_laws.proofs.Posted.{can_be_cut}

in_append : (a b : List Out) → fragments_in (a ++ b) ≡ fragments_in a ++ fragments_in b
in_append [] b = refl
in_append (o ∷ a) b =
    ap (λ (fs : List Fragment). fragment_in o ++ fs) (in_append a b) ∙ sym (append_assoc (fragment_in o) (fragments_in a) (fragments_in b))

reply_has_none : (r : Reply) → ReplyFits r → fragment_in (reply_out r) ≡ []
reply_has_none r fits = ap fragment_read (reads_again (datagrams.Reply r) fits)

-- each element of a list is in its ranges
record EachFits (fs : List Fragment) : Type 0 where
  each : (f : Fragment) → Has fs f → FragmentFits f

rest_fits : (f : Fragment) (fs : List Fragment) → EachFits (f ∷ fs) → EachFits fs
rest_fits f fs h = record { each = λ g here. h.each g (suc here.0, here.1) }

sent_fragments : (dest : Dest) (fs : List Fragment) → EachFits fs → fragments_in (sends_of dest fs) ≡ fs
sent_fragments dest [] h = refl
sent_fragments dest (f ∷ fs) h =
    let first : fragment_in (Rattle.fragments.specs.Cutting.send_of dest f) ≡ f ∷ [] =
    ap fragment_read (reads_again (datagrams.Fragment f) (h.each f (0, refl))) in
    ap (λ (gs : List Fragment). gs ++ fragments_in (sends_of dest fs)) first
    ∙ ap (λ (gs : List Fragment). f ∷ gs) (sent_fragments dest fs (rest_fits f fs h))

message_fragments : (number : ℕ) (dest : Dest) (p : Peer) → PeerFits p → 1 ≤ number → number < 2 ^ 64
    → fragments_in (message_outs number dest p) ≡ fragments_of p.sender number (spelling p)
message_fragments number dest p fits low high =
    sent_fragments dest (fragments_of p.sender number (spelling p))
    (record { each = λ f here. cut_fragments_fit p.sender number (spelling p) f (can_be_cut p number fits low high) here })

posted_fragments : (number : ℕ) (sends : List Sending) → AllByRecursion SendingFits sends → number + message_count sends < 2 ^ 64
    → fragments_in (posted number sends) ≡ fragments_of_all (messages_from number sends)
unfolding posted
posted_fragments number [] fits high = refl
posted_fragments number (ToClient r ∷ sends) fits high =
    ap (λ (fs : List Fragment). fs ++ fragments_in (posted number sends)) (reply_has_none r fits.0)
    ∙ posted_fragments number sends fits.1 high
posted_fragments number (ToReplicas dest p ∷ sends) fits high =
    in_append (message_outs (number + 1) dest p) (posted (number + 1) sends)
    ∙ ap (λ (fs : List Fragment). fs ++ fragments_in (posted (number + 1) sends))
    (message_fragments (number + 1) dest p fits.0 (omega arith) (omega (arith, high)))
    ∙ ap (λ (fs : List Fragment). fragments_of p.sender (number + 1) (spelling p) ++ fs)
    (posted_fragments (number + 1) sends fits.1 (omega (arith, high)))
posted_fragments number (Trims first entries ∷ sends) fits high = posted_fragments number sends fits.1 high

message_numbers : (number : ℕ) (sends : List Sending)
    → map (λ (x : Sent). x.number) (messages_from number sends) ≡ range_with_len (number + 1) (message_count sends)
message_numbers number [] = refl
message_numbers number (ToClient r ∷ sends) = message_numbers number sends
message_numbers number (Trims first entries ∷ sends) = message_numbers number sends
message_numbers number (ToReplicas dest p ∷ sends) =
    let one : message_count sends + 1 ≡ suc (message_count sends) = omega arith in
    ap (λ (ns : List ℕ). (number + 1) ∷ ns) (message_numbers (number + 1) sends) ∙ ap (range_with_len (number + 1)) (sym one)

pub posts_fragments : (number : ℕ) (sends : List Sending) → AllByRecursion SendingFits sends → number + message_count sends < 2 ^ 64
    → PostsFragments number sends
posts_fragments number sends fits high =
    record { fragments = posted_fragments number sends fits high; numbers = message_numbers number sends }
