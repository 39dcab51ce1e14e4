-- What is sent is posted one after the other.
use Rattle.std.proofs.Common.{◌≡◌, ℕ, ◌+◌, ◌<◌, List, [], ◌∷◌, ◌++◌, refl, sym, ap, ◌∙◌, append_assoc, append-nil, arith}
use Rattle.nop_types.specs.Logs.{Log}
use Rattle.nop_types.specs.declared.datagram.Reply.{Reply}
use Rattle.nop_types.specs.declared.output.Dest.{Dest}
use Rattle.nop_types.specs.declared.output.Out.{Out}
use Rattle.nop_types.specs.declared.output.Out.TheVariants.{Trimmed}
use Rattle.nop_types.specs.declared.peer.Peer.{Peer}
use Rattle.replica_state.specs.declared.sending.Sending.{Sending}
use Rattle.replica_state.specs.declared.sending.Sending.TheVariants.{ToClient, ToReplicas, Trims}
use Rattle.replica_state.specs.Sends.{message_count}
use Rattle.replica_core.specs.Posting.{reply_out, message_outs, posted}
use Rattle.replica_rows.proofs.Counting.{count_append}

pub posted_none : (number : ℕ) → posted number [] ≡ []
unfolding posted
posted_none number = refl

pub posted_client : (number : ℕ) (r : Reply) → posted number (ToClient r ∷ []) ≡ reply_out r ∷ []
unfolding posted
posted_client number r = refl

pub posted_message : (number : ℕ) (dest : Dest) (p : Peer) → posted number (ToReplicas dest p ∷ []) ≡ message_outs (number + 1) dest p
unfolding posted
posted_message number dest p = append-nil (message_outs (number + 1) dest p)

pub posted_trims : (number first : ℕ) (entries : Log) → posted number (Trims first entries ∷ []) ≡ Trimmed first entries ∷ []
unfolding posted
posted_trims number first entries = refl

pub ruleset posted_one = (posted_client, posted_message, posted_trims)

-- what comes behind is posted from where the first ones ended
pub posted_append : (number : ℕ) (a b : List Sending) → posted number (a ++ b) ≡ posted number a ++ posted (number + message_count a) b
unfolding posted
posted_append number [] b = ap (λ (n : ℕ). posted n b) (omega arith)
posted_append number (ToClient r ∷ a) b = ap (λ (outs : List Out). reply_out r ∷ outs) (posted_append number a b)
posted_append number (ToReplicas dest p ∷ a) b =
    ap (λ (outs : List Out). message_outs (number + 1) dest p ++ outs) (posted_append (number + 1) a b)
    ∙ sym (append_assoc (message_outs (number + 1) dest p) (posted (number + 1) a) (posted (number + 1 + message_count a) b))
    ∙ ap (λ (n : ℕ). (message_outs (number + 1) dest p ++ posted (number + 1) a) ++ posted n b) (omega arith)
posted_append number (Trims first entries ∷ a) b = ap (λ (outs : List Out). Trimmed first entries ∷ outs) (posted_append number a b)

-- one more of them is posted behind the first ones
pub posted_more : (out made new : List Out) (messages number : ℕ) (prefix : List Sending) (x : Sending)
    → number ≡ messages + message_count prefix → made ≡ out ++ posted messages prefix → new ≡ made ++ posted number (x ∷ [])
    → new ≡ out ++ posted messages (prefix ++ x ∷ [])
posted_more out made new messages number prefix x is before after =
    let joined = posted_append messages prefix (x ∷ []) in
    let outs = append_assoc out (posted messages prefix) (posted (messages + message_count prefix) (x ∷ [])) in
    cc

pub count_more : (messages number : ℕ) (prefix : List Sending) (x : Sending) → number ≡ messages + message_count prefix
    → number + message_count (x ∷ []) ≡ messages + message_count (prefix ++ x ∷ [])
count_more messages number prefix x is = let split = count_append prefix (x ∷ []) in omega (arith, split, is)

pub parts_more : (prefix : List Sending) (x : Sending) (rest : List Sending) → (prefix ++ x ∷ []) ++ rest ≡ prefix ++ x ∷ rest
parts_more prefix x rest = append_assoc prefix (x ∷ []) rest

-- there is a number for the next one where there are numbers for all
pub room_for_next : (end messages number : ℕ) (prefix rest all : List Sending) (x : Sending) → prefix ++ x ∷ rest ≡ all
    → number ≡ messages + message_count prefix → messages + message_count all < end → number + message_count (x ∷ []) < end
room_for_next end messages number prefix rest all x parts before room =
    let split = count_append prefix (x ∷ rest) in
    let next = count_append (x ∷ []) rest in
    let whole = ap message_count parts in
    omega (arith, split, next, whole, before, room)
