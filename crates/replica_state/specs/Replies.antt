-- Replies of a replica to clients.
use Rattle.std.specs.Prelude.{ℕ, ◌+◌, List, [], ◌∷◌, ◌++◌, Bool, true, false, Option, Some, None}
use Rattle.nop_types.specs.Meaning.{Meaning}
use Rattle.nop_types.specs.CheckpointedLogs.{slot_result}
use Rattle.nop_types.specs.Logs.{Keeping, above, entry_at}
use Rattle.nop_types.specs.declared.request.Request.{Request}
use Rattle.nop_types.specs.declared.request.Entry.{Entry}
use Rattle.nop_types.specs.declared.request.Entry.TheVariants.{NoOp, Req}
use Rattle.replica_state.specs.declared.sending.Sending.{Sending}
use Rattle.replica_state.specs.declared.sending.Sending.TheVariants.{ToClient}
use Rattle.replica_state.specs.declared.state.ReplicaState.{ReplicaState}
use Rattle.replica_state.specs.State.{leads}

-- with tag 1 the result, with tag 0 none
abbrev pub reply_with : ReplicaState → ℕ → ℕ → ℕ → ℕ → List ℕ → List Sending
reply_with s slot client id tag result =
    ToClient (record { replica = s.number; view = s.view; slot = slot; client = client; id = id; tag = tag; result = result }) ∷ []

-- a leader sends nothing where the id is below the client's greatest
abbrev pub leader_reply : ReplicaState → ℕ → Request → Option (List ℕ) → List Sending
leader_reply s slot r None = []
leader_reply s slot r (Some result) = reply_with s slot r.client r.id 1 result

abbrev pub reply_if : {S : Type 0} → Meaning S → Keeping → Bool → ReplicaState → ℕ → Request → List Sending
reply_if m k true s slot r = leader_reply s slot r (slot_result m k s.log slot)
reply_if m k false s slot r = reply_with s slot r.client r.id 0 []

-- the reply for a slot where this request stands: a leader's with its result there, a follower's without
unfoldable pub reply_to : {S : Type 0} → Meaning S → Keeping → ReplicaState → ℕ → Request → List Sending
reply_to m k s slot r = reply_if m k (leads s) s slot r

-- a NO-OP has no reply
abbrev pub reply_for : {S : Type 0} → Meaning S → Keeping → ReplicaState → ℕ → Entry → List Sending
reply_for m k s slot NoOp = []
reply_for m k s slot (Req r) = reply_to m k s slot r

abbrev pub reply_for_any : {S : Type 0} → Meaning S → Keeping → ReplicaState → ℕ → Option Entry → List Sending
reply_for_any m k s slot None = []
reply_for_any m k s slot (Some e) = reply_for m k s slot e

-- the reply for a slot, whatever stands there
abbrev pub reply_at : {S : Type 0} → Meaning S → Keeping → ReplicaState → ℕ → List Sending
reply_at m k s slot = reply_for_any m k s slot (entry_at k s.log slot)

-- the replies for entries that stand from a slot on
abbrev pub replies_to : {S : Type 0} → Meaning S → Keeping → ReplicaState → ℕ → List Entry → List Sending
replies_to m k s slot [] = []
replies_to m k s slot (e ∷ entries) = reply_for m k s slot e ++ replies_to m k s (slot + 1) entries

-- the replies for the slots above this one
abbrev pub replies_above : {S : Type 0} → Meaning S → Keeping → ReplicaState → ℕ → List Sending
replies_above m k s slot = replies_to m k s (slot + 1) (above k s.log slot)
