-- Replies for one slot after the other.
use Rattle.std.proofs.Common.{◌≡◌, ℕ, zero, suc, ◌+◌, ◌-◌, ◌<◌, ◌≤◌, List, [], ◌∷◌, ◌++◌, length, drop, Bool, true, false, Option, Some, None}
use Rattle.std.proofs.Common.{refl, sym, ap, subst, ◌∙◌, arith, append_assoc}
use Rattle.std.specs.Prelude.{slice_get, cond, not, nat_le, ◌==◌, ◌&&◌}
use Rattle.std.proofs.lemmas.Bool.{and_parts}
use Rattle.std.specs.List.{AllByRecursion}
use Rattle.std.proofs.lemmas.Option.{same_Some}
use Rattle.nop_types.specs.declared.request.Request.{Request}
use Rattle.nop_types.specs.declared.request.Entry.{Entry}
use Rattle.nop_types.specs.declared.request.Entry.TheVariants.{NoOp, Req}
use Rattle.nop_types.specs.CheckpointedLogs.{slot_result}
use Rattle.nop_types.specs.Lists.{slot_of}
use Rattle.nop_types.specs.Logs.{Log, Trimmed, length_of, entry_at, has_room}
use Rattle.nop_types.specs.Ranges.{EntryFits, RequestFits, LogFits}
use Rattle.replica_log.specs.Answer.{Below, Found, Begin, answer_by, answer_of, may_begin}
use Rattle.nop_types.specs.Meaning.{Meaning}
use Rattle.lemmas.proofs.Places.{Splits-at}
use Rattle.replica_state.specs.declared.sending.Sending.{Sending}
use Rattle.replica_state.specs.declared.state.ReplicaState.{ReplicaState}
use Rattle.replica_state.specs.State.{leads}
use Rattle.replica_state.specs.Replies.{leader_reply, reply_with, reply_if, reply_to, reply_at, reply_for_any, replies_to, replies_above}

has_place : (l : List Entry) (i : ℕ) → i < length l → (e : Entry) × (slice_get l i ≡ Some e)
has_place [] i less = absurd (omega (arith, less))
has_place (x ∷ l) zero less = (x, refl)
has_place (x ∷ l) (suc i) less = has_place l i (omega (arith, less))

-- ---- an entry of a log in its ranges

each_fits : (l : List Entry) (i : ℕ) (e : Entry) → AllByRecursion EntryFits l → slice_get l i ≡ Some e → EntryFits e
each_fits [] i e h is = absurd cc
each_fits (x ∷ l) zero e h is = subst EntryFits (same_Some _ _ is) h.0
each_fits (x ∷ l) (suc i) e h is = each_fits l i e h.1 is

slot_fits : (l : List Entry) (i : ℕ) (e : Entry) → AllByRecursion EntryFits l → slot_of l i ≡ Some e → EntryFits e
slot_fits l zero e h is = absurd cc
slot_fits l (suc i) e h is = each_fits l i e h is

pub entry_fits : (l : Log) (slot : ℕ) (e : Entry) → LogFits l → entry_at Trimmed l slot ≡ Some e → EntryFits e
entry_fits l slot e fits is = slot_fits l.entries (slot - l.sync_point) e fits.entries is

-- what a leader finds for a slot is what stands there
found_in : (b c : Bool) (o : Option Entry) (r : Request) → Found r ≡ cond b Below (answer_by o c) → o ≡ Some (Req r)
found_in true c o r e = absurd cc
found_in false true None r e = absurd cc
found_in false false None r e = absurd cc
found_in false c (Some NoOp) r e = absurd cc
found_in false c (Some (Req q)) r e = let same : r ≡ q = cc in ap (λ (x : Request). Some (Req x)) (sym same)

pub found_fits : (l : Log) (w : Bool) (slot : ℕ) (r : Request) → LogFits l → Found r ≡ answer_of Trimmed l w slot → RequestFits r
found_fits l w slot r fits is =
    entry_fits l slot (Req r) fits (found_in (nat_le slot l.sync_point) (may_begin Trimmed l w slot) (entry_at Trimmed l slot) r is)

begun_in : (b c : Bool) (o : Option Entry) → Begin ≡ cond b Below (answer_by o c) → c ≡ true
begun_in true c o e = absurd cc
begun_in false true o e = refl
begun_in false false None e = absurd cc
begun_in false false (Some NoOp) e = absurd cc
begun_in false false (Some (Req q)) e = absurd cc

pub begins_in_room : (l : Log) (w : Bool) (slot : ℕ) → Begin ≡ answer_of Trimmed l w slot → has_room Trimmed l ≡ true
begins_in_room l w slot is =
    let may = begun_in (nat_le slot l.sync_point) (may_begin Trimmed l w slot) (entry_at Trimmed l slot) is in
    (and_parts (not w) (has_room Trimmed l) (and_parts (slot == length_of Trimmed l + 1) (not w && has_room Trimmed l) may).1).1

-- ---- one slot after the other

all_dropped : (n : ℕ) (l : List Entry) → length l ≤ n → drop n l ≡ []
all_dropped zero [] le = refl
all_dropped zero (x ∷ l) le = absurd (omega (arith, le))
all_dropped (suc n) [] le = refl
all_dropped (suc n) (x ∷ l) le = all_dropped n l (omega (arith, le))

module _ {S : Type 0} (m : Meaning S) where
  first : (s : ReplicaState) (i : ℕ) → s.log.sync_point ≤ i → i < length_of Trimmed s.log
      → replies_above m Trimmed s i ≡ reply_at m Trimmed s (i + 1) ++ replies_above m Trimmed s (i + 1)
  first s i low less =
      let j : ℕ = i - s.log.sync_point in
      let place = has_place s.log.entries j (omega (arith, low, less)) in
      let next : i + 1 - s.log.sync_point ≡ suc j = omega (arith, low) in
      ap (replies_to m Trimmed s (i + 1)) (Splits-at s.log.entries j place.0 place.1).back
      ∙ ap (λ (o : Option Entry). reply_for_any m Trimmed s (i + 1) o ++ replies_to m Trimmed s (i + 1 + 1) (drop (suc j) s.log.entries))
      (sym (ap (slot_of s.log.entries) next ∙ place.1))
      ∙ ap (λ n. reply_at m Trimmed s (i + 1) ++ replies_to m Trimmed s (i + 1 + 1) (drop n s.log.entries)) (sym next)

  -- replying for one slot more, of what is to be replied in all
  pub replies_on : (s t : ReplicaState) (i : ℕ) (old new total : List Sending) → s ≡ t → s.log.sync_point ≤ i
      → i < length_of Trimmed s.log → new ≡ old ++ reply_at m Trimmed s (i + 1) → old ++ replies_above m Trimmed t i ≡ total
      → new ++ replies_above m Trimmed t (i + 1) ≡ total
  replies_on s t i old new total same low less sent so_far =
      let low_here : t.log.sync_point ≤ i = subst (λ (p : ReplicaState). p.log.sync_point ≤ i) same low in
      let here : i < length_of Trimmed t.log = subst (λ (p : ReplicaState). i < length_of Trimmed p.log) same less in
      ap (λ (xs : List Sending). xs ++ replies_above m Trimmed t (i + 1))
      (sent ∙ ap (λ (p : ReplicaState). old ++ reply_at m Trimmed p (i + 1)) same)
      ∙ append_assoc old (reply_at m Trimmed t (i + 1)) (replies_above m Trimmed t (i + 1))
      ∙ ap (λ (xs : List Sending). old ++ xs) (sym (first t i low_here here))
      ∙ so_far

  pub none_left : (s : ReplicaState) (i : ℕ) → length_of Trimmed s.log ≤ i → replies_above m Trimmed s i ≡ []
  none_left s i le =
      ap (replies_to m Trimmed s (i + 1)) (all_dropped (i - s.log.sync_point) s.log.entries (omega (arith, le)))

  -- where a request is in the slot, a leader replies with the result there
  pub leader_replies : (s : ReplicaState) (slot : ℕ) (r : Request) → leads s ≡ true → entry_at Trimmed s.log slot ≡ Some (Req r)
      → leader_reply s slot r (slot_result m Trimmed s.log slot) ≡ reply_at m Trimmed s slot
  unfolding reply_to
  leader_replies s slot r leading there =
      sym (ap (λ b. reply_if m Trimmed b s slot r) leading) ∙ sym (ap (λ (e : Option Entry). reply_for_any m Trimmed s slot e) there)

  -- and a follower without
  pub follower_replies : (s : ReplicaState) (slot : ℕ) (r : Request) → leads s ≡ false → entry_at Trimmed s.log slot ≡ Some (Req r)
      → reply_with s slot r.client r.id 0 [] ≡ reply_at m Trimmed s slot
  unfolding reply_to
  follower_replies s slot r follows there =
      sym (ap (λ b. reply_if m Trimmed b s slot r) follows) ∙ sym (ap (λ (e : Option Entry). reply_for_any m Trimmed s slot e) there)
