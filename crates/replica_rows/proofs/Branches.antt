-- Which part of a row is done, by what the code tests.
use Rattle.std.proofs.Common.{◌≡◌, ◌≤◌, ◌<◌, ◌+◌, ◌-◌, ℕ, Bool, true, false, Option, Some, sym, ap, ◌∙◌, arith}
use Rattle.std.specs.Prelude.{◌==◌, ◌&&◌, nat_le, nat_lt}
use Rattle.std.proofs.lemmas.Bool.{lt-ltb}
use Rattle.std.proofs.lemmas.Bool.Decides.{nat_tests}
use Rattle.nop_types.specs.declared.limits.TheConstants.{NUMBER_END}
use Rattle.nop_types.specs.declared.peer.Change.{Change}
use Rattle.nop_types.specs.declared.replica_state.Phase.{Phase}
use Rattle.nop_types.specs.declared.request.Request.{Request}
use Rattle.nop_types.specs.declared.view.View.{View}
use Rattle.nop_types.specs.Logs.{Log, Keeping, length_of}
use Rattle.nop_types.specs.Meaning.{Meaning}
use Rattle.nop_types.specs.Views.{is_view}
use Rattle.slot_votes.specs.Agreement.{Agreement}
use Rattle.replica_state.specs.declared.state.ReplicaState.{ReplicaState}
use Rattle.replica_state.specs.Moves.{hear, count_gap_vote, open_gap, write_gap, add_gap, fill, overlay, drain}
use Rattle.replica_state.specs.Sends.{still, then_do, when}
use Rattle.replica_state.specs.State.{may_append, leads, waits}
use Rattle.replica_log.specs.Answer.{Answer, answer_of}
use Rattle.replica_rows.specs.Rows.{gap_reply_at, gap_reply, gather_by, take_change, gap_commit_if, gap_commit, found, sync_prepare, begin_gap, slot_lookup_by, slot_lookup}

is_next : (k : Keeping) (s : ReplicaState) (n : ℕ) → n ≡ length_of k s.log + 1 → may_append k s ≡ true
    → ((n == length_of k s.log + 1) && may_append k s) ≡ true
is_next k s n next may =
    let test : (n == length_of k s.log + 1) ≡ true = grind (arith, nat_tests, next) in
    ap (λ (b : Bool). b && may_append k s) test ∙ may

module _ {S : Type 0} (m : Meaning S) (k : Keeping) where
  -- of a gap in a slot of the log
  pub writes_gap : (s : ReplicaState) (n : ℕ) → n ≤ length_of k s.log
      → gap_commit m k n s ≡ then_do (write_gap k (hear s) n) (drain m k)
  unfolding gap_commit
  writes_gap s n there =
      let test : nat_le n (length_of k s.log) ≡ true = grind (arith, nat_tests, there) in
      ap (λ (b : Bool). gap_commit_if m k b ((n == length_of k s.log + 1) && may_append k s) n s) test

  -- or in the next one
  pub adds_gap : (s : ReplicaState) (n : ℕ) → n ≡ length_of k s.log + 1 → may_append k s ≡ true
      → gap_commit m k n s ≡ then_do (add_gap k (hear s)) (drain m k)
  unfolding gap_commit
  adds_gap s n next may =
      let test : nat_le n (length_of k s.log) ≡ false = grind (arith, nat_tests, next) in
      ap (λ (b : Bool). gap_commit_if m k b ((n == length_of k s.log + 1) && may_append k s) n s) test
      ∙ ap (λ (b : Bool). gap_commit_if m k false b n s) (is_next k s n next may)

  -- of a request for the next slot
  pub fills : (s : ReplicaState) (n : ℕ) (r : Request) → n ≡ length_of k s.log + 1 → may_append k s ≡ true
      → found m k n r s ≡ then_do (fill m k (hear s) r) (drain m k)
  unfolding found
  fills s n r next may = ap (λ (b : Bool). when b (λ t. then_do (fill m k (hear t) r) (drain m k)) s) (is_next k s n next may)

  -- a leader answers what is in a slot
  pub looks_up : (s : ReplicaState) (a : Answer) (w : Bool) (q n : ℕ) → a ≡ answer_of k s.log w n → w ≡ waits s.gap
      → slot_lookup_by m k a q n s ≡ slot_lookup m k q n s
  unfolding slot_lookup
  looks_up s a w q n is wait =
      ap (λ (x : Answer). slot_lookup_by m k x q n s) (is ∙ ap (λ (b : Bool). answer_of k s.log b n) wait)

  -- it counts a vote for the gap that waits
  pub counts_vote : (s : ReplicaState) (g : Agreement) (q n : ℕ) → s.gap ≡ Some g → g.slot ≡ n
      → then_do (count_gap_vote s g q) (drain m k) ≡ gap_reply m k q n s
  unfolding gap_reply
  counts_vote s g q n is at =
      let test : (g.slot == n) ≡ true = grind (arith, nat_tests, at) in
      ap (λ (b : Bool). when b (λ t. then_do (count_gap_vote t g q) (drain m k)) s) (sym test)
      ∙ ap (λ (o : Option Agreement). gap_reply_at m k o q n s) (sym is)

  -- it takes a change of its view, by whether that has started
  pub takes_change : (s : ReplicaState) (v : View) (c : Change) (p : Phase) → is_view v s.view ≡ true → leads s ≡ true → s.status ≡ p
      → gather_by m k p c s ≡ take_change m k v c s
  takes_change s v c p is leading status =
      let both : (is_view v s.view && leads s) ≡ true = ap (λ (b : Bool). b && leads s) is ∙ leading in
      ap (λ (q : Phase). gather_by m k q c s) (sym status)
      ∙ ap (λ (b : Bool). when b (gather_by m k s.status c) s) (sym both)

  -- it begins a gap agreement where there is a number after it
  pub begins_gap : (s : ReplicaState) → s.next < NUMBER_END → begin_gap m k s ≡ then_do (open_gap k s) (drain m k)
  begins_gap s more =
      let test : nat_lt s.next NUMBER_END ≡ true = lt-ltb _ _ more in
      ap (λ (b : Bool). when b (λ t. then_do (open_gap k t) (drain m k)) s) test

  -- where there are no numbers for what is new, its log is not taken
  pub prepares_none : (s : ReplicaState) (l : Log) → NUMBER_END < s.next + (length_of k l - length_of k s.log)
      → sync_prepare m k l s ≡ still s
  unfolding sync_prepare
  prepares_none s l above =
      let test : nat_le (s.next + (length_of k l - length_of k s.log)) NUMBER_END ≡ false = grind (arith, nat_tests, above) in
      ap (λ (b : Bool). when b (λ t. then_do (overlay m k (hear t) l) (drain m k)) s) test

  -- of its log
  pub prepares : (s : ReplicaState) (l : Log) → s.next + (length_of k l - length_of k s.log) ≤ NUMBER_END
      → sync_prepare m k l s ≡ then_do (overlay m k (hear s) l) (drain m k)
  unfolding sync_prepare
  prepares s l within =
      let test : nat_le (s.next + (length_of k l - length_of k s.log)) NUMBER_END ≡ true = grind (arith, nat_tests, within) in
      ap (λ (b : Bool). when b (λ t. then_do (overlay m k (hear t) l) (drain m k)) s) test
