-- A sync point never falls: neither by a round, nor by a vote, nor by a commit.
use Rattle.std.proofs.Common.{◌≡◌, ◌≤◌, ℕ, Bool, true, false, Option, Some, None, arith, refl, le_refl}
use Rattle.std.specs.Prelude.{cond, ◌==◌, max, nat_le, nat_lt}
use Rattle.std.proofs.lemmas.Bool.Decides.{nat_tests}
use Rattle.nop_types.specs.declared.replica_state.Vote.{Vote}
use Rattle.nop_types.specs.declared.replica_state.Vote.TheVariants.{Settled, Waiting}
use Rattle.slot_votes.specs.Synchronisation.{Round, Synchronisation, begun, closed, sync_vote_counted, counted_in, with_round, with_vote_for, round_vote, committed}

begun_rises : (b : Bool) (s : Synchronisation) (len : ℕ) → s.sync_point ≤ len → s.sync_point ≤ (begun b s len).sync_point
begun_rises true s len low = low
begun_rises false s len low = le_refl s.sync_point

pub round_rises : (s : Synchronisation) (len : ℕ) → s.sync_point ≤ (with_round s len).sync_point
round_rises s len = by (nat_lt s.sync_point len) (s.f == 0) refl
  where
    by : (b alone : Bool) → nat_lt s.sync_point len ≡ b → s.sync_point ≤ (cond b (begun alone s len) s).sync_point
    by true alone e = begun_rises alone s len (grind (arith, nat_tests, e))
    by false alone e = le_refl s.sync_point

closed_rises : (s : Synchronisation) (x : Round) (v : Vote) → s.sync_point ≤ (closed s x v).sync_point
closed_rises s x Settled = omega arith
closed_rises s x Waiting = le_refl s.sync_point

in_rises : (s : Synchronisation) (x : Option Round) (q len : ℕ) → s.sync_point ≤ (counted_in s x q len).sync_point
in_rises s None q len = le_refl s.sync_point
in_rises s (Some x) q len = closed_rises s (with_vote_for x q len) (round_vote s.f x q len)

pub vote_rises : (s : Synchronisation) (q len : ℕ) → s.sync_point ≤ (sync_vote_counted s q len).sync_point
vote_rises s q len = in_rises s s.syncing q len

pub commit_rises : (s : Synchronisation) (len : ℕ) → s.sync_point ≤ (committed s len).sync_point
commit_rises s len = by (nat_le len s.prepared)
  where
    by : (b : Bool) → s.sync_point ≤ (cond b (record s { sync_point = max s.sync_point len }) s).sync_point
    by true = omega arith
    by false = le_refl s.sync_point
