-- What a row does for what an event delivers is in its ranges, and its messages find numbers.
use Rattle.std.proofs.Common.{◌≡◌, ◌<◌, ◌≤◌, ◌+◌, ◌^◌, ℕ, Bool, true, false, Option, Some, None, refl, sym, subst, ◌∙◌, arith}
use Rattle.std.specs.Prelude.{nat_lt, length}
use Rattle.std.specs.List.{AllByRecursion}
use Rattle.std.proofs.lemmas.Bool.{ltb-true}
use Rattle.nop_types.specs.Bounds.{Bounds}
use Rattle.nop_types.specs.Logs.{Log, Whole}
use Rattle.nop_types.specs.Meaning.{Meaning}
use Rattle.nop_types.specs.Ranges.{LogIsIn}
use Rattle.replica_state.specs.Sends.{Effect, still, message_count}
use Rattle.replica_rows.specs.Messages.{Arrival, arrive}
use Rattle.replica_rows.specs.Within.{ArrivalIsIn, ResultsShort}
use Rattle.replica_rows.proofs.Counting.{arrive_sends_few}
use Rattle.replica_core.specs.declared.replica.TheConstants.{LAST_MESSAGE}
use Rattle.network_laws.specs.Ranges.{StaysInRanges}
use Rattle.network_laws.specs.Sends.{IsBy}
use Rattle.network_laws.proofs.InRanges.{arrive_stays}
use Rattle.network_laws.proofs.Own.{arrive_keeps_number, arrive_sends_own}
use Rattle.whole_world.specs.Whole.{WholeReplica, row_if, effect_of, after_row}
use Rattle.whole_world.proofs.At.{ReplicaFits}

-- of logs that are kept whole only the sync point rises
raised_stays : (l : Log) (n : ℕ) → LogIsIn Whole l → l.sync_point < n → n ≤ length l.entries → LogIsIn Whole (record l { sync_point = n })
raised_stays l n fits low high =
    let room = fits.room in
    record {
      entries = fits.entries;
      room = omega (arith, room, low);
      limit = fits.limit;
      point = high;
      checkpoint = fits.checkpoint;
    }

whole_bounds : {S : Type 0} (m : Meaning S) → ResultsShort m → Bounds m Whole
whole_bounds m short = record { short = λ l slot result fits is. short l.entries slot result is; raised = raised_stays }

-- what a row leaves and sends is in its ranges and is sent under the replica's own number, and message numbers are left
pub record RowFits (i : ℕ) (r : WholeReplica) (e : Effect) : Type 0 where
  pub ranges : StaysInRanges Whole e
  pub number : e.0.number ≡ i
  pub by : AllByRecursion (IsBy i) e.1
  pub high : r.messages + message_count e.1 < 2 ^ 64

module _ {S : Type 0} (m : Meaning S) (short : ResultsShort m) (i : ℕ) (r : WholeReplica) (fits : ReplicaFits i r) where
  still_fits : RowFits i r (still r.state)
  still_fits = let none : r.messages + 0 ≡ r.messages = omega arith in record {
    ranges = record { within = fits.within; receiver = fits.receiver; sends = tt };
    number = fits.number;
    by = tt;
    high = subst (λ (n : ℕ). n < 2 ^ 64) (sym none) fits.range;
  }

  row_if_fits : (b : Bool) (a : Arrival) → nat_lt r.messages LAST_MESSAGE ≡ b → ArrivalIsIn Whole a → RowFits i r (row_if m b r.state a)
  row_if_fits true a is good =
      let few = arrive_sends_few m Whole r.state a in
      let low = ltb-true r.messages LAST_MESSAGE is in
      record {
        ranges = arrive_stays m Whole (whole_bounds m short) r.state a fits.within fits.receiver good;
        number = arrive_keeps_number m Whole r.state a ∙ fits.number;
        by = subst (λ (q : ℕ). AllByRecursion (IsBy q) (arrive m Whole r.state a).1) fits.number (arrive_sends_own m Whole r.state a);
        high = omega (arith, few, low);
      }
  row_if_fits false a is good = still_fits

  pub row_fits : (o : Option Arrival) → ((a : Arrival) → o ≡ Some a → ArrivalIsIn Whole a) → RowFits i r (effect_of m r o)
  row_fits None good = still_fits
  row_fits (Some a) good = row_if_fits (nat_lt r.messages LAST_MESSAGE) a refl (good a refl)

-- so the replica is in its ranges after the row
pub replica_fits : (i : ℕ) (r : WholeReplica) (e : Effect) → RowFits i r e → ReplicaFits i (after_row r e)
replica_fits i r e h = record { number = h.number; range = h.high; within = h.ranges.within; receiver = h.ranges.receiver }
