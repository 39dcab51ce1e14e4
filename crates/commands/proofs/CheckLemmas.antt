-- How the check of a transcript ends.
use Rattle.std.proofs.Common.{◌≡◌, ℕ, List, Option, Some, None, Result, Ok, Err, length, refl, subst, sym, inl, inr}
use Rattle.std.proofs.Math.Seq.{take-length}
use Rattle.std.specs.Io.KnownBytes.{Appends}
use Rattle.commands.specs.Checks.{CheckEnds, IsVerdict, RanOut, verdict_status}
use Rattle.commands.specs.Nodes.{ReadsTo}
use Rattle.commands.specs.declared.status.Status.{Status}
use Rattle.judge.specs.Checking.{PassesLegal}
use Rattle.judge.specs.Verdicts.{verdict_line}
use Rattle.judge.specs.declared.tally.Tally.{Tally}
use Rattle.nop_types.specs.Meaning.{Meaning}
use Rattle.outside.specs.Causes.{CountsFor, StaysOrRises}
use Rattle.outside.specs.Prefixes.{AppendsUpTo}
use Rattle.transcript_reader.specs.declared.check_error.CheckError.{CheckError}
use Rattle.transcript_reader.specs.declared.check_error.CheckError.TheVariants as errors
use Rattle.udp_node.proofs.EffectLemmas.{Appends_none}

-- a line is a front of itself
all_of : (line : List ℕ) (before now : Option (List ℕ)) → Appends before now line → AppendsUpTo before now line
all_of line before now wrote =
    record { count = length line; appended = subst (Appends before now) (sym (take-length line)) wrote }

module _ {S : Type 0} (m : Meaning S) (bytes left before now : Option (List ℕ)) where
  -- by the verdict that was written
  pub wrote_verdict : (verdict : Result Tally CheckError) (s : Status) → s ≡ verdict_status verdict → IsVerdict m bytes left verdict
      → Appends before now (verdict_line verdict) → CheckEnds m bytes left before now s
  wrote_verdict (Ok tally) s is v wrote = rw is (tally, record { is = v; line = wrote })
  wrote_verdict (Err (errors.Refuted line clause)) s is v wrote = rw is (line, clause, record { is = v; line = wrote })
  wrote_verdict (Err errors.ReadFault) s is v wrote = rw is (record { is = v; line = wrote })
  wrote_verdict (Err errors.NoMemory) s is v wrote =
      rw is (record { verdict = Err errors.NoMemory; is = v; line = all_of (verdict_line (Err errors.NoMemory)) before now wrote })

-- ---- a read that fails is told

-- at any verdict at most one read failed
pub may_have_risen : (a b : ℕ) (verdict : Result Tally CheckError) → CountsFor a b errors.ReadFault verdict → StaysOrRises a b
may_have_risen a b (Ok tally) h = inl (h.others (λ failed. cc))
may_have_risen a b (Err (errors.Refuted line clause)) h = inl (h.others (λ failed. cc))
may_have_risen a b (Err errors.ReadFault) h = inr (h.failed refl)
may_have_risen a b (Err errors.NoMemory) h = inl (h.others (λ failed. cc))

pub verdict_reads : (a b : ℕ) (verdict : Result Tally CheckError) (s : Status) → s ≡ verdict_status verdict
    → CountsFor a b errors.ReadFault verdict → ReadsTo a b s
verdict_reads a b (Ok tally) s is h = rw is (h.others (λ failed. cc))
verdict_reads a b (Err (errors.Refuted line clause)) s is h = rw is (h.others (λ failed. cc))
verdict_reads a b (Err errors.ReadFault) s is h = rw is (h.failed refl)
verdict_reads a b (Err errors.NoMemory) s is h = rw is (may_have_risen a b (Err errors.NoMemory) h)

starved : {S : Type 0} (m : Meaning S) (bytes : Option (List ℕ)) → PassesLegal m bytes (Err errors.NoMemory)
starved m None = tt
starved m (Some bytes) = tt

-- memory ran out before anything was read
pub unchecked : {S : Type 0} (m : Meaning S) (bytes held : Option (List ℕ)) → RanOut m bytes bytes held held
unchecked m bytes held = record {
  verdict = Err errors.NoMemory;
  is = record { checked = tt; passes = starved m bytes };
  line = record { count = 0; appended = Appends_none held };
}
