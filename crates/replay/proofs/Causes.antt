-- An error of a device is told only where a count of faults rose.
use Rattle.std.proofs.Common.{◌≡◌, ℕ, Option, List, [], ◌++◌, refl, subst, ap, ◌∙◌, inl, inr}
use Rattle.std.specs.Prelude.{Result, Ok, Err, IsErrOf}
use Rattle.outside.specs.Causes.{CountsFor, next_count}
use Rattle.schedule_text.specs.declared.next_error.NextError.{NextError}
use Rattle.schedule_text.specs.declared.next_error.NextError.TheVariants as nexts
use Rattle.world.specs.WorldSteps.{Refusal, Happened}
use Rattle.replay.specs.declared.error.ReplayError.{ReplayError}
use Rattle.replay.specs.declared.error.ReplayError.TheVariants as errors
use Rattle.replay.specs.Output.{BadLine}
use Rattle.replay.specs.Outcome.{ReadsTo}
use Rattle.replay.specs.Steps.{bad_line, Fails, Interrupts, Refuses, Writes, Stops, RefusesStep}

-- no read failed, and none is told
pub no_read : {T : Type 0} (a b : ℕ) (r : Result T ReplayError) → b ≡ a → (IsErrOf r errors.ReadFault → ⊥) → ReadsTo a b r
no_read a b (Ok x) same never = same
no_read a b (Err (errors.Malformed line rule)) same never = same
no_read a b (Err errors.ReadFault) same never = absurd (never refl)
no_read a b (Err errors.WriteFault) same never = inl same
no_read a b (Err errors.NoMemory) same never = inl same

-- ---- who tells a fault of the source

pub event_reads_none : (before now : Option (List ℕ)) (pending : List ℕ) (line : ℕ) (r : Result Happened Refusal) (x : ReplayError)
    → RefusesStep before now pending line r x → x ≡ errors.ReadFault → ⊥
event_reads_none before now pending line (Ok h) x is e = subst (λ (y : ReplayError). RefusesStep before now pending line (Ok h) y) e is
event_reads_none before now pending line (Err refusal) x is e =
    subst (λ (y : ReplayError). RefusesStep before now pending line (Err refusal) y) e is

pub write_reads_none : (before now : Option (List ℕ)) (pending : List ℕ) (x : ReplayError) → Fails before now (pending ++ []) x
    → x ≡ errors.ReadFault → ⊥
write_reads_none before now pending x is e = subst (λ (y : ReplayError). Fails before now (pending ++ []) y) e is

pub end_reads_none : (before now : Option (List ℕ)) (text : List ℕ) (r : Result (Unit {0}) ReplayError) → Writes before now text r
    → IsErrOf r errors.ReadFault → ⊥
end_reads_none before now text r is e = subst (λ (y : Result (Unit {0}) ReplayError). Writes before now text y) e is

interrupt_reads : (before now : Option (List ℕ)) (pending : List ℕ) (x : ReplayError) (a b : ℕ)
    → Interrupts before now pending x → b ≡ next_count a → ReadsTo {T = Unit {0}} a b (Err x)
interrupt_reads before now pending (errors.Malformed line rule) a b is rose = absurd is
interrupt_reads before now pending errors.ReadFault a b is rose = rose
interrupt_reads before now pending errors.WriteFault a b is rose = inr rose
interrupt_reads before now pending errors.NoMemory a b is rose = inr rose

refuse_reads : (before now : Option (List ℕ)) (pending : List ℕ) (l : BadLine) (x : ReplayError) (a b : ℕ)
    → Refuses before now pending l x → b ≡ a → ReadsTo {T = Unit {0}} a b (Err x)
refuse_reads before now pending l (errors.Malformed line rule) a b is same = same
refuse_reads before now pending l errors.ReadFault a b is same = absurd is
refuse_reads before now pending l errors.WriteFault a b is same = inl same
refuse_reads before now pending l errors.NoMemory a b is same = inl same

fail_reads : (before now : Option (List ℕ)) (pending : List ℕ) (x : ReplayError) (a b : ℕ)
    → Fails before now pending x → b ≡ a → ReadsTo {T = Unit {0}} a b (Err x)
fail_reads before now pending (errors.Malformed line rule) a b is same = absurd is
fail_reads before now pending errors.ReadFault a b is same = absurd is
fail_reads before now pending errors.WriteFault a b is same = inl same
fail_reads before now pending errors.NoMemory a b is same = inl same

-- the error by which a replay stops tells what the reader met, or what failed behind it
pub stop_reads : {U : Type 0} (before now : Option (List ℕ)) (pending : List ℕ) (e : NextError) (x : ReplayError) (a b d : ℕ)
    → Stops before now pending e x → b ≡ a → CountsFor {T = U} b d nexts.ReadFault (Err e) → ReadsTo {T = Unit {0}} a d (Err x)
stop_reads before now pending (nexts.BadLine line rule) x a b d is same h =
    refuse_reads before now pending (bad_line line rule) x a d is (h.others (λ failed. cc) ∙ same)
stop_reads before now pending nexts.ReadFault x a b d is same h =
    interrupt_reads before now pending x a d is (h.failed refl ∙ ap next_count same)
stop_reads before now pending nexts.NoMemory x a b d is same h =
    fail_reads before now pending x a d is (h.others (λ failed. cc) ∙ same)

-- want of memory is no fault
pub starved_reads : {T : Type 0} (a b : ℕ) (r : Result T ReplayError) (e : ReplayError) → r ≡ Err e → e ≡ errors.NoMemory → b ≡ a
    → ReadsTo a b r
starved_reads a b r e is none same = rw (is, none) (inl same)
