-- How the audit of a trace ends.
use Rattle.std.specs.Prelude.{◌≡◌, ℕ, List, Option, Some, None, ⊤}
use Rattle.audit.specs.Outcome.{IsDone, IsInterrupted, IsRefuted, WrotePrefix}
use Rattle.audit.specs.Traces.{IsAuditOf, IsTrace}
use Rattle.nop_types.specs.Meaning.{Meaning}
use Rattle.commands.specs.declared.status.Status.{Status}
use Rattle.commands.specs.declared.status.Status.TheVariants.{Done, ReadFault, WriteFault, NoMemory, Refuted}

module _ {S : Type 0} (m : Meaning S) where
  -- the bytes are a trace of so many steps, and their schedule was written
  pub record Audited (bytes left before now : Option (List ℕ)) : Type 0 where
    pub steps : ℕ
    pub is : IsDone m steps bytes left before now
    pub audit : IsAuditOf m steps bytes left before now

  -- some line has a fault
  pub record FoundFault (bytes left before now : Option (List ℕ)) : Type 0 where
    pub line : ℕ
    pub fault : ℕ
    pub is : IsRefuted m line fault bytes left before now

  -- by the bytes before it, those left, and what the sink held before and holds now
  abbrev pub AuditEnds : Option (List ℕ) → Option (List ℕ) → Option (List ℕ) → Option (List ℕ) → Status → Type 0
  AuditEnds bytes left before now Done = Audited bytes left before now
  AuditEnds bytes left before now ReadFault = IsInterrupted m bytes left before now
  AuditEnds bytes left before now WriteFault = WrotePrefix m bytes before now
  AuditEnds bytes left before now NoMemory = WrotePrefix m bytes before now
  AuditEnds bytes left before now Refuted = FoundFault bytes left before now
  AuditEnds bytes left before now _ = ⊥

  -- a trace of steps is not refuted
  abbrev pub PassesTrace : Option (List ℕ) → Status → Type 0
  PassesTrace None s = ⊤
  PassesTrace (Some bytes) s = IsTrace m bytes → ¬ (s ≡ Refuted)

-- how an audit ends where no device failed
abbrev pub AuditsWithoutFault : Status → Type 0
AuditsWithoutFault Done = ⊤
AuditsWithoutFault NoMemory = ⊤
AuditsWithoutFault Refuted = ⊤
AuditsWithoutFault _ = ⊥
