use Rattle.std.proofs.Common.{◌≡◌, ◌-◌, ℕ, Bool, true, false, length}
use Rattle.line_reader.specs.Reading.{NeedsNoRead, TakesFrom}
use Rattle.line_reader.proofs.line_reader.LineReader.read_line.Given as goal

abbrev pub invariant-loop-self : goal.invariant-loop-self
invariant-loop-self g l =
    record {
      takes : TakesFrom l.fn.self l.self (g.S.Source.left l.fn.source) (g.S.Source.left l.source);
      unread : NeedsNoRead l.fn.self → (l.source ≡ l.fn.source) × (l.self ≡ l.fn.self);
      count : g.S.Source.fault_count l.source ≡ g.S.Source.fault_count l.fn.source;
    }

-- what is missing to the bytes that decide a line
abbrev pub missing : Bool → ℕ → ℕ
missing true count = 0
missing false count = 4098 - count

abbrev pub decreases-loop-self : goal.decreases-loop-self
decreases-loop-self g l = missing l.self.ended (length l.self.pending)
