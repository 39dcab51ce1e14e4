-- What an executor is: a host, a table, and for each executed slot what undoes it.
use Rattle.std.specs.Prelude.{ℕ, ◌+◌, List, length, Option, Bool, refl}
use Rattle.std.specs.Coded.{Coded, code_by, coded×, coded_ℕ, coded_list, coded_option, coded_bool}
use Rattle.std.specs.FinMap as finite
use Rattle.nop_types.specs.declared.checkpoint.Answered.{Answered}
use Rattle.nop_types.specs.Tables.{Table, answered_code, account_code}
use Rattle.nop_types.specs.Execution.{Executed}
use Rattle.client_table.specs.Table.{Former, Removed}
use Rattle.executor.specs.declared.slot_undo.SlotUndo.{SlotUndo}

-- the slots up to the base are executed and not undone; a slot above it whose entry did nothing keeps nothing
pub record Running (H U : Type 0) : Type 0 where
  pub host : H
  pub table : Table
  pub base : ℕ
  pub undos : List (Option (SlotUndo U))
  pub failed : Bool

abbrev pub removed_code : Coded Removed
removed_code =
    code_by (ℕ × List Answered) (coded× coded_ℕ (coded_list answered_code)) (λ r. (r.greatest, r.dropped)) (λ p. record {
      greatest = p.0;
      dropped = p.1;
    }) (λ _. refl)

abbrev pub former_code : Coded Former
former_code =
    code_by (ℕ × (ℕ × Option Removed)) (coded× coded_ℕ (coded× coded_ℕ (coded_option removed_code)))
    (λ f. (f.client, (f.id, f.removed)))
    (λ p. record { client = p.0; id = p.1.0; removed = p.1.1 })
    (λ _. refl)

abbrev pub slot_undo_code : {U : Type 0} → Coded U → Coded (SlotUndo U)
slot_undo_code {U} u =
    code_by (U × Former) (coded× u former_code) (λ s. (s.undo, s.kept)) (λ p. record { undo = p.0; kept = p.1 }) (λ _. refl)

abbrev pub running_code : {H U : Type 0} → Coded H → Coded U → Coded (Running H U)
running_code {H} {U} h u =
    code_by (H × (Table × (ℕ × (List (Option (SlotUndo U)) × Bool))))
    (coded× h (coded× (finite.code coded_ℕ account_code)
    (coded× coded_ℕ (coded× (coded_list (coded_option (slot_undo_code u))) coded_bool))))
    (λ r. (r.host, (r.table, (r.base, (r.undos, r.failed)))))
    (λ p. record { host = p.0; table = p.1.0; base = p.1.1.0; undos = p.1.1.1.0; failed = p.1.1.1.1 })
    (λ _. refl)

-- the last slot that is executed
abbrev pub reached : {H U : Type 0} → Running H U → ℕ
reached r = r.base + length r.undos

-- a host's state and a table as an execution has them
abbrev pub execution : {S : Type 0} → S → Table → Executed S
execution state table = record { host = state; table = table }
