-- What a trimmed log leaves that was executed: its checkpoint, the result at the last slot, and where the sync point rises to there.
use Rattle.std.proofs.Common.{◌≡◌, ℕ, ◌-◌, ◌≤◌, List, [], length, take, Option, Some, true, is_some, sym, ap, subst, ◌∙◌, arith}
use Rattle.std.specs.Prelude.{IfSome, IsTrue}
use Rattle.std.specs.Option.{unwrap_or}
use Rattle.nop_types.specs.declared.limits.TheConstants.{MAX_RESULT_BYTES}
use Rattle.nop_types.specs.Meaning.{Meaning}
use Rattle.nop_types.specs.Tables.{kept_for, result_kept}
use Rattle.nop_types.specs.Execution.{Executed, opening, exec_kept}
use Rattle.nop_types.specs.Checkpoints.{checkpoint_of, loaded_of, is_checkpoint, KeepsTo}
use Rattle.nop_types.specs.CheckpointedLogs.{beginning, executed, kept_result, raised}
use Rattle.nop_types.specs.Logs.{Log, Trimmed, above}
use Rattle.nop_types.specs.Ranges.{EntryFits, LogFits}
use Rattle.lemmas.proofs.Prefixes.{all-take}
use Rattle.execution_laws.proofs.Saving.{checkpoint_loads}
use Rattle.client_table.specs.Table.{AllKept}
use Rattle.executor.specs.Running.{Running, reached, execution}
use Rattle.executor.specs.Undoing.{IsExecuted, HasExecuted}
use Rattle.executor.specs.Results.{IsResult}
use Rattle.executor.proofs.UndoLemmas.{exec_all_kept}
use Rattle.executor.proofs.ExecutedLemmas.{executed_nothing}
use Rattle.executor.proofs.LimitLemmas.{TableFits, sound_of_log, table_of_log, checkpoint_fits, kept_result_fits}

module _ {H S U : Type 0} (state : H → S) (m : Meaning S) (undo_of : S → List ℕ → U) (log : Log) (r : Running H U)
    (h : HasExecuted state m undo_of log r) where
  abbrev now : Executed S
  now = execution (state r.host) r.table

  -- what an executor has is what the log leaves
  pub has_executed : now ≡ executed m Trimmed log (reached r)
  has_executed =
      let count : length r.undos ≡ reached r - log.sync_point = let b = h.base in omega arith in
      h.run.execution ∙ ap (λ (n : ℕ). exec_kept m (beginning m log.checkpoint) (take n log.entries)) count

  -- each client has what may be kept
  now_kept : AllKept now.table
  now_kept =
      subst (λ (x : Executed S). AllKept x.table) (sym h.run.execution)
      (exec_all_kept m (beginning m log.checkpoint) (take (length r.undos) log.entries) h.run.kept)

  -- the kept answer to the request of the last slot is its result
  pub result_of_executed : (client id : ℕ) (o : Option (List ℕ)) → o ≡ result_kept (kept_for r.table client) id
      → IsResult m log (reached r) client id o
  result_of_executed client id o e q at of =
      e ∙ (λ i. result_kept (kept_for r.table (sym of.same_client i)) (sym of.same_id i))
      ∙ ap (λ (x : Executed S). result_kept (kept_for x.table q.client) q.id) has_executed
      ∙ ap (kept_result (executed m Trimmed log (reached r))) (sym at)

  module _ (IsSound : S → Type 0) (keeps : KeepsTo m IsSound) where
    host_is_sound : IsSound now.host
    host_is_sound =
        subst (λ (x : Executed S). IsSound x.host) (sym h.run.execution)
        (sound_of_log m IsSound keeps log.checkpoint (take (length r.undos) log.entries))

    table_fits : LogFits log → TableFits now.table
    table_fits fits =
        subst (λ (x : Executed S). TableFits x.table) (sym h.run.execution)
        (table_of_log m IsSound keeps log.checkpoint (take (length r.undos) log.entries)
        (all-take EntryFits (length r.undos) log.entries fits.entries) fits.checkpoint.1)

    pub short_of_executed : LogFits log → (client id : ℕ) (o : Option (List ℕ)) → o ≡ result_kept (kept_for r.table client) id
        → IfSome o (λ bytes. length bytes ≤ MAX_RESULT_BYTES)
    short_of_executed fits client id o e =
        subst (λ (p : Option (List ℕ)). IfSome p (λ bytes. length bytes ≤ MAX_RESULT_BYTES)) (sym e)
        (kept_result_fits r.table client id (table_fits fits))

    pub checkpoint_of_executed : LogFits log → IsTrue (is_checkpoint (checkpoint_of m now))
    checkpoint_of_executed fits = checkpoint_fits m IsSound keeps now host_is_sound (table_fits fits)

    pub loads_of_executed : is_some (loaded_of m (checkpoint_of m now)) ≡ true
    loads_of_executed = ap is_some (checkpoint_loads m IsSound keeps now host_is_sound)

    -- and it is from there on, once the log begins with its checkpoint
    pub executed_raised : (next : Running H U) → state next.host ≡ state r.host → next.table ≡ r.table → next.base ≡ reached r
        → next.undos ≡ [] → HasExecuted state m undo_of (raised m Trimmed log (reached r)) next
    executed_raised next host table base undos =
        let begun : Executed S = beginning m (Some (checkpoint_of m (executed m Trimmed log (reached r)))) in
        let loads : begun ≡ now =
        ap (λ (x : Executed S). unwrap_or (loaded_of m (checkpoint_of m x)) (opening m)) (sym has_executed)
        ∙ ap (λ (o : Option (Executed S)). unwrap_or o (opening m)) (checkpoint_loads m IsSound keeps now host_is_sound) in
        record {
          base = base;
          run =
              subst (IsExecuted m undo_of begun (above Trimmed log (reached r)) (execution (state next.host) next.table)) (sym undos)
              (executed_nothing m undo_of begun (above Trimmed log (reached r)) (execution (state next.host) next.table)
              (subst (λ (x : Executed S). AllKept x.table) (sym loads) now_kept) ((λ i. execution (host i) (table i)) ∙ sym loads));
        }
