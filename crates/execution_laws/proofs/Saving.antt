-- What an execution leaves, as a checkpoint.
use Rattle.std.proofs.Common.{◌≡◌, ℕ, ◌≤◌, List, length, min, Some, sym, ap}
use Rattle.std.proofs.Common.{◌∙◌, arith, suc, ◌+◌, Bool, true, false, cond, [], ◌∷◌, is_some}
use Rattle.std.specs.Option.{option_map}
use Rattle.std.specs.FinMap as finite
use Rattle.std.proofs.lemmas.Cmp.{nat_cmp_total}
use Rattle.std.specs.Ordering.{nat_cmp}
use Rattle.nop_types.specs.declared.limits.TheConstants.{MAX_HOST_BYTES, MAX_RESULT_BYTES, MAX_SERVED}
use Rattle.nop_types.specs.declared.request.Entry.{Entry}
use Rattle.nop_types.specs.Meaning.{Meaning}
use Rattle.nop_types.specs.Lists.{Has}
use Rattle.nop_types.specs.declared.checkpoint.Answered.{Answered}
use Rattle.nop_types.specs.Tables.{Account, Table}
use Rattle.nop_types.specs.Execution.{Executed, clients_of, exec}
use Rattle.nop_types.specs.Checkpoints.{checkpoint_of, loaded_of, KeepsTo}
use Rattle.execution_laws.proofs.Shortness.{exec_within}
use Rattle.execution_laws.proofs.Tables.{table_is_as_long}

-- ---- a table, from its entries

pub saved_loads : (table : Table) → finite.from_entries (finite.entries table) ≡ table
saved_loads table =
    finite.same_map nat_cmp_total finite.nat_cmp-IsAntisymmetric (finite.from_entries (finite.entries table)) table
    (λ q. finite.get-from_entries nat_cmp_total (finite.entries table) q ∙ sym (finite.get-entries table q))

pub len-from_entries : (es : List (ℕ × Account)) → finite.len (finite.from_entries {R = nat_cmp} es) ≤ length es
len-from_entries [] =
    let none : finite.len (finite.empty {X = Account} {R = nat_cmp}) ≡ 0 = finite.len-empty nat_cmp Account in omega (arith, none)
len-from_entries (e ∷ es) =
    let t : Table = finite.from_entries es in
    one_more (is_some (finite.get t e.0)) (finite.len t) (finite.len (finite.insert t e.0 e.1)) (length es)
    (finite.len-insert nat_cmp_total t e.0 e.1) (len-from_entries es)
  where
    one_more : (b : Bool) (old new n : ℕ) → new ≡ cond b old (old + 1) → old ≤ n → new ≤ suc n
    one_more true old new n e h = omega (arith, e, h)
    one_more false old new n e h = omega (arith, e, h)

-- ---- a host that keeps to what is asked of it

module _ {S : Type 0} (m : Meaning S) (IsSound : S → Type 0) (keeps : KeepsTo m IsSound) where
  pub execs_are_sound : (log : List Entry) → IsSound (exec m log).host
  execs_are_sound log = (exec_within m IsSound keeps.opens keeps.stays keeps.short log).host

  -- an execution loads from its checkpoint
  pub checkpoint_loads : (x : Executed S) → IsSound x.host → loaded_of m (checkpoint_of m x) ≡ Some x
  checkpoint_loads x h =
      ap (option_map (λ (host : S). record { host = host; table = finite.from_entries (finite.entries x.table) })) (keeps.again x.host h)
      ∙ ap (λ (t : Table). Some (record { host = x.host; table = t })) (saved_loads x.table)

  pub checkpoints_load : (log : List Entry) → loaded_of m (checkpoint_of m (exec m log)) ≡ Some (exec m log)
  checkpoints_load log = checkpoint_loads (exec m log) (execs_are_sound log)

  -- its checkpoint is within the limits
  pub checkpoint_host_fits : (log : List Entry) → length (checkpoint_of m (exec m log)).host ≤ MAX_HOST_BYTES
  checkpoint_host_fits log = keeps.fits (exec m log).host (execs_are_sound log)

  pub checkpoint_results_fit : (log : List Entry) (client : ℕ) (a : Account) (k : Answered)
      → Has (checkpoint_of m (exec m log)).clients (client, a) → Has a.kept k → length k.result ≤ MAX_RESULT_BYTES
  checkpoint_results_fit log client a k h g = (exec_within m IsSound keeps.opens keeps.stays keeps.short log).results (client, a) h k g

pub checkpoint_clients_fit : {S : Type 0} (m : Meaning S) (log : List Entry) → length (checkpoint_of m (exec m log)).clients ≤ MAX_SERVED
checkpoint_clients_fit m log =
    let e : finite.len (exec m log).table ≡ min MAX_SERVED (length (clients_of log)) = table_is_as_long m log in
    let n : finite.len (exec m log).table ≡ length (finite.entries (exec m log).table) = finite.len-entries (exec m log).table in
    omega arith
