-- One more entry, and the table of the clients of a log.
use Rattle.std.proofs.Common.{◌≡◌, ℕ, ◌+◌, ◌<◌, Bool, true, false, cond, List, [], ◌∷◌, ◌++◌, length, take, get_or, refl, sym, ap, ◌∙◌}
use Rattle.std.specs.Prelude.{⊤}
use Rattle.std.proofs.lemmas.List.{take_more, append-nil}
use Rattle.nop_types.specs.declared.limits.TheConstants.{WINDOW}
use Rattle.nop_types.specs.declared.request.Request.{Request}
use Rattle.nop_types.specs.declared.request.Entry.{Entry}
use Rattle.nop_types.specs.declared.request.Entry.TheVariants.{NoOp, Req}
use Rattle.nop_types.specs.Tables.{Table, with_result}
use Rattle.nop_types.specs.Execution.{Executed, is_executed, exec, execute, takes, enter_kept}
use Rattle.execution_laws.proofs.Tables.{table_tells_executed, next_entry_by_kept}
use Rattle.world.specs.Ids.{silent, table_after, Adds}

-- the first entries, and one more
pub take_next : (log : List Entry) (i : ℕ) (e : Entry) → i < length log → e ≡ get_or log i e → take (i + 1) log ≡ take i log ++ e ∷ []
take_next log i e lt is = take_more log i e lt ∙ ap (λ (x : Entry). take i log ++ x ∷ []) (sym is)

-- a request as it is kept, without a result
abbrev kept_in : Table → Request → Table
kept_in table r = with_result WINDOW table r.client (record { id = r.id; result = [] })

module _ (table : Table) (log : List Entry) (is : table ≡ table_after log) where
  tells : (r : Request) → takes table r ≡ is_executed log r
  tells r = ap (λ (t : Table). takes t r) is ∙ table_tells_executed silent log r

  after : (e : Entry) (next : Table) → (enter_kept silent (exec silent log) e).table ≡ next → next ≡ table_after (log ++ e ∷ [])
  after e next h = sym (ap (λ (x : Executed ⊤). x.table) (next_entry_by_kept silent log e) ∙ h)

  after_noop : table ≡ table_after (log ++ NoOp ∷ [])
  after_noop = is ∙ after NoOp (table_after log) refl

  module _ (r : Request) where
    entered : (b : Bool) → takes table r ≡ b
        → (enter_kept silent (exec silent log) (Req r)).table ≡ (cond b (execute silent (exec silent log) r) (exec silent log)).table
    entered b h =
        ap (λ (b : Bool). (cond b (execute silent (exec silent log) r) (exec silent log)).table)
        (ap (λ (t : Table). takes t r) (sym is) ∙ h)

    -- a request that is not executed
    after_old : takes table r ≡ false → table ≡ table_after (log ++ Req r ∷ [])
    after_old h = is ∙ after (Req r) (table_after log) (entered false h)

    -- a request that is executed
    after_new : takes table r ≡ true → kept_in table r ≡ table_after (log ++ Req r ∷ [])
    after_new h = ap (λ (t : Table). kept_in t r) is ∙ after (Req r) (kept_in (table_after log) r) (entered true h)

-- ---- what the code does

module _ (table : Table) (requests : List Request) where
  pub adds_noop : Adds table table requests requests NoOp
  adds_noop = record { members = λ log is. sym (append-nil requests); next = λ log is. after_noop table log is }

  pub adds_old : (r : Request) → takes table r ≡ false → Adds table table requests requests (Req r)
  adds_old r h = record {
    members = λ log is.
        sym (ap (λ (b : Bool). requests ++ cond b (r ∷ []) []) (sym (tells table log is r) ∙ h) ∙ append-nil requests);
    next = λ log is. after_old table log is r h;
  }

  pub adds_new : (new : Table) (more : List Request) (r : Request) → takes table r ≡ true → more ≡ requests ++ r ∷ []
      → new ≡ with_result WINDOW table r.client (record { id = r.id; result = [] }) → Adds table new requests more (Req r)
  adds_new new more r h all kept = record {
    members = λ log is. all ∙ sym (ap (λ (b : Bool). requests ++ cond b (r ∷ []) []) (sym (tells table log is r) ∙ h));
    next = λ log is. kept ∙ after_new table log is r h;
  }
