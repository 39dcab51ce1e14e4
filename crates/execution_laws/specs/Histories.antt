-- What the laws on histories speak of.
use Rattle.std.specs.Prelude.{◌≡◌, ℕ, ◌<◌, List, [], ◌∷◌, ◌++◌, take, Some, true}
use Rattle.nop_types.specs.declared.request.Request.{Request}
use Rattle.nop_types.specs.declared.request.Entry.{Entry}
use Rattle.nop_types.specs.declared.request.Entry.TheVariants.{Req}
use Rattle.nop_types.specs.Meaning.{Meaning}
use Rattle.nop_types.specs.Lists.{slot_of}
use Rattle.nop_types.specs.Execution.{is_executed, execute, exec}
use Rattle.nop_types.specs.Histories.{history_of, answer_at}

-- the log has the request at a place where it is executed
pub record IsNewIn (log : List Entry) (r : Request) : Type 0 where
  pub before : List Entry
  pub rest : List Entry
  pub log_is : log ≡ before ++ Req r ∷ rest
  pub executed : is_executed before r ≡ true

-- the log has p at a slot, and q at a later one
pub record StandsBefore (log : List Entry) (p q : Request) : Type 0 where
  pub slot : ℕ
  pub later : ℕ
  pub order : slot < later
  pub entry : slot_of log slot ≡ Some (Req p)
  pub later_entry : slot_of log later ≡ Some (Req q)

-- the member at a place of the history is executed right after a part of the log whose history is the members before it, and the host's
-- answer then is the one at its place
pub record IsExecutedAt {S : Type 0} (m : Meaning S) (log : List Entry) (i : ℕ) (r : Request) : Type 0 where
  pub before : List Entry
  pub rest : List Entry
  pub log_is : log ≡ before ++ Req r ∷ rest
  pub history_is : history_of before ≡ take i (history_of log)
  pub executed : exec m (before ++ Req r ∷ []) ≡ execute m (exec m before) r
  pub answer : answer_at m (history_of log) i ≡ Some (m.answer (exec m before).host r.op)
